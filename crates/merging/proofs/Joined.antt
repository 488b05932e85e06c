-- Figures and tallies of two lists of outcomes are added. Assumes nothing.
use Prim.Native.Nat.{ℕ, ◌+◌}
use native.Mathlib.Omega.{arith}
use mathlib.Core.Bool.{true, cond, ◌&&◌}
use mathlib.Core.List.{List, [], ◌∷◌, ◌++◌, map}
use mathlib.Core.Path.{◌≡◌, refl, sym, ap, ap₂, ◌∙◌}
use lib.Dec.{leb}
use lib.IntN.{ℤ}
use lib.ListN.{length, length-map}
use borrow.Author.Tests.{le-leb}
use Rattle.paper.specs.Lists.{nat, over}
use Rattle.paper.specs.Calls.{Session, Model}
use Rattle.paper.proofs.Lists.{and_left, and_right}
use Rattle.paper.proofs.Buffers.{over-at, over-same}
use Rattle.figures.specs.Outcomes.{outcome}
use Rattle.figures.specs.declared.outcomes.Outcome.{Outcome}
use Rattle.figures.specs.Figures.{outcomes, having, totals, tallies}
use Rattle.figures.specs.Adding.{single, plus}
use Rattle.figures.specs.Laws.{as_batch}
use Rattle.std.specs.Prelude.{Ok, Err}
use Rattle.tables.specs.Answers.{refusal}
use Rattle.figures.proofs.Adding.{plus_assoc, none-plus, totals-next}
use Rattle.figures.proofs.Order.{move_in, moves-again}
use Rattle.merging.specs.Merge.{totals_fit, tallies_fit}
use Rattle.merging.specs.Laws.{JoinedIsMerged}

-- ── two lists of outcomes ──
map-joined : {A B : Type 0} (f : A → B) (xs ys : List A) → map f (xs ++ ys) ≡ map f xs ++ map f ys
map-joined f [] ys = refl
map-joined f (x ∷ xs) ys = ap (f x ∷◌) (map-joined f xs ys)

totals-joined : (xs ys : List Outcome) → totals (xs ++ ys) ≡ plus (totals xs) (totals ys)
totals-joined [] ys = sym (none-plus (totals ys))
totals-joined (x ∷ xs) ys =
    totals-next x (xs ++ ys) ∙ ap (plus (single x)) (totals-joined xs ys) ∙ sym (plus_assoc (single x) (totals xs) (totals ys)) ∙ ap (λ t. plus t (totals ys)) (sym (totals-next x xs))

having-joined : (k : ℕ) (xs ys : List Outcome) → having k (xs ++ ys) ≡ having k xs + having k ys
having-joined k [] ys = omega arith
having-joined k (x ∷ xs) ys = let h = having-joined k xs ys in omega arith

-- ── two batches ──
outcomes-joined : (s : Session) (w : Model) (asked : ℕ) (moves moves' : List (List (ℕ × ℤ)))
    → outcomes s w asked (as_batch (moves ++ moves')) ≡ outcomes s w asked (as_batch moves) ++ outcomes s w asked (as_batch moves')
outcomes-joined s w asked moves moves' =
    ap (map (outcome s w asked)) (moves-again (moves ++ moves') ∙ map-joined move_in moves moves') ∙ map-joined (outcome s w asked) (map move_in moves) (map move_in moves')
    ∙ ap₂ (λ a b. map (outcome s w asked) a ++ map (outcome s w asked) b) (sym (moves-again moves)) (sym (moves-again moves'))

pub joined-is-merged : JoinedIsMerged
joined-is-merged s w asked moves moves' few row row' both h =
    let os = outcomes s w asked (as_batch moves) in let os' = outcomes s w asked (as_batch moves') in let all = moves ++ moves' in
    let ts = tallies os row in let us = tallies os' row' in
    let long = and_right ((totals_fit (totals os) (totals os') && leb 22 (length ts)) && leb 22 (length us)) (leb 22 (length both)) (and_left (((totals_fit (totals os) (totals os') && leb 22 (length ts)) && leb 22 (length us)) && leb 22 (length both)) (tallies_fit ts us) h) in
    let pairs = length-map all length in
    let fit : ((leb (length all) 1000 && leb (length all) (length (map length all))) && leb 22 (length both)) ≡ true =
    ap₂ ◌&&◌ (ap₂ ◌&&◌ (le-leb (length all) 1000 few) (le-leb (length all) (length (map length all)) (omega arith))) long in
    ap (λ t. cond t (Ok (plus (totals os) (totals os')), over 22 (λ k. nat ts k + nat us k) both) (Err (refusal 1 0), both)) h
    ∙ ap₂ (λ t l. (Ok t, l)) (sym (totals-joined os os') ∙ ap totals (sym (outcomes-joined s w asked moves moves')))
    (over-same (λ k. nat ts k + nat us k) 22 both (λ k. having k (os ++ os'))
    (λ k l. ap₂ ◌+◌ (over-at (λ j. having j os) 22 row k 0 l) (over-at (λ j. having j os') 22 row' k 0 l) ∙ sym (having-joined k os os'))
    ∙ ap (λ xs. tallies xs both) (sym (outcomes-joined s w asked moves moves')))
    ∙ ap (λ t. cond t (Ok (totals (outcomes s w asked (as_batch all))), tallies (outcomes s w asked (as_batch all)) both) (Err (refusal 1 0), both)) (sym fit)
