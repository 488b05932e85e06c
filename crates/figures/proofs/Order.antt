-- The order of the moves changes nothing: figures and tallies are added one move at a time, and sums do not depend on the order. Assumes nothing.
use Prim.Native.Nat.{ℕ, ◌+◌}
use native.Mathlib.Omega.{arith}
use mathlib.Core.Bool.{Bool, cond, ◌&&◌}
use mathlib.Core.List.{List, [], ◌∷◌, ◌++◌, map}
use mathlib.Core.Path.{◌≡◌, refl, sym, ap, ap₂, ◌∙◌}
use lib.Dec.{eqb, leb}
use lib.IntN.{ℤ}
use lib.ListN.{length, drop, length-map}
use lib.Seq.{take_at, drop_at, take_all}
use Rattle.paper.specs.Checks.{Move}
use Rattle.paper.specs.Calls.{Session, Model}
use Rattle.paper.proofs.Buffers.{over-same}
use Rattle.figures.specs.Outcomes.{outcome}
use Rattle.figures.specs.declared.outcomes.Outcome.{Outcome}
use Rattle.trials.specs.Batch.{unpacked, moves_of}
use Rattle.figures.specs.Figures.{outcomes, having, totals, tallies}
use Rattle.figures.specs.Adding.{single, plus}
use Rattle.trials.specs.Laws.{Rearranged, same, behind, swapped, next}
use Rattle.trials.proofs.Order.{length-kept, map-kept}
use Rattle.figures.specs.Laws.{laid_behind, as_batch, OrderChangesNothing}
use Rattle.figures.specs.declared.Totals.{Totals}
use Rattle.tables.specs.declared.Refusal.{Refusal}
use Rattle.std.specs.Prelude.{Result, Ok, Err}
use Rattle.tables.specs.Answers.{refusal}
use Rattle.figures.proofs.Adding.{plus_assoc, plus_comm, totals-next}

-- ── what another order leaves as it is ──
having-kept : (k : ℕ) {xs ys : List Outcome} → Rearranged xs ys → having k xs ≡ having k ys
having-kept k same = refl
having-kept k (behind {x} r) = ap (cond (eqb x.number k) 1 0 +◌) (having-kept k r)
having-kept k swapped = omega arith
having-kept k (next r s) = having-kept k r ∙ having-kept k s

totals-kept : {xs ys : List Outcome} → Rearranged xs ys → totals xs ≡ totals ys
totals-kept same = refl
totals-kept (behind {x} {xs} {ys} r) = totals-next x xs ∙ ap (plus (single x)) (totals-kept r) ∙ sym (totals-next x ys)
totals-kept (swapped {x} {y} {xs}) =
    two x y ∙ ap (λ t. plus t (totals xs)) (plus_comm (single x) (single y)) ∙ sym (two y x)
  where
    two : (a b : Outcome) → totals (a ∷ b ∷ xs) ≡ plus (plus (single a) (single b)) (totals xs)
    two a b = totals-next a (b ∷ xs) ∙ ap (plus (single a)) (totals-next b xs) ∙ sym (plus_assoc (single a) (single b) (totals xs))
totals-kept (next r s) = totals-kept r ∙ totals-kept s

-- ── packed moves ──
abbrev pub move_in : List (ℕ × ℤ) → Move
move_in mv = record { pairs = length mv; vars = map (λ (p : ℕ × ℤ). p.0) mv; values = map (λ (p : ℕ × ℤ). p.1) mv }

unpacked-again : (moves : List (List (ℕ × ℤ))) → unpacked (map length moves) (laid_behind (λ p. p.0) moves) (laid_behind (λ p. p.1) moves) ≡ map move_in moves
unpacked-again [] = refl
unpacked-again (mv ∷ moves) =
    let v = map (λ (p : ℕ × ℤ). p.0) mv in let x = map (λ (p : ℕ × ℤ). p.1) mv in
    let vs = laid_behind (λ p. p.0) moves in let xs = laid_behind (λ p. p.1) moves in
    let lv : length v ≡ length mv = length-map mv (λ (p : ℕ × ℤ). p.0) in let lx : length x ≡ length mv = length-map mv (λ (p : ℕ × ℤ). p.1) in
    ap₂ (λ a b. record { pairs = length mv; vars = a; values = b } ∷ unpacked (map length moves) (drop (length mv) (v ++ vs)) (drop (length mv) (x ++ xs)))
    (take_at v vs (length mv) lv) (take_at x xs (length mv) lx)
    ∙ ap₂ (λ a b. move_in mv ∷ unpacked (map length moves) a b) (drop_at v vs (length mv) lv) (drop_at x xs (length mv) lx)
    ∙ ap (move_in mv ∷◌) (unpacked-again moves)

pub moves-again : (moves : List (List (ℕ × ℤ))) → moves_of (as_batch moves) ≡ map move_in moves
moves-again moves =
    ap (λ ks. unpacked ks (laid_behind (λ p. p.0) moves) (laid_behind (λ p. p.1) moves)) (take_all (length moves) (map length moves) (let h = length-map moves length in omega arith))
    ∙ unpacked-again moves

outcomes-kept : (s : Session) (w : Model) (asked : ℕ) (moves moves' : List (List (ℕ × ℤ))) → Rearranged moves moves' → Rearranged (outcomes s w asked (as_batch moves)) (outcomes s w asked (as_batch moves'))
outcomes-kept s w asked moves moves' r = rw (moves-again moves, moves-again moves') (map-kept (outcome s w asked) (map-kept move_in r))

-- ── the call ──
pub order-changes-nothing : OrderChangesNothing
order-changes-nothing s w asked moves moves' r row =
    let os = outcomes-kept s w asked moves moves' r in
    ap₂ (λ k l. answer ((leb k 1000 && leb k l) && leb 22 (length row)) (totals (outcomes s w asked (as_batch moves))) (tallies (outcomes s w asked (as_batch moves)) row))
    (length-kept r) (length-kept (map-kept length r))
    ∙ ap₂ (answer ((leb (length moves') 1000 && leb (length moves') (length (map length moves'))) && leb 22 (length row))) (totals-kept os)
    (over-same (λ k. having k (outcomes s w asked (as_batch moves))) 22 row (λ k. having k (outcomes s w asked (as_batch moves'))) (λ k l. having-kept k os))
  where
    answer : Bool → Totals → List ℕ → Result Totals Refusal × List ℕ
    answer b t left = cond b (Ok t, left) (Err (refusal 1 0), row)
