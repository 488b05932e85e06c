-- What a move is given depends on it and on its own places alone: they are cut out as they were laid. Assumes nothing.
use Prim.Native.Nat.{ℕ, suc, ◌+◌}
use native.Mathlib.Omega.{arith}
use mathlib.Core.Bool.{◌&&◌}
use mathlib.Core.List.{List, [], ◌∷◌, ◌++◌, map}
use mathlib.Core.Path.{◌≡◌, refl, ap, ap₂, ◌∙◌}
use lib.Dec.{eqb}
use lib.ListN.{length, drop}
use lib.Seq.{take_at, drop_at}
use borrow.Author.Tests.{eqb-true}
use Rattle.paper.specs.Lists.{total}
use Rattle.paper.proofs.Lists.{and_left, and_right}
use Rattle.trials.specs.Trials.{try_one, tries, joined, evaluations_given}
use Rattle.trials.specs.Laws.{Rearranged, same, behind, swapped, next, Lot, placed, alone, together, EachAlone, OrderPermutes}

-- ── what another order leaves as it is ──
pub length-kept : {A : Type 0} {xs ys : List A} → Rearranged xs ys → length xs ≡ length ys
length-kept same = refl
length-kept (behind r) = ap suc (length-kept r)
length-kept swapped = refl
length-kept (next r s) = length-kept r ∙ length-kept s

pub map-kept : {A B : Type 0} (f : A → B) {xs ys : List A} → Rearranged xs ys → Rearranged (map f xs) (map f ys)
map-kept f same = same
map-kept f (behind r) = behind (map-kept f r)
map-kept f swapped = swapped
map-kept f (next r s) = next (map-kept f r) (map-kept f s)

total_kept : {xs ys : List ℕ} → Rearranged xs ys → total xs ≡ total ys
total_kept same = refl
total_kept (behind {x} r) = ap (x +◌) (total_kept r)
total_kept swapped = omega arith
total_kept (next r s) = total_kept r ∙ total_kept s

-- ── the call ──
pub each-alone : EachAlone
each-alone s w q [] h = refl
each-alone s w q (l ∷ ls) h =
    let results = joined (map (λ (k : Lot). k.results) ls) in let why = joined (map (λ (k : Lot). k.why) ls) in let moves = map (λ (k : Lot). k.move) ls in
    let here = and_left (eqb (length l.results) q.asked && eqb (length l.why) q.asked) (placed q ls) h in
    let r = eqb-true (length l.results) q.asked (and_left (eqb (length l.results) q.asked) (eqb (length l.why) q.asked) here) in
    let y = eqb-true (length l.why) q.asked (and_right (eqb (length l.results) q.asked) (eqb (length l.why) q.asked) here) in
    ap₂ (λ a b. try_one s w q l.move a b ∷ tries s w q moves (drop q.asked (l.results ++ results)) (drop q.asked (l.why ++ why)))
    (take_at l.results results q.asked r) (take_at l.why why q.asked y)
    ∙ ap₂ (λ a b. alone s w q l ∷ tries s w q moves a b) (drop_at l.results results q.asked r) (drop_at l.why why q.asked y)
    ∙ ap (alone s w q l ∷◌) (each-alone s w q ls (and_right (eqb (length l.results) q.asked && eqb (length l.why) q.asked) (placed q ls) h))

pub order-permutes : OrderPermutes
order-permutes s w q lots lots' h h' r =
    let is : Rearranged (together s w q lots) (together s w q lots') = rw (each-alone s w q lots h, each-alone s w q lots' h') (map-kept (alone s w q) r) in
    (is, total_kept (map-kept evaluations_given is))
