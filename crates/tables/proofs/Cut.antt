-- The part of a row as the code cuts it out. Assumes nothing.
use Prim.Native.Nat.{ℕ, ◌+◌, ◌-◌, min}
use native.Mathlib.Omega.{arith}
use mathlib.Core.Bool.{Bool, true, false}
use mathlib.Core.List.{List}
use mathlib.Core.Path.{◌≡◌, refl, sym, ap, ap₂, ◌∙◌}
use lib.Dec.{leb}
use lib.ListN.{length, take, drop, length-drop, drop_of_length-le}
use lib.Seq.{take_all}
use borrow.Author.Tests.{leb-true, leb-false}

-- by its two ends
abbrev pub cut : {A : Type 0} → ℕ → ℕ → List A → List A
cut first count l = take ((first + count) - first) (drop first l)

-- as far as the list goes, where the part may pass its end
drop-within : {A : Type 0} (l : List A) (first start : ℕ) → start ≡ min first (length l) → drop start l ≡ drop first l
drop-within l first start s = go (leb first (length l)) refl
  where
    go : (b : Bool) → leb first (length l) ≡ b → drop start l ≡ drop first l
    go true q = let low = leb-true first (length l) q in let same : start ≡ first = omega arith in ap (λ k. drop k l) same
    go false q = let high = leb-false first (length l) q in drop_of_length-le l {i = start} (omega arith) ∙ sym (drop_of_length-le l {i = first} (omega arith))

pub cut-within : {A : Type 0} (l : List A) (first count start end : ℕ) → end ≡ min (first + count) (length l) → start ≡ min first end
    → take (end - start) (drop start l) ≡ take count (drop first l)
cut-within l first count start end e s = go (leb (first + count) (length l)) refl
  where
    go : (b : Bool) → leb (first + count) (length l) ≡ b → take (end - start) (drop start l) ≡ take count (drop first l)
    go true q =
        let low = leb-true (first + count) (length l) q in
        let same : start ≡ first = omega arith in let long : end - start ≡ count = omega arith in
        ap₂ (λ k i. take k (drop i l)) long same
    go false q =
        let high = leb-false (first + count) (length l) q in
        take_all (end - start) (drop start l) (simp length-drop (omega arith)) ∙ drop-within l first start (omega arith)
        ∙ sym (take_all count (drop first l) (simp length-drop (omega arith)))
