-- A window's line: the bytes of its name are a part of the text. Assumes nothing.
use Prim.Native.Nat.{ℕ, ◌+◌, ◌-◌, min}
use native.Mathlib.Omega.{arith}
use mathlib.Core.Bool.{Bool, true, false}
use mathlib.Core.List.{List, [], ◌∷◌, ◌++◌}
use mathlib.Core.Path.{◌≡◌, refl, ap, sym, ◌∙◌}
use borrow.Author.Tests.{leb-true, leb-false}
use lib.Dec.{leb}
use lib.ListN.{length, take, drop, length-append, length-drop, drop_of_length-le}
use lib.Seq.{take_all, take-nil}
use Rattle.frequencies.specs.Writing.{name_bytes, time_bytes, decimal, line_bytes}

-- a part cut where the text ends
pub part_cut : (l : List ℕ) (p n f t : ℕ) → f ≡ min p (length l) → t ≡ min (p + n) (length l) → take (t - f) (drop f l) ≡ take n (drop p l)
part_cut l p n f t e h = go (leb p (length l)) (leb (p + n) (length l)) refl refl
  where
    go : (a b : Bool) → leb p (length l) ≡ a → leb (p + n) (length l) ≡ b → take (t - f) (drop f l) ≡ take n (drop p l)
    go true true x y =
        let u = leb-true p (length l) x in let v = leb-true (p + n) (length l) y in let k : f ≡ p = omega (arith, e, u) in let d : t - f ≡ n = omega (arith, h, k, v) in rw (d, k)
    go true false x y =
        let u = leb-true p (length l) x in let v = leb-false (p + n) (length l) y in let k : f ≡ p = omega (arith, e, u) in let d : t - f ≡ length l - p = omega (arith, h, k, v) in
        let m = length-drop p l in rw (d, k) (take_all (length l - p) (drop p l) (omega (arith, m)) ∙ sym (take_all n (drop p l) (omega (arith, m, v))))
    go false b x y =
        let u = leb-false p (length l) x in let k : f ≡ length l = omega (arith, e, u) in
        ap (take (t - f)) (drop_of_length-le l {i = f} (omega (arith, k))) ∙ take-nil (t - f) ∙ sym (take-nil n) ∙ sym (ap (take n) (drop_of_length-le l {i = p} (omega (arith, u))))

-- ── how long a line is ──
pub line-long : (name : List ℕ) (start end headway exact : ℕ)
    → length (line_bytes name start end headway exact) ≡ length (name_bytes name) + length (time_bytes start) + length (time_bytes end) + length (decimal headway) + 6
line-long name start end headway exact = long (name_bytes name) (time_bytes start) (time_bytes end) (decimal headway)
  where
    long : (a b c d : List ℕ) → length (a ++ (44 ∷ []) ++ b ++ (44 ∷ []) ++ c ++ (44 ∷ []) ++ d ++ (44 ∷ (48 + exact) ∷ 10 ∷ [])) ≡ length a + length b + length c + length d + 6
    long a b c d = simp length-append (omega arith)
