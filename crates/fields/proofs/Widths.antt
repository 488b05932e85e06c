-- Numbers in a file, whatever the width of their field: a number is stored from its least byte on. Assumes nothing.
use Prim.Native.Nat.{ℕ, zero, suc, ◌+◌, ◌/◌, ◌≤◌, ◌<◌}
use native.Mathlib.Nat.{not-suc-le-zero}
use native.Mathlib.Numerals.{add-one}
use native.Mathlib.Omega.{arith}
use mathlib.Core.List.{List, ◌∷◌}
use mathlib.Core.Path.{◌≡◌, refl, ap, sym, ◌∙◌}
use lib.ListN.{length, drop, set, length-set, drop_of_length-le}
use lib.Seq.{sets}
use Rattle.paper.specs.Lists.{nat}
use Rattle.paper.specs.File.{bytes_of}
use Rattle.paper.proofs.Fields.{width-length}

-- ── the bytes of a number ──
-- what is left at byte k is that byte, which is the same in a wider field, and what is left behind it
left-next : (w v k x : ℕ) → k < w → w ≤ v → drop k (bytes_of w x) ≡ nat (bytes_of v x) k ∷ drop (suc k) (bytes_of w x)
left-next zero v k x l h = absurd (not-suc-le-zero l)
left-next (suc w) zero k x l h = absurd (not-suc-le-zero h)
left-next (suc w) (suc v) zero x l h = refl
left-next (suc w) (suc v) (suc k) x l h = left-next w v k (x / 256) (omega arith) (omega arith)

-- ── a loop that stores a number has come to byte k: with those that are left, the number is stored ──
pub record Stored (before : List ℕ) (at w x : ℕ) (l : List ℕ) (k : ℕ) : Type 0 where
  pub come : k ≤ w
  pub long : length l ≡ length before
  pub whole : sets l (at + k) (drop k (bytes_of w x)) ≡ sets before at (bytes_of w x)

pub stored-start : {before : List ℕ} {at w x : ℕ} → Stored before at w x before 0
stored-start {before} {at} = record { come = omega arith; long = refl; whole = let z : at + 0 ≡ at = omega arith in rw z }

module _ {before l : List ℕ} {at w x k : ℕ} (s : Stored before at w x l k) where
  pub stored_next : (v : ℕ) → k < w → w ≤ v → Stored before at w x (set l (at + k) (nat (bytes_of v x) k)) (k + 1)
  stored_next v m h =
      let z : at + (k + 1) ≡ suc (at + k) = omega arith in
      record {
        come = omega arith;
        long = length-set l (at + k) (nat (bytes_of v x) k) ∙ s.long;
        whole = rw (z, add-one k) (ap (sets l (at + k)) (sym (left-next w v k x m h)) ∙ s.whole);
      }

  pub stored-end : w ≤ k → l ≡ sets before at (bytes_of w x)
  stored-end h = let e = width-length w x in sym (ap (sets l (at + k)) (drop_of_length-le (bytes_of w x) {i = k} (omega arith))) ∙ s.whole
