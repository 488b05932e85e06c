-- Sums: with 0, in any order, and from any side. Assumes nothing.
use Prim.Native.Nat.{◌+◌}
use native.Mathlib.Omega.{arith}
use mathlib.Core.Path.{◌≡◌, ◌∙◌}
use lib.IntN.{ℤ, pos, ◌+ℤ◌}
use Rattle.integers.specs.Integers.{up, dn}
use Rattle.integers.proofs.Parts.{from_parts, sum-bal, one-part}

-- by what lies above 0 and below
pub level : (a b : ℤ) → up a + dn b ≡ up b + dn a → a ≡ b
level a b h = let x = one-part a in let y = one-part b in from_parts a b (omega arith) (omega arith)

pub zero-sum : (a : ℤ) → pos 0 +ℤ a ≡ a
zero-sum a = let s = sum-bal (pos 0) a in level (pos 0 +ℤ a) a (omega arith)

pub sum_comm : (a b : ℤ) → a +ℤ b ≡ b +ℤ a
sum_comm a b = let s = sum-bal a b in let t = sum-bal b a in level (a +ℤ b) (b +ℤ a) (omega arith)

pub sum-zero : (a : ℤ) → a +ℤ pos 0 ≡ a
sum-zero a = sum_comm a (pos 0) ∙ zero-sum a

pub sum-assoc : (a b c : ℤ) → (a +ℤ b) +ℤ c ≡ a +ℤ (b +ℤ c)
sum-assoc a b c =
    let s = sum-bal a b in let t = sum-bal (a +ℤ b) c in let u = sum-bal b c in let v = sum-bal a (b +ℤ c) in
    level ((a +ℤ b) +ℤ c) (a +ℤ (b +ℤ c)) (omega arith)
