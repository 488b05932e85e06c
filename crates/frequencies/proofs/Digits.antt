-- The digits of a number, by its last one: what is put of it, and how many there are. Assumes nothing.
use Prim.Native.Nat.{ℕ, zero, suc, ◌+◌, ◌-◌, ◌/◌, ◌%◌, ◌≤◌, ◌<◌}
use native.Mathlib.Omega.{arith}
use mathlib.Core.List.{[], ◌∷◌, ◌++◌}
use mathlib.Core.Path.{◌≡◌, refl, ap, sym}
use borrow.Author.Tests.{lt-ltb, le-ltb}
use lib.ListN.{length, length-append}
use Rattle.frequencies.specs.Writing.{digits_of}

-- no digit is asked for
pub digits-none : (most n : ℕ) → most ≡ 0 → digits_of most n ≡ []
digits-none most n e = ap (λ (m : ℕ). digits_of m n) e

-- one that is the last, and one behind others
pub digits_last : (most n : ℕ) → ((most ≡ 0) → ⊥) → n < 10 → digits_of most n ≡ (48 + n) ∷ []
digits_last zero n some h = absurd (some refl)
digits_last (suc most) n some h = rw (lt-ltb n 10 h)

pub digits_more : (most n : ℕ) → ((most ≡ 0) → ⊥) → 10 ≤ n → digits_of most n ≡ digits_of (most - 1) (n / 10) ++ ((48 + n % 10) ∷ [])
digits_more zero n some h = absurd (some refl)
digits_more (suc most) n some h = let z : suc most - 1 ≡ most = omega arith in rw (le-ltb n 10 h, z)

-- ── how many there are ──
pub size-last : (most n : ℕ) → ((most ≡ 0) → ⊥) → n < 10 → 1 ≡ length (digits_of most n)
size-last most n some h = sym (ap length (digits_last most n some h))

pub size-more : (most n k : ℕ) → ((most ≡ 0) → ⊥) → 10 ≤ n → k ≡ length (digits_of (most - 1) (n / 10)) → k + 1 ≡ length (digits_of most n)
size-more most n k some h e = let l = length-append (digits_of (most - 1) (n / 10)) ((48 + n % 10) ∷ []) in omega (arith, e, l, ap length (digits_more most n some h))
