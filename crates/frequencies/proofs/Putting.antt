-- Bytes put one behind the other are one run, where there is room for both. Assumes nothing.
use Prim.Native.Nat.{ℕ, ◌+◌, ◌-◌, ◌≤◌}
use native.Mathlib.Omega.{arith}
use mathlib.Core.Bool.{Bool, true, false, cond}
use mathlib.Core.List.{List, [], ◌∷◌, ◌++◌}
use mathlib.Core.Path.{◌≡◌, refl, ap, sym, subst, ◌∙◌}
use borrow.Author.Tests.{leb-true, leb-false, le-leb, lt-leb}
use lib.Dec.{leb}
use lib.ListN.{length, set, length-append}
use lib.Seq.{sets, length-sets}
use Rattle.paper.proofs.Bytes.{go_on}
use Rattle.frequencies.specs.Puts.{Puts}

pub puts-nothing : (l : List ℕ) (at : ℕ) → Puts [] l at l at
puts-nothing l at = record { put = λ h. (refl, omega arith) }

-- one byte, with room for it and without
pub puts-byte : (l : List ℕ) (at x : ℕ) → Puts (x ∷ []) l at (set l at x) (at + 1)
puts-byte l at x = record { put = λ h. (refl, refl) }

pub puts-no-byte : (l : List ℕ) (at x : ℕ) → length l ≤ at → Puts (x ∷ []) l at l at
puts-no-byte l at x h = record { put = λ r. absurd (omega (arith, h, r)) }

-- bytes behind bytes
pub puts_then : {xs ys l l₁ l₂ : List ℕ} {at k next : ℕ} → Puts xs l at l₁ k → Puts ys l₁ k l₂ next → Puts (xs ++ ys) l at l₂ next
puts_then {xs} {ys} {l} {l₁} {l₂} {at} {k} {next} p q = record { put = both }
  where
    both : at + length (xs ++ ys) ≤ length l → (l₂ ≡ sets l at (xs ++ ys)) × (next ≡ at + length (xs ++ ys))
    both h =
        let s : length (xs ++ ys) ≡ length xs + length ys = length-append xs ys in
        let a = p.put (omega (arith, h, s)) in
        let long : length l₁ ≡ length l = ap length a.0 ∙ length-sets l at xs in
        let here : k ≡ at + length xs = a.1 in
        let b = q.put (omega (arith, h, s, long, here)) in
        let ends : next ≡ k + length ys = b.1 in
        (go_on l at xs ys k a.0 here b.0, omega (arith, s, here, ends))

-- room from a place on, by what is left there
pub room-left : (size at count : ℕ) → at ≤ size → leb count (size - at) ≡ leb (at + count) size
room-left size at count h = go (leb count (size - at)) refl
  where
    go : (t : Bool) → leb count (size - at) ≡ t → t ≡ leb (at + count) size
    go true e = let l = leb-true count (size - at) e in sym (le-leb (at + count) size (omega (arith, h, l)))
    go false e = let l = leb-false count (size - at) e in sym (lt-leb (at + count) size (omega (arith, h, l)))

-- without room nothing is said
pub puts-no-room : (xs l : List ℕ) (at : ℕ) → leb (at + length xs) (length l) ≡ false → Puts xs l at l at
puts-no-room xs l at e = let h = leb-false (at + length xs) (length l) e in record { put = λ r. absurd (omega (arith, h, r)) }

-- ── one of two, by a test ──
module _ {l after : List ℕ} {at next : ℕ} (xs ys : List ℕ) {t : Bool} where
  pub puts_first : t ≡ true → Puts xs l at after next → Puts (cond t xs ys) l at after next
  puts_first e p = subst (λ b. Puts (cond b xs ys) l at after next) (sym e) p

  pub puts-other : t ≡ false → Puts ys l at after next → Puts (cond t xs ys) l at after next
  puts-other e p = subst (λ b. Puts (cond b xs ys) l at after next) (sym e) p
