-- How a chain of checks is gone through: it stops at the first that fails, and each that was passed held everywhere. Assumes nothing.
use Prim.Native.Nat.{ℕ, ◌≤◌, ◌<◌}
use native.Mathlib.Nat.{lt_irrefl}
use native.Mathlib.Omega.{arith}
use mathlib.Core.Bool.{Bool, true, false, cond}
use mathlib.Core.List.{List, [], ◌∷◌}
use mathlib.Core.Path.{◌≡◌, refl, ap, sym, ◌∙◌}
use lib.Dec.{ltb}
use borrow.Author.Tests.{ltb-true, ltb-false, lt-ltb, le-ltb}
use Rattle.paper.specs.Lists.{first_fail}
use Rattle.paper.specs.Checks.{Verdict, accepted, refused, check, require, Line, places, whole, by_lines, leaves}
use Rattle.paper.proofs.Least.{first_fail-before, first_fail-none}

-- ── two verdicts ──
pub refused-not {ℓ} : {X : Type ℓ} {a b : ℕ} → refused a b ≡ accepted → X
refused-not e = let z : ◌≡◌ {A = ℕ} 0 1 = cc in absurd (lt_irrefl 1 (omega arith))

pub same_number : {a b c d : ℕ} → refused a b ≡ refused c d → a ≡ c
same_number e = cc

pub same_place : {a b c d : ℕ} → refused a b ≡ refused c d → b ≡ d
same_place e = cc

-- ── one verdict after another ──
-- the first where it refuses, else the second
abbrev pub and_then : Verdict → Verdict → Verdict
and_then first second = leaves first second first

pub then-first : (a b : Verdict) → and_then a b ≡ accepted → a ≡ accepted
then-first accepted b h = refl
then-first (refused number place) b h = h

pub then-second : (a b : Verdict) → and_then a b ≡ accepted → b ≡ accepted
then-second accepted b h = h
then-second (refused number place) b h = refused-not h

pub then-then : (a b c : Verdict) → and_then (and_then a b) c ≡ and_then a (and_then b c)
then-then accepted b c = refl
then-then (refused number place) b c = refl

-- a chain of checks: it decides where it refuses, and the next where it accepts
abbrev pub Chain : (Verdict → Verdict) → Type 0
Chain F = (next : Verdict) → F next ≡ and_then (F accepted) next

pub chain-after : (F G : Verdict → Verdict) → Chain F → Chain G → Chain (λ next. F (G next))
chain-after F G f g next = f (G next) ∙ ap (and_then (F accepted)) (g next) ∙ sym (then-then (F accepted) (G accepted) next) ∙ ap (λ v. and_then v next) (sym (f (G accepted)))

pub check-then : (code bound : ℕ) (good : ℕ → Bool) → Chain (check code bound good)
check-then code bound good next = go (ltb (first_fail good bound) bound)
  where
    go : (b : Bool) → cond b (refused code (first_fail good bound)) next ≡ and_then (cond b (refused code (first_fail good bound)) accepted) next
    go true = refl
    go false = refl

pub require-then : (code place : ℕ) (good : Bool) → Chain (require code place good)
require-then code place true next = refl
require-then code place false next = refl

-- the checks of any lines
pub lines_then : (lines : List Line) → Chain (by_lines lines)
lines_then [] next = refl
lines_then (places number bound good ∷ rest) next = chain-after (check number bound good) (by_lines rest) (check-then number bound good) (lines_then rest) next
lines_then (whole number place good ∷ rest) next = chain-after (require number place good) (by_lines rest) (require-then number place good) (lines_then rest) next

-- ── a loop came to place k ──
-- it came to the bound: no place fails
abbrev pub Past : (ℕ → Bool) → ℕ → ℕ → Type 0
Past good bound k = (k ≡ first_fail good bound) × (bound ≤ k)

module _ (code bound : ℕ) (good : ℕ → Bool) (next : Verdict) where
  pub check-stops : (k : ℕ) → k ≡ first_fail good bound → k < bound → check code bound good next ≡ refused code k
  check-stops k e l = ap (λ f. cond (ltb f bound) (refused code f) next) (sym e) ∙ ap (λ b. cond b (refused code k) next) (lt-ltb k bound l)

  pub check-passes : (k : ℕ) → Past good bound k → check code bound good next ≡ next
  check-passes k p = ap (λ f. cond (ltb f bound) (refused code f) next) (sym p.0) ∙ ap (λ b. cond b (refused code k) next) (le-ltb k bound p.1)

  -- ── good everywhere: the next decides ──
  pub check-next : ((i : ℕ) → i < bound → good i ≡ true) → check code bound good next ≡ next
  check-next h = check-passes bound (first_fail-none good bound h, omega arith)

  -- ── accepted: good everywhere, and so were the rest ──
  pub check-rest : check code bound good next ≡ accepted → next ≡ accepted
  check-rest e = go (ltb (first_fail good bound) bound) e
    where
      go : (b : Bool) → cond b (refused code (first_fail good bound)) next ≡ accepted → next ≡ accepted
      go true h = refused-not h
      go false h = h

  pub check-held : check code bound good next ≡ accepted → (i : ℕ) → i < bound → good i ≡ true
  check-held e i l = go (ltb (first_fail good bound) bound) refl e
    where
      go : (b : Bool) → ltb (first_fail good bound) bound ≡ b → cond b (refused code (first_fail good bound)) next ≡ accepted → good i ≡ true
      go true q h = refused-not h
      go false q h = let low = ltb-false (first_fail good bound) bound q in first_fail-before good bound i (omega arith)

  -- ── refused with another number: good everywhere, and the refusal is a later check's ──
  pub check-other : (c p : ℕ) → (code ≡ c → ⊥) → check code bound good next ≡ refused c p → ((i : ℕ) → i < bound → good i ≡ true) × (next ≡ refused c p)
  check-other c p n e = go (ltb (first_fail good bound) bound) refl e
    where
      go : (b : Bool) → ltb (first_fail good bound) bound ≡ b → cond b (refused code (first_fail good bound)) next ≡ refused c p
          → ((i : ℕ) → i < bound → good i ≡ true) × (next ≡ refused c p)
      go true q h = absurd (n (same_number h))
      go false q h = (λ i l. let low = ltb-false (first_fail good bound) bound q in first_fail-before good bound i (omega arith), h)

  -- ── refused with its own number, which no later check gives: some place fails, and the least is the place ──
  pub check-own : (p : ℕ) → (next ≡ refused code p → ⊥) → check code bound good next ≡ refused code p → (first_fail good bound < bound) × (first_fail good bound ≡ p)
  check-own p later e = go (ltb (first_fail good bound) bound) refl e
    where
      go : (b : Bool) → ltb (first_fail good bound) bound ≡ b → cond b (refused code (first_fail good bound)) next ≡ refused code p
          → (first_fail good bound < bound) × (first_fail good bound ≡ p)
      go true q h = (ltb-true (first_fail good bound) bound q, same_place h)
      go false q h = absurd (later h)

-- ── the same of a check with a fixed place ──
module _ (code place : ℕ) where
  pub require-next : (good : Bool) (next : Verdict) → good ≡ true → require code place good next ≡ next
  require-next good next h = ap (λ b. cond b next (refused code place)) h

  pub require-stops : (good : Bool) (next : Verdict) → good ≡ false → require code place good next ≡ refused code place
  require-stops good next h = ap (λ b. cond b next (refused code place)) h

  pub require-rest : (good : Bool) (next : Verdict) → require code place good next ≡ accepted → next ≡ accepted
  require-rest true next e = e
  require-rest false next e = refused-not e

  pub require-held : (good : Bool) (next : Verdict) → require code place good next ≡ accepted → good ≡ true
  require-held true next e = refl
  require-held false next e = refused-not e

  pub require-other : (good : Bool) (next : Verdict) (c p : ℕ) → (code ≡ c → ⊥) → require code place good next ≡ refused c p → (good ≡ true) × (next ≡ refused c p)
  require-other true next c p n e = (refl, e)
  require-other false next c p n e = absurd (n (same_number e))
