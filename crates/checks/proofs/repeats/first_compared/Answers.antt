-- The first place names what no earlier one names, so the search begins behind it. Assumes nothing.
use Prim.Native.Nat.{ℕ, zero, suc, ◌≤◌, ◌<◌}
use native.Mathlib.Omega.{arith}
use mathlib.Core.Bool.{Bool, true, false}
use mathlib.Core.Path.{◌≡◌, refl}
use borrow.Author.Rules.{rules}
use borrow.Author.Tests.{tests}
use Rattle.std.specs.Prelude.{Option, Some, None, MatchOption}
use Rattle.std.proofs.lemmas.Iterator.{first_from_Range}
use Rattle.tables.proofs.Positions.{first-found}
use Rattle.paper.specs.Checks.{made_once}
use Rattle.checks.specs.Named.{makes_rows}
use Rattle.checks.proofs.repeats.first_compared.Goals as goal

module _ (good : ℕ → Bool) (m : ℕ) (first : good 0 ≡ true) where
  before : (n : ℕ) → ((k : ℕ) → 1 ≤ k → k < n → good k ≡ true) → (k : ℕ) → 0 ≤ k → k < n → good k ≡ true
  before n h zero a b = first
  before n h (suc k) a b = h (suc k) (omega arith) b

  from-one : (r : Option ℕ) → MatchOption r ((k : ℕ) → 1 ≤ k → k < m → good k ≡ true) (λ i. (1 ≤ i) × (i < m) × (good i ≡ false) × ((k : ℕ) → 1 ≤ k → k < i → good k ≡ true))
      → MatchOption r ((k : ℕ) → 0 ≤ k → k < m → good k ≡ true) (λ i. (0 ≤ i) × (i < m) × (good i ≡ false) × ((k : ℕ) → 0 ≤ k → k < i → good k ≡ true))
  from-one None h = before m h
  from-one (Some i) h = let low = h.0 in (omega arith, h.1, h.2, before i h.3)

pub returns : goal.returns
returns c =
    let good : ℕ → Bool = made_once (makes_rows c.args.vars.now) in
    first-found good c.args.m _
    (from-one good c.args.m refl _
    (first_from_Range _ _ _ _ (λ k. good k ≡ false) (λ k. good k ≡ true) c.find.ensures.ran (λ x q k. search (rules, tests)) (λ x q k. search (rules, tests))))
