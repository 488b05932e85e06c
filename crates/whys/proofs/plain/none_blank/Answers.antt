-- The search finds one exactly if some asked variable fails the test (`none-found`), and each asked variable has a flag and a value. Assumes nothing.
use Prim.Native.Nat.{ℕ, ◌<◌}
use native.Mathlib.Omega.{arith}
use mathlib.Core.Bool.{Bool, true, false, not}
use mathlib.Core.List.{List}
use mathlib.Core.Path.{◌≡◌, refl, sym, ap, ◌∙◌}
use borrow.Author.Rules.{rules}
use borrow.Author.Tests.{tests, ltb-true}
use lib.Dec.{ltb}
use lib.ListN.{length}
use Rattle.std.specs.Bool.{MatchBool}
use Rattle.std.specs.List.{AllWithin, HoldsAt}
use Rattle.std.proofs.lemmas.Iterator.{YieldsList-from_slice, cases_from_any}
use Rattle.std.proofs.lemmas.Iterator.Adapters.{serves_from_places}
use Rattle.paper.specs.Lists.{nat, all_below}
use Rattle.paper.proofs.Lists.{all-at}
use Rattle.paper.proofs.Least.{below_all, all_below-at}
use Rattle.whys.specs.Plain.{not_blank}
use Rattle.whys.proofs.plain.none_blank.Goals as goal

none-found : (p : ℕ → Bool) (xs : List ℕ) (r : Bool)
    → MatchBool r ((k : ℕ) × (k < length xs) × HoldsAt (λ x. p x ≡ false) xs k) (AllWithin (λ x. p x ≡ true) xs 0 (length xs)) → not r ≡ all_below (λ i. p (nat xs i)) (length xs)
none-found p xs false h = sym (below_all (λ i. p (nat xs i)) (length xs) (λ i l. h i 0 (omega arith) l))
none-found p xs true h = go (all_below (λ i. p (nat xs i)) (length xs)) refl
  where
    go : (b : Bool) → all_below (λ i. p (nat xs i)) (length xs) ≡ b → false ≡ b
    go false e = refl
    go true e = sym (h.2 0) ∙ all_below-at (λ i. p (nat xs i)) (length xs) e h.0 h.1

pub any-requires-clause-callable : goal.any-requires-clause-callable
any-requires-clause-callable c =
    let n = c.args.n in let asked = c.args.asked.now in
    serves_from_places (YieldsList-from_slice asked cc) (λ x q k. search (rules, tests))
    (λ x k h e.
    let low : x.now < n = ltb-true x.now n (ap (λ v. ltb v n) e ∙ all-at (λ v. ltb v n) asked c.requires.asked_value k x.now h) in
    let in-values : x.now < length c.args.values.now = omega (arith, c.requires.n_in_bounds) in
    let in-flags : x.now < length c.args.flags.now = omega (arith, c.requires.n_in_bounds) in
    search rules)

pub returns : goal.returns
returns c =
    let test = not_blank c.args.flags.now c.args.values.now in let asked = c.args.asked.now in
    none-found test asked c.any.result
    (cases_from_any _ _ c.any.result (λ v. test v ≡ false) (λ v. test v ≡ true) c.any.ensures.ran (YieldsList-from_slice asked cc)
    (λ x q k. search (rules, tests)) (λ x q k. search (rules, tests)))
