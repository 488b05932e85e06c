-- The number that a trial answers is below 22, and it evaluates at most all variables. Assumes nothing.
use Prim.Native.Nat.{◌≤◌, ◌<◌}
use native.Mathlib.Omega.{arith}
use mathlib.Core.Bool.{Bool, true, false, not, ◌&&◌, ◌||◌}
use mathlib.Core.Path.{◌≡◌, refl, ap}
use lib.Dec.{eqb, leb}
use borrow.Author.Tests.{leb-true, eqb-true}
use Rattle.paper.specs.Lists.{between}
use Rattle.paper.specs.Checks.{Verdict, accepted, refused, pairs_of_move}
use Rattle.paper.specs.Calls.{Session, number_of, evaluations_of, evaluates, Model, stored_values, TrialLent, asked_list, route_of, TrialLeft, trial_verdict, trial}
use Rattle.paper.proofs.Lists.{and_left, and_right}
use Rattle.paper.proofs.Count.{size-le}
use Rattle.paper.proofs.Sizes.{sized-facts}
use Rattle.paper.proofs.Known.{trial-known}
use Rattle.paper.proofs.Outcomes.{trial-judged}

module _ (s : Session) (w : Model) (c : TrialLent) where
  pub number-low : number_of (trial s w c).answer < 22
  number-low = go (leb (number_of (trial s w c).answer) 13 && not (eqb (number_of (trial s w c).answer) 6)) (eqb (number_of (trial s w c).answer) 17) refl refl (trial-judged s w c).given
    where
      go : (x y : Bool) → (leb (number_of (trial s w c).answer) 13 && not (eqb (number_of (trial s w c).answer) 6)) ≡ x → eqb (number_of (trial s w c).answer) 17 ≡ y → ((x || y) || between 19 (number_of (trial s w c).answer) 21) ≡ true → number_of (trial s w c).answer < 22
      go true y e q h = let k = leb-true (number_of (trial s w c).answer) 13 (and_left _ _ e) in omega arith
      go false true e q h = let k = eqb-true (number_of (trial s w c).answer) 17 q in omega arith
      go false false e q h = let k = leb-true (number_of (trial s w c).answer) 21 (and_right (leb 19 (number_of (trial s w c).answer)) _ h) in omega arith

  pub evaluations-low : evaluations_of (trial s w c).answer ≤ 4096
  evaluations-low = go (trial_verdict s w c) refl
    where
      go : (v : Verdict) → trial_verdict s w c ≡ v → evaluations_of (trial s w c).answer ≤ 4096
      go accepted e =
          let n = (sized-facts w.tables (trial-known s w c e).model.sound.sized).n-most in
          let is = ap (λ (x : TrialLeft). evaluations_of x.answer) ((trial-judged s w c).is accepted e) in
          let most = size-le (evaluates w.tables (stored_values w) (route_of c.route) (pairs_of_move c.move) (asked_list c)) w.tables.n in
          omega arith
      go (refused number place) e = let is = ap (λ (x : TrialLeft). evaluations_of x.answer) ((trial-judged s w c).is (refused number place) e) in omega arith
