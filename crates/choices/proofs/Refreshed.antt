-- Where no chain closes every variable is determined, so neither check can refuse; elsewhere each refuses at the least variable that fails it. Assumes nothing.
use Prim.Native.Nat.{ℕ}
use mathlib.Core.Bool.{true, false, not, ◌||◌}
use mathlib.Core.Path.{◌≡◌, ap, sym, ◌∙◌}
use lib.IntN.{ℤ}
use mathlib.Core.List.{List}
use borrow.Author.Tests.{not-false}
use Rattle.paper.specs.Lists.{first_fail, all_below}
use Rattle.paper.specs.Net.{moved, able}
use Rattle.paper.specs.Tables.{Tables, net, inputs_of, ends, values_in}
use Rattle.paper.specs.Checks.{Verdict, accepted, check, Move, pairs_of_move, Sound, fresh_lines, by_lines}
use Rattle.paper.specs.Chains.{determined, closes, stored_fresh}
use Rattle.paper.proofs.Least.{all_below-at}
use Rattle.paper.proofs.Scan.{first_fail-same}
use Rattle.paper.proofs.Sizes.{sized-facts}
use Rattle.paper.proofs.Accept.{made-below, inputs-below}
use Rattle.paper.proofs.Lawful.{lawful}
use Rattle.paper.proofs.Circle.{ends-everywhere}
use Rattle.paper.proofs.Open.{open-determined}
use Rattle.paper.proofs.Verdicts.{check-next}
use Rattle.std.specs.Prelude.{Option, Ok, Err}
use Rattle.integers.specs.Below.{if_below}
use Rattle.tables.specs.Answers.{answer_of, unless_at}
use Rattle.tables.specs.declared.Refusal.{Refusal}
use Rattle.tables.proofs.Answered.{none_fails-is, none_fails-stops, none_fails-passes}
use Rattle.choices.specs.Renewed.{is_fresh}

module _ (t : Tables) (stored : List ℤ) (mv : Move) where
  abbrev twenty : Verdict
  twenty = check 20 t.n (determined t (moved (pairs_of_move mv) (values_in t stored))) accepted

  -- no chain closes
  pub fresh-open : Sound t → closes t ≡ false → by_lines (fresh_lines mv t (values_in t stored)) accepted ≡ accepted
  fresh-open S e =
      check-next 21 t.n (stored_fresh t (values_in t stored)) twenty
      (λ v l. ap (λ b. not b || is_fresh t stored v) e)
      ∙ check-next 20 t.n (determined t (moved (pairs_of_move mv) (values_in t stored))) accepted
      (λ v l. open-determined t (inputs-below t S) chains (moved (pairs_of_move mv) (values_in t stored)) v)
    where
      chains : (v : ℕ) → able (inputs_of t) t.n v ≡ true
      chains =
          ends-everywhere (net t) (lawful t) t.n (inputs-below t S) (made-below t S) (sized-facts t S.sized).n-some
          (all_below-at (ends t) t.n (not-false (all_below (ends t) t.n) e))

  -- some chain closes
  module _ (e : closes t ≡ true) {stale : Option ℕ} (least : stale ≡ if_below t.n (first_fail (is_fresh t stored) t.n)) where
    stale_is : stale ≡ if_below t.n (first_fail (stored_fresh t (values_in t stored)) t.n)
    stale_is =
        least
        ∙ ap (if_below t.n)
        (first_fail-same (is_fresh t stored) (stored_fresh t (values_in t stored)) t.n (λ v l. sym (ap (λ b. not b || is_fresh t stored v) e)))

    pub fresh-stale : (r : Refusal) → unless_at 21 stale ≡ Err r → Err r ≡ answer_of {A = Unit {0}} tt (by_lines (fresh_lines mv t (values_in t stored)) accepted)
    fresh-stale r = none_fails-stops 21 t.n (stored_fresh t (values_in t stored)) stale stale_is twenty tt r

    pub fresh-waiting : (u : Unit) → unless_at 21 stale ≡ Ok u → {waiting : Option ℕ}
        → waiting ≡ if_below t.n (first_fail (determined t (moved (pairs_of_move mv) (values_in t stored))) t.n)
        → unless_at 20 waiting ≡ answer_of tt (by_lines (fresh_lines mv t (values_in t stored)) accepted)
    fresh-waiting u past first =
        ap (unless_at 20) first ∙ none_fails-is 20 t.n (determined t (moved (pairs_of_move mv) (values_in t stored)))
        ∙ sym (ap (answer_of tt) (none_fails-passes 21 t.n (stored_fresh t (values_in t stored)) stale stale_is twenty u past))
