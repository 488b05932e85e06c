-- The number of blanks stops the chain or is right, and then the values decide. Assumes nothing.
use native.Mathlib.Omega.{arith}
use mathlib.Core.Path.{◌≡◌, sym, ap, ◌∙◌}
use Prim.Native.Nat.{ℕ}
use lib.Dec.{eqb}
use lib.IntN.{ℤ, pos}
use lib.ListN.{get_or}
use mathlib.Core.List.{List}
use borrow.Author.Tests.{eq-eqb, ne_eqb}
use Rattle.std.specs.Prelude.{Err}
use Rattle.integers.specs.Below.{if_below}
use Rattle.paper.specs.Lists.{first_fail}
use Rattle.paper.specs.Tables.{Tables, values_in}
use Rattle.paper.specs.Checks.{accepted, check, stored_allowed}
use Rattle.paper.specs.Calls.{blanks_among}
use Rattle.paper.proofs.Verdicts.{require-stops, require-next}
use Rattle.tables.specs.Answers.{answer_of, unless_at}
use Rattle.tables.specs.Lent.{lent_bounds}
use Rattle.tables.proofs.Answered.{below-fits, none_fails-is}
use Rattle.checks.proofs.ValuesOverMakers.{blanks-same}
use Rattle.checks.proofs.allowed.stored_checks.Goals as goal

-- what was counted
counted : (t : Tables) (n k : ℕ) (stored : List ℤ) → t.n ≡ n → k ≡ blanks_among n (λ v. get_or stored v (pos 0)) → k ≡ blanks_among t.n (values_in t stored)
counted t n k stored q e = e ∙ ap (λ i. blanks_among i (λ v. get_or stored v (pos 0))) (sym q) ∙ blanks-same t stored

pub returns-then-blanks-blanks_among : goal.returns-then-blanks-blanks_among
returns-then-blanks-blanks_among c =
    let a = c.args in record {
      of = λ t q k.
          ap Err c.refused.ensures
          ∙ ap (answer_of tt) (sym (require-stops 19 0 (eqb a.blanks (blanks_among t.n (values_in t a.stored.now)))
          (check 7 t.n (stored_allowed t (lent_bounds a.bounds.now) (values_in t a.stored.now)) accepted)
          (ne_eqb _ _ (λ e. c.if-blanks-blanks_among.true (e ∙ sym (counted t a.n c.blanks_among.result a.stored.now q c.blanks_among.ensures))))));
    }

pub none_fails-requires : goal.none_fails-requires
none_fails-requires c = below-fits _ _ c.first_bad_value.ensures.below (omega arith)

pub returns : goal.returns
returns c =
    let a = c.args in record {
      of = λ t q k.
          let good : ℕ → _ = stored_allowed t (lent_bounds a.bounds.now) (values_in t a.stored.now) in
          c.none_fails.ensures ∙ ap (unless_at 7) (c.first_bad_value.ensures.least.of t q k ∙ ap (λ i. if_below i (first_fail good i)) (sym q)) ∙ none_fails-is 7 t.n good
          ∙ ap (answer_of tt) (sym (require-next 19 0 (eqb a.blanks (blanks_among t.n (values_in t a.stored.now))) (check 7 t.n good accepted)
          (eq-eqb _ _ (c.if-blanks-blanks_among.false ∙ counted t a.n c.blanks_among.result a.stored.now q c.blanks_among.ensures))));
    }
