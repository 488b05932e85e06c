-- How build's verdict comes out, check by check: it is the first refusal, and acceptance if there is none. Assumes nothing.
use Prim.Native.Nat.{ℕ, suc, ◌≤◌}
use native.Mathlib.Omega.{arith}
use mathlib.Core.Bool.{Bool, true, false}
use mathlib.Core.Path.{◌≡◌, refl, ap, sym, ◌∙◌}
use mathlib.Core.List.{List}
use lib.ListN.{length}
use native.Mathlib.Nat.{le_refl}
use Rattle.std.specs.Prelude.{Option, None, Result, Ok, Err}
use borrow.Author.Tests.{leb-true}
use Rattle.paper.proofs.Lists.{and_left, and_right, each}
use Rattle.paper.specs.Lists.{first_fail}
use Rattle.paper.specs.Tables.{Tables}
use Rattle.paper.specs.Chains.{permitted, determined}
use Rattle.paper.specs.Checks.{Verdict, accepted, refused, check, table_lines, start_allowed, sized, by_lines}
use Rattle.paper.specs.Calls.{Session, BuildLent, build_fits, start_values, build_verdict}
use Rattle.paper.proofs.Verdicts.{and_then, refused-not, require-stops, require-next, check-passes, lines_then}
use Rattle.paper.proofs.Sizes.{Sized, sized-facts}
use Rattle.paper.proofs.Least.{first_fail-before}
use Rattle.chains.specs.Links.{Shared, Grouped}
use Rattle.integers.specs.Below.{if_below}
use Rattle.integers.proofs.Below.{none-below}
use Rattle.tables.specs.Answers.{answer_of, unless_at}
use Rattle.tables.specs.declared.Refusal.{Refusal}
use Rattle.tables.proofs.Answered.{refused-is, none_fails-is, none_fails-stops, none_fails-passes}
use Rattle.verdicts.proofs.Lengths.{index-long, bounds-long}
use Rattle.build.specs.BuildJudged.{BuildJudged}

-- where no variable fails check 6 closed chains are permitted
pub grouped-past : (t : Tables) {numbers : List ℕ} → None ≡ if_below t.n (first_fail (permitted t) t.n) → Shared t numbers → Grouped t numbers
grouped-past t past s = record { permitted = λ v h. let high = none-below t.n (first_fail (permitted t) t.n) past in first_fail-before (permitted t) t.n v (omega arith); shared = s }

module _ (l : BuildLent) where
  abbrev t : Tables
  t = l.tables

  -- checks 6, 7 and 20
  abbrev at_seven : ℕ → Bool
  at_seven = start_allowed t l.bounds (start_values l)

  abbrev from_twenty : Verdict
  from_twenty = check 20 t.n (determined t (start_values l)) accepted

  abbrev from_seven : Verdict
  from_seven = check 7 t.n at_seven from_twenty

  abbrev from_six : Verdict
  from_six = check 6 t.n (permitted t) from_seven

  -- the record plays no part
  pub any-session : (s : Session) → build_verdict l ≡ build_verdict (record { session = s; tables = t; bounds = l.bounds; starts = l.starts; numbers = l.numbers; order = l.order; stored = l.stored; index = l.index; reasons = l.reasons; log_sizes = l.log_sizes })
  unfolding build_verdict
  any-session s = refl

  pub judged-refused : (state : List ℕ) {z : Result Unit Refusal} (f : Refusal) → z ≡ Err f → build_verdict l ≡ refused f.number f.place → BuildJudged l state z
  judged-refused state f e h = record { verdict = e ∙ ap (answer_of tt) (sym h); shared = λ a. refused-not (sym h ∙ a) }

  -- the buffers, as check 1 leaves them
  pub record Fitting : Type 0 where
    pub held : Sized t
    pub starts : t.n ≤ length l.starts
    pub numbers : t.n ≤ length l.numbers
    pub order : t.m ≤ length l.order
    pub stored : t.n ≤ length l.stored
    pub index-starts : suc t.n ≤ length l.index.starts
    pub index-places : t.e ≤ length l.index.places
    pub log : 65 ≤ length l.log_sizes
    pub lows : t.n ≤ length l.bounds.lows
    pub highs : t.n ≤ length l.bounds.highs
    pub reasons : t.n ≤ length l.reasons

  pub fitting : build_fits l ≡ true → Fitting
  fitting h =
      let long = each _ (and_right (sized t) _ h) in
      record {
        held = sized-facts t (and_left (sized t) _ h);
        starts = leb-true _ _ long.0;
        numbers = leb-true _ _ long.1.0;
        order = leb-true _ _ long.1.1.0;
        stored = leb-true _ _ long.1.1.1.0;
        index-starts = (index-long t l.index long.1.1.1.1.0).0;
        index-places = (index-long t l.index long.1.1.1.1.0).1;
        log = leb-true _ _ long.1.1.1.1.1.0;
        lows = (bounds-long t l.bounds long.1.1.1.1.1.1.0).0;
        highs = (bounds-long t l.bounds long.1.1.1.1.1.1.0).1;
        reasons = leb-true _ _ long.1.1.1.1.1.1.1.0;
      }

  pub stops-1 : build_fits l ≡ false → build_verdict l ≡ refused 1 0
  unfolding build_verdict
  stops-1 h = require-stops 1 0 (build_fits l) _ h

  module _ (fits : build_fits l ≡ true) where
    -- 2 to 5
    pub stops-tables : (number place : ℕ) → by_lines (table_lines t l.bounds) accepted ≡ refused number place → build_verdict l ≡ refused number place
    unfolding build_verdict
    stops-tables number place h = require-next 1 0 (build_fits l) _ fits ∙ lines_then (table_lines t l.bounds) from_six ∙ ap (λ v. and_then v from_six) h

    module _ (passed : by_lines (table_lines t l.bounds) accepted ≡ accepted) where
      late : build_verdict l ≡ from_six
      unfolding build_verdict
      late = require-next 1 0 (build_fits l) _ fits ∙ lines_then (table_lines t l.bounds) from_six ∙ ap (λ v. and_then v from_six) passed

      module _ (six : Option ℕ) (six-is : six ≡ if_below t.n (first_fail (permitted t) t.n)) where
        pub stops-6 : (f : Refusal) → unless_at 6 six ≡ Err f → build_verdict l ≡ refused f.number f.place
        stops-6 f e = late ∙ refused-is {A = ℕ} 0 f from_six (sym (none_fails-stops 6 t.n (permitted t) six six-is from_seven 0 f e))

        module _ (u : Unit) (ok : unless_at 6 six ≡ Ok u) where
          past-six : build_verdict l ≡ from_seven
          past-six = late ∙ none_fails-passes 6 t.n (permitted t) six six-is from_seven u ok

          module _ (seven : Option ℕ) (seven-is : seven ≡ if_below t.n (first_fail at_seven t.n)) where
            pub stops-7 : (f : Refusal) → unless_at 7 seven ≡ Err f → build_verdict l ≡ refused f.number f.place
            stops-7 f e = past-six ∙ refused-is {A = ℕ} 0 f from_seven (sym (none_fails-stops 7 t.n at_seven seven seven-is from_twenty 0 f e))

            module _ (v : Unit) (ok' : unless_at 7 seven ≡ Ok v) where
              past-seven : build_verdict l ≡ from_twenty
              past-seven = past-six ∙ none_fails-passes 7 t.n at_seven seven seven-is from_twenty v ok'

              -- 20 decides
              pub ends-20 : (stuck : Option ℕ) → stuck ≡ if_below t.n (first_fail (determined t (start_values l)) t.n) → unless_at 20 stuck ≡ answer_of tt (build_verdict l)
              ends-20 stuck e = ap (unless_at 20) e ∙ none_fails-is 20 t.n (determined t (start_values l)) ∙ ap (answer_of tt) (sym past-seven)

              pub passes : t.n ≡ first_fail (determined t (start_values l)) t.n → build_verdict l ≡ accepted
              passes e = past-seven ∙ check-passes 20 t.n (determined t (start_values l)) accepted t.n (e, le_refl t.n)
