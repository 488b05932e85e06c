-- How the verdict of a call comes out: check 1, the checks of the model, those of the move, of what is asked and of the log, and last whether the values are fresh.
-- Assumes nothing.
use Prim.Native.Nat.{ℕ, ◌≤◌}
use mathlib.Core.Bool.{Bool, true, false}
use mathlib.Core.Path.{◌≡◌, refl, ap, sym, ◌∙◌}
use mathlib.Core.List.{List}
use lib.ListN.{length}
use Rattle.std.specs.Prelude.{Result, Ok, Err}
use borrow.Author.Tests.{leb-true}
use Rattle.paper.proofs.Lists.{each}
use Rattle.paper.specs.Tables.{Tables}
use Rattle.paper.specs.Chains.{closes}
use Rattle.paper.specs.Checks.{Verdict, accepted, require, move_fits, Move, Bounds, Sound, fresh_lines, by_lines}
use Rattle.paper.specs.Calls.{Model, stored_values, model_lines}
use Rattle.paper.proofs.Verdicts.{Chain, refused-not, require-stops, require-next}
use Rattle.paper.proofs.Known.{move-known}
use Rattle.tables.specs.Answers.{answer_of, refusal}
use Rattle.tables.specs.Makers.{Makers}
use Rattle.tables.specs.declared.Refusal.{Refusal}
use Rattle.tables.proofs.Answered.{accepted-is, accepted-as, refused-is, answer-stops, answer-passes}
use Rattle.checks.specs.Allowed.{OfMakers}
use Rattle.checks.specs.Moves.{pair_checks}
use Rattle.rows.specs.Put.{PairsFit}
use Rattle.verdicts.specs.ModelJudged.{ModelJudged, CallJudged}
use Rattle.verdicts.proofs.ModelJudging.{model-then}

-- a move that passed its checks can be put in
pub pairs-fit : (t : Tables) (bs : Bounds) (mv : Move) (next : Verdict) → move_fits mv ≡ true → pair_checks mv bs t next ≡ accepted → PairsFit t.n mv
pairs-fit t bs mv next fits e = let k = (move-known t bs mv next fits e).0 in record { in-vars = k.vars-long; in-values = k.values-long; low = k.low }

-- a refusal hands nothing on
judged-refused : (v : Verdict) (t : Tables) (by : List ℕ) {z : Result Bool Refusal} (f : Refusal) → z ≡ Err f → Err f ≡ answer_of (closes t) v → CallJudged v t by z
judged-refused v t by f e h = let no = sym (refused-is (closes t) f v (sym h)) in record { answer = e ∙ h; makers = λ a. refused-not (no ∙ a) }

module _ (w : Model) (blanks : ℕ) where
  abbrev t : Tables
  t = w.tables

  -- accepted: the row holds the makers, the tables are sound, and whether some chain closes is known
  module _ (by : List ℕ) (r : Result Bool Refusal) (judged : ModelJudged w blanks by r) (closed : Bool) (e : r ≡ Ok closed) where
    passed : by_lines (model_lines w blanks) accepted ≡ accepted
    passed = accepted-is (closes t) closed (by_lines (model_lines w blanks) accepted) (sym judged.verdict ∙ e)

    pub model-makers : Makers t by
    model-makers = judged.makers passed

    pub model-sound : Sound t
    model-sound = judged.sound passed

    pub model-closing : closed ≡ closes t
    model-closing = sym (accepted-as (closes t) closed (by_lines (model_lines w blanks) accepted) (sym judged.verdict ∙ e))

    -- with check 1 all that the checks of a move ask
    pub move-ready : (mv : Move) → move_fits mv ≡ true
        → (t.n ≤ length by) × (mv.pairs ≤ 64) × (mv.pairs ≤ length mv.vars) × (mv.pairs ≤ length mv.values)
    move-ready mv g = let f = each _ g in (model-makers.long, leb-true _ _ f.0, leb-true _ _ f.1.0, leb-true _ _ f.1.1.0)

  -- ── a call: check 1, the model, the checks that come next, and last those of fresh values with a move put in ──
  module _ (fits : Bool) (next : Tables → Verdict → Verdict) (chain : (u : Tables) → Chain (next u)) (mv : Move) where
    abbrev last : Verdict
    last = by_lines (fresh_lines mv t (stored_values w)) accepted

    abbrev pub call_verdict : Verdict
    call_verdict = require 1 0 fits (by_lines (model_lines w blanks) (next t last))

    pub call-stops-1 : (by : List ℕ) (f : Refusal) → f ≡ refusal 1 0 → fits ≡ false → CallJudged call_verdict t by (Err f)
    call-stops-1 by f e h = judged-refused call_verdict t by f refl (ap Err e ∙ ap (answer_of (closes t)) (sym (require-stops 1 0 fits _ h)))

    module _ (fit : fits ≡ true) (by : List ℕ) (r : Result Bool Refusal) (judged : ModelJudged w blanks by r) where
      after : call_verdict ≡ by_lines (model_lines w blanks) (next t last)
      after = require-next 1 0 fits _ fit

      pub call-stops : {z : Result Bool Refusal} (f : Refusal) → z ≡ Err f → r ≡ Err f → CallJudged call_verdict t by z
      call-stops f z e =
          judged-refused call_verdict t by f z
          (answer-stops (by_lines (model_lines w blanks)) (next t last) (model-then w blanks) (closes t) (closes t) f (sym judged.verdict ∙ e) ∙ ap (answer_of (closes t)) (sym after))

      module _ (closed : Bool) (e : r ≡ Ok closed) (a : Result Unit Refusal) (of : OfMakers t.n by (λ u. a ≡ answer_of tt (next u accepted))) where
        said : a ≡ answer_of tt (next t accepted)
        said = of.of t refl (model-makers by r judged closed e)

        past : call_verdict ≡ next t last
        past = after ∙ answer-passes (by_lines (model_lines w blanks)) (next t last) (model-then w blanks) (closes t) closed (sym judged.verdict ∙ e)

        pub call-stops-2 : {z : Result Bool Refusal} (f : Refusal) → z ≡ Err f → a ≡ Err f → CallJudged call_verdict t by z
        call-stops-2 f z q =
            judged-refused call_verdict t by f z (answer-stops (next t) last (chain t) (closes t) tt f (sym said ∙ q) ∙ ap (answer_of (closes t)) (sym past))

        module _ (k : Unit) (q : a ≡ Ok k) where
          pub call-passed : next t accepted ≡ accepted
          call-passed = accepted-is tt k (next t accepted) (sym said ∙ q)

          decided : call_verdict ≡ last
          decided = past ∙ answer-passes (next t) last (chain t) tt k (sym said ∙ q)

          module _ (z : Result Unit Refusal) (h : z ≡ answer_of tt last) where
            pub call-stops-3 : {y : Result Bool Refusal} (f : Refusal) → y ≡ Err f → z ≡ Err f → CallJudged call_verdict t by y
            call-stops-3 f y p =
                judged-refused call_verdict t by f y (ap (answer_of (closes t)) (sym (decided ∙ refused-is tt f last (sym h ∙ p))))

            pub call-last : (u : Unit) → z ≡ Ok u → CallJudged call_verdict t by (Ok closed)
            call-last u p = record {
              answer =
                  ap Ok (model-closing by r judged closed e) ∙ ap (answer_of (closes t)) (sym (decided ∙ accepted-is tt u last (sym h ∙ p)));
              makers = λ _. model-makers by r judged closed e;
            }
