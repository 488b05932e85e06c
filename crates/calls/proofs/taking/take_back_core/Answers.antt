-- A refusal has written nothing; an acceptance is met field by field by what `fill_keep` with the latest move of the log and then `drop_move` leave, and by the reasons
-- noted between. Assumes nothing.
use Prim.Native.Nat.{ℕ, pred}
use native.Mathlib.Omega.{arith}
use mathlib.Core.Bool.{Bool}
use mathlib.Core.List.{List}
use mathlib.Core.Path.{◌≡◌, refl, sym, ap, ◌∙◌}
use lib.ListN.{take}
use Rattle.paper.specs.Net.{input-to-output}
use Rattle.paper.specs.Checks.{accepted, refused, Move}
use Rattle.paper.specs.Log.{Log, log_in, logged, back}
use Rattle.paper.specs.Calls.{Session, Model, TakeLent, latest, take_verdict}
use Rattle.paper.proofs.Outcomes.{take_meets}
use Rattle.paper.proofs.Sizes.{sized-facts}
use Rattle.paper.proofs.Known.{model-meets, take-known}
use Rattle.tables.specs.Makers.{Makers}
use Rattle.std.specs.Prelude.{Result, Ok}
use Rattle.paper.specs.Chains.{closes}
use Rattle.tables.specs.declared.Refusal.{Refusal}
use Rattle.tables.proofs.Answered.{accepted-is, accepted-as, refused-is}
use Rattle.verdicts.specs.Lent.{to_take}
use Rattle.verdicts.specs.ModelJudged.{CallJudged}
use Rattle.records.specs.Left.{record_in}
use Rattle.fills.proofs.Accepted.{take-by-kept, Latest, latest-at, taking-of, filled-long, filled-same, take-met}
use Rattle.fills.proofs.Given.{moved-given}
use Rattle.calls.proofs.Front.{makers-front}
use Rattle.calls.proofs.taking.take_back_core.Goals as goal

-- the judge accepted: as it says by the numbers of moves kept and of blanks, and as the paper does by the whole record
module _ (s : Session) (g : Log) (w : Model) (a : TakeLent) {by : List ℕ} {r : Result Bool Refusal} {closed : Bool}
    (j : CallJudged (take_verdict (record { kept = s.kept; evaluations = 0; blanks = s.blanks }) g w a) w.tables by r) (is : r ≡ Ok closed) where
  agreed : take_verdict (record { kept = s.kept; evaluations = 0; blanks = s.blanks }) g w a ≡ accepted
  agreed = accepted-is (closes w.tables) closed _ (sym j.answer ∙ is)

  passed : take_verdict s g w a ≡ accepted
  passed = take-by-kept s g w a ∙ agreed

  closing : closed ≡ closes w.tables
  closing = sym (accepted-as (closes w.tables) closed _ (sym j.answer ∙ is))

  front : Makers w.tables (take w.tables.n by)
  front = makers-front w.tables by (j.makers agreed)

  -- where the latest move stands
  found : {at : ℕ} → at ≡ pred (logged g) → Latest g at
  found = latest-at s g w a passed

-- the move is read as it stands in the log
kept-latest : (g : Log) (u : TakeLent) {mv : Move} → mv ≡ back g (pred (logged g)) → record { move = mv; flags = u.flags } ≡ latest g u
kept-latest g u e = ap (λ (mv : Move). record { move = mv; flags = u.flags }) e

pub returns-in-Err : goal.returns-in-Err
returns-in-Err c =
    let s = record_in c.args.session in let f = c.in-Err.refusal in let v = take-by-kept s _ _ _ ∙ refused-is _ f _ (sym c.judge_take_back-judged.ensures.answer ∙ c.in-Err.is) in
    take_meets s _ _ _ (refused f.number f.place) _ v refl refl refl refl refl refl

pub latest_of-mv-requires : goal.latest_of-mv-requires
latest_of-mv-requires c =
    let k = found (record_in c.args.session) _ _ _ c.judge_take_back-judged.ensures c.in-Ok.is refl in
    record { room = record { few = k.few; in-sizes = k.in-sizes; in-vars = k.in-vars; in-values = k.in-values } }

pub fill_keep-evaluations-requires-clause-keep_accepted : goal.fill_keep-evaluations-requires-clause-keep_accepted
fill_keep-evaluations-requires-clause-keep_accepted c =
    let s = record_in c.args.session in let v = passed s _ _ _ c.judge_take_back-judged.ensures c.in-Ok.is in
    taking-of s _ _ _ v _ (kept-latest (log_in c.args.log_sizes.now c.args.log_vars.now c.args.log_values.now) (to_take c.args.flags.now) c.latest_of-mv.ensures)

pub fill_keep-evaluations-requires-clause-makers : goal.fill_keep-evaluations-requires-clause-makers
fill_keep-evaluations-requires-clause-makers c = front (record_in c.args.session) _ _ _ c.judge_take_back-judged.ensures c.in-Ok.is

pub fill_keep-evaluations-requires-clause-closing : goal.fill_keep-evaluations-requires-clause-closing
fill_keep-evaluations-requires-clause-closing c = closing (record_in c.args.session) _ _ _ c.judge_take_back-judged.ensures c.in-Ok.is

pub note_reasons-requires : goal.note_reasons-requires
note_reasons-requires c =
    let s = record_in c.args.session in let j = c.judge_take_back-judged.ensures in let v = passed s _ _ _ j c.in-Ok.is in let f = c.fill_keep-evaluations.ensures in
    let k = (take-known s _ _ _ v).model in let ready = taking-of s _ _ _ v _ refl in record {
      sound = k.sound;
      room = (filled-long c.args.tables.now.n _ c.args.stored.now _ f.stored_is ready.in-stored, filled-long c.args.tables.now.n _ c.args.flags.now _ f.flags-are ready.in-flags, k.reasons-long);
      makers = front s _ _ _ j c.in-Ok.is;
    }

pub drop_move-requires : goal.drop_move-requires
drop_move-requires c = let k = (found (record_in c.args.session) _ _ _ c.judge_take_back-judged.ensures c.in-Ok.is refl).in-sizes in omega arith

pub blanks_among-blanks-requires : goal.blanks_among-blanks-requires
blanks_among-blanks-requires c =
    let s = record_in c.args.session in let v = passed s _ _ _ c.judge_take_back-judged.ensures c.in-Ok.is in let k = (take-known s _ _ _ v).model in
    (filled-long _ _ _ _ c.fill_keep-evaluations.ensures.stored_is k.stored-long, (sized-facts _ k.sound.sized).n-most)

pub returns : goal.returns
returns c =
    let s = record_in c.args.session in let v = passed s _ _ _ c.judge_take_back-judged.ensures c.in-Ok.is in
    let a = latest (log_in c.args.log_sizes.now c.args.log_vars.now c.args.log_values.now) (to_take c.args.flags.now) in let k = take-known s _ _ _ v in
    let f = filled-same (kept-latest (log_in c.args.log_sizes.now c.args.log_vars.now c.args.log_values.now) (to_take c.args.flags.now) c.latest_of-mv.ensures) c.fill_keep-evaluations.ensures in
    take-met s _ _ _ _ _ _ _ _ _ _ v f c.kept_once_less.ensures c.blanks_among-blanks.ensures
    (moved-given _ k.model.sound _ a (model-meets _ k.model k.fresh _ k.determined input-to-output) _ f.stored_is _ f.flags-are c.args.reasons.now _ c.note_reasons.ensures)
    (ap (λ sizes. log_in sizes c.args.log_vars.now c.args.log_values.now) c.drop_move.ensures)
