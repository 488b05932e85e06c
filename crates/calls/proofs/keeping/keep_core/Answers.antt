-- A refusal has written nothing; an acceptance is met field by field by what `note_move` and then `fill_keep` leave, and by the reasons noted over it. Assumes nothing.
use Prim.Native.Nat.{ℕ}
use mathlib.Core.Bool.{Bool}
use mathlib.Core.List.{List}
use mathlib.Core.Path.{◌≡◌, refl, sym, ◌∙◌}
use lib.ListN.{take}
use Rattle.paper.specs.Net.{input-to-output}
use Rattle.paper.specs.Checks.{accepted, refused}
use Rattle.paper.specs.Log.{Log}
use Rattle.paper.specs.Calls.{Session, Model, KeepLent, keep_verdict}
use Rattle.paper.proofs.Outcomes.{keep_meets}
use Rattle.paper.proofs.Sizes.{sized-facts}
use Rattle.paper.proofs.Known.{model-meets, keep_known}
use Rattle.tables.specs.Makers.{Makers}
use Rattle.std.specs.Prelude.{Result, Ok}
use Rattle.paper.specs.Chains.{closes}
use Rattle.tables.specs.declared.Refusal.{Refusal}
use Rattle.tables.proofs.Answered.{accepted-is, accepted-as, refused-is}
use Rattle.verdicts.specs.Lent.{lent_to_keep}
use Rattle.verdicts.specs.ModelJudged.{CallJudged}
use Rattle.records.specs.Left.{record_in}
use Rattle.fills.proofs.Accepted.{keep-by-kept, keeping-of, named-of, filled-long, keep-met}
use Rattle.fills.proofs.Given.{moved-given}
use Rattle.calls.proofs.Front.{makers-front}
use Rattle.calls.proofs.keeping.keep_core.Goals as goal

-- the judge accepted: as it says by the numbers of moves kept and of blanks, and as the paper does by the whole record
module _ (s : Session) (g : Log) (w : Model) (a : KeepLent) {by : List ℕ} {r : Result Bool Refusal} {closed : Bool}
    (j : CallJudged (keep_verdict (record { kept = s.kept; evaluations = 0; blanks = s.blanks }) g w a) w.tables by r) (is : r ≡ Ok closed) where
  agreed : keep_verdict (record { kept = s.kept; evaluations = 0; blanks = s.blanks }) g w a ≡ accepted
  agreed = accepted-is (closes w.tables) closed _ (sym j.answer ∙ is)

  passed : keep_verdict s g w a ≡ accepted
  passed = keep-by-kept s g w a ∙ agreed

  closing : closed ≡ closes w.tables
  closing = sym (accepted-as (closes w.tables) closed _ (sym j.answer ∙ is))

  front : Makers w.tables (take w.tables.n by)
  front = makers-front w.tables by (j.makers agreed)

pub returns-in-Err : goal.returns-in-Err
returns-in-Err c =
    let s = record_in c.args.session in let f = c.in-Err.refusal in let v = keep-by-kept s _ _ _ ∙ refused-is _ f _ (sym c.judge_keep-judged.ensures.answer ∙ c.in-Err.is) in
    keep_meets s _ _ _ (refused f.number f.place) _ v refl refl refl refl refl refl

pub note_move-requires : goal.note_move-requires
note_move-requires c =
    let s = record_in c.args.session in let v = passed s _ _ _ c.judge_keep-judged.ensures c.in-Ok.is in record {
      fits = (keep_known s _ _ _ v).log.fits;
      named = named-of s _ _ _ v;
    }

pub fill_keep-evaluations-requires-clause-keep_accepted : goal.fill_keep-evaluations-requires-clause-keep_accepted
fill_keep-evaluations-requires-clause-keep_accepted c =
    let s = record_in c.args.session in keeping-of s _ _ _ (passed s _ _ _ c.judge_keep-judged.ensures c.in-Ok.is)

pub fill_keep-evaluations-requires-clause-makers : goal.fill_keep-evaluations-requires-clause-makers
fill_keep-evaluations-requires-clause-makers c = front (record_in c.args.session) _ _ _ c.judge_keep-judged.ensures c.in-Ok.is

pub fill_keep-evaluations-requires-clause-closing : goal.fill_keep-evaluations-requires-clause-closing
fill_keep-evaluations-requires-clause-closing c = closing (record_in c.args.session) _ _ _ c.judge_keep-judged.ensures c.in-Ok.is

pub note_reasons-requires : goal.note_reasons-requires
note_reasons-requires c =
    let s = record_in c.args.session in let j = c.judge_keep-judged.ensures in let v = passed s _ _ _ j c.in-Ok.is in let f = c.fill_keep-evaluations.ensures in
    let k = (keep_known s _ _ _ v).model in let ready = keeping-of s _ _ _ v in record {
      sound = k.sound;
      room = (filled-long c.args.tables.now.n _ c.args.stored.now _ f.stored_is ready.in-stored, filled-long c.args.tables.now.n _ c.args.flags.now _ f.flags-are ready.in-flags, k.reasons-long);
      makers = front s _ _ _ j c.in-Ok.is;
    }

pub blanks_among-blanks-requires : goal.blanks_among-blanks-requires
blanks_among-blanks-requires c =
    let s = record_in c.args.session in let v = passed s _ _ _ c.judge_keep-judged.ensures c.in-Ok.is in let k = (keep_known s _ _ _ v).model in
    (filled-long _ _ _ _ c.fill_keep-evaluations.ensures.stored_is k.stored-long, (sized-facts _ k.sound.sized).n-most)

pub returns : goal.returns
returns c =
    let s = record_in c.args.session in let v = passed s _ _ _ c.judge_keep-judged.ensures c.in-Ok.is in let f = c.fill_keep-evaluations.ensures in
    let a = lent_to_keep c.args.mv.now c.args.flags.now in let k = keep_known s _ _ a v in
    keep-met s _ _ _ _ _ _ _ _ _ a v f c.kept_once_more.ensures c.blanks_among-blanks.ensures
    (moved-given _ k.model.sound _ a (model-meets _ k.model k.fresh _ k.determined input-to-output) _ f.stored_is _ f.flags-are c.args.reasons.now _ c.note_reasons.ensures)
    c.note_move.ensures
