-- What the verdict of a trial over a judged model hands on: once it is accepted, all that the filler and the reasons ask. Assumes nothing.
use Prim.Native.Nat.{ℕ}
use mathlib.Core.Bool.{Bool}
use mathlib.Core.List.{List}
use mathlib.Core.Path.{◌≡◌, sym, ◌∙◌}
use Rattle.std.specs.Prelude.{Result, Ok, Err}
use Rattle.paper.specs.Chains.{closes}
use Rattle.paper.specs.Checks.{accepted, refused}
use Rattle.paper.specs.Calls.{Session, Model, TrialLent, trial_verdict}
use Rattle.paper.proofs.Known.{TrialKnown, trial-known}
use Rattle.tables.specs.Makers.{Makers}
use Rattle.tables.specs.declared.Refusal.{Refusal}
use Rattle.tables.proofs.Answered.{accepted-is, accepted-as, refused-is}
use Rattle.verdicts.specs.ModelJudged.{CallJudged}
use Rattle.fills.proofs.Accepted.{trial-by-blanks}

module _ (s : Session) (w : Model) (q : TrialLent) (by : List ℕ) (r : Result Bool Refusal)
    (judged : CallJudged (trial_verdict (record { kept = 0; evaluations = 0; blanks = s.blanks }) w q) w.tables by r) where
  pub record Handed (closed : Bool) : Type 0 where
    pub passed : trial_verdict s w q ≡ accepted
    pub known : TrialKnown w q
    pub makers : Makers w.tables by
    pub closing : closed ≡ closes w.tables

  pub handed : (closed : Bool) → r ≡ Ok closed → Handed closed
  handed closed e =
      let agreed = accepted-is _ closed _ (sym judged.answer ∙ e) in
      let passed = trial-by-blanks s w q ∙ agreed in
      record { passed = passed; known = trial-known s w q passed; makers = judged.makers agreed; closing = sym (accepted-as _ closed _ (sym judged.answer ∙ e)) }

  pub stopped : (f : Refusal) → r ≡ Err f → trial_verdict s w q ≡ refused f.number f.place
  stopped f e = trial-by-blanks s w q ∙ refused-is _ f _ (sym judged.answer ∙ e)
