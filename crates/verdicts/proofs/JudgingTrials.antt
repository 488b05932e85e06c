-- How the verdict of a trial over a judged model comes out: it fits if the model and what the move is lent fit, and past that the model's checks were passed once. Assumes nothing.
use Prim.Native.Nat.{ℕ, ◌≤◌}
use mathlib.Core.Bool.{Bool, true, false, ◌&&◌}
use mathlib.Core.List.{List}
use mathlib.Core.Path.{◌≡◌, refl, ap, ap₂, ◌∙◌}
use lib.ListN.{length}
use borrow.Author.Tests.{leb-true}
use Rattle.paper.specs.Lists.{every, between}
use Rattle.paper.specs.Tables.{Tables}
use Rattle.paper.specs.Chains.{closes}
use Rattle.paper.specs.Checks.{Verdict, accepted, Sound, fresh_lines, by_lines}
use Rattle.paper.specs.Calls.{Model, stored_values, model_fits, TrialLent, trial_fits, trial_verdict}
use Rattle.paper.proofs.Lists.{each}
use Rattle.paper.proofs.Verdicts.{Chain, require-rest}
use Rattle.std.specs.Prelude.{Result, Ok, Err}
use Rattle.tables.specs.Answers.{refusal, answer_of}
use Rattle.tables.specs.Makers.{Makers}
use Rattle.tables.specs.declared.Refusal.{Refusal}
use Rattle.checks.specs.Allowed.{OfMakers}
use Rattle.rows.specs.Put.{PairsFit}
use Rattle.verdicts.specs.Chains.{ask_checks}
use Rattle.verdicts.specs.Lent.{move_own_fits}
use Rattle.verdicts.specs.ModelJudged.{ModelJudged, OnceJudged, CallJudged}
use Rattle.verdicts.proofs.Chains.{ask-then}
use Rattle.verdicts.proofs.ModelJudging.{model-fitting}
use Rattle.verdicts.proofs.JudgingMoves.{pairs-fit, model-makers, model-sound, model-closing, move-ready, call-stops-1, call-stops, call-stops-2, call-stops-3, call-passed, call-last}

and_no : (b : Bool) → (b && false) ≡ false
and_no true = refl
and_no false = refl

-- ── check 1: the model's part and the move's ──
module _ (w : Model) (c : TrialLent) where
  both-fit : model_fits w ≡ true → move_own_fits w.tables.n c ≡ true → trial_fits w c ≡ true
  unfolding every
  both-fit p q = ap₂ ◌&&◌ p q

  own-unfit : move_own_fits w.tables.n c ≡ false → trial_fits w c ≡ false
  unfolding every
  own-unfit q = ap (model_fits w &&◌) q ∙ and_no (model_fits w)

  model-unfit : model_fits w ≡ false → trial_fits w c ≡ false
  unfolding every
  model-unfit p = ap (◌&& move_own_fits w.tables.n c) p

module _ (blanks : ℕ) (w : Model) (c : TrialLent) where
  abbrev verdict : Verdict
  verdict = trial_verdict (record { kept = 0; evaluations = 0; blanks = blanks }) w c

  -- checks 9 to 13
  abbrev rest : Tables → Verdict → Verdict
  rest = λ u. ask_checks c u w.bounds

  chain : (u : Tables) → Chain (rest u)
  chain u = ask-then w.bounds u c

  pub stops-unfit : (by : List ℕ) (f : Refusal) → f ≡ refusal 1 0 → move_own_fits w.tables.n c ≡ false → CallJudged verdict w.tables by (Err f)
  unfolding trial_verdict
  stops-unfit by f e h = call-stops-1 w blanks (trial_fits w c) rest chain c.move by f e (own-unfit w c h)

  module _ (own : move_own_fits w.tables.n c ≡ true) (by : List ℕ) (r : Result Bool Refusal) (once : OnceJudged w blanks by r) where
    abbrev Outcome : Result Bool Refusal → Type 0
    Outcome = CallJudged verdict w.tables by

    -- the model was refused
    pub stops-model : {z : Result Bool Refusal} (f : Refusal) → z ≡ Err f → r ≡ Err f → Outcome z
    unfolding trial_verdict
    stops-model {z} f q e = go (model_fits w) refl
      where
        go : (b : Bool) → model_fits w ≡ b → Outcome z
        go true p = call-stops w blanks (trial_fits w c) rest chain c.move (both-fit w c p own) by r (once.fit p) f q e
        go false p =
            let u = once.unfit p in let is : f ≡ refusal 1 0 = cc in
            rw q (call-stops-1 w blanks (trial_fits w c) rest chain c.move by f is (model-unfit w c p))

    -- the model was accepted
    module _ (closed : Bool) (e : r ≡ Ok closed) where
      fitting : model_fits w ≡ true
      fitting = go (model_fits w) refl
        where
          go : (b : Bool) → model_fits w ≡ b → model_fits w ≡ true
          go true p = p
          go false p = let u = once.unfit p in absurd (cc)

      judged : ModelJudged w blanks by r
      judged = once.fit fitting

      fit : trial_fits w c ≡ true
      fit = both-fit w c fitting own

      pub ask-ready : ((w.tables.n ≤ length by) × (c.move.pairs ≤ 64) × (c.move.pairs ≤ length c.move.vars) × (c.move.pairs ≤ length c.move.values)) × ((c.asked ≤ 32) × (c.asked ≤ length c.asked_vars))
      ask-ready = let f = each _ own in (move-ready w blanks by r judged closed e c.move f.0, (leb-true _ _ f.1.0, leb-true _ _ f.1.1.0))

      module _ (a : Result Unit Refusal) (of : OfMakers w.tables.n by (λ u. a ≡ answer_of tt (rest u accepted))) where
        pub stops-asked : {z : Result Bool Refusal} (f : Refusal) → z ≡ Err f → a ≡ Err f → Outcome z
        unfolding trial_verdict
        stops-asked f z q = call-stops-2 w blanks (trial_fits w c) rest chain c.move fit by r judged closed e a of f z q

        module _ (k : Unit) (q : a ≡ Ok k) where
          -- what the checks of fresh values ask
          pub record FreshReady : Type 0 where
            pub sound : Sound w.tables
            pub makers : Makers w.tables by
            pub closing : closed ≡ closes w.tables
            pub there : w.tables.n ≤ length w.stored
            pub fits : PairsFit w.tables.n c.move

          pub fresh-ready : FreshReady
          fresh-ready =
              let passed = call-passed w blanks (trial_fits w c) rest chain c.move fit by r judged closed e a of k q in record {
                sound = model-sound w blanks by r judged closed e;
                makers = model-makers w blanks by r judged closed e;
                closing = model-closing w blanks by r judged closed e;
                there = (model-fitting w blanks fitting).stored;
                fits = pairs-fit w.tables w.bounds c.move _ (each _ own).0 (require-rest 9 0 (between 1 c.route 3) _ passed);
              }

          module _ (z : Result Unit Refusal) (h : z ≡ answer_of tt (by_lines (fresh_lines c.move w.tables (stored_values w)) accepted)) where
            pub stops-fresh : {y : Result Bool Refusal} (f : Refusal) → y ≡ Err f → z ≡ Err f → Outcome y
            unfolding trial_verdict
            stops-fresh f y p = call-stops-3 w blanks (trial_fits w c) rest chain c.move fit by r judged closed e a of k q z h f y p

            pub fresh-decides : (u : Unit) → z ≡ Ok u → Outcome (Ok closed)
            unfolding trial_verdict
            fresh-decides u p = call-last w blanks (trial_fits w c) rest chain c.move fit by r judged closed e a of k q z h u p
