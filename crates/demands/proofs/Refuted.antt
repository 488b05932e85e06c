-- Each wrong call differs from what a demand says an outcome is, at a place that its theorem names. Assumes nothing.
use Prim.Native.Nat.{ℕ, ◌<◌}
use native.Mathlib.Omega.{arith}
use mathlib.Core.List.{List}
use mathlib.Core.Path.{◌≡◌, refl, ap, ap₂, sym, ◌∙◌}
use lib.IntN.{ℤ, pos, nat_abs}
use lib.ListN.{get_or}
use lib.Seq.{get_or-take}
use Rattle.paper.specs.Lists.{nat, every, over}
use Rattle.paper.specs.Formula.{formula, looked}
use Rattle.paper.specs.Net.{Values, runs}
use Rattle.paper.specs.Tables.{row_of}
use Rattle.paper.specs.Chains.{group_number, determined}
use Rattle.paper.specs.Checks.{accepted}
use Rattle.paper.specs.Moves.{Moves}
use Rattle.paper.specs.Reason.{reason_of}
use Rattle.paper.specs.Calls.{number_of, BuildLent, BuildLeft, build_verdict, build, TrialLent, TrialLeft, trial_verdict, trial, KeepLent, KeepLeft, keep_verdict, stored_values, keep, latest, TakeLent, take_verdict, take_back}
use Rattle.paper.proofs.Buffers.{over-at}
use Rattle.paper.proofs.Known.{KeepKnown, keep_known, take-known}
use Rattle.paper.proofs.Outcomes.{keep-judged, take-judged}
use Rattle.records.specs.Stated.{BuildOutcome, TrialOutcome, left_tried, KeepOutcome, left_kept, left_taken}
use Rattle.demands.specs.Runs.{State, mine}
use Rattle.demands.specs.Demands.{old, renewed, restored, RunRight}
use Rattle.demands.proofs.One.{demand1}
use Rattle.demands.proofs.Three.{demand3}
use Rattle.demands.proofs.Logs.{noted-value}
use Rattle.demands.proofs.NotAllowed.{move_to, six_flags, tried_first, kept_first, kept_next, taken_next, Kept-first, Kept-next, Taken-next, A, end_to, ask_five, own, old_at, new_at, OfModels, AfterRun, NotAllowed}

module _ {b : BuildLent} (start : BuildOutcome b) where
  first-is : (c : KeepLent) (o : Kept-first start c) → left_kept o ≡ kept_first b (build b) c
  first-is c o = o.stated ∙ ap (λ (x : BuildLeft). kept_first b x c) start.stated

  next-is : (c c' : KeepLent) (o : Kept-first start c) (q : Kept-next start o c') → left_kept q ≡ kept_next b (build b) (kept_first b (build b) c) c'
  next-is c c' o q = q.stated ∙ ap₂ (λ (x : BuildLeft) (y : KeepLeft). kept_next b x y c') start.stated (first-is c o)

  taken_is : (c : KeepLent) (o : Kept-first start c) (c' : TakeLent) (q : Taken-next start o c') → left_taken q ≡ taken_next b (build b) (kept_first b (build b) c) c'
  taken_is c o c' q = q.stated ∙ ap₂ (λ (x : BuildLeft) (y : KeepLeft). taken_next b x y c') start.stated (first-is c o)

of-models : OfModels
unfolding every formula looked runs row_of determined group_number build_verdict build trial_verdict trial keep_verdict keep take_verdict take_back
of-models = record {
  built = λ start. ap (λ (x : BuildLeft). x.answer) start.stated;
  tried = λ start o. ap (λ (x : TrialLeft). x.answer) (o.stated ∙ ap (λ (x : BuildLeft). tried_first A x ask_five) start.stated);
  kept = λ start o. ap (λ (x : KeepLeft). x.answer) (first-is start (end_to 28500) o);
  taken = λ start o q. ap (λ (x : KeepLeft). x.answer) (taken_is start (end_to 28500) o six_flags q);
  in-common = λ start o p q r same.
      let end : ◌≡◌ {A = ℕ} 28801 28500 =
      ap (λ (row : List ℤ). nat_abs (get_or row 1 (pos 0)))
      (sym (ap (λ (x : KeepLeft). x.stored) (next-is start (end_to 28500) (end_to 28801) o q)) ∙ same ∙ ap (λ (x : KeepLeft). x.stored) (next-is start (end_to 28801) (end_to 28500) p r)) in
      omega arith;
  first_alone = λ start o. ap (λ (x : KeepLeft). x.answer) (first-is start (move_to 0 1) o);
  second-alone = λ start o. ap (λ (x : KeepLeft). x.answer) (first-is start (move_to 1 1) o);
  both = λ start o q. ap (λ (x : KeepLeft). x.answer) (next-is start (move_to 0 1) (move_to 1 1) o q);
}

module _ {b : BuildLent} (start : BuildOutcome b) (room : List ℕ × List ℤ) (calls : ℕ) (moves : Moves) (now : State) where
  module _ (right : RunRight start room calls moves now) where
    stored_at : (v : ℕ) → v < b.tables.n → get_or now.stored v (pos 0) ≡ old b moves v
    stored_at v low = ap (λ row. get_or row v (pos 0)) right.stored ∙ over-at (old_at start moves now) b.tables.n b.stored v (pos 0) low

    -- a row with another value at v is not the stored one
    moved_row : (row : List ℤ) (f : Values) → row ≡ over b.tables.n f b.stored → (v : ℕ) → v < b.tables.n → (f v ≡ old b moves v → ⊥) → row ≡ now.stored → ⊥
    moved_row row f is v low moves same = moves (sym (ap (λ l. get_or l v (pos 0)) is ∙ over-at f b.tables.n b.stored v (pos 0) low) ∙ ap (λ l. get_or l v (pos 0)) same ∙ stored_at v low)

    -- a kept move, as it is logged
    module _ (c : KeepLent) (o : KeepOutcome now.session now.log (mine start now) c) (z : number_of (left_kept o).answer ≡ 0) where
      good : keep_verdict now.session now.log (mine start now) c ≡ accepted
      good = (keep-judged now.session now.log (own start moves now) c).good (sym (ap (λ (x : KeepLeft). number_of x.answer) o.stated) ∙ z)

      has : KeepKnown now.session now.log (mine start now) c
      has = keep_known now.session now.log (own start moves now) c good

      logs : (i : ℕ) → i < c.move.pairs → get_or (latest (left_kept o).log (record { flags = c.flags })).move.values i (pos 0) ≡ old b moves (nat c.move.vars i)
      logs i low =
          ap (λ (x : KeepLeft). get_or (latest x.log (record { flags = c.flags })).move.values i (pos 0)) (o.stated ∙ (keep-judged now.session now.log (own start moves now) c).is accepted good)
          ∙ noted-value b.tables b.bounds now.log now.session.kept has.log (stored_values (own start moves now)) c.move has.move i low
          ∙ get_or-take b.tables.n now.stored (nat c.move.vars i) (pos 0) (has.move.low i low) ∙ stored_at (nat c.move.vars i) (has.move.low i low)

    -- an accepted trial's value at a place asked
    result-at : (c : TrialLent) (o : TrialOutcome now.session (mine start now) c) → number_of (left_tried o).answer ≡ 0
        → (i : ℕ) → i < c.asked → get_or o.results i (pos 0) ≡ renewed b moves c.move (nat c.asked_vars i)
    result-at c o z i k =
        ap (λ row. get_or row i (pos 0)) (right.trial-accepted (own start moves now) refl c o z).results ∙ over-at (λ j. renewed b moves c.move (nat c.asked_vars j)) c.asked c.results i (pos 0) k

    after_run : AfterRun start moves now
    after_run = record {
      idle-keep = λ c o z. moved_row o.stored (new_at start moves now o) (right.keep-accepted (own start moves now) refl c o z).stored;
      idle-reasons = λ c o z v low differs same.
          differs (sym (ap (λ row. nat row v) (right.keep-accepted (own start moves now) refl c o z).reasons ∙ over-at (λ u. reason_of b.tables u (new_at start moves now o)) b.tables.n b.reasons v 0 low) ∙ ap (λ row. nat row v) same
          ∙ ap (λ row. nat row v) right.reasons ∙ over-at (λ u. reason_of b.tables u (old_at start moves now)) b.tables.n b.reasons v 0 low);
      idle-take = λ c o z. moved_row o.stored (restored b moves) (right.take-accepted (own start moves now) refl c o z).stored;
      move-left-in = λ c o z same.
          let good = (take-judged now.session now.log (own start moves now) c).good (sym (ap (λ (x : KeepLeft). number_of x.answer) o.stated) ∙ z) in
          let some = (take-known now.session now.log (own start moves now) c good).some in let fewer = (right.take-accepted (own start moves now) refl c o z).fewer in
          omega arith;
      new-logged = λ c o z i low differs same. differs (sym same ∙ logs c o z i low);
      made_up = λ c o z k differs same. differs (sym same ∙ (right.keep-accepted (own start moves now) refl c o z).told.set-size);
      made-up-trial = λ c o z k differs same. differs (sym same ∙ (right.trial-accepted (own start moves now) refl c o z).told.set-size);
      stored-trial = λ c o z i v k is low differs same. differs (sym (result-at c o z i k) ∙ same ∙ stored_at v low);
      same-trial = λ c c' o o' z z' i k k' differs same. differs (sym (result-at c o z i k) ∙ ap (λ row. get_or row i (pos 0)) same ∙ result-at c' o' z' i k');
      zero-results = λ c o z i k differs zero. differs (sym (result-at c o z i k) ∙ zero);
      zero-why = λ c o z i k differs zero.
          differs (sym (ap (λ row. nat row i) (right.trial-accepted (own start moves now) refl c o z).why
          ∙ over-at (λ j. reason_of b.tables (nat c.asked_vars j) (renewed b moves c.move)) c.asked c.why i 0 k) ∙ zero);
    }

pub not-allowed : NotAllowed
not-allowed = record {
  of-models = of-models;
  after_run = λ {b} start room ok calls moves now r. after_run start room calls moves now (demand3.run b start room ok calls moves now r);
  cleared-reasons = λ s g w c o wrong v some zero. some (ap (λ (x : KeepLeft). nat x.reasons v) (sym ((demand1.keep s g w c o).unchanged wrong)) ∙ zero);
}
