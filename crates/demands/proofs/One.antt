-- Demand 1, each call by the law of its table: the verdict is by the table's lines, the paper says what a refusal leaves, and the
-- contract carries both to the outcome. Assumes nothing.
use mathlib.Core.Path.{◌≡◌, refl, ap, sym, ◌∙◌}
use Rattle.std.specs.Prelude.{ℕ, Result, Ok, Err}
use Rattle.paper.specs.Lists.{size}
use Rattle.paper.specs.Checks.{pairs_of_move}
use Rattle.paper.specs.Log.{Log}
use Rattle.paper.specs.Calls.{Session, Answer, Accepted, Refused, evaluates, BuildLent, BuildLeft, build_lines, build_verdict, build_as_was, Model, stored_values, TrialLent, TrialLeft, asked_list, route_of, trial_lines, trial_verdict, trial_as_was, KeepLent, KeepLeft, kept_count, keep_as_was, keep_lines, keep_verdict, latest, TakeLent, take_lines, take_verdict}
use Rattle.paper.proofs.Outcomes.{build-judged, trial-judged, keep-judged, take-judged}
use Rattle.tables.specs.Answers.{refusal}
use Rattle.tables.specs.declared.Refusal as code-refusal
use Rattle.records.specs.Left.{record_in, answer_in}
use Rattle.records.specs.declared.Session as code-session
use Rattle.records.specs.declared.Done.{Done}
use Rattle.records.specs.Stated.{BuildOutcome, left_built, TrialOutcome, left_tried, KeepOutcome, left_kept, TakeOutcome, left_taken}
use Rattle.demands.specs.Refusals.{Works}
use Rattle.demands.specs.Demands.{Demand1}
use Rattle.demands.proofs.Files as files
use Rattle.demands.proofs.Judged.{call-works}

-- ── what demand 1 says of each call ──
abbrev pub BuildWorks : (l : BuildLent) → BuildLeft → Type 0
BuildWorks l = Works (build_lines l) l.tables.m (λ x. x.answer) (λ x. build_as_was l x.answer)

abbrev pub TrialWorks : Session → (w : Model) (c : TrialLent) → TrialLeft → Type 0
TrialWorks s w c = let t = w.tables in
    Works (trial_lines s w c) (size (evaluates t (stored_values w) (route_of c.route) (pairs_of_move c.move) (asked_list c)) t.n) (λ x. x.answer) (λ x. trial_as_was s c x.answer)

abbrev pub KeepWorks : (s : Session) (g : Log) (w : Model) (c : KeepLent) → KeepLeft → Type 0
KeepWorks s g w c = Works (keep_lines s g w c) (kept_count w.tables w.stored c) (λ x. x.answer) (λ x. keep_as_was s g w c.flags x.answer)

abbrev pub TakeWorks : (s : Session) (g : Log) (w : Model) (c : TakeLent) → KeepLeft → Type 0
TakeWorks s g w c = Works (take_lines s g w c) (kept_count w.tables w.stored (latest g c)) (λ x. x.answer) (λ x. keep_as_was s g w c.flags x.answer)

-- ── build, trial, keep and taking back ──
pub build-works : (l : BuildLent) (o : BuildOutcome l) → BuildWorks l (left_built o)
unfolding build_verdict
build-works l o = call-works (build_lines l) (left_built o) _ (build-judged l) refl refl refl o.stated

pub trial-works : (s : Session) (w : Model) (c : TrialLent) (o : TrialOutcome s w c) → TrialWorks s w c (left_tried o)
unfolding trial_verdict
trial-works s w c o = call-works (trial_lines s w c) (left_tried o) _ (trial-judged s w c) refl refl refl o.stated

module _ (s : Session) (g : Log) (w : Model) where
  pub keep-works : (c : KeepLent) (o : KeepOutcome s g w c) → KeepWorks s g w c (left_kept o)
  unfolding keep_verdict
  keep-works c o = call-works (keep_lines s g w c) (left_kept o) _ (keep-judged s g w c) refl refl refl o.stated

  pub take-works : (c : TakeLent) (o : TakeOutcome s g w c) → TakeWorks s g w c (left_taken o)
  unfolding take_verdict
  take-works c o = call-works (take_lines s g w c) (left_taken o) _ (take-judged s g w c) refl refl refl o.stated

-- ── the code's answer from what is left ──
abbrev answer_by : Answer → Result ℕ code-refusal.Refusal
answer_by (Accepted evaluations) = Ok evaluations
answer_by (Refused number place) = Err (refusal number place)

answer-is : (r : Result ℕ code-refusal.Refusal) → answer_by (answer_in r) ≡ r
answer-is (Ok evaluations) = refl
answer-is (Err refusal) = refl

pub one_answer : {r r' : Result ℕ code-refusal.Refusal} → answer_in r ≡ answer_in r' → r ≡ r'
one_answer {r} {r'} e = sym (answer-is r) ∙ ap answer_by e ∙ answer-is r'

pub one-record : {s s' : code-session.Session} → record_in s ≡ record_in s' → s ≡ s'
one-record e = λ i. record { kept = (e i).kept; evaluations = (e i).evaluations; blanks = (e i).blanks }

one-done : {d d' : Done} → answer_in d.answer ≡ answer_in d'.answer → record_in d.session ≡ record_in d'.session → d ≡ d'
one-done a s = let x = one_answer a in let y = one-record s in λ i. record { answer = x i; session = y i }

-- ── the demand ──
pub demand1 : Demand1
demand1 = record {
  build-numbers = λ l. refl;
  trial-numbers = λ s w c. refl;
  keep-numbers = λ s g w c. refl;
  take-numbers = λ s g w c. refl;
  move-numbers = λ from to bytes lent. refl;
  build = build-works;
  trial = trial-works;
  keep = keep-works;
  take_back = take-works;
  write = files.write-works;
  read = files.read-works;
  move = files.move-works;
  build-one = λ l o o'. let e = o.stated ∙ sym o'.stated in (one-done (ap (λ (x : BuildLeft). x.answer) e) (ap (λ (x : BuildLeft). x.session) e), e);
  trial-one = λ s w c o o'. let e = o.stated ∙ sym o'.stated in (one-done (ap (λ (x : TrialLeft). x.answer) e) (ap (λ (x : TrialLeft). x.session) e), e);
  keep_one = λ s g w c o o'. let e = o.stated ∙ sym o'.stated in (one-done (ap (λ (x : KeepLeft). x.answer) e) (ap (λ (x : KeepLeft). x.session) e), e);
  take-one = λ s g w c o o'. let e = o.stated ∙ sym o'.stated in (one-done (ap (λ (x : KeepLeft). x.answer) e) (ap (λ (x : KeepLeft). x.session) e), e);
  write-one = files.write-one;
  read_one = files.read_one;
  move-one = files.move-one;
}
