-- The calls by their verdicts: the answer's number is 0 exactly if the verdict is acceptance, a refused call leaves everything as it was, and a
-- program meets a call's equation by its verdict and field by field. Assumes nothing.
use Prim.Native.Nat.{ℕ, suc, pred}
use native.Mathlib.Omega.{arith}
use mathlib.Core.Bool.{Bool, true, false, cond, not, ◌&&◌, ◌||◌}
use mathlib.Core.Path.{◌≡◌, refl, ap, sym, ◌∙◌}
use lib.Dec.{eqb, leb, ltb}
use lib.ListN.{take}
use Rattle.paper.specs.Lists.{between, total, nat, first_fail}
use Rattle.paper.specs.Net.{Values, moved}
use Rattle.paper.specs.Tables.{Tables}
use Rattle.paper.specs.Chains.{permitted, determined, groups_numbered, stored_fresh}
use Rattle.paper.specs.Checks.{Verdict, accepted, refused, check, require, Bounds, kind_good, shape_good, number_good, bounds_good, made_once, table_lines, start_allowed, stored_allowed, indexed, Move, pairs_of_move, movable, named_once, has_value, pair_within, fresh_lines, by_lines, move_lines}
use Rattle.paper.specs.Log.{Log, logged, log_good}
use Rattle.paper.specs.Calls.{Session, blanks_among, Answer, number_of, BuildLent, BuildLeft, build_fits, start_values, build_verdict, build_leaves, build, Model, stored_values, model_lines, TrialLent, TrialLeft, trial_fits, trial_verdict, trial_leaves, trial, KeepLent, KeepLeft, keep_fits, keep_verdict, keep_leaves, keep, latest, TakeLent, take_fits, take_verdict, take_leaves, take_back, build_as_was, trial_as_was, keep_as_was}
use Rattle.paper.proofs.Verdicts.{refused-not}

-- build gives 1 to 7 and 20; trial all of 1 to 13 but 6, 17 and 19 to 21; keep the same except 9 and 13, and 16; taking back 1 to 8 but 6, 15, 16 and 19 to 21
abbrev pub build_number : ℕ → Bool
build_number code = leb code 7 || eqb code 20

abbrev pub trial_number : ℕ → Bool
trial_number code = (leb code 13 && not (eqb code 6)) || eqb code 17 || between 19 code 21

abbrev pub keep_number : ℕ → Bool
keep_number code = (leb code 12 && not (eqb code 6) && not (eqb code 9)) || eqb code 16 || eqb code 17 || between 19 code 21

abbrev pub take_number : ℕ → Bool
take_number code = (leb code 8 && not (eqb code 6)) || eqb code 15 || eqb code 16 || between 19 code 21

-- ── which numbers a verdict gives: never 0 if it refuses ──
data Gives (ok : ℕ → Bool) : Verdict → Type 0 where
  passed : Gives ok accepted
  stopped : {code place : ℕ} → ok (suc code) ≡ true → Gives ok (refused (suc code) place)

module _ (ok : ℕ → Bool) where
  fails : (code bound : ℕ) (good : ℕ → Bool) {next : Verdict} → ok (suc code) ≡ true → Gives ok next → Gives ok (check (suc code) bound good next)
  fails code bound good {next} o h = go (ltb (first_fail good bound) bound)
    where
      go : (b : Bool) → Gives ok (cond b (refused (suc code) (first_fail good bound)) next)
      go true = stopped o
      go false = h

  lacks : (code place : ℕ) (good : Bool) {next : Verdict} → ok (suc code) ≡ true → Gives ok next → Gives ok (require (suc code) place good next)
  lacks code place true o h = h
  lacks code place false o h = stopped o

  tables-give : (t : Tables) (b : Bounds) {next : Verdict} → ok 2 ≡ true → ok 3 ≡ true → ok 4 ≡ true → ok 5 ≡ true → Gives ok next → Gives ok (by_lines (table_lines t b) next)
  tables-give t b o₂ o₃ o₄ o₅ h =
      fails 1 t.m (kind_good t) o₂ (fails 2 t.m (shape_good t) o₃
      (lacks 2 (pred t.m) (eqb (total (take t.m t.counts)) t.e) o₃ (fails 3 t.m (number_good t) o₄ (fails 3 t.n (bounds_good t b) o₄ (fails 4 t.m (made_once t) o₅ h)))))

build-gives : (l : BuildLent) → Gives build_number (build_verdict l)
unfolding build_verdict
build-gives l = let t = l.tables in let ok = build_number in
    lacks ok 0 0 (build_fits l) refl (tables-give ok t l.bounds refl refl refl refl (fails ok 5 t.n (permitted t) refl (fails ok 6 t.n (start_allowed t l.bounds (start_values l)) refl
    (fails ok 19 t.n (determined t (start_values l)) refl passed))))

-- trial, keep and taking back: the same checks of model and move
module _ (ok : ℕ → Bool) where
  model-gives : (w : Model) (blanks : ℕ) {next : Verdict} → ok 2 ≡ true → ok 3 ≡ true → ok 4 ≡ true → ok 5 ≡ true → ok 8 ≡ true → ok 19 ≡ true → ok 7 ≡ true → Gives ok next → Gives ok (by_lines (model_lines w blanks) next)
  model-gives w blanks o₂ o₃ o₄ o₅ o₈ o₁₉ o₇ h = let t = w.tables in
      tables-give ok t w.bounds o₂ o₃ o₄ o₅ (lacks ok 7 0 (groups_numbered t w.numbers w.order) o₈ (lacks ok 7 0 (indexed t w.index) o₈
      (lacks ok 18 0 (eqb blanks (blanks_among t.n (stored_values w))) o₁₉ (fails ok 6 t.n (stored_allowed t w.bounds (stored_values w)) o₇ h))))

  move_gives : (w : Model) (mv : Move) {next : Verdict} → ok 10 ≡ true → ok 11 ≡ true → ok 12 ≡ true → ok 17 ≡ true → Gives ok next → Gives ok (by_lines (move_lines mv w.tables w.bounds) next)
  move_gives w mv o₁₀ o₁₁ o₁₂ o₁₇ h =
      fails ok 9 mv.pairs (movable mv w.tables) o₁₀ (fails ok 10 mv.pairs (named_once mv) o₁₁ (fails ok 11 mv.pairs (has_value mv) o₁₂
      (fails ok 16 mv.pairs (pair_within mv w.bounds) o₁₇ h)))

  fresh_gives : (t : Tables) (old : Values) (mv : Move) → ok 20 ≡ true → ok 21 ≡ true → Gives ok (by_lines (fresh_lines mv t old) accepted)
  fresh_gives t old mv o₂₀ o₂₁ = fails ok 20 t.n (stored_fresh t old) o₂₁ (fails ok 19 t.n (determined t (moved (pairs_of_move mv) old)) o₂₀ passed)

trial-gives : (s : Session) (w : Model) (c : TrialLent) → Gives trial_number (trial_verdict s w c)
unfolding trial_verdict
trial-gives s w c = let ok = trial_number in
    lacks ok 0 0 (trial_fits w c) refl (model-gives ok w s.blanks refl refl refl refl refl refl refl (lacks ok 8 0 (between 1 c.route 3) refl
    (move_gives ok w c.move refl refl refl refl (fails ok 12 c.asked (λ i. ltb (nat c.asked_vars i) w.tables.n) refl
    (fresh_gives ok w.tables (stored_values w) c.move refl refl)))))

keep-gives : (s : Session) (l : Log) (w : Model) (c : KeepLent) → Gives keep_number (keep_verdict s l w c)
unfolding keep_verdict
keep-gives s l w c = let ok = keep_number in
    lacks ok 0 0 (keep_fits l w c) refl (model-gives ok w s.blanks refl refl refl refl refl refl refl
    (move_gives ok w c.move refl refl refl refl (lacks ok 15 0 (log_good l w.tables w.bounds s.kept) refl
    (fresh_gives ok w.tables (stored_values w) c.move refl refl))))

take_gives : (s : Session) (l : Log) (w : Model) (c : TakeLent) → Gives take_number (take_verdict s l w c)
unfolding take_verdict
take_gives s l w c = let ok = take_number in
    lacks ok 0 0 (take_fits l w c) refl (model-gives ok w s.blanks refl refl refl refl refl refl refl
    (lacks ok 15 0 (log_good l w.tables w.bounds s.kept) refl (lacks ok 14 0 (ltb 0 (logged l)) refl
    (fresh_gives ok w.tables (stored_values w) (latest l c).move refl refl))))

-- ── what holds of every call: x is what it leaves, by its verdict v ──
pub record Judged {Left : Type 0} (answer : Left → Answer) (left : Verdict → Left) (as_was : Answer → Left) (ok : ℕ → Bool) (v : Verdict) (x : Left) : Type 0 where
  -- the verdict says what it leaves
  pub is : (u : Verdict) → v ≡ u → x ≡ left u
  -- 0 is given exactly if it is acceptance, and only numbers of the call's own
  pub good : number_of (answer x) ≡ 0 → v ≡ accepted
  pub zero : v ≡ accepted → number_of (answer x) ≡ 0
  pub given : ok (number_of (answer x)) ≡ true
  -- refused: everything is as it was
  pub as-was : (number_of (answer x) ≡ 0 → ⊥) → x ≡ as_was (answer x)

judge : {Left : Type 0} (answer : Left → Answer) (left : Verdict → Left) (as_was : Answer → Left) (ok : ℕ → Bool) (v : Verdict) → ok 0 ≡ true → Gives ok v
    → number_of (answer (left accepted)) ≡ 0 → ((code place : ℕ) → number_of (answer (left (refused code place))) ≡ code)
    → ((code place : ℕ) → left (refused code place) ≡ as_was (answer (left (refused code place)))) → Judged answer left as_was ok v (left v)
judge answer left as_was ok accepted o₀ passed zero number same = record {
  is = λ u e. ap left e;
  good = λ e. refl;
  zero = λ e. zero;
  given = ap ok zero ∙ o₀;
  as-was = λ wrong. absurd (wrong zero);
}
judge answer left as_was ok (refused (suc code) place) o₀ (stopped o) zero number same = record {
  is = λ u e. ap left e;
  good = λ e. let n = number (suc code) place in absurd (omega arith);
  zero = λ e. refused-not e;
  given = ap ok (number (suc code) place) ∙ o;
  as-was = λ wrong. same (suc code) place;
}
judge {Left = Left} answer left as_was ok (refused Prim.Native.Nat.zero place) o₀ x7 zero number same = elim x7 [ ]

-- ── each call ──
pub build-judged : (l : BuildLent) → Judged (λ (x : BuildLeft). x.answer) (build_leaves l) (build_as_was l) build_number (build_verdict l) (build l)
unfolding build
build-judged l = judge (λ (x : BuildLeft). x.answer) (build_leaves l) (build_as_was l) build_number (build_verdict l) refl (build-gives l) refl (λ code place. refl) (λ code place. refl)

pub trial-judged : (s : Session) (w : Model) (c : TrialLent) → Judged (λ (x : TrialLeft). x.answer) (trial_leaves w c s) (trial_as_was s c) trial_number (trial_verdict s w c) (trial s w c)
unfolding trial
trial-judged s w c = judge (λ (x : TrialLeft). x.answer) (trial_leaves w c s) (trial_as_was s c) trial_number (trial_verdict s w c) refl (trial-gives s w c) refl (λ code place. refl) (λ code place. refl)

module _ (s : Session) (l : Log) (w : Model) where
  pub keep-judged : (c : KeepLent) → Judged (λ (x : KeepLeft). x.answer) (keep_leaves s l w c) (keep_as_was s l w c.flags) keep_number (keep_verdict s l w c) (keep s l w c)
  unfolding keep
  keep-judged c =
      judge (λ (x : KeepLeft). x.answer) (keep_leaves s l w c) (keep_as_was s l w c.flags) keep_number (keep_verdict s l w c) refl (keep-gives s l w c) refl (λ code place. refl) (λ code place. refl)

  pub take-judged : (c : TakeLent) → Judged (λ (x : KeepLeft). x.answer) (take_leaves s l w c) (keep_as_was s l w c.flags) take_number (take_verdict s l w c) (take_back s l w c)
  unfolding take_back
  take-judged c =
      judge (λ (x : KeepLeft). x.answer) (take_leaves s l w c) (keep_as_was s l w c.flags) take_number (take_verdict s l w c) refl (take_gives s l w c) refl (λ code place. refl) (λ code place. refl)

-- ── how a program meets a call's equation: by its verdict, and field by field ──
pub build-meets : (l : BuildLent) (x : BuildLeft) (v : Verdict) → build_verdict l ≡ v
    → x.answer ≡ (build_leaves l v).answer → x.session ≡ (build_leaves l v).session → x.numbers ≡ (build_leaves l v).numbers
    → x.order ≡ (build_leaves l v).order → x.stored ≡ (build_leaves l v).stored → x.index ≡ (build_leaves l v).index
    → x.reasons ≡ (build_leaves l v).reasons → x.log_sizes ≡ (build_leaves l v).log_sizes → x ≡ build l
build-meets l x v e a s n o w k y g = (λ i. record { answer = a i; session = s i; numbers = n i; order = o i; stored = w i; index = k i; reasons = y i; log_sizes = g i }) ∙ sym ((build-judged l).is v e)

pub trial-meets : (s : Session) (w : Model) (c : TrialLent) (x : TrialLeft) (v : Verdict) → trial_verdict s w c ≡ v
    → x.answer ≡ (trial_leaves w c s v).answer → x.session ≡ (trial_leaves w c s v).session → x.results ≡ (trial_leaves w c s v).results
    → x.trial ≡ (trial_leaves w c s v).trial → x.flags ≡ (trial_leaves w c s v).flags → x.why ≡ (trial_leaves w c s v).why → x ≡ trial s w c
trial-meets s w c x v e a z r t f y = (λ i. record { answer = a i; session = z i; results = r i; trial = t i; flags = f i; why = y i }) ∙ sym ((trial-judged s w c).is v e)

-- of keep and taking back
same_left : (x y : KeepLeft) → x.answer ≡ y.answer → x.session ≡ y.session → x.stored ≡ y.stored → x.reasons ≡ y.reasons → x.flags ≡ y.flags → x.log ≡ y.log → x ≡ y
same_left x y a z t r f g = λ i. record { answer = a i; session = z i; stored = t i; reasons = r i; flags = f i; log = g i }

module _ (s : Session) (l : Log) (w : Model) (x : KeepLeft) (v : Verdict) where
  pub keep_meets : (c : KeepLent) → keep_verdict s l w c ≡ v
      → x.answer ≡ (keep_leaves s l w c v).answer → x.session ≡ (keep_leaves s l w c v).session → x.stored ≡ (keep_leaves s l w c v).stored
      → x.reasons ≡ (keep_leaves s l w c v).reasons → x.flags ≡ (keep_leaves s l w c v).flags → x.log ≡ (keep_leaves s l w c v).log → x ≡ keep s l w c
  keep_meets c e a z t r f g = same_left x (keep_leaves s l w c v) a z t r f g ∙ sym ((keep-judged s l w c).is v e)

  pub take_meets : (c : TakeLent) → take_verdict s l w c ≡ v
      → x.answer ≡ (take_leaves s l w c v).answer → x.session ≡ (take_leaves s l w c v).session → x.stored ≡ (take_leaves s l w c v).stored
      → x.reasons ≡ (take_leaves s l w c v).reasons → x.flags ≡ (take_leaves s l w c v).flags → x.log ≡ (take_leaves s l w c v).log → x ≡ take_back s l w c
  take_meets c e a z t r f g = same_left x (take_leaves s l w c v) a z t r f g ∙ sym ((take-judged s l w c).is v e)
