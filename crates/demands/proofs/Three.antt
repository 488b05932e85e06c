-- Demand 3: over any run of the public calls' outcomes after an accepted build's, an accepted keep or taking back stands by its own page, every other call leaves what
-- stands, and the next accepted call works over fresh values. Assumes nothing.
use Prim.Native.Nat.{ℕ, suc, pred, min, ◌≤◌, ◌<◌}
use native.Mathlib.Omega.{arith}
use mathlib.Core.Bool.{Bool, true, cond, not, ◌&&◌, ◌||◌}
use mathlib.Core.List.{List, [], ◌∷◌}
use mathlib.Core.Path.{◌≡◌, refl, ap, ap₂, sym, ◌∙◌, subst⁻¹}
use lib.IntN.{ℤ}
use lib.Dec.{eqb, ltb}
use lib.ListN.{length, take}
use borrow.Author.Tests.{leb-true}
use Rattle.integers.specs.Integers.{eq_z}
use Rattle.integers.proofs.Order.{eq_z-self}
use Rattle.paper.specs.Lists.{tally, nat, size, over}
use Rattle.paper.specs.Net.{Values, Route, input-to-output, names}
use Rattle.paper.specs.Tables.{Tables, net, values_in}
use Rattle.paper.specs.Chains.{worth, determined, closes, stored_fresh}
use Rattle.paper.specs.Checks.{Verdict, accepted, refused, sized, pairs_of_move}
use Rattle.paper.specs.Reason.{reason_of}
use Rattle.paper.specs.Log.{Log, log_in, logged, back}
use Rattle.paper.specs.Moves.{Moves, rest, applied}
use Rattle.paper.specs.Calls.{Answer, Refused, number_of, evaluations_of, new_values, evaluates, BuildLent, BuildLeft, start_values, build, Model, up_to_counts, TrialLent, TrialLeft, asked_list, route_of, trial_verdict, trial_leaves, trial, KeepLent, KeepLeft, stored_values, keep_verdict, keep, latest, TakeLent, take_verdict, take_back, keep_as_was}
use Rattle.paper.proofs.Lists.{and_right, or_right, each}
use Rattle.paper.proofs.Buffers.{over-front, over-length, ones_below}
use Rattle.paper.proofs.Sizes.{sized-facts}
use Rattle.paper.proofs.Fresh.{Alike}
use Rattle.paper.proofs.Needs.{search-determined, worth-alike, determined-alike}
use Rattle.paper.proofs.Known.{trial-known}
use Rattle.paper.proofs.Outcomes.{trial-judged, keep-judged, take-judged}
use Rattle.paper.proofs.Log.{undoes-low, dropped-logged, noted-logged}
use Rattle.paper.proofs.UpTo.{trial-up-to, keep-up-to, take-up-to}
use Rattle.records.specs.Stated.{BuildOutcome, left_built, TrialOutcome, left_tried, KeepOutcome, left_kept, TakeOutcome, left_taken}
use Rattle.demands.specs.Runs.{State, Lent, own, another, lent_of, own_after, Lends, model_of, after_trial, passed_on, after_answer, mine, Mine, Own, Run, built, then-trial, then-keep, then-take}
use Rattle.demands.specs.Demands.{fresh, renewed, evaluated_by, Told, TrialFresh, KeepFresh, TakeFresh, RunRight, Demand3}
use Rattle.demands.proofs.Standing.{known, model_with, Stands, Stood, idle, stands-first, old-is, new_is, set_is, why-is, keep-has, keep_left, keep-stands, take-has, take_left, take-stands, take-works}

-- fresh values pass check 21: their search variables are those that they were worked out from
worth-passes : (t : Tables) → 0 < t.n → (s : Values) → ((v : ℕ) → determined t s v ≡ true) → (v : ℕ) → stored_fresh t (worth t s) v ≡ true
worth-passes t some s det v =
    let alike : Alike (net t) (worth t s) s = λ u e. (search-determined t s u some e).1 in
    or_right (not (closes t))
    (ap₂ ◌&&◌ (ap (λ (d : ℕ → Bool). d v) (determined-alike t (worth t s) s alike) ∙ det v)
    (ap (λ (f : Values). eq_z (worth t s v) (f v)) (worth-alike t (worth t s) s alike) ∙ eq_z-self (worth t s v)))

-- what a call leaves as it was lent leaves the session's own as it was
own-left : {A : Type 0} (r : Lent A) (left mine : A) → left ≡ lent_of r mine → own_after r left mine ≡ mine
own-left own left mine e = e
own-left (another other) left mine e = refl

-- so a refused keep or taking back, whatever it was lent, leaves the state
passed-as-was : (now : State) (l : Lends) (g : Lent Log) (flags : List ℕ) (answer : Answer) (left : KeepLeft)
    → left ≡ keep_as_was now.session (lent_of g now.log) (model_of now l) flags answer → passed_on now l g left ≡ now
passed-as-was now l g flags answer left e = λ i. record {
  session = (e i).session;
  stored = own-left l.stored left.stored now.stored (ap (λ (x : KeepLeft). x.stored) e) i;
  reasons = own-left l.reasons left.reasons now.reasons (ap (λ (x : KeepLeft). x.reasons) e) i;
  log = own-left g left.log now.log (ap (λ (x : KeepLeft). x.log) e) i;
}

abbrev tried_number : TrialLeft → ℕ
tried_number x = number_of x.answer

abbrev left_number : KeepLeft → ℕ
left_number x = number_of x.answer

module _ {b : BuildLent} (start : BuildOutcome b) (room : List ℕ × List ℤ) (ok : number_of (left_built start).answer ≡ 0) where
  pub built-ok : number_of (build b).answer ≡ 0
  built-ok = sym (ap (λ (x : BuildLeft). number_of x.answer) start.stated) ∙ ok

  -- the model's own as the paper's build leaves it
  abbrev theirs : State → Model
  theirs now = model_with b built-ok now.stored now.reasons

  mine-is : (now : State) → mine start now ≡ theirs now
  mine-is now = ap (λ (x : BuildLeft). record { tables = b.tables; bounds = b.bounds; numbers = x.numbers; order = x.order; stored = now.stored; index = x.index; reasons = now.reasons }) start.stated

  -- ── accepted calls that were lent the model's own ──
  module _ (now : State) (w : Model) (like : Mine start now w) where
    alike : up_to_counts w ≡ up_to_counts (theirs now)
    alike = like ∙ ap up_to_counts (mine-is now)

    own-trial : (c : TrialLent) (o : TrialOutcome now.session w c) → number_of (left_tried o).answer ≡ 0
        → (trial_verdict now.session (theirs now) c ≡ accepted) × (left_tried o ≡ trial now.session (theirs now) c)
    own-trial c o z =
        let up = trial-up-to now.session w (theirs now) alike c in (sym up.0 ∙ (trial-judged now.session w c).good (sym (ap tried_number o.stated) ∙ z), o.stated ∙ up.1)

    own-keep : (c : KeepLent) (o : KeepOutcome now.session now.log w c) → number_of (left_kept o).answer ≡ 0
        → (keep_verdict now.session now.log (theirs now) c ≡ accepted) × (left_kept o ≡ keep now.session now.log (theirs now) c)
    own-keep c o z =
        let up = keep-up-to now.session w (theirs now) alike now.log c in (sym up.0 ∙ (keep-judged now.session now.log w c).good (sym (ap left_number o.stated) ∙ z), o.stated ∙ up.1)

    own-take : (c : TakeLent) (o : TakeOutcome now.session now.log w c) → number_of (left_taken o).answer ≡ 0
        → (take_verdict now.session now.log (theirs now) c ≡ accepted) × (left_taken o ≡ take_back now.session now.log (theirs now) c)
    own-take c o z =
        let up = take-up-to now.session w (theirs now) alike now.log c in (sym up.0 ∙ (take-judged now.session now.log w c).good (sym (ap left_number o.stated) ∙ z), o.stated ∙ up.1)

  -- ── one more call of a run ──
  module _ (calls : ℕ) (moves : Moves) (now : State) (h : Stood b built-ok now moves calls) where
    abbrev StandsLeft : KeepLeft → Moves → Type 0
    StandsLeft x ms = Stands b built-ok x.session.kept x.session.blanks x.stored x.reasons x.log ms (suc calls)

    abbrev Next : Lends → Lent Log → Moves → KeepLeft → Type 0
    Next l g other x = Stood b built-ok (passed_on now l g x) (after_answer x.answer other moves) (suc calls)

    -- it was accepted, over the session's own rows
    went_on : (l : Lends) (g : Lent Log) (other : Moves) (x : KeepLeft) → l.stored ≡ own → l.reasons ≡ own → g ≡ own → after_answer x.answer other moves ≡ other → StandsLeft x other → Next l g other x
    went_on l g other x s r q a stands =
        subst⁻¹ (λ (z : Lent (List ℤ) × Lent (List ℕ) × Lent Log × Moves).
        Stands b built-ok x.session.kept x.session.blanks (own_after z.0 x.stored now.stored) (own_after z.1 x.reasons now.reasons) (own_after z.2 x.log now.log) z.3 (suc calls))
        (λ i. (s i, r i, q i, a i)) stands

    -- or it was refused
    stayed : (l : Lends) (g : Lent Log) (flags : List ℕ) (other : Moves) (x : KeepLeft) (number place : ℕ)
        → x ≡ keep_as_was now.session (lent_of g now.log) (model_of now l) flags (Refused number place) → Next l g other x
    stayed l g flags other x number place e =
        subst⁻¹ (λ (z : State × Moves). Stood b built-ok z.0 z.1 (suc calls))
        (λ i. (passed-as-was now l g flags (Refused number place) x e i, ap (λ (y : KeepLeft). after_answer y.answer other moves) e i)) (idle b built-ok h)

    then-stands : (l : Lends) (c : TrialLent) (o : TrialOutcome now.session (model_of now l) c) → Stood b built-ok (after_trial now (left_tried o).session) moves (suc calls)
    then-stands l c o = go (trial_verdict now.session (model_of now l) c) refl
      where
        go : (v : Verdict) → trial_verdict now.session (model_of now l) c ≡ v → Stood b built-ok (after_trial now (left_tried o).session) moves (suc calls)
        go v e = subst⁻¹ (λ (x : TrialLeft). Stood b built-ok (after_trial now x.session) moves (suc calls)) (o.stated ∙ (trial-judged now.session (model_of now l) c).is v e) (by v)
          where
            by : (v : Verdict) → Stood b built-ok (after_trial now (trial_leaves (model_of now l) c now.session v).session) moves (suc calls)
            by accepted = idle b built-ok h
            by (refused number place) = idle b built-ok h

    kept-stands : (l : Lends) (g : Lent Log) (c : KeepLent) (o : KeepOutcome now.session (lent_of g now.log) (model_of now l) c) → (number_of (left_kept o).answer ≡ 0 → Own start now l × (g ≡ own))
        → Next l g (pairs_of_move c.move ∷ moves) (left_kept o)
    kept-stands l g c o p = go (keep_verdict now.session (lent_of g now.log) (model_of now l) c) refl
      where
        go : (v : Verdict) → keep_verdict now.session (lent_of g now.log) (model_of now l) c ≡ v → Next l g (pairs_of_move c.move ∷ moves) (left_kept o)
        go accepted e =
            let judged = keep-judged now.session (lent_of g now.log) (model_of now l) c in
            let mine = p (ap left_number o.stated ∙ judged.zero e) in
            let up = keep-up-to now.session (model_of now l) (theirs now) (alike now (model_of now l) mine.0.model) now.log c in
            let good = sym up.0 ∙ ap (λ q. keep_verdict now.session (lent_of q now.log) (model_of now l) c) (sym mine.1) ∙ e in
            let left : left_kept o ≡ keep now.session now.log (theirs now) c =
            o.stated ∙ ap (λ q. keep now.session (lent_of q now.log) (model_of now l) c) mine.1 ∙ up.1 in
            went_on l g (pairs_of_move c.move ∷ moves) (left_kept o) mine.0.stored mine.0.reasons mine.1
            (ap (λ (x : KeepLeft). after_answer x.answer (pairs_of_move c.move ∷ moves) moves) (left ∙ keep_left b built-ok now moves calls h c good))
            (subst⁻¹ (λ (x : KeepLeft). StandsLeft x (pairs_of_move c.move ∷ moves)) left (keep-stands b built-ok now moves calls h c good))
        go (refused number place) e =
            stayed l g c.flags (pairs_of_move c.move ∷ moves) (left_kept o) number place (o.stated ∙ (keep-judged now.session (lent_of g now.log) (model_of now l) c).is (refused number place) e)

    taken-stands : (l : Lends) (g : Lent Log) (c : TakeLent) (o : TakeOutcome now.session (lent_of g now.log) (model_of now l) c) → (number_of (left_taken o).answer ≡ 0 → Own start now l × (g ≡ own))
        → Next l g (rest moves) (left_taken o)
    taken-stands l g c o p = go (take_verdict now.session (lent_of g now.log) (model_of now l) c) refl
      where
        go : (v : Verdict) → take_verdict now.session (lent_of g now.log) (model_of now l) c ≡ v → Next l g (rest moves) (left_taken o)
        go accepted e =
            let judged = take-judged now.session (lent_of g now.log) (model_of now l) c in
            let mine = p (ap left_number o.stated ∙ judged.zero e) in
            let up = take-up-to now.session (model_of now l) (theirs now) (alike now (model_of now l) mine.0.model) now.log c in
            let good = sym up.0 ∙ ap (λ q. take_verdict now.session (lent_of q now.log) (model_of now l) c) (sym mine.1) ∙ e in
            let left : left_taken o ≡ take_back now.session now.log (theirs now) c =
            o.stated ∙ ap (λ q. take_back now.session (lent_of q now.log) (model_of now l) c) mine.1 ∙ up.1 in
            went_on l g (rest moves) (left_taken o) mine.0.stored mine.0.reasons mine.1
            (ap (λ (x : KeepLeft). after_answer x.answer (rest moves) moves) (left ∙ take_left b built-ok now moves calls h c good))
            (subst⁻¹ (λ (x : KeepLeft). StandsLeft x (rest moves)) left (take-stands b built-ok now moves calls h c good))
        go (refused number place) e =
            stayed l g c.flags (rest moves) (left_taken o) number place (o.stated ∙ (take-judged now.session (lent_of g now.log) (model_of now l) c).is (refused number place) e)

  -- ── after every run ──
  pub stood : {calls : ℕ} {moves : Moves} {now : State} → Run start room calls moves now → Stood b built-ok now moves calls
  stood built =
      subst⁻¹ (λ (x : BuildLeft). Stands b built-ok x.session.kept x.session.blanks x.stored x.reasons (log_in x.log_sizes room.0 room.1) [] 0) start.stated (stands-first b built-ok room)
  stood (then-trial {k} {ms} {now} r l c o) = then-stands k ms now (stood r) l c o
  stood (then-keep {k} {ms} {now} r l g c o p) = kept-stands k ms now (stood r) l g c o p
  stood (then-take {k} {ms} {now} r l g c o p) = taken-stands k ms now (stood r) l g c o p

  -- ── the next call ──
  module _ (calls : ℕ) (moves : Moves) (now : State) (h : Stood b built-ok now moves calls) where
    abbrev t : Tables
    t = b.tables

    -- a count that is the size of a set, and flags that are 1 at it
    told-by : (set : ℕ → Bool) {those : ℕ → Bool} {count : ℕ} {flags : List ℕ} (before : List ℕ) → those ≡ set → count ≡ size those b.tables.n
        → flags ≡ over b.tables.n (λ v. cond (those v) 1 0) before → Told b moves set count flags before
    told-by set {those} {count} {flags} before e c f =
        let are : flags ≡ over t.n (λ v. cond (set v) 1 0) before = f ∙ ap (λ (q : ℕ → Bool). over t.n (λ v. cond (q v) 1 0) before) e in
        let is : count ≡ size set t.n = c ∙ ap (λ q. size q t.n) e in
        record {
          flags-are = are;
          set-size = is;
          ones = is ∙ sym (ap (λ l. tally (eqb 1) (take t.n l)) are ∙ ap (tally (eqb 1)) (over-front (λ v. cond (set v) 1 0) t.n before) ∙ ones_below set t.n);
        }

    trial-fresh : (c : TrialLent) → trial_verdict now.session (theirs now) c ≡ accepted → TrialFresh b moves now c (trial now.session (theirs now) c)
    trial-fresh c good = record {
      results = ap (λ (x : TrialLeft). x.results) left ∙ ap (λ (f : Values). over c.asked (λ i. f (nat c.asked_vars i)) c.results) new;
      why = ap (λ (x : TrialLeft). x.why) left ∙ why-is b built-ok now moves calls h c (trial-known now.session (theirs now) c good) c.why;
      row =
          ap (λ (x : TrialLeft). x.trial) left
          ∙ ap (λ (f : Values). over t.n (λ v. cond (names mv v || evaluates t stored r mv asked v) (f v) (stored v)) c.trial) new
          ∙ ap (λ (q : ℕ → Bool). over t.n (λ v. cond (names mv v || q v) (renewed b moves c.move v) (stored v)) c.trial) set
          ∙ ap (λ (f : Values). over t.n (λ v. cond (names mv v || evaluated_by b moves r c.move asked v) (renewed b moves c.move v) (f v)) c.trial) (old-is b built-ok now moves calls h);
      told = told-by (evaluated_by b moves r c.move asked) c.flags set (ap (λ (x : TrialLeft). evaluations_of x.answer) left) (ap (λ (x : TrialLeft). x.flags) left);
      session = ap (λ (x : TrialLeft). x.session) left ∙ sym (ap (λ (x : TrialLeft). record { kept = now.session.kept; evaluations = evaluations_of x.answer; blanks = now.session.blanks }) left)
          ∙ ap (λ k. record { kept = now.session.kept; evaluations = evaluations_of (trial now.session (theirs now) c).answer; blanks = k }) h.blank;
    }
      where
        r : Route
        r = route_of c.route

        mv : List (ℕ × ℤ)
        mv = pairs_of_move c.move

        asked : List ℕ
        asked = asked_list c

        stored : Values
        stored = values_in t now.stored

        left : trial now.session (theirs now) c ≡ trial_leaves (theirs now) c now.session accepted
        left = (trial-judged now.session (theirs now) c).is accepted good

        new : new_values b.tables (values_in b.tables now.stored) (route_of c.route) (pairs_of_move c.move) (asked_list c) ≡ renewed b moves c.move
        new = new_is b built-ok now moves calls h (route_of c.route) (pairs_of_move c.move) (asked_list c) (trial-known now.session (theirs now) c good).determined

        set : evaluates b.tables (values_in b.tables now.stored) (route_of c.route) (pairs_of_move c.move) (asked_list c) ≡ evaluated_by b moves (route_of c.route) c.move (asked_list c)
        set = set_is b built-ok now moves calls h (route_of c.route) (pairs_of_move c.move) (asked_list c)

    keep-fresh : (c : KeepLent) → keep_verdict now.session now.log (theirs now) c ≡ accepted → KeepFresh b moves now c (keep now.session now.log (theirs now) c)
    keep-fresh c good =
        let stands = keep-stands b built-ok now moves calls h c good in let has = keep-has b built-ok now moves calls h c good in let left = keep_left b built-ok now moves calls h c good in
        record {
          stored = stands.holds.row_is;
          reasons = stands.reasons-are;
          told = told-by (evaluated_by b moves input-to-output c.move []) c.flags (set_is b built-ok now moves calls h input-to-output (pairs_of_move c.move) [])
              (ap (λ (x : KeepLeft). evaluations_of x.answer) left) (ap (λ (x : KeepLeft). x.flags) left);
          session = ap (λ (x : KeepLeft). x.session) left ∙ sym (ap (λ (x : KeepLeft). record { kept = min (suc now.session.kept) 4294967295; evaluations = evaluations_of x.answer; blanks = x.session.blanks }) left)
              ∙ ap (λ k. record { kept = min (suc now.session.kept) 4294967295; evaluations = evaluations_of (keep now.session now.log (theirs now) c).answer; blanks = k }) stands.blank;
          more = ap (λ (x : KeepLeft). logged x.log) left ∙ noted-logged t b.bounds now.log now.session.kept has.log (stored_values (theirs now)) c.move has.move ∙ omega arith;
        }

    take-fresh : (c : TakeLent) → take_verdict now.session now.log (theirs now) c ≡ accepted → TakeFresh b moves now c (take_back now.session now.log (theirs now) c)
    take-fresh c good =
        let stands = take-stands b built-ok now moves calls h c good in let has = take-has b built-ok now moves calls h c good in let left = take_left b built-ok now moves calls h c good in
        let mv = (latest now.log c).move in let k = now.session.kept in
        record {
          stored = stands.holds.row_is;
          reasons = stands.reasons-are;
          told = told-by (evaluated_by b moves input-to-output mv []) c.flags (set_is b built-ok now moves calls h input-to-output (pairs_of_move mv) [])
              (ap (λ (x : KeepLeft). evaluations_of x.answer) left) (ap (λ (x : KeepLeft). x.flags) left);
          session = ap (λ (x : KeepLeft). x.session) left ∙ sym (ap (λ (x : KeepLeft). record { kept = cond (ltb k 4294967295) (pred k) k; evaluations = evaluations_of x.answer; blanks = x.session.blanks }) left)
              ∙ ap (λ z. record { kept = cond (ltb k 4294967295) (pred k) k; evaluations = evaluations_of (take_back now.session now.log (theirs now) c).answer; blanks = z }) stands.blank;
          fewer = ap (λ (x : KeepLeft). logged x.log) left ∙ dropped-logged t b.bounds now.log k has.log;
        }

    stored-passes : (v : ℕ) → v < b.tables.n → stored_fresh b.tables (values_in b.tables now.stored) v ≡ true
    stored-passes v low =
        ap (λ (f : Values). stored_fresh t f v) (old-is b built-ok now moves calls h)
        ∙ worth-passes t (sized-facts t (known b built-ok).sound.sized).n-some (applied (start_values b) moves) h.holds.determined v

    run-right : RunRight start room calls moves now
    run-right = record {
      stored = h.holds.row_is;
      reasons = h.reasons-are;
      fresh = stored-passes;
      counted = h.counted;
      blanks = h.blank;
      log-good = h.good;
      log-low = undoes-low (start_values b) (back now.log) (logged now.log) moves h.undoes;
      trial-accepted = λ w like c o z. let up = own-trial now w like c o z in subst⁻¹ (TrialFresh b moves now c) up.1 (trial-fresh c up.0);
      keep-accepted = λ w like c o z. let up = own-keep now w like c o z in subst⁻¹ (KeepFresh b moves now c) up.1 (keep-fresh c up.0);
      take-accepted = λ w like c o z. let up = own-take now w like c o z in subst⁻¹ (TakeFresh b moves now c) up.1 (take-fresh c up.0);
      take-works = λ logs w like c long o.
          ap left_number o.stated
          ∙ (take-judged now.session now.log w c).zero ((take-up-to now.session w (theirs now) (alike now w like) now.log c).0 ∙ take-works b built-ok now moves calls h c logs stored-passes long);
      trial-refused = λ l c o wrong.
          ap (λ (x : TrialLeft). after_trial now x.session) (o.stated ∙ (trial-judged now.session (model_of now l) c).as-was (λ z. wrong (ap tried_number o.stated ∙ z)));
      keep-refused = λ l g c o wrong.
          passed-as-was now l g c.flags _ (left_kept o) (o.stated ∙ (keep-judged now.session (lent_of g now.log) (model_of now l) c).as-was (λ z. wrong (ap left_number o.stated ∙ z)));
      take-refused = λ l g c o wrong.
          passed-as-was now l g c.flags _ (left_taken o) (o.stated ∙ (take-judged now.session (lent_of g now.log) (model_of now l) c).as-was (λ z. wrong (ap left_number o.stated ∙ z)));
    }

-- ── for a trial that is the paper's, not an outcome ──
module _ {b : BuildLent} (start : BuildOutcome b) (room : List ℕ × List ℤ) (ok : number_of (left_built start).answer ≡ 0) (calls : ℕ) (moves : Moves) (now : State) (r : Run start room calls moves now) where
  pub own-trial-fresh : (c : TrialLent) → number_of (trial now.session (mine start now) c).answer ≡ 0 → TrialFresh b moves now c (trial now.session (mine start now) c)
  own-trial-fresh c z =
      let up = trial-up-to now.session (mine start now) (theirs start room ok now) (ap up_to_counts (mine-is start room ok now)) c in
      subst⁻¹ (TrialFresh b moves now c) up.1
      (trial-fresh start room ok calls moves now (stood start room ok r) c (sym up.0 ∙ (trial-judged now.session (mine start now) c).good z))

  -- the session's row of reasons is as long as build asked
  pub reasons-long : b.tables.n ≤ length now.reasons
  reasons-long =
      let fits = each _ (and_right (sized b.tables) _ (known b (built-ok start room ok)).fits) in
      let long = leb-true b.tables.n (length b.reasons) fits.1.1.1.1.1.1.1.0 in
      let same = ap length (stood start room ok r).reasons-are ∙ over-length (λ v. reason_of b.tables v (fresh b moves)) b.tables.n b.reasons long in
      omega arith

-- ── the demand ──
pub demand3 : Demand3
demand3 = record { run = λ b start room ok calls moves now r. run-right start room ok calls moves now (stood start room ok r) }
