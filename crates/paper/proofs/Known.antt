-- What an accepted call knows of all that it was lent: each check as facts. Assumes nothing.
use Prim.Native.Nat.{ℕ, zero, suc, pred, ◌≤◌, ◌<◌}
use native.Mathlib.Omega.{arith}
use mathlib.Core.Bool.{Bool, true, false, ◌||◌, false≢true}
use mathlib.Core.List.{[], ◌∷◌}
use mathlib.Core.Path.{◌≡◌, refl, sym, ◌∙◌}
use lib.IntN.{ℤ, pos}
use lib.Dec.{eqb, ltb}
use lib.ListN.{length, get_or, take, length-drop}
use borrow.Author.Tests.{ltb-true, leb-true, le-leb, eqb-true, not-true}
use Rattle.integers.specs.Integers.{eq_z}
use Rattle.paper.specs.Lists.{any, between, nat, below}
use Rattle.paper.specs.Formula.{blank}
use Rattle.paper.specs.Net.{Values, Route, names, moved}
use Rattle.paper.specs.Tables.{Tables, net, is_made}
use Rattle.paper.specs.Chains.{permitted, group_number, group_order, determined, closes, groups_numbered, stored_fresh}
use Rattle.paper.specs.Checks.{Verdict, accepted, sized, Bounds, start_good, stored_good, in_bounds, start_allowed, stored_allowed, indexed, Move, pairs_of_move, move_fits, movable, named_once, has_value, pair_within, move_lines, fresh_lines, Sound, by_lines}
use Rattle.paper.specs.Log.{Log, move_good, logged, back, log_fits, log_good}
use Rattle.paper.specs.Calls.{Session, blanks_among, BuildLent, index_fits, bounds_fit, build_fits, start_values, build_verdict, Model, model_fits, stored_values, model_lines, TrialLent, trial_fits, trial_verdict, KeepLent, keep_fits, keep_verdict, latest, TakeLent, take_fits, take_verdict}
use Rattle.paper.proofs.Lists.{and_left, and_right, each, all_yes}
use Rattle.paper.proofs.Least.{all_below-at}
use Rattle.paper.proofs.Verdicts.{check-rest, check-held, require-rest, require-held}
use Rattle.paper.proofs.Scan.{any_append}
use Rattle.paper.proofs.Sizes.{sized-facts}
use Rattle.paper.proofs.Accept.{BoundsGood, tables-passed, made-below, inputs-below}
use Rattle.paper.proofs.Lawful.{lawful}
use Rattle.paper.proofs.Routes.{new-equation}
use Rattle.paper.proofs.Needs.{determined-everywhere, Ruled, route-meets}
use Rattle.paper.proofs.Closes.{groups-permitted, groups-numbers, groups-order, Opened, opened, Closed, closed}

-- if each variable of sound tables is determined so is every number
pub sound-determined : (t : Tables) → Sound t → (s : Values) → ((v : ℕ) → v < t.n → determined t s v ≡ true) → (v : ℕ) → determined t s v ≡ true
unfolding determined
sound-determined t sound s = determined-everywhere t s (inputs-below t sound) (made-below t sound) (sized-facts t sound.sized).n-some

-- ── build ──
pub record BuildKnown (b : BuildLent) : Type 0 where
  pub fits : build_fits b ≡ true
  pub sound : Sound b.tables
  -- no closed chain that is not permitted
  pub permitted : (v : ℕ) → v < b.tables.n → permitted b.tables v ≡ true
  pub determined : (v : ℕ) → determined b.tables (start_values b) v ≡ true
  pub bounds : BoundsGood b.tables b.bounds
  pub starts : (v : ℕ) → v < b.tables.n → start_good b.tables (start_values b) v ≡ true
  pub inside : (v : ℕ) → v < b.tables.n → in_bounds b.tables b.bounds (start_values b) v ≡ true

pub build-known : (b : BuildLent) → build_verdict b ≡ accepted → BuildKnown b
unfolding build_verdict
build-known b e =
    let t = b.tables in
    let fits = require-held 1 0 (build_fits b) _ e in
    let p = tables-passed t b.bounds (and_left (sized t) _ fits) _ (require-rest 1 0 (build_fits b) _ e) in
    let six = check-rest 6 t.n (permitted t) _ p.2 in
    let seven = check-held 7 t.n (start_allowed t b.bounds (start_values b)) _ six in
    let last = check-rest 7 t.n (start_allowed t b.bounds (start_values b)) _ six in
    record {
      fits = fits;
      sound = p.0;
      permitted = check-held 6 t.n (permitted t) _ p.2;
      determined = sound-determined t p.0 (start_values b) (check-held 20 t.n (determined t (start_values b)) accepted last);
      bounds = p.1;
      starts = λ v l. and_left _ _ (seven v l);
      inside = λ v l. and_right (start_good t (start_values b) v) _ (seven v l);
    }

-- ── the model of a trial, keep or taking back: checks 1 to 5, 8, 19 and 7 ──
pub record ModelKnown (w : Model) : Type 0 where
  pub sound : Sound w.tables
  pub numbers-long : w.tables.n ≤ length w.numbers
  pub order-long : w.tables.m ≤ length w.order
  pub stored-long : w.tables.n ≤ length w.stored
  pub permitted : (v : ℕ) → v < w.tables.n → permitted w.tables v ≡ true
  pub numbers-are : (v : ℕ) → v < w.tables.n → nat w.numbers v ≡ group_number w.tables v
  pub order_is : take w.tables.m w.order ≡ group_order w.tables
  pub index-fits : index_fits w.tables w.index ≡ true
  pub index_is : indexed w.tables w.index ≡ true
  pub bounds-fit : bounds_fit w.tables w.bounds ≡ true
  pub reasons-long : w.tables.n ≤ length w.reasons
  pub bounds : BoundsGood w.tables w.bounds
  pub stored : (v : ℕ) → v < w.tables.n → stored_good w.tables (stored_values w) v ≡ true
  pub inside : (v : ℕ) → v < w.tables.n → in_bounds w.tables w.bounds (stored_values w) v ≡ true

-- the record has the number of its blank values
abbrev pub BlanksKnown : ℕ → Model → Type 0
BlanksKnown blanks w = blanks ≡ blanks_among w.tables.n (stored_values w)

pub model-known : (w : Model) (blanks : ℕ) (next : Verdict) → model_fits w ≡ true → by_lines (model_lines w blanks) next ≡ accepted → ModelKnown w × BlanksKnown blanks w × (next ≡ accepted)
model-known w blanks next fits e =
    let t = w.tables in
    let p = tables-passed t w.bounds (and_left (sized t) _ fits) _ e in
    let eight = require-held 8 0 (groups_numbered t w.numbers w.order) _ p.2 in
    let more = require-rest 8 0 (groups_numbered t w.numbers w.order) _ p.2 in
    let count = require-rest 8 0 (indexed t w.index) _ more in
    let right = eqb blanks (blanks_among t.n (stored_values w)) in
    let seven = require-rest 19 0 right _ count in
    let allowed = check-held 7 t.n (stored_allowed t w.bounds (stored_values w)) next seven in
    let long = each _ (and_right (sized t) _ fits) in (
      record {
        sound = p.0;
        numbers-long = leb-true t.n (length w.numbers) long.0;
        order-long = leb-true t.m (length w.order) long.1.0;
        stored-long = leb-true t.n (length w.stored) long.1.1.0;
        permitted = groups-permitted t w.numbers w.order eight;
        numbers-are = groups-numbers t w.numbers w.order eight;
        order_is = groups-order t w.numbers w.order eight (leb-true t.m (length w.order) long.1.0);
        index-fits = long.1.1.1.0;
        index_is = require-held 8 0 (indexed t w.index) _ more;
        bounds-fit = long.1.1.1.1.0;
        reasons-long = leb-true t.n (length w.reasons) long.1.1.1.1.1.0;
        bounds = p.1;
        stored = λ v l. and_left _ _ (allowed v l);
        inside = λ v l. and_right (stored_good t (stored_values w) v) _ (allowed v l);
      },
      eqb-true blanks (blanks_among t.n (stored_values w)) (require-held 19 0 right _ count),
      check-rest 7 t.n (stored_allowed t w.bounds (stored_values w)) next seven,
    )

-- where no chain closes: every chain ends, and numbers and order are those of `Straight`
pub model-open : (w : Model) → ModelKnown w → closes w.tables ≡ false → Opened w.tables
model-open w k e = opened w.tables k.sound e

-- where one does: stored values that pass check 21 are fresh and determined
pub model-closed : (w : Model) → ModelKnown w → closes w.tables ≡ true → ((v : ℕ) → v < w.tables.n → stored_fresh w.tables (stored_values w) v ≡ true)
    → Closed w.tables (stored_values w)
model-closed w k e h = closed w.tables k.sound (stored_values w) e h

-- either way the new values of each route meet its rule, from search values that leave every variable determined
pub model-meets : (w : Model) → ModelKnown w → ((v : ℕ) → v < w.tables.n → stored_fresh w.tables (stored_values w) v ≡ true)
    → (s : Values) → ((v : ℕ) → determined w.tables s v ≡ true) → (r : Route) → Ruled w.tables r (stored_values w) s
model-meets w k h s det r = go (closes t) refl
  where
    t : Tables
    t = w.tables

    go : (b : Bool) → closes w.tables ≡ b → Ruled w.tables r (stored_values w) s
    go true e = route-meets t (inputs-below t k.sound) (made-below t k.sound) (sized-facts t k.sound.sized).n-some s det (stored_values w) (model-closed w k e h).fresh r
    go false e = new-equation (net t) (lawful t) t.n (model-open w k e).chains r (stored_values w) s

-- ── a move: checks 1, 10 to 12 and 17 ──
pub record MoveKnown (t : Tables) (bs : Bounds) (mv : Move) : Type 0 where
  pub few : mv.pairs ≤ 64
  pub vars-long : mv.pairs ≤ length mv.vars
  pub values-long : mv.pairs ≤ length mv.values
  pub low : (i : ℕ) → i < mv.pairs → nat mv.vars i < t.n
  pub search : (i : ℕ) → i < mv.pairs → is_made t (nat mv.vars i) ≡ false
  pub once : (i : ℕ) → i < mv.pairs → any (eqb (nat mv.vars i)) (take i mv.vars) ≡ false
  pub full : (i : ℕ) → i < mv.pairs → eq_z (get_or mv.values i (pos 0)) blank ≡ false
  pub inside : (i : ℕ) → i < mv.pairs → pair_within mv bs i ≡ true

pub move-known : (t : Tables) (bs : Bounds) (mv : Move) (next : Verdict) → move_fits mv ≡ true → by_lines (move_lines mv t bs) next ≡ accepted
    → MoveKnown t bs mv × (next ≡ accepted)
move-known t bs mv next fits e =
    let e₁₁ = check-rest 10 mv.pairs (movable mv t) _ e in
    let e₁₂ = check-rest 11 mv.pairs (named_once mv) _ e₁₁ in
    let e₁₇ = check-rest 12 mv.pairs (has_value mv) _ e₁₂ in
    let long = each _ fits in
    let e₁₀ = check-held 10 mv.pairs (movable mv t) _ e in (
      record {
        few = leb-true mv.pairs 64 long.0;
        vars-long = leb-true mv.pairs (length mv.vars) long.1.0;
        values-long = leb-true mv.pairs (length mv.values) long.1.1.0;
        low = λ i l. ltb-true (nat mv.vars i) t.n (and_left (ltb (nat mv.vars i) t.n) _ (e₁₀ i l));
        search = λ i l. not-true (is_made t (nat mv.vars i)) (and_right (ltb (nat mv.vars i) t.n) _ (e₁₀ i l));
        once = λ i l. not-true (any (eqb (nat mv.vars i)) (take i mv.vars)) (check-held 11 mv.pairs (named_once mv) _ e₁₁ i l);
        full = λ i l. not-true (eq_z (get_or mv.values i (pos 0)) blank) (check-held 12 mv.pairs (has_value mv) _ e₁₂ i l);
        inside = check-held 17 mv.pairs (pair_within mv bs) next e₁₇;
      },
      check-rest 17 mv.pairs (pair_within mv bs) next e₁₇,
    )

-- ── checks 21 and 20 ──
pub fresh-known : (t : Tables) → Sound t → (old : Values) (mv : Move) → by_lines (fresh_lines mv t old) accepted ≡ accepted
    → ((v : ℕ) → v < t.n → stored_fresh t old v ≡ true) × ((v : ℕ) → determined t (moved (pairs_of_move mv) old) v ≡ true)
fresh-known t s old mv e = (
  check-held 21 t.n (stored_fresh t old) _ e,
  sound-determined t s (moved (pairs_of_move mv) old) (check-held 20 t.n (determined t (moved (pairs_of_move mv) old)) accepted (check-rest 21 t.n (stored_fresh t old) _ e)),
)

-- a test that some f i below p passes is passed by one
below-has : {A : Type 0} (test : A → Bool) (f : ℕ → A) (p : ℕ) → any test (below f p) ≡ true → (i : ℕ) × (i < p) × (test (f i) ≡ true)
below-has test f zero e = absurd (false≢true e)
below-has test f (suc p) e = go (any test (below f p)) refl (sym (any_append test (below f p) (f p ∷ [])) ∙ e) (below-has test f p)
  where
    go : (b : Bool) → any test (below f p) ≡ b → (b || (test (f p) || false)) ≡ true → (any test (below f p) ≡ true → (i : ℕ) × (i < p) × (test (f i) ≡ true))
        → (i : ℕ) × (i < suc p) × (test (f i) ≡ true)
    go true q h more = let (i, l, r) = more q in (i, omega arith, r)
    go false q h more = (p, omega arith, or-last (test (f p)) h)
      where
        or-last : (c : Bool) → (c || false) ≡ true → c ≡ true
        or-last true z = refl
        or-last false z = z

-- so an accepted move names variables of the model
pub named-below : (t : Tables) (bs : Bounds) (mv : Move) → MoveKnown t bs mv → (v : ℕ) → names (pairs_of_move mv) v ≡ true → v < t.n
named-below t bs mv k v e =
    let (i, l, r) = below-has (λ (p : ℕ × ℤ). eqb p.0 v) (λ i. (nat mv.vars i, get_or mv.values i (pos 0))) mv.pairs e in
    rw (eqb-true (nat mv.vars i) v r) at (k.low i l)

-- ── trial ──
pub record TrialKnown (w : Model) (c : TrialLent) : Type 0 where
  pub model : ModelKnown w
  pub route : between 1 c.route 3 ≡ true
  pub move : MoveKnown w.tables w.bounds c.move
  pub few : c.asked ≤ 32
  pub asked-long : c.asked ≤ length c.asked_vars
  pub asked : (i : ℕ) → i < c.asked → nat c.asked_vars i < w.tables.n
  pub why-long : c.asked ≤ length c.why
  pub fresh : (v : ℕ) → v < w.tables.n → stored_fresh w.tables (stored_values w) v ≡ true
  pub determined : (v : ℕ) → determined w.tables (moved (pairs_of_move c.move) (stored_values w)) v ≡ true

pub trial-known : (s : Session) (w : Model) (c : TrialLent) → trial_verdict s w c ≡ accepted → TrialKnown w c
unfolding trial_verdict
trial-known s w c e =
    let n = w.tables.n in
    let fits = each _ (require-held 1 0 (trial_fits w c) _ e) in
    let a = model-known w s.blanks _ fits.0 (require-rest 1 0 (trial_fits w c) _ e) in
    let m = move-known w.tables w.bounds c.move _ fits.1.0 (require-rest 9 0 (between 1 c.route 3) _ a.2) in
    let low : ℕ → Bool = λ j. ltb (nat c.asked_vars j) n in
    let f = fresh-known w.tables a.0.sound (stored_values w) c.move (check-rest 13 c.asked low _ m.1) in
    record {
      model = a.0;
      route = require-held 9 0 (between 1 c.route 3) _ a.2;
      move = m.0;
      few = leb-true c.asked 32 fits.1.1.0;
      asked-long = leb-true c.asked (length c.asked_vars) fits.1.1.1.0;
      asked = λ i k. ltb-true (nat c.asked_vars i) n (check-held 13 c.asked low _ m.1 i k);
      why-long = leb-true c.asked (length c.why) fits.1.1.1.1.1.1.1.0;
      fresh = f.0;
      determined = f.1;
    }

-- ── a log: checks 1 and 16 ──
-- it has these lengths
pub record Long (l : Log) : Type 0 where
  pub in-sizes : 65 ≤ length l.sizes
  pub in-vars : 4096 ≤ length l.vars
  pub in-values : 4096 ≤ length l.values

pub fits-long : (l : Log) → log_fits l ≡ true → Long l
fits-long l fits = let long = each _ fits in record {
  in-sizes = leb-true 65 (length l.sizes) long.0;
  in-vars = leb-true 4096 (length l.vars) long.1.0;
  in-values = leb-true 4096 (length l.values) long.1.1.0;
}

pub long-fits : (l : Log) → Long l → log_fits l ≡ true
long-fits l long = all_yes _ (le-leb 65 (length l.sizes) long.in-sizes, (le-leb 4096 (length l.vars) long.in-vars, (le-leb 4096 (length l.values) long.in-values, tt)))

-- it has room for 64 moves and not more than that or than the number kept, and each passes the checks of a move
pub record LogKnown (l : Log) (t : Tables) (bs : Bounds) (kept : ℕ) : Type 0 where
  pub fits : log_fits l ≡ true
  pub few : logged l ≤ 64
  pub low : logged l ≤ kept
  pub moves : (k : ℕ) → k < logged l → MoveKnown t bs (back l k)

-- what is good as a logged move has passed checks 10 to 12 and 17
pub good-known : (t : Tables) (bs : Bounds) (mv : Move) → move_good t bs mv ≡ true → (mv.pairs ≤ 64 → (mv.pairs ≤ length mv.vars) × (mv.pairs ≤ length mv.values)) → MoveKnown t bs mv
good-known t bs mv good long =
    let held = each _ good in
    let most = leb-true mv.pairs 64 held.0 in
    let ten-at = all_below-at (movable mv t) mv.pairs held.1.0 in
    record {
      few = most;
      vars-long = (long most).0;
      values-long = (long most).1;
      low = λ i l. ltb-true (nat mv.vars i) t.n (and_left (ltb (nat mv.vars i) t.n) _ (ten-at i l));
      search = λ i l. not-true (is_made t (nat mv.vars i)) (and_right (ltb (nat mv.vars i) t.n) _ (ten-at i l));
      once = λ i l. not-true (any (eqb (nat mv.vars i)) (take i mv.vars)) (all_below-at (named_once mv) mv.pairs held.1.1.0 i l);
      full = λ i l. not-true (eq_z (get_or mv.values i (pos 0)) blank) (all_below-at (has_value mv) mv.pairs held.1.1.1.0 i l);
      inside = all_below-at (pair_within mv bs) mv.pairs held.1.1.1.1.0;
    }

pub log-known : (l : Log) (t : Tables) (bs : Bounds) (kept : ℕ) → log_fits l ≡ true → log_good l t bs kept ≡ true → LogKnown l t bs kept
log-known l t bs kept fits good =
    let held = each _ good in let long = fits-long l fits in
    let most = leb-true (logged l) 64 held.0 in
    record {
      fits = fits;
      few = most;
      low = leb-true (logged l) kept held.1.0;
      moves = λ k h. good-known t bs (back l k) (all_below-at (λ j. move_good t bs (back l j)) (logged l) held.1.1.0 k h)
          (λ p. (simp length-drop (omega arith), simp length-drop (omega arith)));
    }

pub record KeepKnown (s : Session) (l : Log) (w : Model) (c : KeepLent) : Type 0 where
  pub model : ModelKnown w
  pub blanks : BlanksKnown s.blanks w
  pub move : MoveKnown w.tables w.bounds c.move
  pub log : LogKnown l w.tables w.bounds s.kept
  pub fresh : (v : ℕ) → v < w.tables.n → stored_fresh w.tables (stored_values w) v ≡ true
  pub determined : (v : ℕ) → determined w.tables (moved (pairs_of_move c.move) (stored_values w)) v ≡ true

pub keep_known : (s : Session) (l : Log) (w : Model) (c : KeepLent) → keep_verdict s l w c ≡ accepted → KeepKnown s l w c
unfolding keep_verdict
keep_known s l w c e =
    let fits = each _ (require-held 1 0 (keep_fits l w c) _ e) in
    let a = model-known w s.blanks _ fits.0 (require-rest 1 0 (keep_fits l w c) _ e) in
    let b = move-known w.tables w.bounds c.move _ fits.1.0 a.2 in
    let good = log_good l w.tables w.bounds s.kept in
    let f = fresh-known w.tables a.0.sound (stored_values w) c.move (require-rest 16 0 good _ b.1) in
    record {
      model = a.0;
      blanks = a.1;
      move = b.0;
      log = log-known l w.tables w.bounds s.kept fits.1.1.1.0 (require-held 16 0 good _ b.1);
      fresh = f.0;
      determined = f.1;
    }

pub record TakeKnown (s : Session) (l : Log) (w : Model) (c : TakeLent) : Type 0 where
  pub model : ModelKnown w
  pub log : LogKnown l w.tables w.bounds s.kept
  pub some : 0 < logged l
  pub fresh : (v : ℕ) → v < w.tables.n → stored_fresh w.tables (stored_values w) v ≡ true
  pub determined : (v : ℕ) → determined w.tables (moved (pairs_of_move (latest l c).move) (stored_values w)) v ≡ true

pub take-known : (s : Session) (l : Log) (w : Model) (c : TakeLent) → take_verdict s l w c ≡ accepted → TakeKnown s l w c
unfolding take_verdict
take-known s l w c e =
    let fits = each _ (require-held 1 0 (take_fits l w c) _ e) in
    let a = model-known w s.blanks _ fits.0 (require-rest 1 0 (take_fits l w c) _ e) in
    let good = log_good l w.tables w.bounds s.kept in
    let some = require-rest 16 0 good _ a.2 in
    let f = fresh-known w.tables a.0.sound (stored_values w) (latest l c).move (require-rest 15 0 (ltb 0 (logged l)) _ some) in
    record {
      model = a.0;
      log = log-known l w.tables w.bounds s.kept fits.1.1.0 (require-held 16 0 good _ a.2);
      some = ltb-true 0 (logged l) (require-held 15 0 (ltb 0 (logged l)) _ some);
      fresh = f.0;
      determined = f.1;
    }

-- the move that takes the latest back passes the checks of a move
pub latest-known : (s : Session) (l : Log) (w : Model) (c : TakeLent) → TakeKnown s l w c → MoveKnown w.tables w.bounds (latest l c).move
latest-known s l w c known = let some = known.some in known.log.moves (pred (logged l)) (omega arith)
