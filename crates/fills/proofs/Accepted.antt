-- From an accepted verdict to what the writing relies on, and from what is written to the call's equation. Assumes nothing.
use Prim.Native.Nat.{ℕ, zero, suc, pred, min, ◌+◌, ◌-◌, ◌*◌, ◌≤◌, ◌<◌}
use native.Mathlib.Nat.{le_of_eq}
use native.Mathlib.Numerals.{add-one}
use native.Mathlib.Omega.{arith}
use mathlib.Core.Bool.{true, cond, ◌&&◌}
use mathlib.Core.List.{List, [], ◌∷◌, ◌++◌}
use mathlib.Core.Path.{◌≡◌, refl, ap, ap₂, sym, subst, ◌∙◌}
use lib.Dec.{ltb}
use lib.IntN.{ℤ, pos}
use lib.ListN.{length, get_or, set, take, drop, length-drop}
use lib.Seq.{get_or-take, take_all}
use borrow.Author.Tests.{leb-true, lt-ltb}
use Rattle.integers.specs.Integers.{eq_z}
use Rattle.paper.specs.Lists.{all, nat, over}
use Rattle.paper.specs.Formula.{blank}
use Rattle.paper.specs.Net.{Values, moved}
use Rattle.paper.specs.Tables.{Tables}
use Rattle.paper.specs.Checks.{accepted, Move, pairs_of_move}
use Rattle.paper.specs.Chains.{determined, stored_fresh}
use Rattle.paper.specs.Log.{Log, log_in, laid_at, logged, back, room_made, noted, dropped}
use Rattle.paper.specs.Calls.{Session, blanks_among, Accepted, Model, stored_values, TrialLent, trial_fits, asked_reasons, trial_verdict, trial, KeepLent, kept_count, kept_blanks, kept_reasons, KeepLeft, keep_fits, keep_verdict, keep, TakeLent, latest, take_fits, take_verdict, take_back}
use Rattle.paper.proofs.Lists.{each}
use Rattle.paper.proofs.Verdicts.{require-held}
use Rattle.paper.proofs.Outcomes.{trial-meets, keep_meets, take_meets}
use Rattle.paper.proofs.Buffers.{over-same, over-front, over-length, get_d-below}
use Rattle.paper.proofs.Count.{size_same}
use Rattle.paper.proofs.Known.{ModelKnown, MoveKnown, trial-known, keep_known, take-known, latest-known}
use Rattle.index.proofs.Known.{laid_of, indexed-known}
use Rattle.move_log.specs.Named.{PairsLent}
use Rattle.verdicts.proofs.Lengths.{index-long}
use Rattle.fills.specs.Accepted.{without_reasons, KeepAccepted, Trying, TrialFilled, KeepFilled}

-- the first k entries, each below n
all-low : (n k : ℕ) (l : List ℕ) → k ≤ length l → ((i : ℕ) → i < k → nat l i < n) → all (λ v. ltb v n) (take k l) ≡ true
all-low n zero l h low = refl
all-low n (suc k) [] h low = absurd (omega arith)
all-low n (suc k) (x ∷ l) h low = ap₂ ◌&&◌ (lt-ltb x n (low 0 (omega arith))) (all-low n k l (omega arith) (λ i m. low (suc i) (omega arith)))

-- what is known of the model and the move, checks 21 and 20, and flags that are lent
keeping : (w : Model) (c : KeepLent) → ModelKnown w → MoveKnown w.tables w.bounds c.move → ((v : ℕ) → v < w.tables.n → stored_fresh w.tables (stored_values w) v ≡ true)
    → ((v : ℕ) → determined w.tables (moved (pairs_of_move c.move) (stored_values w)) v ≡ true) → w.tables.n ≤ length c.flags
    → KeepAccepted w.tables w.order w.index w.stored c
keeping w c k v fresh det h = let (starts, places) = index-long w.tables w.index k.index-fits in record {
  sound = k.sound;
  in_order = k.order-long;
  order_is = k.order_is;
  fresh = fresh;
  determined = det;
  indexed = indexed-known w.tables (laid_of w.tables k.sound) w.index.starts w.index.places starts places k.index_is;
  in-stored = k.stored-long;
  in-flags = h;
  pairs = record { in-vars = v.vars-long; in-values = v.values-long; low = v.low };
  search = v.search;
}

-- where the latest move stands in a log
pub record Latest (g : Log) (at : ℕ) : Type 0 where
  pub few : at < 64
  pub in-sizes : at + 1 < length g.sizes
  pub in-vars : 64 * at ≤ length g.vars
  pub in-values : 64 * at ≤ length g.values

-- a row from a place on, as a program lends it
rest : {A : Type 0} (k : ℕ) (row : List A) → take (length row - k) (drop k row) ≡ drop k row
rest k row = take_all (length row - k) (drop k row) (le_of_eq (length-drop k row))

-- the latest move, as a program reads it from the three rows
pub latest-is : (g : Log) (u : TakeLent) (at pairs : ℕ) → at ≡ pred (logged g) → pairs ≡ nat g.sizes (at + 1)
    → record { move = record { pairs = pairs; vars = take (length g.vars - 64 * at) (drop (64 * at) g.vars); values = take (length g.values - 64 * at) (drop (64 * at) g.values) }; flags = u.flags }
    ≡ latest g u
latest-is g u at pairs e p =
    (λ i. record { move = record { pairs = (p ∙ ap (nat g.sizes) (add-one at)) i; vars = rest (64 * at) g.vars i; values = rest (64 * at) g.values i }; flags = u.flags })
    ∙ ap (λ k. record { move = back g k; flags = u.flags }) e

module _ (s : Session) (g : Log) (w : Model) where
  -- of the record the evaluations play no part
  pub keep-by-kept : (c : KeepLent) → keep_verdict s g w c ≡ keep_verdict (record { kept = s.kept; evaluations = 0; blanks = s.blanks }) g w c
  unfolding keep_verdict
  keep-by-kept c = refl

  pub take-by-kept : (u : TakeLent) → take_verdict s g w u ≡ take_verdict (record { kept = s.kept; evaluations = 0; blanks = s.blanks }) g w u
  unfolding take_verdict
  take-by-kept u = refl

  pub keeping-of : (c : KeepLent) → keep_verdict s g w c ≡ accepted → KeepAccepted w.tables w.order w.index w.stored c
  unfolding keep_verdict
  keeping-of c e =
      let k = keep_known s g w c e in let fits = each _ (require-held 1 0 (keep_fits g w c) _ e) in
      keeping w c k.model k.move k.fresh k.determined (leb-true _ _ fits.1.1.0)

  -- what noting the move asks for
  pub named-of : (c : KeepLent) → keep_verdict s g w c ≡ accepted → PairsLent w.stored c.move.pairs c.move.vars
  named-of c e = let k = keep_known s g w c e in let long = k.model.stored-long in
      record { few = k.move.few; in-vars = k.move.vars-long; low = λ i l. let h = k.move.low i l in omega arith }

  module _ (u : TakeLent) (e : take_verdict s g w u ≡ accepted) where
    pub latest-at : {at : ℕ} → at ≡ pred (logged g) → Latest g at
    latest-at {at} here =
        let k = take-known s g w u e in let some = k.some in let few = k.log.few in let fits = each _ k.log.fits in
        let sizes = leb-true 65 (length g.sizes) fits.0 in let vars = leb-true 4096 (length g.vars) fits.1.0 in let values = leb-true 4096 (length g.values) fits.1.1.0 in
        record { few = omega arith; in-sizes = omega arith; in-vars = omega arith; in-values = omega arith }

    pub taking-of : (c : KeepLent) → c ≡ latest g u → KeepAccepted w.tables w.order w.index w.stored c
    unfolding take_verdict
    taking-of c is =
        let k = take-known s g w u e in let fits = each _ (require-held 1 0 (take_fits g w u) _ e) in
        subst (KeepAccepted w.tables w.order w.index w.stored) (sym is) (keeping w (latest g u) k.model (latest-known s g w u k) k.fresh k.determined (leb-true _ _ fits.1.0))

-- of the record only the number of blanks plays a part
pub trial-by-blanks : (s : Session) (w : Model) (c : TrialLent) → trial_verdict s w c ≡ trial_verdict (record { kept = 0; evaluations = 0; blanks = s.blanks }) w c
unfolding trial_verdict
trial-by-blanks s w c = refl

pub trying-of : (s : Session) (w : Model) (c : TrialLent) → trial_verdict s w c ≡ accepted → Trying w.tables w.order w.index w.stored (without_reasons c)
unfolding trial_verdict
trying-of s w c e =
    let k = trial-known s w c e in let fits = (each _ (require-held 1 0 (trial_fits w c) _ e)).1.1.1 in let long = leb-true c.asked (length c.asked_vars) fits.0 in
    record {
      keeping = keeping w (record { move = c.move; flags = c.flags }) k.model k.move k.fresh k.determined (leb-true _ _ fits.1.1.1.0);
      in-trial = leb-true _ _ fits.1.1.0;
      in-asked = long;
      in-results = leb-true _ _ fits.1.0;
      asked = all-low w.tables.n c.asked c.asked_vars long k.asked;
    }

-- ── the call's equation ──
pub trial-met : (s : Session) (w : Model) (c : TrialLent) (count : ℕ) (results trial' : List ℤ) (flags why : List ℕ) → trial_verdict s w c ≡ accepted
    → TrialFilled w.tables w.stored (without_reasons c) count results trial' flags → why ≡ asked_reasons w c c.why
    → record { answer = Accepted count; session = record { kept = s.kept; evaluations = count; blanks = s.blanks }; results = results; trial = trial'; flags = flags; why = why } ≡ trial s w c
trial-met s w c count results trial' flags why v f given =
    trial-meets s w c _ accepted v (ap Accepted f.count-is) (ap (λ n. record { kept = s.kept; evaluations = n; blanks = s.blanks }) f.count-is)
    f.results-are f.trial-is f.flags-are given

-- a move is noted over the row of stored values as over the values that it holds
noted-row : (g : Log) (w : Model) (mv : Move) → ((i : ℕ) → i < mv.pairs → nat mv.vars i < w.tables.n) → noted g (λ v. get_or w.stored v (pos 0)) mv ≡ noted g (stored_values w) mv
noted-row g w mv low = let k = min (logged g) 63 in
    ap (λ (row : List ℤ). log_in (set (set (room_made g).sizes 0 (suc k)) (suc k) mv.pairs) (laid_at (64 * k) mv.pairs (nat mv.vars) (room_made g).vars) (take (64 * k) (room_made g).values ++ row))
    (over-same (λ i. get_or w.stored (nat mv.vars i) (pos 0)) mv.pairs (drop (64 * k) (room_made g).values) (λ i. stored_values w (nat mv.vars i))
    (λ i l. sym (get_or-take w.tables.n w.stored (nat mv.vars i) (pos 0) (low i l))))

-- a row that was filled is as long as it was
pub filled-long : {A : Type 0} (n : ℕ) (f : ℕ → A) (before row : List A) → row ≡ over n f before → n ≤ length before → n ≤ length row
filled-long n f before row e h = let same = over-length f n before h in let is = ap length e in omega arith

-- what is filled for a move is filled for the same move
pub filled-same : {t : Tables} {stored row : List ℤ} {c d : KeepLent} {count : ℕ} {flags : List ℕ} → c ≡ d → KeepFilled t stored c count row flags → KeepFilled t stored d count row flags
filled-same {t} {stored} {row} {c} {d} {count} {flags} is f = subst (λ z. KeepFilled t stored z count row flags) is f

-- the blank values of a row that was filled
pub blanks-over : (n : ℕ) (f : Values) (before row : List ℤ) → row ≡ over n f before → blanks_among n (λ v. get_or row v (pos 0)) ≡ blanks_among n f
blanks-over n f before row e =
    size_same _ _ n (λ v l. ap (λ z. eq_z z blank) (sym (get_or-take n row v (pos 0) l) ∙ ap (λ r. get_or (take n r) v (pos 0)) e ∙ ap (λ r. get_or r v (pos 0)) (over-front f n before) ∙ get_d-below f n v (pos 0) l))

module _ (s : Session) (g : Log) (w : Model) (count kept blanks : ℕ) (stored : List ℤ) (reasons flags : List ℕ) (log : Log) where
  abbrev left : KeepLeft
  left = record { answer = Accepted count; session = record { kept = kept; evaluations = count; blanks = blanks }; stored = stored; reasons = reasons; flags = flags; log = log }

  -- the record as it is left, by the move that was made
  recorded : (c : KeepLent) (after : ℕ) → KeepFilled w.tables w.stored c count stored flags → kept ≡ after → blanks ≡ blanks_among w.tables.n (λ v. get_or stored v (pos 0))
      → left.session ≡ record { kept = after; evaluations = kept_count w.tables w.stored c; blanks = kept_blanks w.tables w.stored c }
  recorded c after f e b = λ i. record { kept = e i; evaluations = f.count-is i; blanks = (b ∙ blanks-over w.tables.n _ w.stored stored f.stored_is) i }

  pub keep-met : (c : KeepLent) → keep_verdict s g w c ≡ accepted → KeepFilled w.tables w.stored c count stored flags → kept ≡ min (suc s.kept) 4294967295
      → blanks ≡ blanks_among w.tables.n (λ v. get_or stored v (pos 0)) → reasons ≡ kept_reasons w.tables w.stored c w.reasons
      → log ≡ noted g (λ v. get_or w.stored v (pos 0)) c.move → left ≡ keep s g w c
  keep-met c v f e b given noting =
      keep_meets s g w left accepted c v (ap Accepted f.count-is) (recorded c _ f e b)
      f.stored_is given f.flags-are (noting ∙ noted-row g w c.move (keep_known s g w c v).move.low)

  pub take-met : (u : TakeLent) → take_verdict s g w u ≡ accepted → KeepFilled w.tables w.stored (latest g u) count stored flags
      → kept ≡ cond (ltb s.kept 4294967295) (pred s.kept) s.kept → blanks ≡ blanks_among w.tables.n (λ v. get_or stored v (pos 0)) → reasons ≡ kept_reasons w.tables w.stored (latest g u) w.reasons
      → log ≡ dropped g → left ≡ take_back s g w u
  take-met u v f e b given dropping =
      take_meets s g w left accepted u v (ap Accepted f.count-is) (recorded (latest g u) _ f e b)
      f.stored_is given f.flags-are dropping
