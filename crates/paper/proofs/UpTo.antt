-- Trial, keep and taking back depend on the model that they are lent only up to its counts: each check asks the same of rows cut there, and tables
-- that passed the first five describe the same model cut there. Assumes nothing.
use Prim.Native.Nat.{ℕ, zero, suc, pred, ◌+◌, ◌≤◌, ◌<◌}
use native.Mathlib.Omega.{arith}
use mathlib.Core.Bool.{Bool, true, false, cond, not, ◌&&◌, ◌||◌}
use mathlib.Core.List.{List, [], ◌∷◌, map}
use mathlib.Core.Path.{◌≡◌, refl, ap, ap₂, sym, ◌∙◌, fun_ext}
use lib.IntN.{ℤ, pos}
use lib.Dec.{eqb, leb, ltb}
use lib.Signed.{le_z}
use lib.ListN.{length, get_or, take}
use lib.Seq.{get_or-take}
use borrow.Author.Tests.{ltb-true, ltb-false, leb-true, eqb-true}
use Rattle.integers.specs.Integers.{eq_z}
use Rattle.paper.specs.Lists.{any, every, between, total, greatest, nat, size, first_fail, all_below, joined, over}
use Rattle.paper.specs.Formula.{blank, formula, looked}
use Rattle.paper.specs.Net.{Values, Net, runs, able, afresh, Route, input-to-output, output-to-input, mark-guided, live, new, works, needed, evaluated, moved, names}
use Rattle.paper.specs.Tables.{Tables, bare, Index, index_in, part, row_of, is_made, inputs_of, form_of, asks_of, net, level, reads, readers, readers_start}
use Rattle.paper.specs.Chains.{depends, together, outside, plain_inputs, indices, permitted, group_number, group_order, worth, determined, groups_numbered}
use Rattle.paper.specs.Checks.{Verdict, accepted, refused, check, require, Bounds, bounds_in, within, sized, kind_good, shape_good, number_good, made_once, bounds_good, table_lines, stored_allowed, indexed, Move, pairs_of_move, movable, named_once, has_value, pair_within, move_lines, fresh_lines, Sound, by_lines}
use Rattle.paper.specs.Log.{Log, move_good, logged, back, log_good}
use Rattle.paper.specs.Reason.{reason, reason_of}
use Rattle.paper.specs.Calls.{Session, Accepted, blanks_among, new_values, evaluates, Model, up_to_counts, model_fits, stored_values, model_lines, TrialLent, asked_list, route_of, trial_fits, trial_leaves, trial_verdict, trial, KeepLent, move_leaves, keep_fits, keep_verdict, keep_leaves, keep, latest, TakeLent, take_fits, take_verdict, take_leaves, take_back}
use Rattle.paper.proofs.Lists.{and_left, each}
use Rattle.paper.proofs.Those.{those-same, joined_same}
use Rattle.paper.proofs.Least.{first_fail-before, all_below-at}
use Rattle.paper.proofs.Scan.{first_fail-same}
use Rattle.paper.proofs.Indexed.{readers-most}
use Rattle.paper.proofs.Sizes.{sized-facts}
use Rattle.paper.proofs.Accept.{sound-row, made_row, row-length}
use Rattle.paper.proofs.Bare.{cut-long, kind_at, makes-at, kind-same, part_same, shape_same, number_same, once-same, counts_same, sized_same, bare-row, bare-made, bare-inputs}
use Rattle.paper.proofs.Known.{trial-known, keep_known, take-known}

-- ── checks that ask the same ──
all_below-same : (p q : ℕ → Bool) (n : ℕ) → ((v : ℕ) → v < n → p v ≡ q v) → all_below p n ≡ all_below q n
all_below-same p q n h = ap (λ k. eqb k n) (first_fail-same p q n h)

module _ (code : ℕ) where
  check-alike : (bound : ℕ) (good other : ℕ → Bool) {next then : Verdict} → ((i : ℕ) → i < bound → good i ≡ other i)
      → (((i : ℕ) → i < bound → other i ≡ true) → next ≡ then) → check code bound good next ≡ check code bound other then
  check-alike bound good other {next} {then} h more =
      ap (λ f. cond (ltb f bound) (refused code f) next) (first_fail-same good other bound h) ∙ go (ltb (first_fail other bound) bound) refl
    where
      go : (b : Bool) → ltb (first_fail other bound) bound ≡ b → cond b (refused code (first_fail other bound)) next ≡ cond b (refused code (first_fail other bound)) then
      go true q = refl
      go false q = more (λ i l. let past = ltb-false (first_fail other bound) bound q in first_fail-before other bound i (omega arith))

  require-alike : (place : ℕ) {good other : Bool} {next then : Verdict} → good ≡ other → (other ≡ true → next ≡ then) → require code place good next ≡ require code place other then
  require-alike place {good} {other} {next} {then} h more = ap (λ b. cond b next (refused code place)) h ∙ go other more
    where
      go : (b : Bool) → (b ≡ true → next ≡ then) → cond b next (refused code place) ≡ cond b then (refused code place)
      go true k = k refl
      go false k = refl

cond-none : {A : Type 0} {x : A} (b : Bool) → cond b x x ≡ x
cond-none true = refl
cond-none false = refl

-- ── checks 1 to 5 ──
-- bounds without what their rows hold beyond n
abbrev cut_bounds : ℕ → Bounds → Bounds
cut_bounds n b = bounds_in (take n b.lows) (take n b.highs)

within_same : (n : ℕ) (b : Bounds) (v : ℕ) → v < n → within (cut_bounds n b) v ≡ within b v
within_same n b v l = λ i x. le_z (get_or-take n b.lows v (pos 0) l i) x && le_z x (get_or-take n b.highs v (pos 0) l i)

module _ (t : Tables) where
  inside_of : (r : ℕ) → shape_good t r ≡ true → nat t.firsts r + nat t.counts r ≤ t.e
  inside_of r h = leb-true (nat t.firsts r + nat t.counts r) t.e (each _ h).1.1.1.1.0

  tables-alike : (b : Bounds) {next then : Verdict} → sized t ≡ true → (Sound t → next ≡ then) → by_lines (table_lines (bare t) (cut_bounds t.n b)) next ≡ by_lines (table_lines t b) then
  tables-alike b fits more =
      check-alike 2 t.m (kind_good (bare t)) (kind_good t) (kind-same t) (λ two.
      check-alike 3 t.m (shape_good (bare t)) (shape_good t) (shape_same t) (λ three.
      require-alike 3 (pred t.m) (ap (λ (x : ℕ). eqb x t.e) (counts_same t)) (λ whole.
      check-alike 4 t.m (number_good (bare t)) (number_good t) (λ r l. number_same t r l (inside_of r (three r l))) (λ four.
      check-alike 4 t.n (bounds_good (bare t) (cut_bounds t.n b)) (bounds_good t b) (bounds-same b) (λ bounds.
      check-alike 5 t.m (made_once (bare t)) (made_once t) (once-same t) (λ five.
      more (record { sized = fits; kinds = two; shapes = three; whole = whole; numbers = four; once = five })))))))
    where
      bounds-same : (bs : Bounds) (v : ℕ) → v < t.n → bounds_good (bare t) (cut_bounds t.n bs) v ≡ bounds_good t bs v
      bounds-same bs v l = rw (bare-made t v, get_or-take t.n bs.lows v (pos 0) l, get_or-take t.n bs.highs v (pos 0) l)

-- ── two models that differ only in formulas where nothing is made: the same values, and the same is evaluated ──
abbrev with_forms : Net → (ℕ → Values → ℤ) → Net
with_forms N form = record { made = N.made; ins = N.ins; form = form; asks = N.asks }

module _ (N : Net) (form : ℕ → Values → ℤ) (same : (v : ℕ) (f : Values) → N.made v ≡ true → form v f ≡ N.form v f) where
  abbrev M : Net
  M = with_forms N form

  afresh-same : (s : Values) (k : ℕ) → afresh M s k ≡ afresh N s k
  afresh-same s k = ap (λ rule. runs rule (λ v. pos zero) k) (fun_ext (λ f. fun_ext (λ v. go f v (N.made v) refl)))
    where
      go : (f : Values) (v : ℕ) (b : Bool) → N.made v ≡ b → cond b (form v f) (s v) ≡ cond b (N.form v f) (s v)
      go f v true e = same v f e
      go f v false e = refl

  module _ (old s : Values) (k : ℕ) where
    live_same : (r : Route) (f : Values) (v : ℕ) → live M r old s k f v ≡ live N r old s k f v
    live_same input-to-output f v = refl
    live_same output-to-input f v = refl
    live_same mark-guided f v = refl

    new-same : (r : Route) → new M r old s k ≡ new N r old s k
    new-same r = ap (λ rule. runs rule old k) (fun_ext (λ f. fun_ext (λ v. ap (λ b. cond (N.made v) (cond b (form v f) (old v)) (s v)) (live_same r f v) ∙ go f v (N.made v) refl)))
      where
        go : (f : Values) (v : ℕ) (b : Bool) → N.made v ≡ b
            → cond b (cond (live N r old s k f v) (form v f) (old v)) (s v) ≡ cond b (cond (live N r old s k f v) (N.form v f) (old v)) (s v)
        go f v true e = ap (λ z. cond (live N r old s k f v) z (old v)) (same v f e)
        go f v false e = refl

    works-same : (r : Route) → works M r old s k ≡ works N r old s k
    works-same r = fun_ext (λ v. ap (N.made v &&◌) (live_same r (new M r old s k) v ∙ ap (λ f. live N r old s k f v) (new-same r)))

    evaluated-same : (r : Route) (asked : List ℕ) → evaluated M r old s asked k ≡ evaluated N r old s asked k
    evaluated-same input-to-output asked = works-same input-to-output
    evaluated-same output-to-input asked = λ i v. works-same output-to-input i v && needed N (works-same output-to-input i) (new-same output-to-input i) asked k v
    evaluated-same mark-guided asked = λ i v. works-same mark-guided i v && needed N (works-same mark-guided i) (new-same mark-guided i) asked k v

-- ── tables that passed checks 1 to 5 ──
module _ (t : Tables) (sound : Sound t) where
  abbrev n : ℕ
  n = t.n

  inside : (r : ℕ) → r < t.m → nat t.firsts r + nat t.counts r ≤ t.e
  inside r l = (sound-row t sound r l).inside

  made : is_made (bare t) ≡ is_made t
  made = fun_ext (bare-made t)

  ins : inputs_of (bare t) ≡ inputs_of t
  ins = fun_ext (bare-inputs t sound)

  -- what is said of a kind and of inputs, the same of every kind if there are none
  by_kind : {A : Type 0} (F : ℕ → List ℕ → A) → ((k j : ℕ) → F k [] ≡ F j []) → (v : ℕ)
      → F (nat (bare t).kinds (row_of (bare t) v)) (inputs_of (bare t) v) ≡ F (nat t.kinds (row_of t v)) (inputs_of t v)
  by_kind F none v = ap₂ (λ r l. F (nat (bare t).kinds r) l) (bare-row t v) (bare-inputs t sound v) ∙ go (is_made t v) refl
    where
      go : (b : Bool) → is_made t v ≡ b → F (nat (bare t).kinds (row_of t v)) (inputs_of t v) ≡ F (nat t.kinds (row_of t v)) (inputs_of t v)
      go true e = ap (λ k. F k (inputs_of t v)) (kind_at t (row_of t v) (made_row t sound v e))
      go false e = rw e (none (nat (bare t).kinds (row_of t v)) (nat t.kinds (row_of t v)))

  asks : asks_of (bare t) ≡ asks_of t
  unfolding looked
  asks = fun_ext (λ v. fun_ext (λ f. by_kind (λ k l. looked k f l) (λ k j. cond-none (eqb k 4) ∙ sym (cond-none (eqb j 4))) v))

  forms : (v : ℕ) (f : Values) → is_made t v ≡ true → form_of (bare t) v f ≡ form_of t v f
  forms v f e =
      let r = row_of t v in let l = made_row t sound v e in
      ap₂ (λ q is. formula (nat (bare t).kinds q) (get_or (bare t).params q (pos 0)) (part (bare t) q (bare t).coefs) (map f is)) (bare-row t v) (bare-inputs t sound v)
      ∙ rw (kind_at t r l, get_or-take t.m t.params r (pos 0) l, part_same t r l (inside r l) t.coefs)

  nets : net (bare t) ≡ with_forms (net t) (form_of (bare t))
  nets = λ i. record { made = made i; ins = ins i; form = form_of (bare t); asks = asks i }

  -- ── the same values, and the same is evaluated ──
  worth-same : (s : Values) → worth (bare t) s ≡ worth t s
  worth-same s = ap (λ N. afresh N s n) nets ∙ afresh-same (net t) (form_of (bare t)) forms s n

  module _ (old : Values) (r : Route) (mv : List (ℕ × ℤ)) (asked : List ℕ) where
    values_same : new_values (bare t) old r mv asked ≡ new_values t old r mv asked
    values_same = ap (λ N. new N r old (moved mv old) n) nets ∙ new-same (net t) (form_of (bare t)) forms old (moved mv old) n r

    evaluates-same : evaluates (bare t) old r mv asked ≡ evaluates t old r mv asked
    evaluates-same = ap (λ N. evaluated N r old (moved mv old) asked n) nets ∙ evaluated-same (net t) (form_of (bare t)) forms old (moved mv old) n r asked

  -- ── the same reasons ──
  reasons-same : reason_of (bare t) ≡ reason_of t
  reasons-same = fun_ext (λ v. fun_ext (λ f. ap₂ (λ q is. cond (ltb q t.m) (reason (nat (bare t).kinds q) (get_or (bare t).params q (pos 0)) (part (bare t) q (bare t).coefs) (map f is)) 0) (bare-row t v) (bare-inputs t sound v) ∙ go v f (is_made t v) refl))
    where
      go : (v : ℕ) (f : Values) (b : Bool) → is_made t v ≡ b → let r = row_of t v in
          cond b (reason (nat (bare t).kinds r) (get_or (bare t).params r (pos 0)) (part (bare t) r (bare t).coefs) (map f (inputs_of t v))) 0
          ≡ cond b (reason (nat t.kinds r) (get_or t.params r (pos 0)) (part t r t.coefs) (map f (inputs_of t v))) 0
      go v f true e = let r = row_of t v in let l = made_row t sound v e in rw (kind_at t r l, get_or-take t.m t.params r (pos 0) l, part_same t r l (inside r l) t.coefs)
      go v f false e = refl

  -- ── checks 20 and 21 ──
  determined-same : (s : Values) → determined (bare t) s ≡ determined t s
  unfolding determined
  determined-same s = λ i. able (λ v. asks i v (worth-same s i)) n

  fresh-same : (old : Values) (mv : Move) → by_lines (fresh_lines mv (bare t) old) accepted ≡ by_lines (fresh_lines mv t old) accepted
  fresh-same old mv =
      λ i. check 21 n (λ v. not (not (all_below (able (ins i) n) n)) || (determined-same old i v && eq_z (old v) (worth-same old i v)))
      (check 20 n (determined-same (moved (pairs_of_move mv) old) i) accepted)

  -- ── check 8 ──
  permitted-same : permitted (bare t) ≡ permitted t
  permitted-same = λ i v. not (depends (plain i) n v v) && all_below (λ x. not (any (λ j. together (ins i) n v x && together (ins i) n v j) (index i x))) n
    where
      plain : plain_inputs (bare t) ≡ plain_inputs t
      plain = fun_ext (by_kind (λ k l. cond (eqb k 4) [] l) (λ k j. cond-none (eqb k 4) ∙ sym (cond-none (eqb j 4))))

      index : indices (bare t) ≡ indices t
      index = fun_ext (by_kind (λ k l. cond (eqb k 4) (take 1 l) []) (λ k j. cond-none (eqb k 4) ∙ sym (cond-none (eqb j 4))))

  number-alike : group_number (bare t) ≡ group_number t
  unfolding group_number
  number-alike = λ i. runs (λ f v. cond (made i v) (suc (greatest (map f (outside (ins i) n v)))) zero) (λ v. zero) n

  order_alike : group_order (bare t) ≡ group_order t
  order_alike =
      joined_same (λ d. level (bare t) (group_number (bare t)) d t.m) (λ d. level t (group_number t) d t.m) (suc n) (λ d h.
      those-same (λ r. eqb (group_number (bare t) (nat (bare t).makes r)) d) (λ r. eqb (group_number t (nat t.makes r)) d) t.m (λ r l.
      ap₂ (λ (num : ℕ → ℕ) v. eqb (num v) d) number-alike (makes-at t r l)))

  groups-same : (nums ord : List ℕ) → groups_numbered (bare t) (take n nums) (take t.m ord) ≡ groups_numbered t nums ord
  groups-same nums ord = λ i. every (all_below (permitted-same i) n ∷ numbers i ∷ order i ∷ [])
    where
      numbers : all_below (λ v. eqb (nat (take n nums) v) (group_number (bare t) v)) n ≡ all_below (λ v. eqb (nat nums v) (group_number t v)) n
      numbers = all_below-same _ _ n (λ v l. ap₂ (λ x (num : ℕ → ℕ). eqb x (num v)) (get_or-take n nums v 0 l) number-alike)

      order : all_below (λ k. eqb (nat (take t.m ord) k) (nat (group_order (bare t)) k)) t.m ≡ all_below (λ k. eqb (nat ord k) (nat (group_order t) k)) t.m
      order = all_below-same _ _ t.m (λ k l. ap₂ (λ x (rows : List ℕ). eqb x (nat rows k)) (get_or-take t.m ord k 0 l) order_alike)

  readers-same : readers (bare t) ≡ readers t
  readers-same = fun_ext (λ v. those-same (reads (bare t) v) (reads t v) t.m (λ r l. ap (any (eqb v)) (part_same t r l (inside r l) t.vars)))

  -- there are at most as many readers as entries
  readers-few : readers_start t n ≤ t.e
  readers-few =
      let size = sized-facts t sound.sized in let most = readers-most t size.counts (row-length t sound t.vars size.vars) in
      let whole = eqb-true (total (take t.m t.counts)) t.e sound.whole in omega arith

  index_same : (x : Index) → indexed (bare t) (index_in (take (suc n) x.starts) (take t.e x.places)) ≡ indexed t x
  index_same x = λ i. every (starts i ∷ places i ∷ [])
    where
      starts : all_below (λ v. eqb (nat (take (suc n) x.starts) v) (readers_start (bare t) v)) (suc n) ≡ all_below (λ v. eqb (nat x.starts v) (readers_start t v)) (suc n)
      starts = all_below-same _ _ (suc n) (λ v l. ap₂ (λ k (rows : ℕ → List ℕ). eqb k (length (joined rows v))) (get_or-take (suc n) x.starts v 0 l) readers-same)

      places : all_below (λ k. eqb (nat (take t.e x.places) k) (nat (joined (readers (bare t)) n) k)) (readers_start (bare t) n)
          ≡ all_below (λ k. eqb (nat x.places k) (nat (joined (readers t) n) k)) (readers_start t n)
      places =
          ap (λ (rows : ℕ → List ℕ). all_below (λ k. eqb (nat (take t.e x.places) k) (nat (joined rows n) k)) (length (joined rows n))) readers-same
          ∙ all_below-same _ _ (readers_start t n) (λ k l. ap (λ r. eqb r (nat (joined (readers t) n) k)) (get_or-take t.e x.places k 0 (let few = readers-few in omega arith)))

-- ── the checks of a model ──
fits-same : (w : Model) → model_fits (up_to_counts w) ≡ model_fits w
fits-same w =
    let t = w.tables in
    rw (sized_same t, cut-long t.n w.numbers, cut-long t.m w.order, cut-long (suc t.n) w.index.starts, cut-long t.e w.index.places, cut-long t.n w.bounds.lows, cut-long t.n w.bounds.highs)

model-alike : (w : Model) (blanks : ℕ) {next then : Verdict} → model_fits w ≡ true → (Sound w.tables → next ≡ then) → by_lines (model_lines (up_to_counts w) blanks) next ≡ by_lines (model_lines w blanks) then
model-alike w blanks fits more =
    let t = w.tables in let b = w.bounds in let old = stored_values w in
    tables-alike t b (and_left (sized t) _ fits) (λ sound.
    require-alike 8 0 (groups-same t sound w.numbers w.order) (λ e.
    require-alike 8 0 (index_same t sound w.index) (λ e.
    require-alike 19 0 {good = eqb blanks (blanks_among t.n old)} refl (λ e.
    check-alike 7 t.n (stored_allowed (bare t) (cut_bounds t.n b) old) (stored_allowed t b old)
    (λ v l. ap₂ (λ m (good : ℤ → Bool). (m || not (eq_z (old v) blank)) && (m || good (old v))) (bare-made t v) (within_same t.n b v l)) (λ e.
    more sound)))))

-- the move of trial and keep, and the moves of a log
module _ (t : Tables) (b : Bounds) (mv : Move) where
  movable-same : movable mv (bare t) ≡ movable mv t
  movable-same = λ k i. ltb (nat mv.vars i) t.n && not (bare-made t (nat mv.vars i) k)

  pair-within : (i : ℕ) → movable mv t i ≡ true → pair_within mv (cut_bounds t.n b) i ≡ pair_within mv b i
  pair-within i h =
      let v = nat mv.vars i in
      ap (λ (good : ℤ → Bool). good (get_or mv.values i (pos 0))) (within_same t.n b v (ltb-true v t.n (and_left (ltb v t.n) _ h)))

  move-alike : {next then : Verdict} → next ≡ then
      → by_lines (move_lines mv (bare t) (cut_bounds t.n b)) next ≡ by_lines (move_lines mv t b) then
  move-alike more =
      check-alike 10 mv.pairs (movable mv (bare t)) (movable mv t) (λ i l. ap (λ p. p i) movable-same) (λ ten.
      check-alike 11 mv.pairs (named_once mv) (named_once mv) (λ i l. refl) (λ e.
      check-alike 12 mv.pairs (has_value mv) (has_value mv) (λ i l. refl) (λ e.
      check-alike 17 mv.pairs (pair_within mv (cut_bounds t.n b)) (pair_within mv b) (λ i l. pair-within i (ten i l)) (λ e. more))))

  good-same : move_good (bare t) (cut_bounds t.n b) mv ≡ move_good t b mv
  unfolding every
  good-same = ap (λ p. tests (all_below p mv.pairs) (all_below (pair_within mv (cut_bounds t.n b)) mv.pairs)) movable-same ∙ go (all_below (movable mv t) mv.pairs) refl
    where
      tests : Bool → Bool → Bool
      tests ten seventeen = every (leb mv.pairs 64 ∷ ten ∷ all_below (named_once mv) mv.pairs ∷ all_below (has_value mv) mv.pairs ∷ seventeen ∷ [])

      go : (g : Bool) → all_below (movable mv t) mv.pairs ≡ g
          → tests g (all_below (pair_within mv (cut_bounds t.n b)) mv.pairs) ≡ tests g (all_below (pair_within mv b) mv.pairs)
      go true e = ap (tests true) (all_below-same _ _ mv.pairs (λ i l. pair-within i (all_below-at (movable mv t) mv.pairs e i l)))
      go false e = refl

log-same : (l : Log) (t : Tables) (b : Bounds) (kept : ℕ) → log_good l (bare t) (cut_bounds t.n b) kept ≡ log_good l t b kept
log-same l t b kept = λ i. every (leb (logged l) 64 ∷ leb (logged l) kept ∷ all_below (λ k. good-same t b (back l k) i) (logged l) ∷ [])

-- ── trial ──
module _ (s : Session) (w : Model) (c : TrialLent) where
  abbrev t : Tables
  t = w.tables

  pub trial-verdict : trial_verdict s (up_to_counts w) c ≡ trial_verdict s w c
  unfolding trial_verdict
  trial-verdict =
      require-alike 1 0 {good = trial_fits (up_to_counts w) c} {other = trial_fits w c} (rw (fits-same w)) (λ fits. model-alike w s.blanks (each _ fits).0 (λ sound.
      ap (require 9 0 (between 1 c.route 3)) (move-alike t w.bounds c.move
      (ap (check 13 c.asked (λ i. ltb (nat c.asked_vars i) t.n)) (fresh-same t sound (stored_values w) c.move)))))

  pub trial-same : trial s (up_to_counts w) c ≡ trial s w c
  unfolding trial
  trial-same = ap (trial_leaves (up_to_counts w) c s) trial-verdict ∙ go (trial_verdict s w c) refl
    where
      go : (v : Verdict) → trial_verdict s w c ≡ v → trial_leaves (up_to_counts w) c s v ≡ trial_leaves w c s v
      go (refused number place) e = refl
      go accepted e =
          let sound = (trial-known s w c e).model.sound in
          let old = stored_values w in let r = route_of c.route in let mv = pairs_of_move c.move in let asked = asked_list c in
          let values = values_same t sound old r mv asked in let found = evaluates-same t sound old r mv asked in
          λ i. record {
            answer = Accepted (size (found i) t.n);
            session = record { kept = s.kept; evaluations = size (found i) t.n; blanks = s.blanks };
            results = over c.asked (λ k. values i (nat c.asked_vars k)) c.results;
            trial = over t.n (λ v. cond (names mv v || found i v) (values i v) (old v)) c.trial;
            flags = over t.n (λ v. cond (found i v) 1 0) c.flags;
            why = over c.asked (λ k. let v = nat c.asked_vars k in cond (found i v) (reasons-same t sound i v (values i)) (nat w.reasons v)) c.why;
          }

-- ── keep and taking back ──
leaves-same : (s : Session) (l : Log) (w : Model) (c : KeepLent) (number : ℕ) (log : Log) (v : Verdict) → (v ≡ accepted → Sound w.tables)
    → move_leaves s l (up_to_counts w) c number log v ≡ move_leaves s l w c number log v
leaves-same s l w c number log (refused k place) known = refl
leaves-same s l w c number log accepted known =
    let t = w.tables in let sound = known refl in
    let old = stored_values w in let mv = pairs_of_move c.move in
    let values = values_same t sound old input-to-output mv [] in let found = evaluates-same t sound old input-to-output mv [] in
    λ i. record {
      answer = Accepted (size (found i) t.n);
      session = record { kept = number; evaluations = size (found i) t.n; blanks = blanks_among t.n (values i) };
      stored = over t.n (values i) w.stored;
      reasons = over t.n (λ v. cond (made t sound i v) (cond (found i v) (reasons-same t sound i v (values i)) (nat w.reasons v)) 0) w.reasons;
      flags = over t.n (λ v. cond (found i v) 1 0) c.flags;
      log = log;
    }

module _ (s : Session) (l : Log) (w : Model) (c : KeepLent) where
  pub keep-verdict : keep_verdict s l (up_to_counts w) c ≡ keep_verdict s l w c
  unfolding keep_verdict
  keep-verdict =
      require-alike 1 0 {good = keep_fits l (up_to_counts w) c} {other = keep_fits l w c} (rw (fits-same w)) (λ fits. model-alike w s.blanks (each _ fits).0 (λ sound.
      move-alike w.tables w.bounds c.move (require-alike 16 0 (log-same l w.tables w.bounds s.kept) (λ e. fresh-same w.tables sound (stored_values w) c.move))))

  pub keep_same : keep s l (up_to_counts w) c ≡ keep s l w c
  unfolding keep
  keep_same =
      ap (keep_leaves s l (up_to_counts w) c) keep-verdict
      ∙ leaves-same s l w c _ _ (keep_verdict s l w c) (λ e. (keep_known s l w c e).model.sound)

module _ (s : Session) (l : Log) (w : Model) (c : TakeLent) where
  pub take-verdict : take_verdict s l (up_to_counts w) c ≡ take_verdict s l w c
  unfolding take_verdict
  take-verdict =
      require-alike 1 0 {good = take_fits l (up_to_counts w) c} {other = take_fits l w c} (rw (fits-same w)) (λ fits. model-alike w s.blanks (each _ fits).0 (λ sound.
      require-alike 16 0 (log-same l w.tables w.bounds s.kept) (λ e. ap (require 15 0 (ltb 0 (logged l))) (fresh-same w.tables sound (stored_values w) (latest l c).move))))

  pub take_same : take_back s l (up_to_counts w) c ≡ take_back s l w c
  unfolding take_back
  take_same =
      ap (take_leaves s l (up_to_counts w) c) take-verdict
      ∙ leaves-same s l w (latest l c) _ _ (take_verdict s l w c) (λ e. (take-known s l w c e).model.sound)

-- ── over models that agree up to the counts ──
module _ (s : Session) (w w' : Model) (same : up_to_counts w ≡ up_to_counts w') where
  pub trial-up-to : (c : TrialLent) → (trial_verdict s w c ≡ trial_verdict s w' c) × (trial s w c ≡ trial s w' c)
  trial-up-to c = (sym (trial-verdict s w c) ∙ ap (λ x. trial_verdict s x c) same ∙ trial-verdict s w' c, sym (trial-same s w c) ∙ ap (λ x. trial s x c) same ∙ trial-same s w' c)

  pub keep-up-to : (l : Log) (c : KeepLent) → (keep_verdict s l w c ≡ keep_verdict s l w' c) × (keep s l w c ≡ keep s l w' c)
  keep-up-to l c = (sym (keep-verdict s l w c) ∙ ap (λ x. keep_verdict s l x c) same ∙ keep-verdict s l w' c, sym (keep_same s l w c) ∙ ap (λ x. keep s l x c) same ∙ keep_same s l w' c)

  pub take-up-to : (l : Log) (c : TakeLent) → (take_verdict s l w c ≡ take_verdict s l w' c) × (take_back s l w c ≡ take_back s l w' c)
  take-up-to l c = (sym (take-verdict s l w c) ∙ ap (λ x. take_verdict s l x c) same ∙ take-verdict s l w' c, sym (take_same s l w c) ∙ ap (λ x. take_back s l x c) same ∙ take_same s l w' c)
