-- After an accepted build, each accepted keep puts its move into the search values and each accepted taking back takes the latest out again; both leave fresh
-- values and the reasons over them, and a log that undoes the moves. So what stands is the model worked out afresh. Assumes nothing.
use Prim.Native.Nat.{ℕ, zero, suc, pred, min, ◌≤◌, ◌<◌}
use native.Mathlib.Nat.{lt_irrefl, not-suc-le-zero}
use native.Mathlib.Omega.{arith}
use mathlib.Core.Bool.{Bool, true, false, cond, not, ◌||◌}
use mathlib.Core.List.Memᴰ
use mathlib.Core.List.{List, [], ◌∷◌, Memᴰ}
use mathlib.Core.Path.{◌≡◌, refl, ap, sym, ◌∙◌, fun_ext, subst, subst⁻¹}
use lib.IntN.{ℤ, pos}
use lib.Dec.{ltb}
use lib.ListN.{length, get_or, set, take, length-take, length-set, get_or-eq_default}
use lib.Seq.{get_or-set_same}
use borrow.Author.Tests.{ltb-true, ltb-false, leb-true, not-true}
use Rattle.integers.specs.Integers.{eq_z}
use Rattle.paper.specs.Lists.{nat, below, over}
use Rattle.paper.specs.Formula.{blank}
use Rattle.paper.specs.Net.{Net, Values, Route, input-to-output, afresh, new, moved, names, evaluated}
use Rattle.paper.specs.Tables.{Tables, net, is_made, values_in}
use Rattle.paper.specs.Chains.{worth, determined, stored_fresh}
use Rattle.paper.specs.Checks.{accepted, sized, within, pairs_of_move}
use Rattle.paper.specs.Log.{Log, log_in, logged, back, log_fits, log_good, noted, dropped}
use Rattle.paper.specs.Moves.{Moves, rest, applied}
use Rattle.paper.specs.Reason.{reason_of, reason_after, reason_kept}
use Rattle.paper.specs.Calls.{blanks_among, number_of, new_values, evaluates, BuildLent, BuildLeft, start_values, build, Model, TrialLent, asked_list, route_of, KeepLent, KeepLeft, stored_values, kept_blanks, kept_stored, kept_reasons, keep_verdict, keep_leaves, keep, latest, TakeLent, take_verdict, take_leaves, take_back}
use Rattle.paper.proofs.Lists.{and_right, each}
use Rattle.paper.proofs.Buffers.{length-below, get_d-below, over-front, over-over, over-at, over-same}
use Rattle.paper.proofs.Sizes.{sized-facts}
use Rattle.paper.proofs.Accept.{made-below, inputs-below}
use Rattle.paper.proofs.Fresh.{Fresh, Alike, moved-alike, unnamed}
use Rattle.paper.proofs.Needs.{search-determined, determined-alike, step-worth, worth-fresh, route-worth}
use Rattle.paper.proofs.RouteReasons.{asked-settled, reason-fresh, kept_fresh}
use Rattle.paper.proofs.Known.{BuildKnown, build-known, ModelKnown, MoveKnown, named-below, fits-long, long-fits, TrialKnown, KeepKnown, keep_known, TakeKnown, take-known, latest-known}
use Rattle.paper.proofs.Outcomes.{build-judged, keep-judged, take-judged}
use Rattle.paper.proofs.Moves.{keep-leaves-known, take-accepts}
use Rattle.paper.proofs.Log.{Undoes, undoes-latest, good-log, dropped-good, dropped-undoes, noted-good, noted-undoes}
use Rattle.demands.specs.Runs.{State}
use Rattle.demands.specs.Demands.{fresh, reasons_over}
use Rattle.demands.proofs.Logs.{noted-long}

-- an entry among the first k
at_mem : (k : ℕ) (l : List ℕ) → k ≤ length l → (i : ℕ) → i < k → Memᴰ (nat l i) (take k l)
at_mem zero l h i m = absurd (not-suc-le-zero m)
at_mem (suc k) [] h i m = absurd (omega arith)
at_mem (suc k) (x ∷ l) h zero m = Memᴰ.head refl
at_mem (suc k) (x ∷ l) h (suc i) m = Memᴰ.tail (at_mem k l (omega arith) i (omega arith))

-- each of them is low if each place's is
mem-low : (k : ℕ) (l : List ℕ) (n : ℕ) → ((i : ℕ) → i < k → nat l i < n) → (a : ℕ) → Memᴰ a (take k l) → a < n
mem-low (suc k) (x ∷ l) n h a (Memᴰ.head q) = rw q (h 0 (omega arith))
mem-low (suc k) (x ∷ l) n h a (Memᴰ.tail m) = mem-low k l n (λ i j. h (suc i) (omega arith)) a m
mem-low zero l n h a x'' = elim x'' [ ]
mem-low (suc k) [] n h a x5 = elim x5 [ ]

rest-length : (moves : Moves) → length (rest moves) ≡ pred (length moves)
rest-length [] = refl
rest-length (mv ∷ earlier) = omega arith

module _ (b : BuildLent) (ok : number_of (build b).answer ≡ 0) where
  abbrev t : Tables
  t = b.tables

  abbrev N : Net
  N = net b.tables

  pub known : BuildKnown b
  known = build-known b ((build-judged b).good ok)

  some : 0 < b.tables.n
  some = (sized-facts t known.sound.sized).n-some

  -- ── a row of stored values that are fresh ──
  -- the row has the fresh values of s, all of them determined, and s is 0 beyond the variables
  pub record Holds (row : List ℤ) (s : Values) : Type 0 where
    pub row_is : row ≡ over t.n (afresh N s t.n) b.stored
    pub determined : (v : ℕ) → determined t s v ≡ true
    pub ended : (v : ℕ) → t.n ≤ v → s v ≡ pos 0

  values-in : (row : List ℤ) (s : Values) → Holds row s → values_in t row ≡ afresh N s t.n
  values-in row s h = fun_ext (λ v. ap (λ l. get_or (take t.n l) v (pos 0)) h.row_is ∙ ap (λ l. get_or l v (pos 0)) (over-front f t.n b.stored) ∙ go v (ltb v t.n) refl)
    where
      f : Values
      f = afresh N s t.n

      beyond : (v : ℕ) → t.n ≤ v → f v ≡ pos 0
      beyond v l = side (is_made t v) refl
        where
          side : (x : Bool) → is_made t v ≡ x → f v ≡ pos 0
          side true e = let k = made-below t known.sound v e in absurd (lt_irrefl v (omega arith))
          side false e = (search-determined t s v some e).1 ∙ h.ended v l

      go : (v : ℕ) (x : Bool) → ltb v t.n ≡ x → get_or (below f t.n) v (pos 0) ≡ f v
      go v true e = get_d-below f t.n v (pos 0) (ltb-true v t.n e)
      go v false e =
          let l = ltb-false v t.n e in let k = length-below f t.n in
          get_or-eq_default (below f t.n) (pos 0) (omega arith) ∙ sym (beyond v l)

  -- a move over it leaves every variable determined
  abbrev Stays : List ℤ → List (ℕ × ℤ) → Type 0
  Stays row mv = (v : ℕ) → determined t (moved mv (values_in t row)) v ≡ true

  row-alike : (row : List ℤ) (s : Values) → Holds row s → Alike N (values_in t row) s
  row-alike row s h u e = ap (λ (f : Values). f u) (values-in row s h) ∙ (search-determined t s u some e).1

  stays-determined : (row : List ℤ) (s : Values) → Holds row s → (mv : List (ℕ × ℤ)) → Stays row mv → (v : ℕ) → determined t (moved mv s) v ≡ true
  stays-determined row s h mv det v =
      sym (ap (λ (p : ℕ → Bool). p v) (determined-alike t (moved mv (values_in t row)) (moved mv s) (moved-alike N mv (values_in t row) s (row-alike row s h)))) ∙ det v

  -- then each route's new values are fresh
  new-fresh : (row : List ℤ) (s : Values) → Holds row s → (r : Route) (mv : List (ℕ × ℤ)) → Stays row mv
      → new N r (values_in t row) (moved mv (values_in t row)) t.n ≡ afresh N (moved mv s) t.n
  new-fresh row s h r mv det =
      ap (λ o. new N r o (moved mv o) t.n) (values-in row s h)
      ∙ fun_ext (step-worth t (inputs-below t known.sound) (made-below t known.sound) some r mv (worth t s) s h.determined (stays-determined row s h mv det) (λ v. refl))

  -- ── a move put into such a row by route 1, as keep and taking back do ──
  move-holds : (row : List ℤ) (s : Values) → Holds row s → (c : KeepLent) → MoveKnown t b.bounds c.move → Stays row (pairs_of_move c.move)
      → Holds (kept_stored t row c) (moved (pairs_of_move c.move) s)
  move-holds row s h c move det = record {
    row_is =
        ap (λ f. over t.n f row) (new-fresh row s h input-to-output (pairs_of_move c.move) det)
        ∙ ap (over t.n (afresh N (moved (pairs_of_move c.move) s) t.n)) h.row_is
        ∙ over-over (afresh N (moved (pairs_of_move c.move) s) t.n) t.n b.stored (afresh N s t.n);
    determined = stays-determined row s h (pairs_of_move c.move) det;
    ended = λ v l. go v l (names (pairs_of_move c.move) v) refl;
  }
    where
      go : (v : ℕ) → t.n ≤ v → (x : Bool) → names (pairs_of_move c.move) v ≡ x → moved (pairs_of_move c.move) s v ≡ pos 0
      go v l true q = let k = named-below t b.bounds c.move move v q in absurd (lt_irrefl v (omega arith))
      go v l false q = unnamed (pairs_of_move c.move) s v q ∙ h.ended v l

  -- the number of blanks that it leaves
  move-blanks : (row : List ℤ) (s : Values) → Holds row s → (c : KeepLent) → Stays row (pairs_of_move c.move)
      → kept_blanks t row c ≡ blanks_among t.n (afresh N (moved (pairs_of_move c.move) s) t.n)
  move-blanks row s h c det = ap (blanks_among t.n) (new-fresh row s h input-to-output (pairs_of_move c.move) det)

  -- ── the reasons over such values ──
  -- one more move over the values and their reasons, after which every variable is determined
  module _ (stored : List ℤ) (s : Values) (h : Holds stored s) (row : List ℕ) (held : row ≡ reasons_over b (afresh N s t.n)) (mv : List (ℕ × ℤ)) (det : Stays stored mv) where
    abbrev before : Values
    before = values_in t stored

    before-fresh : Fresh N (values_in t stored)
    before-fresh = subst⁻¹ (Fresh N) (values-in stored s h) (worth-fresh t (inputs-below t known.sound) (made-below t known.sound) some s h.determined)

    row-holds : (v : ℕ) → v < t.n → nat row v ≡ reason_of t v (values_in t stored)
    row-holds v l = ap (λ z. nat z v) held ∙ over-at (λ u. reason_of t u (afresh N s t.n)) t.n b.reasons v 0 l ∙ ap (reason_of t v) (sym (values-in stored s h))

    after_is : Route → worth t (moved mv (values_in t stored)) ≡ afresh N (moved mv s) t.n
    after_is r =
        sym (fun_ext (route-worth t (inputs-below t known.sound) (made-below t known.sound) some (moved mv before) det before before-fresh r))
        ∙ new-fresh stored s h r mv det

    -- of a variable asked, by any route
    asked-reason : (r : Route) (asked : List ℕ) → ((a : ℕ) → Memᴰ a asked → a < t.n) → (v : ℕ) → Memᴰ v asked
        → reason_after t (evaluates t (values_in t stored) r mv asked) (new_values t (values_in t stored) r mv asked) (nat row) v ≡ reason_of t v (afresh N (moved mv s) t.n)
    asked-reason r asked within v m =
        reason-fresh t known.sound r before (moved mv before) asked within det before-fresh (nat row) v (row-holds v (within v m))
        (asked-settled t known.sound r before (moved mv before) asked within v m)
        ∙ ap (reason_of t v) (after_is r)

    -- of every variable, as keep and taking back store it
    moved-laid : (c : KeepLent) → pairs_of_move c.move ≡ mv → kept_reasons t stored c row ≡ reasons_over b (afresh N (moved mv s) t.n)
    moved-laid c same = let f : Values = afresh N (moved mv s) t.n in
        ap (λ z. over t.n (reason_kept t (evaluates t before input-to-output z []) (new_values t before input-to-output z []) (nat row)) row) same
        ∙ over-same (reason_kept t (evaluates t before input-to-output mv []) (new_values t before input-to-output mv []) (nat row)) t.n row (λ v. reason_of t v f)
        (λ v l. kept_fresh t known.sound input-to-output before (moved mv before) [] (λ a m. absurd (Memᴰ.not-nil m)) det before-fresh (nat row) v (row-holds v l) (λ h. h)
        ∙ ap (reason_of t v) (after_is input-to-output))
        ∙ ap (over t.n (λ v. reason_of t v f)) held
        ∙ over-over (λ v. reason_of t v f) t.n b.reasons (λ v. reason_of t v (afresh N s t.n))

  -- ── what holds after a run of that many calls, with these moves kept and not taken back ──
  -- every variable was determined after each of these moves
  abbrev EachDetermined : Moves → Type 0
  EachDetermined [] = (v : ℕ) → determined t (start_values b) v ≡ true
  EachDetermined (mv ∷ earlier) = ((v : ℕ) → determined t (applied (start_values b) (mv ∷ earlier)) v ≡ true) × EachDetermined earlier

  each-rest : (moves : Moves) → EachDetermined moves → EachDetermined (rest moves)
  each-rest [] h = h
  each-rest (mv ∷ earlier) h = h.1

  each_first : (moves : Moves) → EachDetermined moves → (v : ℕ) → determined t (applied (start_values b) moves) v ≡ true
  each_first [] h = h
  each_first (mv ∷ earlier) h = h.0

  -- the model's own, with some stored values and reasons
  abbrev pub model_with : List ℤ → List ℕ → Model
  model_with stored reasons = let x = build b in record { tables = b.tables; bounds = b.bounds; numbers = x.numbers; order = x.order; stored = stored; index = x.index; reasons = reasons }

  -- the row has the fresh values and the reasons are those over them, the record has their number of blanks, the log is good and undoes the latest of the
  -- moves, the number kept is theirs as long as it cannot have reached its ceiling, and once a move is logged the model has passed its checks
  pub record Stands (kept blanks : ℕ) (stored : List ℤ) (reasons : List ℕ) (log : Log) (moves : Moves) (calls : ℕ) : Type 0 where
    pub holds : Holds stored (applied (start_values b) moves)
    pub reasons-are : reasons ≡ reasons_over b (fresh b moves)
    pub blank : blanks ≡ blanks_among t.n (fresh b moves)
    pub good : log_good log t b.bounds kept ≡ true
    pub undoes : Undoes (start_values b) (back log) (logged log) moves
    pub counted : calls < 4294967295 → kept ≡ length moves
    pub within : kept ≤ calls
    pub each : EachDetermined moves
    pub ready : 0 < logged log → ModelKnown (model_with stored reasons) × (log_fits log ≡ true)

  abbrev pub Stood : State → Moves → ℕ → Type 0
  Stood now moves calls = Stands now.session.kept now.session.blanks now.stored now.reasons now.log moves calls

  -- a call that changes nothing of it
  pub idle : {kept blanks : ℕ} {stored : List ℤ} {reasons : List ℕ} {log : Log} {moves : Moves} {calls : ℕ} → Stands kept blanks stored reasons log moves calls
      → Stands kept blanks stored reasons log moves (suc calls)
  idle {kept} {blanks} {stored} {reasons} {log} {moves} {calls} h = let within = h.within in
      record { holds = h.holds; reasons-are = h.reasons-are; blank = h.blank; good = h.good; undoes = h.undoes; counted = λ l. h.counted (omega arith); within = omega arith; each = h.each; ready = h.ready }

  -- build leaves an empty log
  pub stands-first : (room : List ℕ × List ℤ) → let x = build b in Stands x.session.kept x.session.blanks x.stored x.reasons (log_in x.log_sizes room.0 room.1) [] 0
  stands-first room =
      let left = (build-judged b).is accepted ((build-judged b).good ok) in
      subst⁻¹ (λ (x : BuildLeft). Stands x.session.kept x.session.blanks x.stored x.reasons (log_in x.log_sizes room.0 room.1) [] 0) left
      (record {
        holds = record { row_is = refl; determined = known.determined; ended = λ v l. get_or-eq_default (take t.n b.starts) (pos 0) (simp length-take (omega arith)) };
        reasons-are = refl;
        blank = refl;
        good = good-log (log_in (set b.log_sizes 0 0) room.0 room.1) t b.bounds 0 (omega (arith, none)) (omega (arith, none)) (λ k l. let z = none in absurd (lt_irrefl 0 (omega arith)));
        undoes = subst⁻¹ (λ n. Undoes (start_values b) (back (log_in (set b.log_sizes 0 0) room.0 room.1)) n []) none tt;
        counted = λ l. refl;
        within = omega arith;
        each = known.determined;
        ready = λ l. let z = none in absurd (lt_irrefl 0 (omega arith));
      })
    where
      none : nat (set b.log_sizes 0 0) 0 ≡ 0
      none = let long = leb-true 65 (length b.log_sizes) (each _ (and_right (sized t) _ known.fits)).1.1.1.1.1.0 in get_or-set_same b.log_sizes 0 0 0 (omega arith)

  -- ── one more call, lent the model's own and the session's log ──
  module _ (now : State) (moves : Moves) (calls : ℕ) (h : Stood now moves calls) where
    abbrev own : Model
    own = model_with now.stored now.reasons

    abbrev searched : Values
    searched = applied (start_values b) moves

    pub old-is : values_in t now.stored ≡ fresh b moves
    old-is = values-in now.stored searched h.holds

    pub new_is : (r : Route) (mv : List (ℕ × ℤ)) (asked : List ℕ) → Stays now.stored mv → new_values t (values_in t now.stored) r mv asked ≡ fresh b (mv ∷ moves)
    new_is r mv asked det = new-fresh now.stored searched h.holds r mv det

    pub set_is : (r : Route) (mv : List (ℕ × ℤ)) (asked : List ℕ)
        → evaluates t (values_in t now.stored) r mv asked ≡ evaluated N r (fresh b moves) (moved mv (fresh b moves)) asked t.n
    set_is r mv asked = ap (λ o. evaluated N r o (moved mv o) asked t.n) old-is

    -- the reasons that a trial gives of the variables asked
    pub why-is : (c : TrialLent) → TrialKnown own c → (why : List ℕ)
        → over c.asked (λ i. reason_after t (evaluates t (values_in t now.stored) (route_of c.route) (pairs_of_move c.move) (asked_list c)) (new_values t (values_in t now.stored) (route_of c.route) (pairs_of_move c.move) (asked_list c)) (nat now.reasons) (nat c.asked_vars i)) why
        ≡ over c.asked (λ i. reason_of t (nat c.asked_vars i) (fresh b (pairs_of_move c.move ∷ moves))) why
    why-is c k why = over-same _ c.asked why (λ i. reason_of t (nat c.asked_vars i) (fresh b (pairs_of_move c.move ∷ moves)))
        (λ i l. asked-reason now.stored searched h.holds now.reasons h.reasons-are (pairs_of_move c.move) k.determined (route_of c.route) (asked_list c)
        (mem-low c.asked c.asked_vars t.n k.asked) (nat c.asked_vars i) (at_mem c.asked c.asked_vars k.asked-long i l))

    -- ── an accepted keep ──
    module _ (c : KeepLent) (e : keep_verdict now.session now.log (model_with now.stored now.reasons) c ≡ accepted) where
      pub keep-has : KeepKnown now.session now.log (model_with now.stored now.reasons) c
      keep-has = keep_known now.session now.log own c e

      pub keep_left : keep now.session now.log (model_with now.stored now.reasons) c ≡ keep_leaves now.session now.log (model_with now.stored now.reasons) c accepted
      keep_left = (keep-judged now.session now.log own c).is accepted e

      full : (i : ℕ) → i < c.move.pairs → eq_z (values_in b.tables now.stored (nat c.move.vars i)) blank ≡ false
      full i l = let v = nat c.move.vars i in
          not-true (eq_z (stored_values own v) blank) (sym (ap (◌|| not (eq_z (stored_values own v) blank)) (keep-has.move.search i l)) ∙ keep-has.model.stored v (keep-has.move.low i l))

      within-bounds : (i : ℕ) → i < c.move.pairs → within b.bounds (nat c.move.vars i) (values_in b.tables now.stored (nat c.move.vars i)) ≡ true
      within-bounds i l = let v = nat c.move.vars i in
          sym (ap (◌|| within b.bounds v (stored_values own v)) (keep-has.move.search i l)) ∙ keep-has.model.inside v (keep-has.move.low i l)

      same : (i : ℕ) → i < c.move.pairs → values_in b.tables now.stored (nat c.move.vars i) ≡ applied (start_values b) moves (nat c.move.vars i)
      same i l = let v = nat c.move.vars i in
          ap (λ (f : Values). f v) old-is ∙ (search-determined t searched v some (keep-has.move.search i l)).1

      pub keep-stands : let x = keep now.session now.log (model_with now.stored now.reasons) c in
          Stands x.session.kept x.session.blanks x.stored x.reasons x.log (pairs_of_move c.move ∷ moves) (suc calls)
      keep-stands =
          subst⁻¹ (λ (x : KeepLeft). Stands x.session.kept x.session.blanks x.stored x.reasons x.log (pairs_of_move c.move ∷ moves) (suc calls)) keep_left
          (let log = keep-has.log in let within = h.within in let holds = move-holds now.stored searched h.holds c keep-has.move keep-has.determined in record {
            holds = holds;
            reasons-are = moved-laid now.stored searched h.holds now.reasons h.reasons-are (pairs_of_move c.move) keep-has.determined c refl;
            blank = move-blanks now.stored searched h.holds c keep-has.determined;
            good = noted-good t b.bounds now.log now.session.kept keep-has.log (stored_values own) c.move keep-has.move (min (suc now.session.kept) 4294967295) (omega arith) full within-bounds;
            undoes = noted-undoes t b.bounds now.log now.session.kept keep-has.log (stored_values own) c.move keep-has.move (start_values b) moves same h.undoes;
            counted = λ l. let k = h.counted (omega arith) in omega arith;
            within = omega arith;
            each = (holds.determined, h.each);
            ready = λ l. (
              keep-leaves-known own c keep-has.model keep-has.move,
              long-fits (noted now.log (stored_values own) c.move) (noted-long now.log (fits-long now.log keep-has.log.fits) (stored_values own) c.move keep-has.move.few),
            );
          })

    -- ── a taking back, where a move is logged ──
    module _ (c : TakeLent) (logs : 0 < logged now.log) where
      undone : (moved (pairs_of_move (latest now.log c).move) (applied (start_values b) moves) ≡ applied (start_values b) (rest moves))
          × Undoes (start_values b) (back now.log) (pred (logged now.log)) (rest moves)
      undone = undoes-latest (start_values b) (back now.log) (logged now.log) moves logs h.undoes

      -- the latest move undone leaves every variable determined, as it was before that move
      undone-stays : Stays now.stored (pairs_of_move (latest now.log c).move)
      undone-stays v = let mv = pairs_of_move (latest now.log c).move in
          ap (λ (d : ℕ → Bool). d v) (determined-alike t (moved mv (values_in t now.stored)) (moved mv searched) (moved-alike N mv (values_in t now.stored) searched (row-alike now.stored searched h.holds)))
          ∙ ap (λ f. determined t f v) undone.0 ∙ each_first (rest moves) (each-rest moves h.each) v

      -- so it is accepted, with a long enough row of flags
      pub take-works : ((v : ℕ) → v < t.n → stored_fresh t (values_in t now.stored) v ≡ true) → t.n ≤ length c.flags
          → take_verdict now.session now.log (model_with now.stored now.reasons) c ≡ accepted
      take-works stored-fresh long = let ready = h.ready logs in
          take-accepts now.session now.log own c ready.0 (h.blank ∙ sym (ap (blanks_among t.n) old-is)) long ready.1 h.good logs stored-fresh undone-stays

    -- ── an accepted taking back ──
    module _ (c : TakeLent) (e : take_verdict now.session now.log (model_with now.stored now.reasons) c ≡ accepted) where
      pub take-has : TakeKnown now.session now.log (model_with now.stored now.reasons) c
      take-has = take-known now.session now.log own c e

      pub take_left : take_back now.session now.log (model_with now.stored now.reasons) c ≡ take_leaves now.session now.log (model_with now.stored now.reasons) c accepted
      take_left = (take-judged now.session now.log own c).is accepted e

      abbrev undid : moved (pairs_of_move (latest now.log c).move) (applied (start_values b) moves) ≡ applied (start_values b) (rest moves)
      undid = (undone c take-has.some).0

      latest-move : MoveKnown t b.bounds (latest now.log c).move
      latest-move = latest-known now.session now.log own c take-has

      dropped-fits : log_fits (dropped now.log) ≡ true
      dropped-fits = long-fits (dropped now.log) (let k = fits-long now.log take-has.log.fits in record { in-sizes = simp length-set (omega arith); in-vars = k.in-vars; in-values = k.in-values })

      with-kept : (fewer : ℕ) → pred (logged now.log) ≤ fewer → (suc calls < 4294967295 → fewer ≡ length (rest moves)) → fewer ≤ suc calls
          → let w = latest now.log c in Stands fewer (kept_blanks b.tables now.stored w) (kept_stored b.tables now.stored w) (kept_reasons b.tables now.stored w now.reasons) (dropped now.log) (rest moves) (suc calls)
      with-kept fewer low counted within = let w = latest now.log c in record {
        holds = subst (Holds (kept_stored t now.stored w)) undid (move-holds now.stored searched h.holds w latest-move take-has.determined);
        reasons-are = moved-laid now.stored searched h.holds now.reasons h.reasons-are (pairs_of_move w.move) take-has.determined w refl ∙ ap (λ s. reasons_over b (afresh N s t.n)) undid;
        blank = move-blanks now.stored searched h.holds w take-has.determined ∙ ap (λ s. blanks_among t.n (afresh N s t.n)) undid;
        good = dropped-good t b.bounds now.log now.session.kept take-has.log fewer low;
        undoes = dropped-undoes t b.bounds now.log now.session.kept take-has.log (start_values b) (rest moves) (undone c take-has.some).1;
        counted = counted;
        within = within;
        each = each-rest moves h.each;
        ready = λ l. (keep-leaves-known own w take-has.model latest-move, dropped-fits);
      }

      pub take-stands : let x = take_back now.session now.log (model_with now.stored now.reasons) c in
          Stands x.session.kept x.session.blanks x.stored x.reasons x.log (rest moves) (suc calls)
      take-stands =
          subst⁻¹ (λ (x : KeepLeft). Stands x.session.kept x.session.blanks x.stored x.reasons x.log (rest moves) (suc calls)) take_left
          (go (ltb now.session.kept 4294967295) refl)
        where
          go : (x : Bool) → ltb now.session.kept 4294967295 ≡ x
              → let w = latest now.log c in Stands (cond x (pred now.session.kept) now.session.kept) (kept_blanks b.tables now.stored w) (kept_stored b.tables now.stored w) (kept_reasons b.tables now.stored w now.reasons) (dropped now.log) (rest moves) (suc calls)
          go true q =
              let log = take-has.log in let within = h.within in
              with-kept (pred now.session.kept) (omega arith) (λ l. let k = h.counted (omega arith) in let z = rest-length moves in omega arith) (omega arith)
          go false q =
              let log = take-has.log in let within = h.within in let most = ltb-false now.session.kept 4294967295 q in
              with-kept now.session.kept (omega arith) (λ l. absurd (lt_irrefl 4294967295 (omega arith))) (omega arith)
