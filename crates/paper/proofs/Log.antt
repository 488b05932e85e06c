-- The log of kept moves: a noted move can be taken back, and behind it stands what stood there before, but the oldest move where there were 64;
-- so a log undoes the latest moves of a history, one after another. Assumes nothing.
use Prim.Native.Nat.{ℕ, zero, suc, pred, min, ◌+◌, ◌*◌, ◌≤◌, ◌<◌}
use native.Mathlib.Omega.{arith}
use mathlib.Core.Bool.{Bool, true, false, cond, not, ◌&&◌}
use mathlib.Core.List.{List, [], ◌∷◌}
use mathlib.Core.Path.{◌≡◌, refl, ap, ap₂, sym, ◌∙◌, subst⁻¹}
use lib.IntN.{ℤ, pos}
use lib.Dec.{eqb, leb, ltb}
use lib.ListN.{length, get_or, set, take, drop, length-append, length-take, length-drop, length-set, get_or-append}
use lib.Seq.{take_all, drop_at, drop-drop, take-take, get_or-take, get_or-drop, length-take-le, get_or-set_same, get_or-set_other}
use borrow.Author.Tests.{ltb-true, ltb-false, le-leb}
use Rattle.integers.specs.Integers.{eq_z}
use Rattle.paper.specs.Lists.{any, every, nat, first_fail, below, over}
use Rattle.paper.specs.Formula.{blank}
use Rattle.paper.specs.Net.{Values, moved}
use Rattle.paper.specs.Tables.{Tables, is_made}
use Rattle.paper.specs.Checks.{Bounds, within, Move, pairs_of_move, movable, named_once, has_value, pair_within}
use Rattle.paper.specs.Moves.{pair_at}
use Rattle.paper.specs.Log.{Log, log_in, move_good, slid, laid_at, logged, back, log_fits, log_good, room_made, noted, dropped}
use Rattle.paper.specs.Moves.{rest, applied}
use Rattle.paper.proofs.Lists.{all_yes}
use Rattle.paper.proofs.Buffers.{length-below, get_d-below, below-same, below-list, part-front, over-front}
use Rattle.paper.proofs.Least.{below_all}
use Rattle.paper.proofs.Scan.{first_fail-same}
use Rattle.paper.proofs.Known.{MoveKnown, Long, fits-long, long-fits, LogKnown}
use Rattle.paper.proofs.Moves.{pair_same, undo, taken_back, movable-at}

-- ── a row slid, or laid over ──
module _ {A : Type 0} (l : List A) where
  slid-length : (k n : ℕ) → k + n ≤ length l → length (slid k n l) ≡ length l
  slid-length k n h = simp (length-append, length-take, length-drop) (omega arith)

  slid_at : (k n i : ℕ) (x : A) → k + n ≤ length l → i < n → get_or (slid k n l) i x ≡ get_or l (k + i) x
  slid_at k n i x h low =
      let p = length-take-le n (drop k l) (simp length-drop (omega arith)) in
      get_or-append (take n (drop k l)) (drop n l) x i (omega arith) ∙ get_or-take n (drop k l) i x low ∙ get_or-drop k l i x

  slid-part : (k n a p : ℕ) → k + n ≤ length l → a + p ≤ n → take p (drop a (slid k n l)) ≡ take p (drop (k + a) l)
  slid-part k n a p h low = let q = length-drop k l in part-front (drop k l) a p n (drop n l) low (omega arith) ∙ ap (take p) (drop-drop a k l)

  laid-before : (at n : ℕ) (f : ℕ → A) (a p : ℕ) → at ≤ length l → a + p ≤ at → take p (drop a (laid_at at n f l)) ≡ take p (drop a l)
  laid-before at n f a p h low = part-front l a p at (over n f (drop at l)) low h

  laid-there : (at n : ℕ) (f : ℕ → A) → at ≤ length l → take n (drop at (laid_at at n f l)) ≡ below f n
  laid-there at n f h = ap (take n) (drop_at (take at l) (over n f (drop at l)) at (length-take-le at l h)) ∙ over-front f n (drop at l)

-- ── a move, with nothing of its rows beyond its pairs ──
abbrev bare : Move → Move
bare mv = record { pairs = mv.pairs; vars = take mv.pairs mv.vars; values = take mv.pairs mv.values }

bare-same : (a b : Move) → a.pairs ≡ b.pairs → take b.pairs a.vars ≡ take b.pairs b.vars → take b.pairs a.values ≡ take b.pairs b.values → bare a ≡ bare b
bare-same a b p v w = λ i. record { pairs = p i; vars = (ap (λ n. take n a.vars) p ∙ v) i; values = (ap (λ n. take n a.values) p ∙ w) i }

bare-pairs : (mv : Move) → pairs_of_move (bare mv) ≡ pairs_of_move mv
bare-pairs mv = below-same (pair_at (bare mv)) (pair_at mv) mv.pairs (λ i l. pair_same (get_or-take mv.pairs mv.vars i 0 l) (get_or-take mv.pairs mv.values i (pos 0) l))

bare-good : (t : Tables) (bs : Bounds) (mv : Move) → move_good t bs (bare mv) ≡ move_good t bs mv
bare-good t bs mv = λ i. every (leb mv.pairs 64 ∷ eqb (ten i) mv.pairs ∷ eqb (eleven i) mv.pairs ∷ eqb (twelve i) mv.pairs ∷ eqb (seventeen i) mv.pairs ∷ [])
  where
    var-at : (k : ℕ) → k < mv.pairs → nat (take mv.pairs mv.vars) k ≡ nat mv.vars k
    var-at k l = get_or-take mv.pairs mv.vars k 0 l

    ten : first_fail (movable (bare mv) t) mv.pairs ≡ first_fail (movable mv t) mv.pairs
    ten = first_fail-same (movable (bare mv) t) (movable mv t) mv.pairs (λ k l. ap (λ v. ltb v t.n && not (is_made t v)) (var-at k l))

    eleven : first_fail (named_once (bare mv)) mv.pairs ≡ first_fail (named_once mv) mv.pairs
    eleven = first_fail-same (named_once (bare mv)) (named_once mv) mv.pairs
        (λ k l. ap₂ (λ v xs. not (any (eqb v) xs)) (var-at k l) (take-take k mv.pairs mv.vars (omega arith)))

    twelve : first_fail (has_value (bare mv)) mv.pairs ≡ first_fail (has_value mv) mv.pairs
    twelve = first_fail-same (has_value (bare mv)) (has_value mv) mv.pairs (λ k l. ap (λ z. not (eq_z z blank)) (get_or-take mv.pairs mv.values k (pos 0) l))

    seventeen : first_fail (pair_within (bare mv) bs) mv.pairs ≡ first_fail (pair_within mv bs) mv.pairs
    seventeen = first_fail-same (pair_within (bare mv) bs) (pair_within mv bs) mv.pairs (λ k l. ap₂ (within bs) (var-at k l) (get_or-take mv.pairs mv.values k (pos 0) l))

same-pairs : (a b : Move) → bare a ≡ bare b → pairs_of_move a ≡ pairs_of_move b
same-pairs a b e = sym (bare-pairs a) ∙ ap pairs_of_move e ∙ bare-pairs b

same_good : (t : Tables) (bs : Bounds) (a b : Move) → bare a ≡ bare b → move_good t bs b ≡ true → move_good t bs a ≡ true
same_good t bs a b e h = sym (bare-good t bs a) ∙ ap (move_good t bs) e ∙ bare-good t bs b ∙ h

-- a move that passes its checks is one that a log may hold, and so is the one that takes it back if no value before it is blank or outside
module _ (t : Tables) (bs : Bounds) (mv : Move) (known : MoveKnown t bs mv) where
  good-with : (values : List ℤ) → ((i : ℕ) → i < mv.pairs → eq_z (get_or values i (pos 0)) blank ≡ false) → ((i : ℕ) → i < mv.pairs → within bs (nat mv.vars i) (get_or values i (pos 0)) ≡ true)
      → move_good t bs (record { pairs = mv.pairs; vars = mv.vars; values = values }) ≡ true
  good-with values full inside =
      let ten = below_all (movable mv t) mv.pairs (movable-at t bs mv known) in
      let eleven = below_all (named_once mv) mv.pairs (λ i l. ap not (known.once i l)) in
      let twelve = below_all (λ i. not (eq_z (get_or values i (pos 0)) blank)) mv.pairs (λ i l. ap not (full i l)) in
      let seventeen = below_all (λ i. within bs (nat mv.vars i) (get_or values i (pos 0))) mv.pairs inside in
      all_yes _ (le-leb mv.pairs 64 known.few, (ten, (eleven, (twelve, (seventeen, tt)))))

  known-good : move_good t bs mv ≡ true
  known-good = good-with mv.values known.full known.inside

  undo-good : (old : Values) → ((i : ℕ) → i < mv.pairs → eq_z (old (nat mv.vars i)) blank ≡ false) → ((i : ℕ) → i < mv.pairs → within bs (nat mv.vars i) (old (nat mv.vars i)) ≡ true)
      → move_good t bs (undo old mv) ≡ true
  undo-good old full inside = let f : ℕ → ℤ = λ i. old (nat mv.vars i) in
      good-with (below f mv.pairs) (λ i l. ap (λ z. eq_z z blank) (get_d-below f mv.pairs i (pos 0) l) ∙ full i l)
      (λ i l. ap (within bs (nat mv.vars i)) (get_d-below f mv.pairs i (pos 0) l) ∙ inside i l)

-- ── what a log undoes ──
-- moves 0 to n - 1 of u take the latest of a history back: the last of them its head, and each other the one before
abbrev pub Undoes : Values → (ℕ → Move) → ℕ → List (List (ℕ × ℤ)) → Type 0
Undoes s u zero moves = Unit {0}
Undoes s u (suc n) [] = ⊥
Undoes s u (suc n) (mv ∷ earlier) = (moved (pairs_of_move (u n)) (applied s (mv ∷ earlier)) ≡ applied s earlier) × Undoes s u n earlier

module _ (s : Values) where
  pub undoes-low : (u : ℕ → Move) (n : ℕ) (moves : List (List (ℕ × ℤ))) → Undoes s u n moves → n ≤ length moves
  undoes-low u zero moves h = omega arith
  undoes-low u (suc n) (mv ∷ earlier) h = let k = undoes-low u n earlier h.1 in omega arith
  undoes-low u (suc n) [] h = elim h [ ]

  pub undoes-latest : (u : ℕ → Move) (n : ℕ) (moves : List (List (ℕ × ℤ))) → 0 < n → Undoes s u n moves
      → (moved (pairs_of_move (u (pred n))) (applied s moves) ≡ applied s (rest moves)) × Undoes s u (pred n) (rest moves)
  undoes-latest u zero moves l h = absurd (omega arith)
  undoes-latest u (suc n) (mv ∷ earlier) l h = h
  undoes-latest u (suc n) [] l h = elim h [ ]

  -- by other moves with the same pairs; the oldest d are left out
  undoes-later : (u w : ℕ → Move) (d n m : ℕ) (moves : List (List (ℕ × ℤ))) → ((j : ℕ) → j < n → bare (w j) ≡ bare (u (j + d))) → m ≡ n + d → Undoes s u m moves → Undoes s w n moves
  undoes-later u w d zero m moves same e h = tt
  undoes-later u w d (suc n) zero moves same e h = absurd (omega arith)
  undoes-later u w d (suc n) (suc m) [] same e h = h
  undoes-later u w d (suc n) (suc m) (mv ∷ earlier) same e h = let k : n + d ≡ m = omega arith in (
    ap (λ pairs. moved pairs (applied s (mv ∷ earlier))) (same-pairs (w n) (u (n + d)) (same n (omega arith)) ∙ ap (λ j. pairs_of_move (u j)) k) ∙ h.0,
    undoes-later u w d n m earlier (λ j l. same j (omega arith)) (omega arith) h.1,
  )

-- ── a log without its latest move, or with one more ──
pub good-log : (l : Log) (t : Tables) (bs : Bounds) (kept : ℕ) → logged l ≤ 64 → logged l ≤ kept → ((k : ℕ) → k < logged l → move_good t bs (back l k) ≡ true) → log_good l t bs kept ≡ true
good-log l t bs kept few low good = all_yes _ (le-leb (logged l) 64 few, (le-leb (logged l) kept low, (below_all (λ k. move_good t bs (back l k)) (logged l) good, tt)))

-- where the next move is noted
abbrev place : Log → ℕ
place l = min (logged l) 63

-- without its oldest move
abbrev slid_down : Log → Log
slid_down l = log_in (slid 1 64 l.sizes) (slid 64 4032 l.vars) (slid 64 4032 l.values)

-- m has the latest k moves of l, and l has d more
record Made (l m : Log) (k : ℕ) : Type 0 where
  fits : log_fits m ≡ true
  d : ℕ
  all : logged l ≡ k + d
  moves : (j : ℕ) → j < k → bare (back m j) ≡ bare (back l (j + d))

module _ (t : Tables) (bs : Bounds) (l : Log) (kept : ℕ) (known : LogKnown l t bs kept) where
  -- ── without the latest ──
  pub dropped-logged : logged (dropped l) ≡ pred (logged l)
  dropped-logged = let long = fits-long l known.fits in get_or-set_same l.sizes 0 (pred (logged l)) 0 (omega arith)

  dropped-back : (k : ℕ) → back (dropped l) k ≡ back l k
  dropped-back k = ap (λ p. record { pairs = p; vars = drop (64 * k) l.vars; values = drop (64 * k) l.values }) (get_or-set_other l.sizes 0 (suc k) (pred (logged l)) 0 (λ e. omega arith))

  pub dropped-good : (fewer : ℕ) → pred (logged l) ≤ fewer → log_good (dropped l) t bs fewer ≡ true
  dropped-good fewer h =
      let few = known.few in let is = dropped-logged in
      good-log (dropped l) t bs fewer (omega arith) (omega arith) (λ k low. ap (move_good t bs) (dropped-back k) ∙ known-good t bs (back l k) (known.moves k (omega arith)))

  pub dropped-undoes : (s : Values) (moves : List (List (ℕ × ℤ))) → Undoes s (back l) (pred (logged l)) moves → Undoes s (back (dropped l)) (logged (dropped l)) moves
  dropped-undoes s moves h = undoes-later s (back l) (back (dropped l)) 0 (logged (dropped l)) (pred (logged l)) moves
      (λ j low. ap bare (dropped-back j) ∙ ap (λ k. bare (back l k)) (omega arith)) (let is = dropped-logged in omega arith) h

  -- ── with room for one more ──
  slid-made : 64 ≤ logged l → Made l (slid_down l) (place l)
  slid-made h =
      let few = known.few in let long = fits-long l known.fits in
      let in-sizes = slid-length l.sizes 1 64 (omega arith) in
      let in-vars = slid-length l.vars 64 4032 (omega arith) in
      let in-values = slid-length l.values 64 4032 (omega arith) in
      record {
        fits = long-fits (slid_down l) (record { in-sizes = omega arith; in-vars = omega arith; in-values = omega arith });
        d = 1;
        all = omega arith;
        moves = λ j low.
            let p = nat l.sizes (suc (j + 1)) in
            let most = (known.moves (j + 1) (omega arith)).few in
            let at : 64 + 64 * j ≡ 64 * (j + 1) = omega arith in
            bare-same (back (slid_down l) j) (back l (j + 1)) (slid_at l.sizes 1 64 (suc j) 0 (omega arith) (omega arith) ∙ ap (nat l.sizes) (omega arith))
            (slid-part l.vars 64 4032 (64 * j) p (omega arith) (omega arith) ∙ ap (λ a. take p (drop a l.vars)) at)
            (slid-part l.values 64 4032 (64 * j) p (omega arith) (omega arith) ∙ ap (λ a. take p (drop a l.values)) at);
      }

  room-made : Made l (room_made l) (place l)
  room-made = go (ltb (logged l) 64) refl
    where
      go : (x : Bool) → ltb (logged l) 64 ≡ x → Made l (cond x l (slid_down l)) (place l)
      go true e = let h = ltb-true (logged l) 64 e in record { fits = known.fits; d = 0; all = omega arith; moves = λ j low. ap (λ k. bare (back l k)) (omega arith) }
      go false e = slid-made (ltb-false (logged l) 64 e)

  -- ── with a move as its latest, over the values before it ──
  module _ (old : Values) (mv : Move) (move : MoveKnown t bs mv) where
    abbrev k : ℕ
    k = place l

    -- the log with room for it, and the values to be noted
    abbrev m : Log
    m = room_made l

    abbrev before : ℕ → ℤ
    before i = old (nat mv.vars i)

    long : Long (room_made l)
    long = fits-long (room_made l) room-made.fits

    pub noted-logged : logged (noted l old mv) ≡ suc (min (logged l) 63)
    noted-logged = let h = long in get_or-set_other (set m.sizes 0 (suc k)) (suc k) 0 mv.pairs 0 (λ e. omega arith) ∙ get_or-set_same m.sizes 0 (suc k) 0 (omega arith)

    noted-latest : bare (back (noted l old mv) (place l)) ≡ bare (undo old mv)
    noted-latest = let h = long in
        bare-same (back (noted l old mv) k) (undo old mv) (get_or-set_same (set m.sizes 0 (suc k)) (suc k) mv.pairs 0 (simp length-set (omega arith)))
        (laid-there m.vars (64 * k) mv.pairs (nat mv.vars) (omega arith) ∙ below-list mv.vars 0 mv.pairs move.vars-long)
        (laid-there m.values (64 * k) mv.pairs before (omega arith) ∙ sym (take_all mv.pairs (below before mv.pairs) (let e = length-below before mv.pairs in omega arith)))

    noted-earlier : (j : ℕ) → j < place l → bare (back (noted l old mv) j) ≡ bare (back l (j + room-made.d))
    noted-earlier j low =
        let h = long in let p = nat m.sizes (suc j) in let all = room-made.all in
        let same = ap (λ (x : Move). x.pairs) (room-made.moves j low) in let most = (known.moves (j + room-made.d) (omega arith)).few in
        bare-same (back (noted l old mv) j) (back m j)
        (get_or-set_other (set m.sizes 0 (suc k)) (suc k) (suc j) mv.pairs 0 (λ e. omega arith) ∙ get_or-set_other m.sizes 0 (suc j) (suc k) 0 (λ e. omega arith))
        (laid-before m.vars (64 * k) mv.pairs (nat mv.vars) (64 * j) p (omega arith) (omega arith))
        (laid-before m.values (64 * k) mv.pairs before (64 * j) p (omega arith) (omega arith))
        ∙ room-made.moves j low

    pub noted-good : (more : ℕ) → suc (min (logged l) 63) ≤ more → ((i : ℕ) → i < mv.pairs → eq_z (old (nat mv.vars i)) blank ≡ false)
        → ((i : ℕ) → i < mv.pairs → within bs (nat mv.vars i) (old (nat mv.vars i)) ≡ true) → log_good (noted l old mv) t bs more ≡ true
    noted-good more h full inside = let is = noted-logged in good-log (noted l old mv) t bs more (omega arith) (omega arith) (λ j low. go j (ltb j k) refl low)
      where
        go : (j : ℕ) (x : Bool) → ltb j (place l) ≡ x → j < logged (noted l old mv) → move_good t bs (back (noted l old mv) j) ≡ true
        go j true e low =
            let h = ltb-true j k e in let all = room-made.all in let i = j + room-made.d in
            same_good t bs (back (noted l old mv) j) (back l i) (noted-earlier j h) (known-good t bs (back l i) (known.moves i (omega arith)))
        go j false e low =
            let h = ltb-false j k e in let is = noted-logged in let last : j ≡ k = omega arith in
            subst⁻¹ (λ i. move_good t bs (back (noted l old mv) i) ≡ true) last (same_good t bs (back (noted l old mv) k) (undo old mv) noted-latest (undo-good t bs mv move old full inside))

    pub noted-undoes : (s : Values) (moves : List (List (ℕ × ℤ))) → ((i : ℕ) → i < mv.pairs → old (nat mv.vars i) ≡ applied s moves (nat mv.vars i))
        → Undoes s (back l) (logged l) moves → Undoes s (back (noted l old mv)) (logged (noted l old mv)) (pairs_of_move mv ∷ moves)
    noted-undoes s moves same h =
        subst⁻¹ (λ n. Undoes s (back (noted l old mv)) n (pairs_of_move mv ∷ moves)) noted-logged (
          ap (λ pairs. moved pairs (moved (pairs_of_move mv) (applied s moves))) (same-pairs (back (noted l old mv) k) (undo old mv) noted-latest) ∙ taken_back mv old (applied s moves) same,
          undoes-later s (back l) (back (noted l old mv)) room-made.d k (logged l) moves noted-earlier room-made.all h,
        )
