-- The windows that were read are the file's rows in order, so those with a trip's name are the rows of that trip, and the board lists each of their times as often as
-- they give it. Assumes nothing.
use Prim.Native.Nat.{ℕ, zero, suc, ◌+◌, ◌≤◌, ◌<◌}
use native.Mathlib.Omega.{arith}
use mathlib.Core.Bool.{Bool, true, false, cond}
use mathlib.Core.List.{List, [], ◌∷◌, ◌++◌, map, map-append}
use mathlib.Core.Path.{◌≡◌, refl, ap, sym, ◌∙◌}
use lib.Dec.{eqb, ltb}
use lib.IntN.{ℤ, pos, ◌+ℤ◌, ◌*ℤ◌}
use lib.ListN.{length, get_or, take, length-map}
use lib.Seq.{take-suc, take-length}
use lib.Signed.{lt_z}
use Rattle.std.specs.Prelude.{Ok}
use Rattle.paper.specs.Lists.{any, total, those}
use Rattle.paper.specs.Formula.{places, trips}
use Rattle.paper.proofs.Lists.{clash, or-false-left, or-false-right}
use Rattle.paper.proofs.Those.{those-same}
use Rattle.paper.proofs.Buffers.{length-below, get_d-below}
use Rattle.paper.proofs.Windows.{time, counted}
use Rattle.times.specs.Windows.{times, Board, lends}
use Rattle.times.specs.Order.{times_given}
use Rattle.frequencies.specs.Csv.{Row, row, is_quote, halved_from, halved}
use Rattle.frequencies.specs.Values.{same}
use Rattle.frequencies.specs.Reading.{Columns, columns_of, body_in, start_of, end_of, headway_of, Windows, windows_of, header, window_rows, ReadOutcome}
use Rattle.frequencies.specs.Writing.{name_at, start_at, end_at, headway_given}
use Rattle.frequencies.proofs.Accepted.{ReadKnown, was_read}
use Rattle.frequencies.proofs.ReadWritten.{told}
use Rattle.feeds.specs.Feeds.{of_trip, rows_of_trip, row_times, trip_board}

-- ── lists ──
total-both : (xs ys : List ℕ) → total (xs ++ ys) ≡ total xs + total ys
total-both [] ys = omega arith
total-both (x ∷ xs) ys = let h = total-both xs ys in omega arith

map_at : {A B : Type 0} (f : A → B) (l : List A) (k : ℕ) (d : A) (e : B) → k < length l → get_or (map f l) k e ≡ f (get_or l k d)
map_at f [] k d e l = absurd (omega arith)
map_at f (x ∷ xs) zero d e l = refl
map_at f (x ∷ xs) (suc k) d e l = map_at f xs k d e (omega arith)

-- of the numbers below n that pass, f and g give the same where they do below n
map-those : {A : Type 0} (f g : ℕ → A) (p : ℕ → Bool) (n : ℕ) → ((i : ℕ) → i < n → f i ≡ g i) → map f (those p n) ≡ map g (those p n)
map-those f g p zero h = refl
map-those f g p (suc n) h = map-append f (those p n) _ ∙ ap (◌++ map f (cond (p n) (n ∷ []) [])) (map-those f g p n (λ i l. h i (omega arith))) ∙ ap (map g (those p n) ++◌) (last (p n)) ∙ sym (map-append g (those p n) _)
  where
    last : (b : Bool) → map f (cond b (n ∷ []) []) ≡ map g (cond b (n ∷ []) [])
    last true = ap (◌∷ []) (h n (omega arith))
    last false = refl

-- what stands where a row is not
abbrev pub none : Row
none = row 1 []

-- windows that are rows of the file, in order
pub record AreRows (c : Columns) (bytes : List ℕ) (w : Windows) (rs : List Row) : Type 0 where
  pub name : (i : ℕ) → i < length rs → name_at bytes w i ≡ halved (body_in (get_or rs i none) c.trip)
  pub start : (i : ℕ) → i < length rs → start_at w i ≡ start_of c (get_or rs i none)
  pub end : (i : ℕ) → i < length rs → end_at w i ≡ end_of c (get_or rs i none)
  pub headway : (i : ℕ) → i < length rs → headway_given w i ≡ headway_of c (get_or rs i none)

module _ (c : Columns) (trip : List ℕ) where
  -- one row more
  more : (rs : List Row) (r : Row) → rows_of_trip c trip (rs ++ (r ∷ [])) ≡ rows_of_trip c trip rs ++ cond (of_trip c trip r) (r ∷ []) []
  more [] r = refl
  more (x ∷ xs) r = go (of_trip c trip x) (more xs r)
    where
      go : (b : Bool) → rows_of_trip c trip (xs ++ (r ∷ [])) ≡ rows_of_trip c trip xs ++ cond (of_trip c trip r) (r ∷ []) []
          → cond b (x ∷ rows_of_trip c trip (xs ++ (r ∷ []))) (rows_of_trip c trip (xs ++ (r ∷ []))) ≡ cond b (x ∷ rows_of_trip c trip xs) (rows_of_trip c trip xs) ++ cond (of_trip c trip r) (r ∷ []) []
      go true e = ap (x ∷◌) e
      go false e = e

  -- the rows of the trip by their places
  by_place : {A : Type 0} (f : Row → A) (rs : List Row) (n : ℕ) → n ≤ length rs
      → map (λ i. f (get_or rs i none)) (those (λ i. of_trip c trip (get_or rs i none)) n) ≡ map f (rows_of_trip c trip (take n rs))
  by_place f rs zero l = refl
  by_place f rs (suc n) l =
      let r = get_or rs n none in
      map-append (λ i. f (get_or rs i none)) (those (λ i. of_trip c trip (get_or rs i none)) n) _
      ∙ ap (◌++ map (λ i. f (get_or rs i none)) (cond (of_trip c trip r) (n ∷ []) [])) (by_place f rs n (omega arith))
      ∙ ap (map f (rows_of_trip c trip (take n rs)) ++◌) (last (of_trip c trip r))
      ∙ sym (map-append f (rows_of_trip c trip (take n rs)) _)
      ∙ ap (map f) (sym (more (take n rs) r) ∙ ap (rows_of_trip c trip) (sym (take-suc rs n none (omega arith))))
    where
      last : (b : Bool) → map (λ i. f (get_or rs i none)) (cond b (n ∷ []) []) ≡ map f (cond b (get_or rs n none ∷ []) [])
      last true = refl
      last false = refl

  -- a board of rows
  board_of : List Row → List ℤ → Board
  board_of rs list = lends (length rs) (map (start_of c) rs) (map (end_of c) rs) (map (headway_of c) rs) list

  -- the windows below k give what the first k rows give
  given-rows : (rs : List Row) (list : List ℤ) (z : ℤ) (k : ℕ) → k ≤ length rs → times_given (board_of rs list) z k ≡ total (map (λ (r : Row). places z (row_times c r)) (take k rs))
  unfolding board_of
  given-rows rs list z zero l = refl
  given-rows rs list z (suc k) l =
      let r = get_or rs k none in let g : Row → ℕ = λ x. places z (row_times c x) in
      let s = map_at (start_of c) rs k none (pos 0) (omega arith) in
      let e = map_at (end_of c) rs k none (pos 0) (omega arith) in
      let h = map_at (headway_of c) rs k none (pos 0) (omega arith) in
      let this : places z (times (get_or (map (start_of c) rs) k (pos 0)) (get_or (map (headway_of c) rs) k (pos 0)) (trips (get_or (map (start_of c) rs) k (pos 0)) (get_or (map (end_of c) rs) k (pos 0)) (get_or (map (headway_of c) rs) k (pos 0)))) ≡ g r =
      (λ i. places z (times (s i) (h i) (trips (s i) (e i) (h i)))) in
      let ih = given-rows rs list z k (omega arith) in
      let grown : total (map g (take (suc k) rs)) ≡ total (map g (take k rs)) + g r =
      ap (λ (xs : List Row). total (map g xs)) (take-suc rs k none (omega arith)) ∙ ap total (map-append g (take k rs) (r ∷ [])) ∙ total-both (map g (take k rs)) (g r ∷ [])
      ∙ (omega arith) in
      ap (◌+ places z (times (get_or (map (start_of c) rs) k (pos 0)) (get_or (map (headway_of c) rs) k (pos 0)) (trips (get_or (map (start_of c) rs) k (pos 0)) (get_or (map (end_of c) rs) k (pos 0)) (get_or (map (headway_of c) rs) k (pos 0))))) ih
      ∙ ap (total (map g (take k rs)) +◌) this ∙ sym grown

  module _ (bytes : List ℕ) (w : Windows) (rs : List Row) (are : AreRows c bytes w rs) where
    chosen : List ℕ
    chosen = those (λ i. same (name_at bytes w i) trip) (length rs)

    wanted : List Row
    wanted = rows_of_trip c trip rs

    chosen-are : chosen ≡ those (λ i. of_trip c trip (get_or rs i none)) (length rs)
    unfolding chosen
    chosen-are = those-same _ _ (length rs) (λ i l. ap (λ (xs : List ℕ). same xs trip) (are.name i l))

    taken : {A : Type 0} (f : ℕ → A) (g : Row → A) → ((i : ℕ) → i < length rs → f i ≡ g (get_or rs i none)) → map f chosen ≡ map g wanted
    unfolding wanted
    taken f g h =
        ap (map f) chosen-are ∙ map-those f (λ i. g (get_or rs i none)) (λ i. of_trip c trip (get_or rs i none)) (length rs) h ∙ by_place g rs (length rs) (omega arith)
        ∙ ap (λ (xs : List Row). map g (rows_of_trip c trip xs)) (take-length rs)

    as-many-rows : length chosen ≡ length wanted
    as-many-rows = sym (length-map chosen (start_at w)) ∙ ap length (taken (start_at w) (start_of c) are.start) ∙ length-map wanted (start_of c)

    board-is : (list : List ℤ) → trip_board bytes trip w (length rs) list ≡ board_of wanted list
    unfolding chosen board_of
    board-is list = λ i. lends (as-many-rows i) (taken (start_at w) (start_of c) are.start i) (taken (end_at w) (end_of c) are.end i) (taken (headway_given w) (headway_of c) are.headway i) list

    pub rows-give : (list : List ℤ) (z : ℤ) → let b = trip_board bytes trip w (length rs) list in
        times_given b z b.windows ≡ total (map (λ (r : Row). places z (row_times c r)) (rows_of_trip c trip rs))
    unfolding board_of wanted
    rows-give list z =
        ap (λ (b : Board). times_given b z b.windows) (board-is list) ∙ given-rows wanted list z (length wanted) (omega arith)
        ∙ ap (λ (xs : List Row). total (map (λ (r : Row). places z (row_times c r)) xs)) (take-length wanted)

-- ── the times of a row ──
pub row_gives : (c : Columns) (r : Row) → lt_z (pos 0) (headway_of c r) ≡ true → (k : ℕ) → ltb k (length (row_times c r)) ≡ lt_z (start_of c r +ℤ pos k *ℤ headway_of c r) (end_of c r)
row_gives c r above k =
    ap (ltb k) (length-below (time (start_of c r) (headway_of c r)) (trips (start_of c r) (end_of c r) (headway_of c r)))
    ∙ sym (counted (start_of c r) (end_of c r) (headway_of c r) above k)

pub row-each : (c : Columns) (r : Row) (k : ℕ) → k < length (row_times c r) → get_or (row_times c r) k (pos 0) ≡ start_of c r +ℤ pos k *ℤ headway_of c r
row-each c r k l =
    let n = trips (start_of c r) (end_of c r) (headway_of c r) in
    let long = length-below (time (start_of c r) (headway_of c r)) n in
    get_d-below (time (start_of c r) (headway_of c r)) n k (pos 0) (omega (arith, l, long))

-- ── a file that was read ──
-- a name without quotes is as it stands
unhalved : (bs : List ℕ) → any is_quote bs ≡ false → halved bs ≡ bs
unhalved [] e = refl
unhalved (b ∷ bs) e = go (is_quote b) (or-false-left (is_quote b) (any is_quote bs) e) (unhalved bs (or-false-right (is_quote b) (any is_quote bs) e))
  where
    go : (q : Bool) → q ≡ false → halved bs ≡ bs → cond q (halved_from true bs) (b ∷ halved bs) ≡ b ∷ bs
    go true f ih = clash refl f
    go false f ih = ap (b ∷◌) ih

module _ (bytes : List ℕ) (lent : Windows) (known : ReadKnown bytes lent) where
  read-rows : AreRows (columns_of (header bytes)) bytes (windows_of (columns_of (header bytes)) (window_rows bytes) lent) (window_rows bytes)
  read-rows = record {
    name = λ i l. let t = told bytes lent known i l in rw (t.double, t.name) (named (body_in (get_or (window_rows bytes) i none) (columns_of (header bytes)).trip));
    start = λ i l. (told bytes lent known i l).start;
    end = λ i l. (told bytes lent known i l).end;
    headway = λ i l. (told bytes lent known i l).headway;
  }
    where
      named : (bs : List ℕ) → cond (eqb (cond (any is_quote bs) 1 0) 0) bs (halved bs) ≡ halved bs
      named bs = go (any is_quote bs) refl
        where
          go : (q : Bool) → any is_quote bs ≡ q → cond (eqb (cond q 1 0) 0) bs (halved bs) ≡ halved bs
          go true e = refl
          go false e = sym (unhalved bs e)

-- what the board of a trip is lent gives what the rows of that trip give
pub read-gives : (bytes trip : List ℕ) (lent : Windows) (o : ReadOutcome bytes lent) (count : ℕ) → o.answer ≡ Ok count → (list : List ℤ) (z : ℤ)
    → let c = columns_of (header bytes) in let b = trip_board bytes trip o.windows count list in
    times_given b z b.windows ≡ total (map (λ (r : Row). places z (row_times c r)) (rows_of_trip c trip (window_rows bytes)))
read-gives bytes trip lent o count e list z =
    let w = was_read bytes lent o count e in
    rw (w.filled, sym w.many) (rows-give (columns_of (header bytes)) trip bytes (windows_of (columns_of (header bytes)) (window_rows bytes) lent) (window_rows bytes) (read-rows bytes lent w.known) list z)
