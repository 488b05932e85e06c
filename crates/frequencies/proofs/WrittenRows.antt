-- The rows of a file that was written are the header and one for each window: each line is a row, and only the last line's end is trimmed. Assumes nothing.
use Prim.Native.Nat.{ℕ, zero, suc, ◌+◌, ◌≤◌, ◌<◌}
use native.Mathlib.Omega.{arith}
use mathlib.Core.Bool.{Bool, true, false, cond, ◌&&◌}
use mathlib.Core.List.{List, [], ◌∷◌, ◌++◌, append_assoc, append-nil}
use mathlib.Core.Logic.{◌⊎◌, inl, inr, ◌≢◌}
use mathlib.Core.Path.{◌≡◌, refl, ap, sym, ◌∙◌}
use lib.IntN.{nat_abs}
use lib.ListN.{length, get_or, length-append, get_or-append}
use lib.Seq.{get_or_at}
use borrow.Author.Tests.{ne_eqb}
use Rattle.paper.specs.Lists.{every, joined}
use Rattle.paper.proofs.Lists.{same_or}
use Rattle.frequencies.specs.Csv.{is_line_feed, is_return, line_feed_next, Row, row, all_rows, front, split, only_ends, trimmed, rows_of}
use Rattle.frequencies.specs.Values.{trip_id, start_time, end_time, headway_secs, exact_times}
use Rattle.frequencies.specs.Reading.{Windows}
use Rattle.frequencies.specs.Writing.{time_bytes, decimal, name_bytes, start_at, end_at, headway_given, exact_given, name_at, window_bytes, head_bytes, file_bytes}
use Rattle.frequencies.proofs.Runs.{Raws, line_then, Lined, RowOf, first-row, last_row, plain-apart}

-- ── the line end behind the last line ──
not-only : (xs ys : List ℕ) → only_ends ys ≡ false → only_ends (xs ++ ys) ≡ false
not-only [] ys e = e
not-only (x ∷ xs) ys e = rw (not-only xs ys e) (go (is_line_feed x) (is_return x) (line_feed_next (xs ++ ys)))
  where
    go : (f r l : Bool) → cond f false (r && (l && false)) ≡ false
    go true r l = refl
    go false true true = refl
    go false true false = refl
    go false false l = refl

trimmed-behind : (xs ys : List ℕ) → only_ends ys ≡ false → trimmed (xs ++ ys) ≡ xs ++ trimmed ys
trimmed-behind [] ys e = refl
trimmed-behind (x ∷ xs) ys e = ap (λ b. cond b [] (x ∷ trimmed (xs ++ ys))) (not-only (x ∷ xs) ys e) ∙ ap (x ∷◌) (trimmed-behind xs ys e)

-- a line whose last field does not end in a line end
record Closed (exact : List ℕ) : Type 0 where
  more : only_ends (exact ++ 10 ∷ []) ≡ false
  same : trimmed (exact ++ 10 ∷ []) ≡ exact

digit-closed : (e : ℕ) → Closed ((48 + e) ∷ [])
digit-closed e = record { more = no; same = rw no }
  where
    no : only_ends ((48 + e) ∷ 10 ∷ []) ≡ false
    no = rw (ne_eqb 10 (48 + e) (λ q. omega arith), ne_eqb 13 (48 + e) (λ q. omega arith))

-- the fields before the last, with their commas
abbrev four_of : Raws → List ℕ
four_of x = x.trip ++ (44 ∷ []) ++ x.start ++ (44 ∷ []) ++ x.end ++ (44 ∷ []) ++ x.headway ++ (44 ∷ [])

four-then : (x : Raws) (rest : List ℕ) → four_of x ++ (x.exact ++ rest) ≡ line_then x rest
four-then x rest = simp append_assoc

trimmed-line : (before : List ℕ) (x : Raws) → Closed x.exact → trimmed (before ++ line_then x (10 ∷ [])) ≡ before ++ line_then x []
trimmed-line before x c =
    ap (λ l. trimmed (before ++ l)) (sym (four-then x (10 ∷ []))) ∙ ap trimmed (sym (append_assoc before (four_of x) (x.exact ++ 10 ∷ [])))
    ∙ trimmed-behind (before ++ four_of x) (x.exact ++ 10 ∷ []) c.more ∙ ap (before ++ four_of x ++◌) (c.same ∙ sym (append-nil x.exact))
    ∙ append_assoc before (four_of x) (x.exact ++ []) ∙ ap (before ++◌) (four-then x [])

-- ── the header's line and a window's ──
abbrev pub head_raws : Raws
head_raws = record { trip = trip_id; start = start_time; end = end_time; headway = headway_secs; exact = exact_times }

head-lined : Lined head_raws
head-lined = record { trip = plain-apart trip_id refl; start = plain-apart start_time refl; end = plain-apart end_time refl; headway = plain-apart headway_secs refl; exact = refl }

head-closed : Closed exact_times
head-closed = record { more = refl; same = refl }

module _ (text : List ℕ) (w : Windows) where
  abbrev pub raws : ℕ → Raws
  raws i = record {
    trip = name_bytes (name_at text w i);
    start = time_bytes (nat_abs (start_at w i));
    end = time_bytes (nat_abs (end_at w i));
    headway = decimal (nat_abs (headway_given w i));
    exact = (48 + exact_given w i) ∷ [];
  }

  window-line : (i : ℕ) (rest : List ℕ) → window_bytes text w i ++ rest ≡ line_then (raws i) (10 ∷ rest)
  window-line i rest = line (raws i).trip (raws i).start (raws i).end (raws i).headway (48 + exact_given w i)
    where
      line : (a b c d : List ℕ) (e : ℕ) → (a ++ (44 ∷ []) ++ b ++ (44 ∷ []) ++ c ++ (44 ∷ []) ++ d ++ (44 ∷ e ∷ 10 ∷ [])) ++ rest
          ≡ a ++ 44 ∷ (b ++ 44 ∷ (c ++ 44 ∷ (d ++ 44 ∷ (e ∷ 10 ∷ rest))))
      line a b c d e = simp append_assoc

  -- ── the rows of the header and the first n windows, with whatever is behind them ──
  abbrev Each : ℕ → List Row → Type 0
  Each n rows = (i : ℕ) → i < n → RowOf (raws i) (get_or rows i (row 1 []))

  record Front (n : ℕ) (rest : List ℕ) : Type 0 where
    head : Row
    head-row : RowOf head_raws head
    rows : List Row
    many : length rows ≡ n
    each : Each n rows
    place : ℕ
    next : ℕ
    is : all_rows (split 0 1 front (head_bytes ++ (joined (window_bytes text w) n ++ rest))) ≡ head ∷ (rows ++ all_rows (split place next front rest))

  each_more : (n : ℕ) (rows : List Row) (r : Row) → length rows ≡ n → Each n rows → RowOf (raws n) r → Each (suc n) (rows ++ (r ∷ []))
  each_more n rows r m each last i l = go (same_or i n)
    where
      go : (i ≡ n) ⊎ (i ≢ n) → RowOf (raws i) (get_or (rows ++ (r ∷ [])) i (row 1 []))
      go (inl e) = rw (get_or_at rows r [] (row 1 []) i (m ∙ sym e)) (rw e last)
      go (inr ne) = rw (get_or-append rows (r ∷ []) (row 1 []) i (omega arith)) (each i (omega arith))

  module _ (count : ℕ) (lined : (i : ℕ) → i < count → Lined (raws i)) where
    front-rows : (n : ℕ) (rest : List ℕ) → n ≤ count → Front n rest
    front-rows zero rest l =
        let f = first-row head_raws 0 1 rest head-lined in
        record { head = f.first; head-row = f.row; rows = []; many = refl; each = λ i k. absurd (omega arith); place = f.place; next = f.next; is = f.rows }
    front-rows (suc n) rest l =
        let h = front-rows n (window_bytes text w n ++ rest) (omega arith) in let f = first-row (raws n) h.place h.next rest (lined n l) in
        record {
          head = h.head;
          head-row = h.head-row;
          rows = h.rows ++ (f.first ∷ []);
          many = omega (arith, length-append h.rows (f.first ∷ []), h.many);
          each = each_more n h.rows f.first h.many h.each f.row;
          place = f.place;
          next = f.next;
          is = ap (λ t. all_rows (split 0 1 front (head_bytes ++ t))) (append_assoc (joined (window_bytes text w) n) (window_bytes text w n) rest) ∙ h.is
              ∙ ap (λ t. h.head ∷ (h.rows ++ t)) (ap (λ t. all_rows (split h.place h.next front t)) (window-line n rest) ∙ f.rows)
              ∙ ap (h.head ∷◌) (sym (append_assoc h.rows (f.first ∷ []) (all_rows (split f.place f.next front rest))));
        }

  -- ── all rows ──
  pub record Whole (count : ℕ) : Type 0 where
    pub head : Row
    pub head-row : RowOf head_raws head
    pub rows : List Row
    pub many : length rows ≡ count
    pub each : Each count rows
    pub is : rows_of (file_bytes count text w) ≡ head ∷ rows

  pub whole : (count : ℕ) → ((i : ℕ) → i < count → Lined (raws i)) → Whole count
  unfolding rows_of file_bytes every
  whole zero lined =
      let f = last_row head_raws 0 1 head-lined in
      record {
        head = f.last;
        head-row = f.row;
        rows = [];
        many = refl;
        each = λ i k. absurd (omega arith);
        is = ap (λ t. all_rows (split 0 1 front t)) (trimmed-line [] head_raws head-closed) ∙ f.rows;
      }
  whole (suc n) lined =
      let h = front-rows (suc n) lined n (line_then (raws n) []) (omega arith) in
      let f = last_row (raws n) h.place h.next (lined n (omega arith)) in
      record {
        head = h.head;
        head-row = h.head-row;
        rows = h.rows ++ (f.last ∷ []);
        many = omega (arith, length-append h.rows (f.last ∷ []), h.many);
        each = each_more n h.rows f.last h.many h.each f.row;
        is = ap (λ t. all_rows (split 0 1 front t)) (
            ap (λ t. trimmed (head_bytes ++ (joined (window_bytes text w) n ++ t))) (sym (append-nil (window_bytes text w n)) ∙ window-line n [])
            ∙ ap trimmed (sym (append_assoc head_bytes (joined (window_bytes text w) n) (line_then (raws n) (10 ∷ []))))
            ∙ trimmed-line (head_bytes ++ joined (window_bytes text w) n) (raws n) (digit-closed (exact_given w n))
            ∙ append_assoc head_bytes (joined (window_bytes text w) n) (line_then (raws n) []))
            ∙ h.is ∙ ap (λ t. h.head ∷ (h.rows ++ t)) f.rows;
      }
