-- Where a field is said to stand its bytes stand: each byte that is passed goes onto the field or ends it, and the places count them. Assumes nothing.
use Prim.Native.Nat.{ℕ, zero, suc, ◌+◌, ◌-◌, ◌≤◌, ◌<◌}
use native.Mathlib.Omega.{arith}
use mathlib.Core.Bool.{Bool, true, false, cond, ◌&&◌}
use mathlib.Core.List.{List, [], ◌∷◌, ◌++◌}
use mathlib.Core.Path.{◌≡◌, refl, ap, ap₂, sym, ◌∙◌}
use lib.ListN.{length, get_or, take, drop, length-append, length-take, length-drop}
use lib.Seq.{take_at, take-append-le, length-take-le, drop-drop}
use Rattle.paper.proofs.Lists.{clash, and_left, and_right}
use Rattle.frequencies.specs.Csv.{
  is_line_feed,
  is_return,
  is_comma,
  line_feed_next,
  Field,
  field,
  in_quotes,
  body,
  row,
  Rest,
  all_rows,
  parted,
  line_ended,
  passed,
  onto,
  Mode,
  front,
  outside,
  after,
  split,
  mark_length,
  only_ends,
  trimmed,
  rows_of,
}
use Rattle.frequencies.specs.Reading.{field_in}

-- ── a field's bytes stand at its place of a whole ──
pub record Stands (whole : List ℕ) (f : Field) : Type 0 where
  pub rest : List ℕ
  pub is : drop f.at whole ≡ f.raw ++ rest

nothing-stands : (whole : List ℕ) (at : ℕ) → Stands whole (field at [])
nothing-stands whole at = record { rest = drop at whole; is = refl }

abbrev nowhere : Field
nowhere = field 0 []

-- all that is split does, and the first field begins where it is split
record Split (whole : List ℕ) (at : ℕ) (r : Rest) : Type 0 where
  place : r.first.at ≡ at
  first : Stands whole r.first
  fields : (k : ℕ) → Stands whole (get_or r.fields k nowhere)
  rows : (i k : ℕ) → Stands whole (get_or (get_or r.rows i (row 1 [])).fields k nowhere)

-- the rows of the rest as one list
stand-rows : (whole : List ℕ) (at : ℕ) (r : Rest) → Split whole at r → (i k : ℕ) → Stands whole (get_or (get_or (all_rows r) i (row 1 [])).fields k nowhere)
stand-rows whole at r s zero zero = s.first
stand-rows whole at r s zero (suc k) = s.fields k
stand-rows whole at r s (suc i) k = s.rows i k

-- behind a byte
drop-next : {A : Type 0} (at : ℕ) (whole : List A) (b : A) (bs : List A) → drop at whole ≡ b ∷ bs → drop (suc at) whole ≡ bs
drop-next at whole b bs e = let z : suc at ≡ at + 1 = omega arith in ap (λ k. drop k whole) z ∙ sym (drop-drop 1 at whole) ∙ ap (drop 1) e

-- a return that belongs to a line feed is the last byte of its field
feed-next : (at line : ℕ) (mode : Mode) (bs : List ℕ) → outside mode ≡ true → line_feed_next bs ≡ true → (split at line mode bs).first.raw ≡ []
unfolding split
feed-next at line mode [] o l = clash l refl
feed-next at line mode (b ∷ bs) o l = rw o (go (is_comma b))
  where
    go : (c : Bool) → (cond c (parted at line (split (suc at) line front bs))
        (cond (is_line_feed b) (line_ended at line (split (suc at) (suc line) front bs))
        (cond (is_return b && line_feed_next bs) (passed at (split (suc at) line mode bs))
        (onto at line b (split (suc at) (cond (is_line_feed b) (suc line) line) (after mode b) bs))))).first.raw ≡ []
    go true = refl
    go false = rw l

module _ (whole : List ℕ) where
  stand : (at line : ℕ) (mode : Mode) (bs rest : List ℕ) → drop at whole ≡ bs ++ rest → Split whole at (split at line mode bs)
  unfolding split
  stand at line mode [] rest e = record { place = refl; first = nothing-stands whole at; fields = λ k. nothing-stands whole 0; rows = λ i k. nothing-stands whole 0 }
  stand at line mode (b ∷ bs) rest e =
      go (outside mode && is_comma b) (outside mode && is_line_feed b) (outside mode && (is_return b && line_feed_next bs)) refl
      (λ line' mode'. stand (suc at) line' mode' bs rest (drop-next at whole b (bs ++ rest) e))
    where
      go : (c f r : Bool) → (outside mode && (is_return b && line_feed_next bs)) ≡ r → ((line' : ℕ) (mode' : Mode) → Split whole (suc at) (split (suc at) line' mode' bs))
          → Split whole at (cond c (parted at line (split (suc at) line front bs))
          (cond f (line_ended at line (split (suc at) (suc line) front bs))
          (cond r (passed at (split (suc at) line mode bs))
          (onto at line b (split (suc at) (cond (is_line_feed b) (suc line) line) (after mode b) bs)))))
      go true f r q h = let s = h line front in record {
        place = refl;
        first = nothing-stands whole at;
        fields = λ k. stand-rows whole (suc at) (split (suc at) line front bs) s 0 k;
        rows = s.rows;
      }
      go false true r q h = let s = h (suc line) front in record {
        place = refl;
        first = nothing-stands whole at;
        fields = λ k. nothing-stands whole 0;
        rows = stand-rows whole (suc at) (split (suc at) (suc line) front bs) s;
      }
      go false false true q h =
          let s = h line mode in let o = and_left (outside mode) (is_return b && line_feed_next bs) q in
          let l = and_right (is_return b) (line_feed_next bs) (and_right (outside mode) (is_return b && line_feed_next bs) q) in
          record { place = refl; first = rw (feed-next (suc at) line mode bs o l) (nothing-stands whole at); fields = s.fields; rows = s.rows }
      go false false false q h = let s = h (cond (is_line_feed b) (suc line) line) (after mode b) in record {
        place = refl;
        first = record {
          rest = s.first.rest;
          is = e ∙ ap (b ∷◌) (sym (drop-next at whole b (bs ++ rest) e) ∙ ap (λ k. drop k whole) (sym s.place) ∙ s.first.is);
        };
        fields = s.fields;
        rows = s.rows;
      }

-- ── of a file ──
-- a front of these bytes
record FrontOf (xs bytes : List ℕ) : Type 0 where
  rest : List ℕ
  is : bytes ≡ xs ++ rest

trimmed-front : (bytes : List ℕ) → FrontOf (trimmed bytes) bytes
trimmed-front [] = record { rest = []; is = refl }
trimmed-front (b ∷ bs) = go (only_ends (b ∷ bs)) (trimmed-front bs)
  where
    go : (o : Bool) → FrontOf (trimmed bs) bs → FrontOf (cond o [] (b ∷ trimmed bs)) (b ∷ bs)
    go true f = record { rest = b ∷ bs; is = refl }
    go false f = record { rest = f.rest; is = ap (b ∷◌) f.is }

pub rows-stand : (bytes : List ℕ) (i k : ℕ) → Stands bytes (field_in (get_or (rows_of bytes) i (row 1 [])) k)
unfolding rows_of
rows-stand bytes i k =
    let mark = mark_length bytes in let f = trimmed-front (drop mark bytes) in
    stand-rows bytes mark (split mark 1 front (trimmed (drop mark bytes))) (stand bytes mark 1 front (trimmed (drop mark bytes)) f.rest f.is) i k

-- what stands between a field's quotes
pub body-stands : (whole : List ℕ) (f : Field) → Stands whole f → take (length (body f.raw)) (drop (cond (in_quotes f.raw) 1 0 + f.at) whole) ≡ body f.raw
body-stands whole f s = go f.raw (in_quotes f.raw) refl s.is
  where
    go : (raw : List ℕ) (q : Bool) → in_quotes raw ≡ q → drop f.at whole ≡ raw ++ s.rest
        → let b = cond q (take (length raw - 2) (drop 1 raw)) raw in take (length b) (drop (cond q 1 0 + f.at) whole) ≡ b
    go [] true e d = clash e refl
    go (b ∷ bs) true e d =
        let k = suc (length bs) - 2 in let z : 1 + f.at ≡ suc f.at = omega arith in
        ap₂ take (length-take-le k bs (omega arith)) (ap (λ p. drop p whole) z ∙ drop-next f.at whole b (bs ++ s.rest) d) ∙ take-append-le k bs s.rest (omega arith)
    go raw false e d = let z : 0 + f.at ≡ f.at = omega arith in ap (λ p. take (length raw) (drop p whole)) z ∙ ap (take (length raw)) d ∙ take_at raw s.rest (length raw) refl

-- bytes that stand somewhere stand within
pub within : (whole xs : List ℕ) (at : ℕ) → take (length xs) (drop at whole) ≡ xs → 0 < length xs → at + length xs ≤ length whole
within whole xs at e l = omega (arith, ap length e, length-take (length xs) (drop at whole), length-drop at whole)

-- ── there are no more rows than bytes ──
rows_few : (at line : ℕ) (mode : Mode) (bs : List ℕ) → length (split at line mode bs).rows ≤ length bs
unfolding split
rows_few at line mode [] = omega arith
rows_few at line mode (b ∷ bs) =
    go (outside mode && is_comma b) (outside mode && is_line_feed b) (outside mode && (is_return b && line_feed_next bs)) (λ line' mode'. rows_few (suc at) line' mode' bs)
  where
    go : (c f r : Bool) → ((line' : ℕ) (mode' : Mode) → length (split (suc at) line' mode' bs).rows ≤ length bs)
        → length (cond c (parted at line (split (suc at) line front bs))
        (cond f (line_ended at line (split (suc at) (suc line) front bs))
        (cond r (passed at (split (suc at) line mode bs))
        (onto at line b (split (suc at) (cond (is_line_feed b) (suc line) line) (after mode b) bs))))).rows ≤ suc (length bs)
    go true f r h = omega (arith, h line front)
    go false true r h = omega (arith, h (suc line) front)
    go false false true h = omega (arith, h line mode)
    go false false false h = omega (arith, h (cond (is_line_feed b) (suc line) line) (after mode b))

pub windows-few : (bytes : List ℕ) → length (drop 1 (rows_of bytes)) ≤ length bytes
unfolding rows_of
windows-few bytes =
    let mark = mark_length bytes in let f = trimmed-front (drop mark bytes) in
    omega (arith, rows_few mark 1 front (trimmed (drop mark bytes)), ap length f.is, length-append (trimmed (drop mark bytes)) f.rest, length-drop mark bytes)
