-- Scanning by what is left: what the bytes from a place on say by their first byte, and that a field's bytes are the first of them. Assumes nothing.
use Prim.Native.Nat.{ℕ, zero, suc, ◌+◌, ◌-◌, ◌≤◌, ◌<◌}
use native.Mathlib.Numerals.{add-one}
use native.Mathlib.Omega.{arith}
use mathlib.Core.Bool.{Bool, true, false, cond, not, ◌&&◌, ◌||◌, true≢false, false≢true}
use mathlib.Core.List.{List, [], ◌∷◌}
use mir.Val.{bool_byte}
use mathlib.Core.Path.{◌≡◌, refl, ap, sym, ◌∙◌}
use lib.Dec.{eqb, ltb}
use lib.ListN.{length, take, drop, drop_of_length-le}
use lib.Seq.{drop-cons, drop-drop}
use borrow.Author.Tests.{eqb-true, ltb-true, ltb-false, ne_eqb, eq-eqb, not-false}
use Rattle.paper.specs.Lists.{any, nat}
use Rattle.paper.proofs.Lists.{clash}
use Rattle.frequencies.specs.Csv.{is_line_feed, is_return, is_quote, is_comma, line_feed_next, Field, field, in_quotes, closed_from, quotes_right, Row, Rest, parted, line_ended, passed, onto, Mode, front, plain, inside, behind, outside, after, split}
use Rattle.frequencies.specs.Scan.{Scannable, headed_by, goes_on, stays_in, closing_mode, Reached, QuotesPassed, QuotesClosed, PlainPassed, PlainEnded, EndPassed, FieldScanned, behind_field}
use Rattle.frequencies.specs.declared.fields.Closing.{Closing}
use Rattle.frequencies.specs.declared.fields.Plain.{Plain}
use Rattle.frequencies.specs.declared.fields.Behind.{Behind}
use Rattle.frequencies.specs.declared.fields.Behind.TheVariants.{Comma, Line, File}

-- 1 for a test that is passed
pub one-or-none : (b : Bool) → bool_byte b ≡ cond b 1 0
one-or-none true = refl
one-or-none false = refl

-- ── the first byte ──
-- where a test of the bytes that are left is passed, and nothing does not pass it, there is one
pub there : (test : List ℕ → Bool) → test [] ≡ false → (bytes : List ℕ) (i : ℕ) → test (drop i bytes) ≡ true → i < length bytes
there test none bytes i e = go (ltb i (length bytes)) refl
  where
    go : (b : Bool) → ltb i (length bytes) ≡ b → i < length bytes
    go true q = ltb-true i (length bytes) q
    go false q = clash e (ap test (drop_of_length-le bytes (ltb-false i (length bytes) q)) ∙ none)

pub past_end : (bytes : List ℕ) (i : ℕ) → length bytes ≤ i → drop i bytes ≡ []
past_end bytes i h = drop_of_length-le bytes h

pub next-byte : (bytes : List ℕ) (i : ℕ) → i < length bytes → drop i bytes ≡ nat bytes i ∷ drop (i + 1) bytes
next-byte bytes i h = rw (add-one, drop-cons bytes i 0) refl

pub feed-headed : (bs : List ℕ) → headed_by 10 bs ≡ line_feed_next bs
feed-headed [] = refl
feed-headed (b ∷ bs) = refl

pub quote-headed : (bs : List ℕ) → headed_by 34 bs ≡ in_quotes bs
quote-headed [] = refl
quote-headed (b ∷ bs) = refl

-- a byte above a comma goes on
pub above-goes : (b : ℕ) (bs : List ℕ) → 44 < b → goes_on (b ∷ bs) ≡ true
above-goes b bs h = rw (ne_eqb 44 b (λ e. omega arith), ne_eqb 10 b (λ e. omega arith), ne_eqb 13 b (λ e. omega arith)) refl

-- so does a return that no line feed follows; any other byte, if it is neither comma nor line feed
pub return-goes : (b : ℕ) (bs : List ℕ) → eqb 13 b ≡ true → goes_on (b ∷ bs) ≡ not (headed_by 10 bs)
return-goes b bs e = rw (sym (eqb-true 13 b e)) (ap not (sym (feed-headed bs)))

pub other_goes : (b : ℕ) (bs : List ℕ) → eqb 13 b ≡ false → goes_on (b ∷ bs) ≡ (not (eqb 44 b) && not (eqb 10 b))
other_goes b bs e = rw e (go (eqb 44 b) (eqb 10 b))
  where
    go : (c f : Bool) → not (c || (f || false)) ≡ (not c && not f)
    go true f = refl
    go false true = refl
    go false false = refl

-- ── a field without quotes ──
pub split_plain : (at line b : ℕ) (bs : List ℕ) → goes_on (b ∷ bs) ≡ true → split at line plain (b ∷ bs) ≡ onto at line b (split (suc at) line plain bs)
unfolding split
split_plain at line b bs = go (is_comma b) (is_line_feed b) (is_return b && line_feed_next bs)
  where
    go : (c f r : Bool) → not (c || (f || r)) ≡ true
        → cond c (parted at line (split (suc at) line front bs))
        (cond f (line_ended at line (split (suc at) (suc line) front bs))
        (cond r (passed at (split (suc at) line plain bs)) (onto at line b (split (suc at) (cond f (suc line) line) plain bs))))
        ≡ onto at line b (split (suc at) line plain bs)
    go true f r e = absurd (false≢true e)
    go false true r e = absurd (false≢true e)
    go false false true e = absurd (false≢true e)
    go false false false e = refl

-- its end: a comma, or a line end of one byte or two
pub split-comma : (at line b : ℕ) (bs : List ℕ) → eqb 44 b ≡ true → split at line plain (b ∷ bs) ≡ parted at line (split (suc at) line front bs)
unfolding split
split-comma at line b bs e = rw e refl

pub split-feed : (mode : Mode) → outside mode ≡ true → (at line : ℕ) (bs : List ℕ) → line_feed_next bs ≡ true
    → split at line mode bs ≡ line_ended at line (split (suc at) (suc line) front (drop 1 bs))
unfolding split
split-feed mode o at line [] e = absurd (false≢true e)
split-feed mode o at line (b ∷ bs) e = rw (o, sym (eqb-true 10 b e)) refl

pub split-end : (at line b : ℕ) (bs : List ℕ) → goes_on (b ∷ bs) ≡ false → eqb 44 b ≡ false
    → split at line plain (b ∷ bs) ≡ line_ended at line (split (cond (eqb 13 b) (suc (suc at)) (suc at)) (suc line) front (drop (cond (eqb 13 b) 1 0) bs))
unfolding split
split-end at line b bs g c = go (eqb 10 b) refl (eqb 13 b) refl
  where
    go : (f : Bool) → eqb 10 b ≡ f → (r : Bool) → eqb 13 b ≡ r
        → split at line plain (b ∷ bs) ≡ line_ended at line (split (cond r (suc (suc at)) (suc at)) (suc line) front (drop (cond r 1 0) bs))
    go true f true r = clash r (rw (sym (eqb-true 10 b f)) refl)
    go true f false r = rw (sym (eqb-true 10 b f)) refl
    go false f true r = rw (sym (eqb-true 13 b r)) (feeds (line_feed_next bs) refl)
      where
        feeds : (n : Bool) → line_feed_next bs ≡ n
            → cond n (passed at (split (suc at) line plain bs)) (onto at line 13 (split (suc at) line plain bs))
            ≡ line_ended at line (split (suc (suc at)) (suc line) front (drop 1 bs))
        feeds true n = ap (passed at) (split-feed plain refl (suc at) line bs n)
        feeds false n = clash (rw (c, f, n, r) refl) g
    go false f false r = clash (rw (c, f, r) refl) g

-- ── fields that are passed on ──
-- a quote at the front opens; one between quotes closes unless another follows
pub split-open : (at line b : ℕ) (bs : List ℕ) → eqb 34 b ≡ true → split at line front (b ∷ bs) ≡ onto at line b (split (suc at) line inside bs)
unfolding split
split-open at line b bs e = rw (sym (eqb-true 34 b e)) refl

pub split_stays : (closing : Bool) (at line b : ℕ) (bs : List ℕ) → stays_in closing (b ∷ bs) ≡ true
    → split at line (closing_mode closing) (b ∷ bs)
    ≡ onto at line b (split (suc at) (cond (eqb 10 b) (suc line) line) (closing_mode (not closing && eqb 34 b)) bs)
unfolding split
split_stays true at line b bs e = rw (sym (eqb-true 34 b e)) refl
split_stays false at line b bs e = refl

-- what does not begin with a quote is the same at the front of a field, in one without quotes, and behind its quotes
pub split-unquoted : (mode : Mode) → outside mode ≡ true → (at line : ℕ) (bs : List ℕ) → in_quotes bs ≡ false → split at line mode bs ≡ split at line plain bs
unfolding split
split-unquoted mode o at line [] q = refl
split-unquoted mode o at line (b ∷ bs) q = rw o (go (is_return b) (line_feed_next bs) refl mode o)
  where
    on : (mode : Mode) → outside mode ≡ true → after mode b ≡ plain
    on front o = rw q refl
    on plain o = refl
    on inside o = absurd (false≢true o)
    on behind o = rw q refl

    go : (r n : Bool) → line_feed_next bs ≡ n → (mode : Mode) → outside mode ≡ true
        → cond (is_comma b) (parted at line (split (suc at) line front bs))
        (cond (is_line_feed b) (line_ended at line (split (suc at) (suc line) front bs))
        (cond (r && n) (passed at (split (suc at) line mode bs)) (onto at line b (split (suc at) (cond (is_line_feed b) (suc line) line) (after mode b) bs))))
        ≡ cond (is_comma b) (parted at line (split (suc at) line front bs))
        (cond (is_line_feed b) (line_ended at line (split (suc at) (suc line) front bs))
        (cond (r && n) (passed at (split (suc at) line plain bs)) (onto at line b (split (suc at) (cond (is_line_feed b) (suc line) line) plain bs))))
    go true true n mode o = rw (split-feed mode o (suc at) line bs n, split-feed plain refl (suc at) line bs n) refl
    go true false n mode o = rw (on mode o) refl
    go false n e mode o = rw (on mode o) refl

-- what is left behind the quotes of a field is as of one without
pub split-closed : (closing : Bool) (at line : ℕ) (bs : List ℕ) → stays_in closing bs ≡ false → split at line (closing_mode closing) bs ≡ split at line plain bs
unfolding split
split-closed closing at line [] e = refl
split-closed true at line (b ∷ bs) e = split-unquoted behind refl at line (b ∷ bs) e
split-closed false at line (b ∷ bs) e = absurd (true≢false e)

-- ── where a field stands ──
pub split_at : (mode : Mode) (at line : ℕ) (bs : List ℕ) → (split at line mode bs).first.at ≡ at
unfolding split
split_at mode at line [] = refl
split_at mode at line (b ∷ bs) = go (outside mode && is_comma b) (outside mode && is_line_feed b) (outside mode && (is_return b && line_feed_next bs))
  where
    go : (c f r : Bool)
        → (cond c (parted at line (split (suc at) line front bs))
        (cond f (line_ended at line (split (suc at) (suc line) front bs))
        (cond r (passed at (split (suc at) line mode bs)) (onto at line b (split (suc at) (cond (is_line_feed b) (suc line) line) (after mode b) bs))))).first.at
        ≡ at
    go true f r = refl
    go false true r = refl
    go false false true = refl
    go false false false = refl

pub split-line : (mode : Mode) (at line : ℕ) (bs : List ℕ) → (split at line mode bs).line ≡ line
unfolding split
split-line mode at line [] = refl
split-line mode at line (b ∷ bs) =
    go (outside mode && is_comma b) (outside mode && is_line_feed b) (outside mode && (is_return b && line_feed_next bs)) (split-line mode (suc at) line bs)
  where
    go : (c f r : Bool) → (split (suc at) line mode bs).line ≡ line
        → (cond c (parted at line (split (suc at) line front bs))
        (cond f (line_ended at line (split (suc at) (suc line) front bs))
        (cond r (passed at (split (suc at) line mode bs)) (onto at line b (split (suc at) (cond (is_line_feed b) (suc line) line) (after mode b) bs))))).line
        ≡ line
    go true f r h = refl
    go false true r h = refl
    go false false true h = h
    go false false false h = refl

-- its bytes are the first of those that are left
pub split-raw : (mode : Mode) (at line : ℕ) (bs : List ℕ) → (split at line mode bs).first.raw ≡ take (length (split at line mode bs).first.raw) bs
unfolding split
split-raw mode at line [] = refl
split-raw mode at line (b ∷ bs) =
    go (outside mode && is_comma b) (outside mode && is_line_feed b) (outside mode) refl (is_return b) (line_feed_next bs) refl
    (split-raw (after mode b) (suc at) (cond (is_line_feed b) (suc line) line) bs)
  where
    next : Rest
    next = split (suc at) (cond (is_line_feed b) (suc line) line) (after mode b) bs

    whole : (c f o r n : Bool) → Rest
    whole c f o r n =
        cond c (parted at line (split (suc at) line front bs))
        (cond f (line_ended at line (split (suc at) (suc line) front bs)) (cond (o && (r && n)) (passed at (split (suc at) line mode bs)) (onto at line b next)))

    go : (c f o : Bool) → outside mode ≡ o → (r n : Bool) → line_feed_next bs ≡ n → next.first.raw ≡ take (length next.first.raw) bs
        → (whole c f o r n).first.raw ≡ take (length (whole c f o r n).first.raw) (b ∷ bs)
    go true f o p r n q h = refl
    go false true o p r n q h = refl
    go false false true p true true q h = rw (split-feed mode p (suc at) line bs q) refl
    go false false true p true false q h = ap (b ∷◌) h
    go false false true p false n q h = ap (b ∷◌) h
    go false false false p r n q h = ap (b ∷◌) h

-- all of what is left, from what is known of each part
pub rest-is : (s : Rest) {at line : ℕ} {raw : List ℕ} {fields : List Field} {rows : List Row}
    → s.first.at ≡ at → s.first.raw ≡ raw → s.fields ≡ fields → s.line ≡ line → s.rows ≡ rows
    → s ≡ record { first = field at raw; fields = fields; line = line; rows = rows }
rest-is s a r f l t = rw (← a, ← r, ← f, ← l, ← t) refl

-- ── on the way through a field ──
pub reached-none : (at : ℕ) (s : Rest) → Reached at s at s
reached-none at s = record { size = refl; fields = refl; rows = refl }

pub reached-from : (at : ℕ) {s t : Rest} → s ≡ t → Reached at s at t
reached-from at {s} e = rw (← e) (reached-none at s)

pub reached-on : {at i k : ℕ} {s t u : Rest} → Reached at s i t → Reached i t k u → Reached at s k u
reached-on p q = record { size = p.size ∙ q.size; fields = p.fields ∙ q.fields; rows = p.rows ∙ q.rows }

pub reached-byte : {at i line b : ℕ} {s t u : Rest} → Reached at s i t → t ≡ onto i line b u → Reached at s (i + 1) u
reached-byte {i = i} {u = u} p e = record {
  size = p.size ∙ ap (λ z. i + length z.first.raw) e ∙ omega arith;
  fields = p.fields ∙ ap (λ z. z.fields) e;
  rows = p.rows ∙ ap (λ z. z.rows) e;
}

-- ── the quotes of a field ──
pub unquoted-right : (raw : List ℕ) → in_quotes raw ≡ false → quotes_right raw ≡ not (any is_quote raw)
unquoted-right [] q = refl
unquoted-right (b ∷ bs) q = rw q refl

pub unquoted-front : (n : ℕ) (bs : List ℕ) → in_quotes bs ≡ false → in_quotes (take n bs) ≡ false
unquoted-front zero bs q = refl
unquoted-front (suc n) [] q = refl
unquoted-front (suc n) (b ∷ bs) q = q

-- behind the quotes nothing may stand
pub closed-right : (closing : Bool) (i : ℕ) (bs raw : List ℕ) → stays_in closing bs ≡ false → raw ≡ take (length raw) bs
    → closed_from closing raw ≡ (closing && eqb (i + length raw) i)
closed-right true i bs [] e p = sym (eq-eqb (i + 0) i (omega arith))
closed-right false i bs [] e p = refl
closed-right closing i [] (b ∷ raw) e p = let z : ◌≡◌ {A = ℕ} 0 1 = cc in absurd (omega arith)
closed-right true i (x ∷ bs) (b ∷ raw) e p = let z : b ≡ x = cc in rw (z, e, ne_eqb (i + suc (length raw)) i (λ w. omega arith)) refl
closed-right false i (x ∷ bs) (b ∷ raw) e p = absurd (true≢false e)

-- ── the walk through a field without quotes ──
pub or-on : (a b c : Bool) → (a || (b || c)) ≡ ((a || b) || c)
or-on true b c = refl
or-on false b c = refl

pub or-none : (b : Bool) → (b || false) ≡ b
or-none true = refl
or-none false = refl

module _ (bytes : List ℕ) (at : ℕ) where
  pub plain-none : at ≤ length bytes → PlainPassed bytes at at false
  plain-none h = record { way = λ line. reached-none at _; quotes = λ line. refl; begins = omega arith; fits = h }

  pub plain-next : {i : ℕ} {quote : Bool} → PlainPassed bytes at i quote → goes_on (drop i bytes) ≡ true → PlainPassed bytes at (i + 1) (quote || eqb 34 (nat bytes i))
  plain-next {i} {quote} p g =
      let l = there goes_on refl bytes i g in
      let e = next-byte bytes i l in
      let step : (line : ℕ) → split i line plain (drop i bytes) ≡ onto i line (nat bytes i) (split (i + 1) line plain (drop (i + 1) bytes)) = λ line.
      ap (split i line plain) e ∙ split_plain i line (nat bytes i) (drop (i + 1) bytes) (ap goes_on (sym e) ∙ g)
      ∙ ap (λ k. onto i line (nat bytes i) (split k line plain (drop (i + 1) bytes))) (sym (add-one i)) in
      record {
        way = λ line. reached-byte (p.way line) (step line);
        quotes = λ line. p.quotes line ∙ ap (λ (z : Rest). quote || any is_quote z.first.raw) (step line) ∙ or-on quote (eqb 34 (nat bytes i)) _;
        begins = let h = p.begins in omega arith;
        fits = omega arith;
      }

-- ── the walk between quotes ──
pub one_line : (b : Bool) (line : ℕ) → cond b (suc line) line ≡ line + cond b 1 0
one_line true line = omega arith
one_line false line = omega arith

pub at_most_one : (b : Bool) → cond b 1 0 ≤ 1
at_most_one true = omega arith
at_most_one false = omega arith

pub closed_on : (closing : Bool) (b : ℕ) (bs raw : List ℕ) → stays_in closing (b ∷ bs) ≡ true → closed_from closing (b ∷ raw) ≡ closed_from (not closing && eqb 34 b) raw
closed_on true b bs raw e = rw e refl
closed_on false b bs raw e = refl

module _ (bytes : List ℕ) (at line : ℕ) where
  pub quotes-none : Scannable bytes at line → QuotesPassed bytes at line at line false
  quotes-none h = record { way = reached-none at _; closed = refl; begins = omega arith; scannable = h }

  pub quotes-next : {i lines : ℕ} {closing : Bool} → QuotesPassed bytes at line i lines closing → stays_in closing (drop i bytes) ≡ true
      → QuotesPassed bytes at line (i + 1) (lines + cond (eqb 10 (nat bytes i)) 1 0) (not closing && eqb 34 (nat bytes i))
  quotes-next {i} {lines} {closing} p g =
      let b = nat bytes i in
      let l = there (stays_in closing) refl bytes i g in
      let e = next-byte bytes i l in
      let stays = ap (stays_in closing) (sym e) ∙ g in
      let left = split (i + 1) (lines + cond (eqb 10 b) 1 0) (closing_mode (not closing && eqb 34 b)) (drop (i + 1) bytes) in
      let step : split i lines (closing_mode closing) (drop i bytes) ≡ onto i lines b left = ap (split i lines (closing_mode closing)) e ∙ split_stays closing i lines b (drop (i + 1) bytes) stays ∙ rw (add-one, one_line (eqb 10 b) lines) refl in
      let few = at_most_one (eqb 10 b) in
      let s = p.scannable in
      record {
        way = reached-byte p.way step;
        closed = p.closed ∙ ap (λ (z : Rest). closed_from closing z.first.raw) step ∙ closed_on closing b (drop (i + 1) bytes) left.first.raw stays;
        begins = let h = p.begins in omega arith;
        scannable = record { fits = omega arith; small = s.small; lines = let h = s.lines in omega arith };
      }

-- ── the end of a field ──
module _ (bytes : List ℕ) (at line : ℕ) (here : Scannable bytes at line) where
  pub end-file : length bytes ≤ at → EndPassed bytes at line File
  unfolding split
  end-file h = record { is = ap (split at line plain) (past_end bytes at h); beyond = tt }

  pub end-comma : at < length bytes → eqb 44 (nat bytes at) ≡ true → EndPassed bytes at line (Comma (record { at = at + 1; line = line }))
  end-comma h e = record {
    is = ap (split at line plain) (next-byte bytes at h) ∙ split-comma at line (nat bytes at) (drop (at + 1) bytes) e ∙ rw add-one refl;
    beyond = record { scannable = record { fits = omega arith; small = here.small; lines = let l = here.lines in omega arith }; on = omega arith };
  }

  pub end_line : at < length bytes → goes_on (drop at bytes) ≡ false → eqb 44 (nat bytes at) ≡ false
      → EndPassed bytes at line (Line (record { at = at + (1 + cond (eqb 13 (nat bytes at)) 1 0); line = line + 1 }))
  end_line h g e =
      let b = nat bytes at in let k : ℕ = cond (eqb 13 b) 1 0 in
      let n = next-byte bytes at h in
      let z : at + 1 + k ≡ at + (1 + k) = omega arith in
      let p : drop k (drop (at + 1) bytes) ≡ drop (at + (1 + k)) bytes = drop-drop k (at + 1) bytes ∙ ap (λ z. drop z bytes) z in
      record {
        is = ap (split at line plain) n ∙ split-end at line b (drop (at + 1) bytes) (ap goes_on (sym n) ∙ g) e ∙ rw (place (eqb 13 b), p, add-one) refl;
        beyond = record { scannable = record { fits = fits (eqb 13 b) refl; small = here.small; lines = let l = here.lines in omega arith }; on = omega arith };
      }
    where
      place : (r : Bool) → cond r (suc (suc at)) (suc at) ≡ at + (1 + cond r 1 0)
      place true = omega arith
      place false = omega arith

      fits : (r : Bool) → eqb 13 (nat bytes at) ≡ r → at + (1 + cond r 1 0) ≤ length bytes
      fits true r =
          let n = next-byte bytes at h in
          let f = not-false (headed_by 10 (drop (at + 1) bytes)) (sym (return-goes (nat bytes at) (drop (at + 1) bytes) r) ∙ ap goes_on (sym n) ∙ g) in
          let l = there (headed_by 10) refl bytes (at + 1) f in omega arith
      fits false r = omega arith

-- ── the field ──
module _ (bytes : List ℕ) (at line : ℕ) where
  abbrev scanned : Rest
  scanned = split at line front (drop at bytes)

  -- the way to where it ends says what it is
  module _ (end line' : ℕ) (e : Behind) (way : Reached at scanned end (split end line' plain (drop end bytes))) (ends : EndPassed bytes end line' e) where
    way-size : at + length scanned.first.raw ≡ end
    way-size = let h = way.size ∙ ap (λ (z : Rest). end + length z.first.raw) ends.is in omega arith

    way-raw : scanned.first.raw ≡ take (end - at) (drop at bytes)
    way-raw =
        let h = way-size in let n : length scanned.first.raw ≡ end - at = omega arith in
        split-raw front at line (drop at bytes) ∙ ap (λ k. take k (drop at bytes)) n

    way-is : scanned ≡ behind_field bytes e (field at (take (end - at) (drop at bytes))) line
    way-is =
        rest-is scanned (split_at front at line (drop at bytes)) way-raw (way.fields ∙ ap (λ (z : Rest). z.fields) ends.is)
        (split-line front at line (drop at bytes)) (way.rows ∙ ap (λ (z : Rest). z.rows) ends.is)

  pub plain-scanned : headed_by 34 (drop at bytes) ≡ false → (p : Plain) → PlainEnded bytes at p → (e : Behind) → EndPassed bytes p.end line e
      → FieldScanned bytes at line record {
        end = p.end;
        behind = e;
        quoted = false;
        right = not p.quote;
      }
  plain-scanned h p pass e ends =
      let u = sym (quote-headed (drop at bytes)) ∙ h in
      let same = split-unquoted front refl at line (drop at bytes) u in
      let way = reached-on (reached-from at same) (pass.passed.way line) in
      let raw = way-raw p.end line e way ends in
      let f = unquoted-front (p.end - at) (drop at bytes) u in
      record {
        is = way-is p.end line e way ends;
        quoted = sym f;
        right = sym
            (unquoted-right (take (p.end - at) (drop at bytes)) f ∙ ap (λ r. not (any is_quote r)) (sym raw)
            ∙ ap (λ (z : Rest). not (any is_quote z.first.raw)) same ∙ ap not (pass.passed.quotes line)
            ∙ ap (λ (z : Rest). not (p.quote || any is_quote z.first.raw)) ends.is ∙ ap not (or-none p.quote));
        begins = pass.passed.begins;
        fits = pass.passed.fits;
        beyond = ends.beyond;
      }

  pub quoted-scanned : headed_by 34 (drop at bytes) ≡ true → (q : Closing) → QuotesClosed bytes (at + 1) line q → (p : Plain) → PlainEnded bytes q.end.at p
      → (e : Behind) → EndPassed bytes p.end q.end.line e
      → FieldScanned bytes at line record {
        end = p.end;
        behind = e;
        quoted = true;
        right = q.closing && eqb p.end q.end.at;
      }
  quoted-scanned h q closed p pass e ends =
      let b = nat bytes at in
      let n = next-byte bytes at (there (headed_by 34) refl bytes at h) in
      let first = ap (headed_by 34) (sym n) ∙ h in
      let inner = split (at + 1) line inside (drop (at + 1) bytes) in
      let opens : scanned ≡ onto at line b inner =
      ap (split at line front) n ∙ split-open at line b (drop (at + 1) bytes) first ∙ rw add-one refl in
      let same = split-closed q.closing q.end.at q.end.line (drop q.end.at bytes) closed.out in
      let rest = split q.end.at q.end.line plain (drop q.end.at bytes) in
      let last = pass.passed.way q.end.line in
      let way = reached-on (reached-byte (reached-none at scanned) opens) (reached-on closed.passed.way (reached-on (reached-from q.end.at same) last)) in
      let raw = way-raw p.end q.end.line e way ends in
      let size : q.end.at + length rest.first.raw ≡ p.end =
      (let h = last.size ∙ ap (λ (z : Rest). p.end + length z.first.raw) ends.is in omega arith) in
      record {
        is = way-is p.end q.end.line e way ends;
        quoted = sym (ap in_quotes (sym raw ∙ ap (λ (z : Rest). z.first.raw) opens) ∙ first);
        right = sym
            (ap quotes_right (sym raw ∙ ap (λ (z : Rest). z.first.raw) opens) ∙ opened b inner.first.raw first ∙ closed.passed.closed
            ∙ ap (λ (z : Rest). closed_from q.closing z.first.raw) same
            ∙ closed-right q.closing q.end.at (drop q.end.at bytes) rest.first.raw closed.out
            (split-raw plain q.end.at q.end.line (drop q.end.at bytes)) ∙ ap (λ k. q.closing && eqb k q.end.at) size);
        begins = let a = closed.passed.begins in let c = pass.passed.begins in omega arith;
        fits = pass.passed.fits;
        beyond = ends.beyond;
      }
    where
      opened : (b : ℕ) (bs : List ℕ) → eqb 34 b ≡ true → quotes_right (b ∷ bs) ≡ closed_from false bs
      opened b bs f = rw f refl
