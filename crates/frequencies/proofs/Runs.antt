-- How rows come of bytes that were written: a field ends at the comma or the line feed behind it, since none that ends a field stands in it but between its
-- quotes. Assumes nothing.
use Prim.Native.Nat.{ℕ, suc}
use mathlib.Core.Bool.{Bool, true, false, cond}
use mathlib.Core.List.{List, [], ◌∷◌, ◌++◌, append_assoc, append-nil}
use mathlib.Core.Path.{◌≡◌, refl, ap, ◌∙◌}
use Rattle.paper.proofs.Lists.{or-false-left, or-false-right}
use Rattle.frequencies.specs.Csv.{is_quote, is_line_feed, Field, field, Row, row, Rest, all_rows, onto, Mode, front, plain, inside, behind, split}
use Rattle.frequencies.specs.Writing.{doubled, must_quote, name_bytes}
use Rattle.frequencies.proofs.Quoted.{special, Plain, plain_byte}

-- ── a field, and what stands behind it ──
-- the byte that ends a field: a comma, a line feed, or none at the file's end
pub data End : Type 0 where
  comma feed : End

abbrev end_byte : End → ℕ
end_byte comma = 44
end_byte feed = 10

-- from the field on, if t is from the rest on
abbrev pub ending : End → ℕ → ℕ → List ℕ → Rest → Rest
ending comma at line raw t = record { first = field at raw; fields = t.first ∷ t.fields; line = line; rows = t.rows }
ending feed at line raw t = record { first = field at raw; fields = []; line = line; rows = all_rows t }

-- a text is a field and the rest behind its end
pub record Run (e : End) (mode : Mode) (text raw rest : List ℕ) (at line : ℕ) : Type 0 where
  pub place : ℕ
  pub next : ℕ
  pub is : split at line mode text ≡ ending e at line raw (split place next front rest)

onto-ending : (e : End) (at line b after next : ℕ) (raw : List ℕ) (t : Rest) → onto at line b (ending e after next raw t) ≡ ending e at line (b ∷ raw) t
onto-ending comma at line b after next raw t = refl
onto-ending feed at line b after next raw t = refl

-- one byte more in front
more : (e : End) {mode mode' : Mode} {text raw rest : List ℕ} (b at line line' : ℕ)
    → split at line mode (b ∷ text) ≡ onto at line b (split (suc at) line' mode' text) → Run e mode' text raw rest (suc at) line' → Run e mode (b ∷ text) (b ∷ raw) rest at line
more e {raw = raw} b at line line' s r =
    record { place = r.place; next = r.next; is = s ∙ ap (onto at line b) r.is ∙ onto-ending e at line b (suc at) line' raw _ }

-- ── a field that needs no quotes ──
plain_step : (b at line : ℕ) (bs : List ℕ) → Plain b → split at line plain (b ∷ bs) ≡ onto at line b (split (suc at) line plain bs)
unfolding split
plain_step b at line bs p = rw (p.comma, p.feed, p.return)

front-step : (b at line : ℕ) (bs : List ℕ) → Plain b → split at line front (b ∷ bs) ≡ onto at line b (split (suc at) line plain bs)
unfolding split
front-step b at line bs p = rw (p.comma, p.feed, p.return, p.quote)

ends-plain : (e : End) (at line : ℕ) (rest : List ℕ) → Run e plain (end_byte e ∷ rest) [] rest at line
unfolding split
ends-plain comma at line rest = record { place = suc at; next = line; is = refl }
ends-plain feed at line rest = record { place = suc at; next = suc line; is = refl }

ends-front : (e : End) (at line : ℕ) (rest : List ℕ) → Run e front (end_byte e ∷ rest) [] rest at line
unfolding split
ends-front comma at line rest = record { place = suc at; next = line; is = refl }
ends-front feed at line rest = record { place = suc at; next = suc line; is = refl }

ends-behind : (e : End) (at line : ℕ) (rest : List ℕ) → Run e behind (end_byte e ∷ rest) [] rest at line
unfolding split
ends-behind comma at line rest = record { place = suc at; next = line; is = refl }
ends-behind feed at line rest = record { place = suc at; next = suc line; is = refl }

first_plain : (x : ℕ) (xs : List ℕ) → must_quote (x ∷ xs) ≡ false → Plain x
first_plain x xs e = plain_byte x (or-false-left (special x) (must_quote xs) e)

rest_plain : (x : ℕ) (xs : List ℕ) → must_quote (x ∷ xs) ≡ false → must_quote xs ≡ false
rest_plain x xs e = or-false-right (special x) (must_quote xs) e

plain-run : (e : End) (xs rest : List ℕ) (at line : ℕ) → must_quote xs ≡ false → Run e plain (xs ++ end_byte e ∷ rest) xs rest at line
plain-run e [] rest at line f = ends-plain e at line rest
plain-run e (x ∷ xs) rest at line f =
    more e x at line line (plain_step x at line (xs ++ end_byte e ∷ rest) (first_plain x xs f)) (plain-run e xs rest (suc at) line (rest_plain x xs f))

-- a field stands apart from whatever follows its end
pub record Apart (raw : List ℕ) : Type 0 where
  pub run : (e : End) (rest : List ℕ) (at line : ℕ) → Run e front (raw ++ end_byte e ∷ rest) raw rest at line

pub plain-apart : (xs : List ℕ) → must_quote xs ≡ false → Apart xs
plain-apart [] f = record { run = λ e rest at line. ends-front e at line rest }
plain-apart (x ∷ xs) f = record {
  run = λ e rest at line.
      more e x at line line (front-step x at line (xs ++ end_byte e ∷ rest) (first_plain x xs f)) (plain-run e xs rest (suc at) line (rest_plain x xs f));
}

-- ── a field in quotes ──
inside-step : (b at line : ℕ) (bs : List ℕ) → is_quote b ≡ false
    → split at line inside (b ∷ bs) ≡ onto at line b (split (suc at) (cond (is_line_feed b) (suc line) line) inside bs)
unfolding split
inside-step b at line bs q = rw q

inside-quote : (at line : ℕ) (bs : List ℕ) → split at line inside (34 ∷ bs) ≡ onto at line 34 (split (suc at) line behind bs)
unfolding split
inside-quote at line bs = refl

behind-quote : (at line : ℕ) (bs : List ℕ) → split at line behind (34 ∷ bs) ≡ onto at line 34 (split (suc at) line inside bs)
unfolding split
behind-quote at line bs = refl

front-quote : (at line : ℕ) (bs : List ℕ) → split at line front (34 ∷ bs) ≡ onto at line 34 (split (suc at) line inside bs)
unfolding split
front-quote at line bs = refl

inside-run : (e : End) (bs rest : List ℕ) (at line : ℕ) → Run e inside (doubled bs ++ 34 ∷ end_byte e ∷ rest) (doubled bs ++ 34 ∷ []) rest at line
inside-run e [] rest at line = more e 34 at line line (inside-quote at line (end_byte e ∷ rest)) (ends-behind e (suc at) line rest)
inside-run e (b ∷ bs) rest at line = go (is_quote b) refl (inside-run e bs rest)
  where
    go : (q : Bool) → is_quote b ≡ q → ((at line : ℕ) → Run e inside (doubled bs ++ 34 ∷ end_byte e ∷ rest) (doubled bs ++ 34 ∷ []) rest at line)
        → Run e inside (cond q (34 ∷ 34 ∷ doubled bs) (b ∷ doubled bs) ++ 34 ∷ end_byte e ∷ rest) (cond q (34 ∷ 34 ∷ doubled bs) (b ∷ doubled bs) ++ 34 ∷ []) rest at line
    go true h r =
        more e 34 at line line (inside-quote at line (34 ∷ doubled bs ++ 34 ∷ end_byte e ∷ rest))
        (more e 34 (suc at) line line (behind-quote (suc at) line (doubled bs ++ 34 ∷ end_byte e ∷ rest)) (r (suc (suc at)) line))
    go false h r =
        more e b at line (cond (is_line_feed b) (suc line) line) (inside-step b at line (doubled bs ++ 34 ∷ end_byte e ∷ rest) h)
        (r (suc at) (cond (is_line_feed b) (suc line) line))

pub name-apart : (name : List ℕ) → Apart (name_bytes name)
name-apart name = go (must_quote name) refl
  where
    go : (q : Bool) → must_quote name ≡ q → Apart (cond q ((34 ∷ []) ++ doubled name ++ (34 ∷ [])) name)
    go true f = record {
      run = λ e rest at line.
          rw (append_assoc (doubled name) (34 ∷ []) (end_byte e ∷ rest))
          (more e 34 at line line (front-quote at line (doubled name ++ 34 ∷ end_byte e ∷ rest)) (inside-run e name rest (suc at) line));
    }
    go false f = plain-apart name f

-- ── the file's last field ──
plain-last : (xs : List ℕ) (at line : ℕ) → must_quote xs ≡ false → split at line plain xs ≡ record { first = field at xs; fields = []; line = line; rows = [] }
unfolding split
plain-last [] at line f = refl
plain-last (x ∷ xs) at line f =
    plain_step x at line xs (first_plain x xs f) ∙ ap (onto at line x) (plain-last xs (suc at) line (rest_plain x xs f))

front-last : (xs : List ℕ) (at line : ℕ) → must_quote xs ≡ false → split at line front xs ≡ record { first = field at xs; fields = []; line = line; rows = [] }
unfolding split
front-last [] at line f = refl
front-last (x ∷ xs) at line f =
    front-step x at line xs (first_plain x xs f) ∙ ap (onto at line x) (plain-last xs (suc at) line (rest_plain x xs f))

-- ── a line ──
-- its five fields, as they stand in the file
pub record Raws : Type 0 where
  pub trip : List ℕ
  pub start : List ℕ
  pub end : List ℕ
  pub headway : List ℕ
  pub exact : List ℕ

-- parted by commas, with what is behind them
abbrev pub line_then : Raws → List ℕ → List ℕ
line_then x rest = x.trip ++ 44 ∷ (x.start ++ 44 ∷ (x.end ++ 44 ∷ (x.headway ++ 44 ∷ (x.exact ++ rest))))

pub record Lined (x : Raws) : Type 0 where
  pub trip : Apart x.trip
  pub start : Apart x.start
  pub end : Apart x.end
  pub headway : Apart x.headway
  pub exact : must_quote x.exact ≡ false

abbrev pub fields_at : Raws → (a₀ a₁ a₂ a₃ a₄ : ℕ) → List Field
fields_at x a₀ a₁ a₂ a₃ a₄ = field a₀ x.trip ∷ field a₁ x.start ∷ field a₂ x.end ∷ field a₃ x.headway ∷ field a₄ x.exact ∷ []

-- the row of such a line
pub record RowOf (x : Raws) (r : Row) : Type 0 where
  pub at₀ : ℕ
  pub at₁ : ℕ
  pub at₂ : ℕ
  pub at₃ : ℕ
  pub at₄ : ℕ
  pub is : r.fields ≡ fields_at x at₀ at₁ at₂ at₃ at₄

-- the first four fields, if t is from the fifth on: each begins at its place and on its line
abbrev ahead : Raws → (at line a₁ n₁ a₂ n₂ a₃ n₃ : ℕ) → Rest → Rest
ahead x at line a₁ n₁ a₂ n₂ a₃ n₃ t =
    ending comma at line x.trip (ending comma a₁ n₁ x.start (ending comma a₂ n₂ x.end (ending comma a₃ n₃ x.headway t)))

record Ahead (x : Raws) (at line : ℕ) (rest : List ℕ) : Type 0 where
  a₁ : ℕ
  n₁ : ℕ
  a₂ : ℕ
  n₂ : ℕ
  a₃ : ℕ
  n₃ : ℕ
  a₄ : ℕ
  n₄ : ℕ
  is : split at line front (line_then x rest) ≡ ahead x at line a₁ n₁ a₂ n₂ a₃ n₃ (split a₄ n₄ front (x.exact ++ rest))

through : (x : Raws) {at line a₁ n₁ a₂ n₂ a₃ n₃ : ℕ} {s₀ s₁ s₂ s₃ : Rest} (s₄ : Rest) → s₀ ≡ ending comma at line x.trip s₁ → s₁ ≡ ending comma a₁ n₁ x.start s₂
    → s₂ ≡ ending comma a₂ n₂ x.end s₃ → s₃ ≡ ending comma a₃ n₃ x.headway s₄ → s₀ ≡ ahead x at line a₁ n₁ a₂ n₂ a₃ n₃ s₄
through x {at} {line} {a₁} {n₁} {a₂} {n₂} s₄ p q r t =
    p ∙ ap (ending comma at line x.trip) (q ∙ ap (ending comma a₁ n₁ x.start) (r ∙ ap (ending comma a₂ n₂ x.end) t))

go-ahead : (x : Raws) (at line : ℕ) (rest : List ℕ) → Lined x → Ahead x at line rest
go-ahead x at line rest l =
    let r₀ = l.trip.run comma (x.start ++ 44 ∷ (x.end ++ 44 ∷ (x.headway ++ 44 ∷ (x.exact ++ rest)))) at line in
    let r₁ = l.start.run comma (x.end ++ 44 ∷ (x.headway ++ 44 ∷ (x.exact ++ rest))) r₀.place r₀.next in
    let r₂ = l.end.run comma (x.headway ++ 44 ∷ (x.exact ++ rest)) r₁.place r₁.next in
    let r₃ = l.headway.run comma (x.exact ++ rest) r₂.place r₂.next in
    record {
      a₁ = r₀.place;
      n₁ = r₀.next;
      a₂ = r₁.place;
      n₂ = r₁.next;
      a₃ = r₂.place;
      n₃ = r₂.next;
      a₄ = r₃.place;
      n₄ = r₃.next;
      is = through x (split r₃.place r₃.next front (x.exact ++ rest)) r₀.is r₁.is r₂.is r₃.is;
    }

module _ (x : Raws) (at line : ℕ) (rest : List ℕ) (h : Ahead x at line rest) where
  line_row : Row
  line_row = row line (fields_at x at h.a₁ h.a₂ h.a₃ h.a₄)

  line-row : RowOf x line_row
  unfolding line_row
  line-row = record { at₀ = at; at₁ = h.a₁; at₂ = h.a₂; at₃ = h.a₃; at₄ = h.a₄; is = refl }

  -- by what the fifth field is
  row-then : (t : Rest) → t.first ≡ field h.a₄ x.exact → t.fields ≡ [] → split h.a₄ h.n₄ front (x.exact ++ rest) ≡ t
      → all_rows (split at line front (line_then x rest)) ≡ line_row ∷ t.rows
  unfolding line_row
  row-then t f g e = ap all_rows (h.is ∙ ap (ahead x at line h.a₁ h.n₁ h.a₂ h.n₂ h.a₃ h.n₃) e) ∙ rw (f, g)

-- a line with more behind it is a row with more behind it
pub record FirstRow (x : Raws) (at line : ℕ) (rest : List ℕ) : Type 0 where
  pub first : Row
  pub row : RowOf x first
  pub place : ℕ
  pub next : ℕ
  pub rows : all_rows (split at line front (line_then x (10 ∷ rest))) ≡ first ∷ all_rows (split place next front rest)

pub first-row : (x : Raws) (at line : ℕ) (rest : List ℕ) → Lined x → FirstRow x at line rest
first-row x at line rest l =
    let h = go-ahead x at line (10 ∷ rest) l in let r = (plain-apart x.exact l.exact).run feed rest h.a₄ h.n₄ in
    record {
      first = line_row x at line (10 ∷ rest) h;
      row = line-row x at line (10 ∷ rest) h;
      place = r.place;
      next = r.next;
      rows = row-then x at line (10 ∷ rest) h _ refl refl r.is;
    }

-- the file's last line is its last row
pub record LastRow (x : Raws) (at line : ℕ) : Type 0 where
  pub last : Row
  pub row : RowOf x last
  pub rows : all_rows (split at line front (line_then x [])) ≡ last ∷ []

pub last_row : (x : Raws) (at line : ℕ) → Lined x → LastRow x at line
last_row x at line l =
    let h = go-ahead x at line [] l in
    record {
      last = line_row x at line [] h;
      row = line-row x at line [] h;
      rows = row-then x at line [] h _ refl refl (ap (split h.a₄ h.n₄ front) (append-nil x.exact) ∙ front-last x.exact h.a₄ h.n₄ l.exact);
    }
