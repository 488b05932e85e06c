-- A name with its quotes double: bytes in which each quote is one of two are those of the name with its quotes double, so they are written as they stand. Assumes nothing.
use Prim.Native.Nat.{ℕ, ◌+◌, ◌≤◌, ◌<◌}
use native.Mathlib.Numerals.{add-one}
use native.Mathlib.Omega.{arith}
use mathlib.Core.Bool.{Bool, true, false, cond, not, ◌&&◌, ◌||◌, and-true, false≢true}
use mathlib.Core.List.{List, [], ◌∷◌, ◌++◌}
use mathlib.Core.Path.{◌≡◌, refl, ap, sym, ◌∙◌}
use borrow.Author.Tests.{eqb-true, eq-eqb, ne_eqb, not-true, not-false}
use lib.Dec.{eqb}
use lib.ListN.{length, take, drop, length-append, drop_of_length-le}
use lib.Seq.{take-suc}
use Rattle.paper.specs.Lists.{nat}
use Rattle.paper.proofs.Lists.{and_left, and_right, or-false-left, or-false-right, or_right}
use Rattle.paper.proofs.Scan.{next}
use Rattle.frequencies.specs.Csv.{is_comma, is_quote, is_line_feed, is_return, halved_from, halved, doubled_from}
use Rattle.frequencies.specs.Puts.{Doubles}
use Rattle.frequencies.specs.Writing.{doubled, must_quote, name_bytes, name_of}

-- ── a loop that asks whether quotes stand double ──
stops : (one : Bool) (b : ℕ) (bs : List ℕ) → (one && not (is_quote b)) ≡ true → doubled_from one (b ∷ bs) ≡ false
stops true b bs e = ap (◌&& doubled_from false bs) (not-true (is_quote b) e)
stops false b bs e = absurd (false≢true e)

goes : (one : Bool) (b : ℕ) (bs : List ℕ) → (one && not (is_quote b)) ≡ false → doubled_from one (b ∷ bs) ≡ doubled_from (is_quote b && not one) bs
goes true b bs e = ap (λ q. q && doubled_from false bs) (not-false (is_quote b) e) ∙ ap (λ q. doubled_from (q && false) bs) (sym (not-false (is_quote b) e))
goes false b bs e = ap (λ q. doubled_from q bs) (sym (and-true (is_quote b)))

module _ (l : List ℕ) (i : ℕ) (one r : Bool) where
  pub double-stops : i < length l → (one && not (is_quote (nat l i))) ≡ true → doubled_from one (drop i l) ≡ r → false ≡ r
  double-stops h e p = sym (ap (doubled_from one) (next l i 0 h) ∙ stops one (nat l i) (drop (i + 1) l) e) ∙ p

  pub double-goes : i < length l → (one && not (is_quote (nat l i))) ≡ false → doubled_from one (drop i l) ≡ r → doubled_from (is_quote (nat l i) && not one) (drop (i + 1) l) ≡ r
  double-goes h e p = sym (ap (doubled_from one) (next l i 0 h) ∙ goes one (nat l i) (drop (i + 1) l) e) ∙ p

  pub double-ends : length l ≤ i → doubled_from one (drop i l) ≡ r → not one ≡ r
  double-ends h p = sym (ap (doubled_from one) (drop_of_length-le l h)) ∙ p

-- ── quotes doubled ──
pub doubled-quote : (b : ℕ) → 34 ≡ b → doubled (b ∷ []) ≡ 34 ∷ 34 ∷ []
doubled-quote b e = ap (λ t. cond t (34 ∷ 34 ∷ []) (b ∷ [])) (eq-eqb 34 b e)

pub doubled-other : (b : ℕ) → (34 ≡ b → ⊥) → doubled (b ∷ []) ≡ b ∷ []
doubled-other b e = ap (λ t. cond t (34 ∷ 34 ∷ []) (b ∷ [])) (ne_eqb 34 b e)

doubled-append : (xs ys : List ℕ) → doubled (xs ++ ys) ≡ doubled xs ++ doubled ys
doubled-append [] ys = refl
doubled-append (x ∷ xs) ys = go (is_quote x) (doubled-append xs ys)
  where
    go : (t : Bool) → doubled (xs ++ ys) ≡ doubled xs ++ doubled ys
        → cond t (34 ∷ 34 ∷ doubled (xs ++ ys)) (x ∷ doubled (xs ++ ys)) ≡ cond t (34 ∷ 34 ∷ doubled xs) (x ∷ doubled xs) ++ doubled ys
    go true h = ap (λ l. 34 ∷ 34 ∷ l) h
    go false h = ap (λ l. x ∷ l) h

pub doubled-next : (l : List ℕ) (i : ℕ) → i < length l → doubled (take (i + 1) l) ≡ doubled (take i l) ++ doubled (nat l i ∷ [])
doubled-next l i h = ap (λ (k : ℕ). doubled (take k l)) (add-one i) ∙ ap doubled (take-suc l i 0 h) ∙ doubled-append (take i l) (nat l i ∷ [])

-- ── quotes that stand double, halved and doubled again ──
abbrev pub asks : ℕ → Bool
asks b = is_comma b || (is_quote b || (is_line_feed b || is_return b))

quote-asks : (b : ℕ) → is_quote b ≡ true → asks b ≡ true
quote-asks b e = or_right (is_comma b) (ap (◌|| (is_line_feed b || is_return b)) e)

again : (one : Bool) (s : List ℕ) → doubled_from one s ≡ true → doubled (halved_from one s) ≡ cond one (34 ∷ s) s
again true [] e = absurd (false≢true e)
again false [] e = refl
again true (b ∷ bs) e =
    let q = and_left (is_quote b) (doubled_from false bs) e in
    ap (λ t. cond t (34 ∷ 34 ∷ doubled (halved_from false bs)) (b ∷ doubled (halved_from false bs))) q
    ∙ ap (λ l. 34 ∷ 34 ∷ l) (again false bs (and_right (is_quote b) (doubled_from false bs) e)) ∙ ap (λ (c : ℕ). 34 ∷ c ∷ bs) (eqb-true 34 b q)
again false (b ∷ bs) e = go (is_quote b) refl (again true bs) (again false bs) e
  where
    go : (t : Bool) → is_quote b ≡ t → (doubled_from true bs ≡ true → doubled (halved_from true bs) ≡ 34 ∷ bs) → (doubled_from false bs ≡ true → doubled (halved_from false bs) ≡ bs)
        → doubled_from t bs ≡ true → doubled (cond t (halved_from true bs) (b ∷ halved_from false bs)) ≡ b ∷ bs
    go true q h k d = h d ∙ ap (λ (c : ℕ). c ∷ bs) (eqb-true 34 b q)
    go false q h k d = ap (λ t. cond t (34 ∷ 34 ∷ doubled (halved_from false bs)) (b ∷ doubled (halved_from false bs))) q ∙ ap (λ l. b ∷ l) (k d)

still : (one : Bool) (s : List ℕ) → doubled_from one s ≡ true → must_quote (halved_from one s) ≡ cond one true (must_quote s)
still true [] e = absurd (false≢true e)
still false [] e = refl
still true (b ∷ bs) e = ap (◌|| must_quote (halved_from false bs)) (quote-asks b (and_left (is_quote b) (doubled_from false bs) e))
still false (b ∷ bs) e = go (is_quote b) refl (still true bs) (still false bs) e
  where
    go : (t : Bool) → is_quote b ≡ t → (doubled_from true bs ≡ true → must_quote (halved_from true bs) ≡ true) → (doubled_from false bs ≡ true → must_quote (halved_from false bs) ≡ must_quote bs)
        → doubled_from t bs ≡ true → must_quote (cond t (halved_from true bs) (b ∷ halved_from false bs)) ≡ (asks b || must_quote bs)
    go true q h k d = h d ∙ sym (ap (◌|| must_quote bs) (quote-asks b q))
    go false q h k d = ap (asks b ||◌) (k d)

-- without a quote there is nothing to halve
whole : (s : List ℕ) → must_quote s ≡ false → halved s ≡ s
whole [] e = refl
whole (b ∷ bs) e =
    let p = or-false-left (asks b) (must_quote bs) e in
    ap (λ t. cond t (halved_from true bs) (b ∷ halved_from false bs)) (or-false-left (is_quote b) (is_line_feed b || is_return b) (or-false-right (is_comma b) _ p))
    ∙ ap (λ l. b ∷ l) (whole bs (or-false-right (asks b) (must_quote bs) e))

-- ── the field of a name, by its bytes as they stand ──
abbrev pub inside : ℕ → List ℕ → List ℕ
inside double s = cond (eqb double 0) (doubled s) s

abbrev pub quoted : ℕ → List ℕ → List ℕ
quoted double s = (34 ∷ []) ++ inside double s ++ (34 ∷ [])

name-written : (double : ℕ) (s : List ℕ) → Doubles double s → name_bytes (name_of double s) ≡ cond (must_quote s) (quoted double s) s
name-written double s stands = go (eqb double 0) (must_quote s) refl stands.right
  where
    go : (z t : Bool) → must_quote s ≡ t → (z || doubled_from false s) ≡ true → name_bytes (cond z s (halved s)) ≡ cond t ((34 ∷ []) ++ cond z (doubled s) s ++ (34 ∷ [])) s
    go true t m e = ap (λ b. cond b ((34 ∷ []) ++ doubled s ++ (34 ∷ [])) s) m
    go false true m e =
        ap (λ b. cond b ((34 ∷ []) ++ doubled (halved s) ++ (34 ∷ [])) (halved s)) (still false s e ∙ m) ∙ ap (λ l. (34 ∷ []) ++ l ++ (34 ∷ [])) (again false s e)
    go false false m e = ap (λ b. cond b ((34 ∷ []) ++ doubled (halved s) ++ (34 ∷ [])) (halved s)) (still false s e ∙ m) ∙ whole s m

module _ (double : ℕ) (s : List ℕ) (stands : Doubles double s) where
  pub name-quoted : must_quote s ≡ true → name_bytes (name_of double s) ≡ quoted double s
  name-quoted e = name-written double s stands ∙ ap (λ b. cond b (quoted double s) s) e

  pub name-plain : must_quote s ≡ false → name_bytes (name_of double s) ≡ s
  name-plain e = name-written double s stands ∙ ap (λ b. cond b (quoted double s) s) e

  pub name-long : must_quote s ≡ true → (k : ℕ) → k ≡ length (inside double s) → k + 2 ≡ length (name_bytes (name_of double s))
  name-long e k h = sym (ap length (name-quoted e) ∙ simp length-append (omega (arith, h)))
