-- A name that was written is the name that is read: each of its quotes stands double between the two that are put around it. Assumes nothing.
use Prim.Native.Nat.{ℕ, suc, ◌-◌, ◌<◌}
use native.Mathlib.Omega.{arith}
use mathlib.Core.Bool.{Bool, true, false, cond, not, ◌&&◌, ◌||◌}
use mathlib.Core.List.{List, [], ◌∷◌, ◌++◌}
use mathlib.Core.Path.{◌≡◌, refl, ap, ap₂, sym, ◌∙◌}
use lib.Dec.{eqb}
use lib.ListN.{length, take, length-append}
use lib.Seq.{take_at}
use borrow.Author.Tests.{eqb-true, not-true}
use Rattle.paper.specs.Lists.{any}
use Rattle.paper.proofs.Lists.{clash, and_left, and_right, or-false-left, or-false-right}
use Rattle.frequencies.specs.Csv.{is_quote, is_comma, is_line_feed, is_return, in_quotes, body, halved_from, halved, doubled_from, closed_from, quotes_right}
use Rattle.frequencies.specs.Writing.{doubled, must_quote, name_bytes}

-- ── without quotes ──
-- a byte for which a name is quoted
abbrev pub special : ℕ → Bool
special b = is_comma b || (is_quote b || (is_line_feed b || is_return b))

pub record Plain (b : ℕ) : Type 0 where
  pub comma : is_comma b ≡ false
  pub quote : is_quote b ≡ false
  pub feed : is_line_feed b ≡ false
  pub return : is_return b ≡ false

pub plain_byte : (b : ℕ) → special b ≡ false → Plain b
plain_byte b e =
    let f = or-false-right (is_comma b) (is_quote b || (is_line_feed b || is_return b)) e in
    let g = or-false-right (is_quote b) (is_line_feed b || is_return b) f in
    record {
      comma = or-false-left (is_comma b) (is_quote b || (is_line_feed b || is_return b)) e;
      quote = or-false-left (is_quote b) (is_line_feed b || is_return b) f;
      feed = or-false-left (is_line_feed b) (is_return b) g;
      return = or-false-right (is_line_feed b) (is_return b) g;
    }

pub quote-free : (bs : List ℕ) → must_quote bs ≡ false → any is_quote bs ≡ false
quote-free [] e = refl
quote-free (b ∷ bs) e =
    ap₂ ◌||◌ (plain_byte b (or-false-left (special b) (must_quote bs) e)).quote (quote-free bs (or-false-right (special b) (must_quote bs) e))

pub bare : (bs : List ℕ) → any is_quote bs ≡ false → in_quotes bs ≡ false
bare [] e = refl
bare (b ∷ bs) e = or-false-left (is_quote b) (any is_quote bs) e

bare-body : (bs : List ℕ) → any is_quote bs ≡ false → body bs ≡ bs
bare-body bs e = rw (bare bs e)

bare-right : (bs : List ℕ) → any is_quote bs ≡ false → quotes_right bs ≡ true
bare-right [] e = refl
bare-right (b ∷ bs) e = rw (or-false-left (is_quote b) (any is_quote bs) e, or-false-right (is_quote b) (any is_quote bs) e)

pub plain_body : (bs : List ℕ) → must_quote bs ≡ false → body bs ≡ bs
plain_body bs e = bare-body bs (quote-free bs e)

pub plain-right : (bs : List ℕ) → must_quote bs ≡ false → quotes_right bs ≡ true
plain-right bs e = bare-right bs (quote-free bs e)

-- ── each quote double ──
pub halved-doubled : (bs : List ℕ) → halved (doubled bs) ≡ bs
halved-doubled [] = refl
halved-doubled (b ∷ bs) = go (is_quote b) refl (halved-doubled bs)
  where
    go : (q : Bool) → is_quote b ≡ q → halved (doubled bs) ≡ bs → halved (cond q (34 ∷ 34 ∷ doubled bs) (b ∷ doubled bs)) ≡ b ∷ bs
    go true e h = ap₂ ◌∷◌ (eqb-true 34 b e) h
    go false e h = rw e (ap (b ∷◌) h)

doubled-same : (bs : List ℕ) → any is_quote (doubled bs) ≡ false → doubled bs ≡ bs
doubled-same [] e = refl
doubled-same (b ∷ bs) e = go (is_quote b) refl e (doubled-same bs)
  where
    go : (q : Bool) → is_quote b ≡ q → any is_quote (cond q (34 ∷ 34 ∷ doubled bs) (b ∷ doubled bs)) ≡ false
        → (any is_quote (doubled bs) ≡ false → doubled bs ≡ bs) → cond q (34 ∷ 34 ∷ doubled bs) (b ∷ doubled bs) ≡ b ∷ bs
    go true q f h = clash refl f
    go false q f h = ap (b ∷◌) (h (or-false-right (is_quote b) (any is_quote (doubled bs)) f))

doubled-closed : (bs : List ℕ) → closed_from false (doubled bs ++ (34 ∷ [])) ≡ true
doubled-closed [] = refl
doubled-closed (b ∷ bs) = go (is_quote b) refl (doubled-closed bs)
  where
    go : (q : Bool) → is_quote b ≡ q → closed_from false (doubled bs ++ (34 ∷ [])) ≡ true → closed_from false (cond q (34 ∷ 34 ∷ doubled bs) (b ∷ doubled bs) ++ (34 ∷ [])) ≡ true
    go true e h = h
    go false e h = ap (λ t. closed_from t (doubled bs ++ (34 ∷ []))) e ∙ h

doubled-some : (bs : List ℕ) → 0 < length bs → 0 < length (doubled bs)
doubled-some [] l = l
doubled-some (b ∷ bs) l = go (is_quote b)
  where
    go : (q : Bool) → 0 < length (cond q (34 ∷ 34 ∷ doubled bs) (b ∷ doubled bs))
    go true = omega arith
    go false = omega arith

-- ── a name as it is written ──
-- its bytes between the quotes, if it has any
abbrev pub shown : List ℕ → List ℕ
shown name = cond (must_quote name) (doubled name) name

pub name_body : (name : List ℕ) → body (name_bytes name) ≡ shown name
name_body name = go (must_quote name) refl
  where
    go : (q : Bool) → must_quote name ≡ q → body (cond q ((34 ∷ []) ++ doubled name ++ (34 ∷ [])) name) ≡ cond q (doubled name) name
    go true e =
        let z : suc (length (doubled name ++ (34 ∷ []))) - 2 ≡ length (doubled name) = omega (arith, length-append (doubled name) (34 ∷ [])) in
        take_at (doubled name) (34 ∷ []) (suc (length (doubled name ++ (34 ∷ []))) - 2) (sym z)
    go false e = plain_body name e

pub name-right : (name : List ℕ) → quotes_right (name_bytes name) ≡ true
name-right name = go (must_quote name) refl
  where
    go : (q : Bool) → must_quote name ≡ q → quotes_right (cond q ((34 ∷ []) ++ doubled name ++ (34 ∷ [])) name) ≡ true
    go true e = doubled-closed name
    go false e = plain-right name e

pub shown-some : (name : List ℕ) → 0 < length name → 0 < length (shown name)
shown-some name l = go (must_quote name)
  where
    go : (q : Bool) → 0 < length (cond q (doubled name) name)
    go true = doubled-some name l
    go false = l

-- read back
pub shown-back : (name : List ℕ) → cond (eqb (cond (any is_quote (shown name)) 1 0) 0) (shown name) (halved (shown name)) ≡ name
shown-back name = go (must_quote name) refl
  where
    two : (q : Bool) → any is_quote (doubled name) ≡ q → cond (eqb (cond q 1 0) 0) (doubled name) (halved (doubled name)) ≡ name
    two true e = halved-doubled name
    two false e = doubled-same name e

    go : (q : Bool) → must_quote name ≡ q
        → cond (eqb (cond (any is_quote (cond q (doubled name) name)) 1 0) 0) (cond q (doubled name) name) (halved (cond q (doubled name) name)) ≡ name
    go true e = two (any is_quote (doubled name)) refl
    go false e = rw (quote-free name e)

-- ── a name as it was read ──
-- a closed field's quotes between the outer ones stand double
closed-doubled : (one : Bool) (b : ℕ) (bs : List ℕ) → closed_from one (b ∷ bs) ≡ true → doubled_from one (take (length bs) (b ∷ bs)) ≡ true
closed-doubled false b [] e = refl
closed-doubled true b [] e = clash (and_right (is_quote b) false e) refl
closed-doubled false b (c ∷ cs) e = closed-doubled (is_quote b) c cs e
closed-doubled true b (c ∷ cs) e =
    ap₂ ◌&&◌ (and_left (is_quote b) (closed_from false (c ∷ cs)) e) (closed-doubled false c cs (and_right (is_quote b) (closed_from false (c ∷ cs)) e))

pub body-doubled : (raw : List ℕ) → quotes_right raw ≡ true → any is_quote (body raw) ≡ true → doubled_from false (body raw) ≡ true
body-doubled [] r e = clash e refl
body-doubled (q ∷ bs) r e = go (is_quote q) refl r e
  where
    inner : (cs : List ℕ) → closed_from false cs ≡ true → doubled_from false (take (suc (length cs) - 2) cs) ≡ true
    inner [] f = clash f refl
    inner (c ∷ cs) f =
        let z : suc (suc (length cs)) - 2 ≡ length cs = omega arith in
        ap (λ k. doubled_from false (take k (c ∷ cs))) z ∙ closed-doubled false c cs f

    go : (b : Bool) → is_quote q ≡ b → cond b (closed_from false bs) (not (any is_quote bs)) ≡ true
        → any is_quote (cond b (take (suc (length bs) - 2) bs) (q ∷ bs)) ≡ true → doubled_from false (cond b (take (suc (length bs) - 2) bs) (q ∷ bs)) ≡ true
    go true h f a = inner bs f
    go false h f a = clash a (ap₂ ◌||◌ h (not-true (any is_quote bs) f))

-- halved, what has a byte still has one
pub halved-some : (bs : List ℕ) → doubled_from false bs ≡ true → 0 < length bs → 0 < length (halved bs)
halved-some [] e l = l
halved-some (b ∷ bs) e l = go (is_quote b) refl e
  where
    one : (cs : List ℕ) → doubled_from true cs ≡ true → 0 < length (halved_from true cs)
    one [] f = clash f refl
    one (c ∷ cs) f = omega arith

    go : (q : Bool) → is_quote b ≡ q → doubled_from q bs ≡ true → 0 < length (cond q (halved_from true bs) (b ∷ halved_from false bs))
    go true q f = one bs f
    go false q f = omega arith
