-- A running number that stops where no value can be: digit by digit it is the number that the digits say. Assumes nothing.
use Rattle.std.specs.Option.{option_eq}
use Prim.Native.Nat.{ℕ, zero, suc, ◌+◌, ◌-◌, ◌*◌, ◌≤◌, ◌<◌}
use native.Mathlib.Omega.{arith}
use mathlib.Core.Bool.{Bool, true, false, cond, ◌&&◌}
use mathlib.Core.List.{List, [], ◌∷◌}
use mathlib.Core.Path.{◌≡◌, refl, ap, ap₂, sym, ◌∙◌}
use lib.Dec.{eqb, leb, ltb}
use borrow.Author.Tests.{lt-ltb, ne_eqb, leb-true, leb-false, le-leb, lt-leb}
use Rattle.paper.specs.Lists.{all, every, between}
use Rattle.paper.specs.Formula.{blank}
use Rattle.frequencies.specs.Values.{is_digit, number, number_from, as_value}
use Rattle.frequencies.specs.Told.{said, value_said}
use Rattle.std.specs.Prelude.{Option, None, Some, unwrap_or}
use lib.IntN.{pos}

-- ── tests ──
pub and-true : (a : Bool) → (a && true) ≡ a
and-true true = refl
and-true false = refl

and-false : (a : Bool) → (a && false) ≡ false
and-false true = refl
and-false false = refl

-- ── a number, or what no value is ──
-- with what cannot be a value as one number more
abbrev pub told : Bool → ℕ → ℕ
told good n = cond (good && leb n 2147483647) n 2147483648

pub told-said : (good : Bool) (n : ℕ) (r : Option ℕ) → r ≡ said good n → unwrap_or r 2147483648 ≡ told good n
told-said good n r e = rw e (go (good && leb n 2147483647))
  where
    go : (b : Bool) → ◌≡◌ {A = ℕ} (unwrap_or (cond b (Some n) None) 2147483648) (cond b n 2147483648)
    go true = refl
    go false = refl

pub said-yes : (good : Bool) (n : ℕ) → good ≡ true → n ≤ 2147483647 → Some n ≡ said good n
said-yes good n e h = rw (e, le-leb n 2147483647 h)

said-no : (good : Bool) (n : ℕ) → 2147483647 < n → None ≡ said good n
said-no true n h = rw (lt-leb n 2147483647 h)
said-no false n h = refl

pub said-off : (good : Bool) (n : ℕ) → good ≡ false → None ≡ said good n
said-off good n e = rw e

-- what was said, read back
pub said-is : (good : Bool) (n k : ℕ) → Some k ≡ said good n → (k ≡ n) × (good ≡ true) × (n ≤ 2147483647)
said-is true n k e = go (leb n 2147483647) refl e
  where
    go : (b : Bool) → leb n 2147483647 ≡ b → Some k ≡ cond b (Some n) None → (k ≡ n) × (◌≡◌ {A = Bool} true true) × (n ≤ 2147483647)
    go true q e = (cc, refl, leb-true n 2147483647 q)
    go false q e = cc
said-is false n k e = cc

-- ── digit by digit ──
from_le : (n : ℕ) (bs : List ℕ) → n ≤ number_from n bs
from_le n [] = omega arith
from_le n (b ∷ bs) = let h = from_le (10 * n + (b - 48)) bs in omega arith

-- what is said of n and the digits that are left
abbrev pub said_from : ℕ → List ℕ → Option ℕ
said_from n bs = said (all is_digit bs) (number_from n bs)

module _ (n b : ℕ) (bs : List ℕ) where
  pub said-next : (k : ℕ) → Some k ≡ said (is_digit b) (10 * n + (b - 48)) → said_from k bs ≡ said_from n (b ∷ bs)
  said-next k e = let s = said-is (is_digit b) (10 * n + (b - 48)) k e in rw (s.0, s.1)

  pub said-stops : None ≡ said (is_digit b) (10 * n + (b - 48)) → None ≡ said_from n (b ∷ bs)
  said-stops = go (is_digit b) (leb (10 * n + (b - 48)) 2147483647) refl
    where
      m : ℕ
      m = 10 * n + (b - 48)

      go : (d l : Bool) → leb m 2147483647 ≡ l → None ≡ cond (d && l) (Some m) None → None ≡ said (d && all is_digit bs) (number_from m bs)
      go false l q e = refl
      go true true q e = cc
      go true false q e = let low = leb-false m 2147483647 q in let h = from_le m bs in said-no (all is_digit bs) (number_from m bs) (omega arith)

-- two digits of which the first is at most `most`
module _ (t o most : ℕ) where
  abbrev pub pair_said : Option ℕ
  pair_said = said (between 48 t most && is_digit o) (number (t ∷ o ∷ []))

  pub pair-yes : 48 ≤ t → t ≤ most → is_digit o ≡ true → 10 * (t - 48) + (o - 48) ≤ 2147483647 → Some (10 * (t - 48) + (o - 48)) ≡ pair_said
  pair-yes l h e small =
      let n : 10 * (t - 48) + (o - 48) ≡ number (t ∷ o ∷ []) = omega arith in
      ap Some n ∙ said-yes _ (number (t ∷ o ∷ [])) (ap₂ ◌&&◌ (ap₂ ◌&&◌ (le-leb 48 t l) (le-leb t most h)) e) (omega arith)

-- ── values ──
pub blank-big : (good : Bool) (n : ℕ) → 2147483647 < n → as_value good n ≡ blank
blank-big true n h = rw (lt-leb n 2147483647 h)
blank-big false n h = refl

-- of a sum of which the number is a part
pub value-told : (f : ℕ → ℕ) → ((x : ℕ) → x ≤ f x) → (p good : Bool) (n : ℕ) → as_value p (f (told good n)) ≡ as_value (p && good) (f n)
value-told f up p false n = blank-big p (f 2147483648) (let h = up 2147483648 in omega arith) ∙ rw (and-false p)
value-told f up p true n = go (leb n 2147483647) refl
  where
    go : (b : Bool) → leb n 2147483647 ≡ b → as_value p (f (cond b n 2147483648)) ≡ as_value (p && true) (f n)
    go true e = rw (and-true p)
    go false e =
        let l = leb-false n 2147483647 e in
        blank-big p (f 2147483648) (let h = up 2147483648 in omega arith)
        ∙ sym (blank-big (p && true) (f n) (let h = up n in omega arith))

-- of a number that is not 0
pub headway-said : (good : Bool) (n : ℕ) (r : Option ℕ) → r ≡ said good n → cond (option_eq eqb r (Some 0)) blank (value_said r) ≡ as_value (good && ltb 0 n) n
headway-said false n r e = rw e refl
headway-said true n r e = rw e (go n (leb n 2147483647))
  where
    go : (n : ℕ) (b : Bool) → cond (option_eq eqb (cond b (Some n) None) (Some 0)) blank (value_said (cond b (Some n) None)) ≡ cond (ltb 0 n && b) (pos n) blank
    go zero true = refl
    go (suc n) true = rw (lt-ltb 0 (suc n) (omega arith), ne_eqb (suc n) 0 (λ e. omega arith)) refl
    go zero false = refl
    go (suc n) false = rw (and-false (ltb 0 (suc n))) refl

-- ── a time's tests, in the order in which they are joined ──
pub time-tests : (a b c p q : Bool) → ((((p && q) && a) && b) && c) ≡ every (true ∷ a ∷ p ∷ b ∷ q ∷ c ∷ [])
unfolding every
time-tests true b c false q = refl
time-tests false b c false q = refl
time-tests false b c true false = refl
time-tests true false c true false = refl
time-tests true true c true false = refl
time-tests false b c true true = refl
time-tests true false c true true = refl
time-tests true true true true true = refl
time-tests true true false true true = refl
