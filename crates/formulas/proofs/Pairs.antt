-- Each two places compared once, when the earlier has its turn: what the marks then say of it. Assumes nothing.
use Prim.Native.Nat.{ℕ, ◌+◌, ◌≤◌, ◌<◌}
use native.Mathlib.Nat.{le_refl, lt_irrefl}
use native.Mathlib.Omega.{arith}
use mathlib.Core.Bool.{Bool, true, false, cond, not, ◌||◌, or-false, or_assoc}
use mathlib.Core.List.{List, [], ◌∷◌}
use mathlib.Core.Path.{◌≡◌, refl, ap, ap₂, sym, ◌∙◌, subst, fun_ext}
use borrow.Author.Tests.{ltb-true, ltb-false, le-leb, lt-leb, eqb-true, eqb-false}
use lib.Dec.{eqb, ltb, leb}
use lib.IntN.{ℤ, pos}
use lib.ListN.{length, get_or, take, drop, set, replicate, length-set, length-replicate, get_or-replicate, take-append-drop, drop_of_length-le}
use lib.Seq.{get_or-set_same, get_or-set_other}
use mir.Syntax.{w32}
use mir.Val.{SFits, to_z, of_z}
use mir.Facts.{to_z-of_z}
use Rattle.integers.specs.Integers.{eq_z}
use Rattle.integers.proofs.Bits.{eqb-bits}
use Rattle.integers.proofs.Order.{eq_z-self, eq_z-yes, eq_z-no}
use Rattle.paper.specs.Lists.{any, nat, tally}
use Rattle.paper.specs.Formula.{places, sharing}
use Rattle.paper.proofs.Lists.{tally-append}
use Rattle.paper.proofs.Scan.{next, any_next}
use Rattle.formulas.specs.Marks.{all_bits, among_four, PlacesMarked, TurnsTaken}
use Rattle.formulas.proofs.Counting.{Passed, passed_none, passed-next, passed-all, passed-most, any-tally, some-step}

-- ── the places from first on, tested one after another ──
module _ {p : ℤ → Bool} {xs : List ℤ} {first : ℕ} {before : List ℕ} where
  pub marked-none : PlacesMarked p xs first first before before
  marked-none = record { long = refl; compared = λ j l k. absurd (lt_irrefl j (omega arith)); rest = λ j l. refl }

  pub marked_next : {j x : ℕ} {row : List ℕ} → PlacesMarked p xs first j before row → j < length row → x ≡ cond (p (get_or xs j (pos 0))) all_bits (nat row j)
      → PlacesMarked p xs first (j + 1) before (set row j x)
  marked_next {j} {x} {row} s h e = record {
    long = length-set row j x ∙ s.long;
    compared = λ a l k. go a l k (eqb a j) refl;
    rest = λ a l. get_or-set_other row j a x 0 (λ q. lt_irrefl j (omega arith)) ∙ s.rest a (omega arith);
  }
    where
      go : (a : ℕ) → first ≤ a → a < j + 1 → (t : Bool) → eqb a j ≡ t → nat (set row j x) a ≡ cond (p (get_or xs a (pos 0))) all_bits (nat before a)
      go a l k true q =
          let here = eqb-true a j q in
          ap (nat (set row j x)) here ∙ get_or-set_same row j x 0 h
          ∙ e ∙ ap (cond (p (get_or xs j (pos 0))) all_bits) (s.rest j (le_refl j)) ∙ ap (λ b. cond (p (get_or xs b (pos 0))) all_bits (nat before b)) (sym here)
      go a l k false q = let ne = eqb-false a j q in get_or-set_other row j a x 0 ne ∙ s.compared a l (omega arith)

  pub marked_all : {q : ℤ → Bool} {j end : ℕ} {row : List ℕ} → p ≡ q → j ≡ end → PlacesMarked p xs first j before row → PlacesMarked q xs first end before row
  marked_all {q} {j} {end} {row} e all s = subst (λ k. PlacesMarked q xs first k before row) all (subst (λ (t : ℤ → Bool). PlacesMarked t xs first j before row) e s)

-- found says whether one from first to before j passes
pub record Sought (p : ℤ → Bool) (xs : List ℤ) (first j : ℕ) (found : Bool) : Type 0 where
  pub so_far : (found || any p (drop j xs)) ≡ any p (drop first xs)

module _ {p : ℤ → Bool} {xs : List ℤ} {first : ℕ} where
  pub sought-none : Sought p xs first first false
  sought-none = record { so_far = refl }

  pub sought-next : {j : ℕ} {found t : Bool} → Sought p xs first j found → j < length xs → t ≡ p (get_or xs j (pos 0)) → Sought p xs first (j + 1) (found || t)
  sought-next {j} {found} {t} s h e = record {
    so_far =
        or_assoc found t (any p (drop (j + 1) xs)) ∙ ap (λ b. found || (b || any p (drop (j + 1) xs))) e ∙ ap (found ||◌) (sym (ap (any p) (next xs j (pos 0) h))) ∙ s.so_far;
  }

  pub sought-all : {j : ℕ} {found : Bool} → Sought p xs first j found → length xs ≤ j → found ≡ any p (drop first xs)
  sought-all {j} {found} s h = sym (or-false found) ∙ ap (found ||◌) (sym (ap (any p) (drop_of_length-le xs h))) ∙ s.so_far

-- a comparison of bits, as a test of the definition
pub same_bits : (x z : ℤ) → SFits w32 x → SFits w32 z → eqb (of_z w32 x) (of_z w32 z) ≡ eq_z x (to_z w32 (of_z w32 z))
same_bits x z f g = eqb-bits w32 x z f g ∙ ap (eq_z x) (sym (to_z-of_z g))

-- one of the values of a short list
pub one-any : (z : ℤ) → ◌≡◌ {A = ℤ → Bool} (λ x. any (eq_z x) (z ∷ [])) (λ x. eq_z x z)
one-any z = fun_ext (λ x. or-false (eq_z x z))

pub four-any : (a b c d : ℤ) → (λ (x : ℤ). any (eq_z x) (a ∷ b ∷ c ∷ d ∷ [])) ≡ among_four a b c d
four-any a b c d = fun_ext (λ x. go (eq_z x a) (eq_z x b) (eq_z x c) (eq_z x d))
  where
    go : (p q r s : Bool) → (p || (q || (r || (s || false)))) ≡ (p || q || r || s)
    go true q r s = refl
    go false true r s = refl
    go false false true s = refl
    go false false false true = refl
    go false false false false = refl

-- ── what the other places decide ──
eq_z-back : (a b : ℤ) → eq_z a b ≡ eq_z b a
eq_z-back a b = go (eq_z a b) refl (eq_z b a) refl
  where
    go : (s : Bool) → eq_z a b ≡ s → (t : Bool) → eq_z b a ≡ t → s ≡ t
    go true e true f = refl
    go true e false f = absurd (eq_z-no b a f (sym (eq_z-yes a b e)))
    go false e true f = absurd (eq_z-no a b e (sym (eq_z-yes b a f)))
    go false e false f = refl

one-besides : (a b : ℕ) → leb 2 (a + (1 + b)) ≡ (ltb 0 a || ltb 0 b)
one-besides a b = go (ltb 0 a) refl (ltb 0 b) refl
  where
    go : (s : Bool) → ltb 0 a ≡ s → (t : Bool) → ltb 0 b ≡ t → leb 2 (a + (1 + b)) ≡ (s || t)
    go true e t f = let h = ltb-true 0 a e in le-leb 2 (a + (1 + b)) (omega arith)
    go false e true f = let h = ltb-true 0 b f in le-leb 2 (a + (1 + b)) (omega arith)
    go false e false f = let h = ltb-false 0 a e in let k = ltb-false 0 b f in lt-leb 2 (a + (1 + b)) (omega arith)

three-besides : (a b : ℕ) (s t u : Bool) → leb 2 (a + (1 + (cond s 1 0 + (cond t 1 0 + (cond u 1 0 + b))))) ≡ (ltb 0 a || s || t || u || ltb 0 b)
three-besides a b s t u =
    one-besides a (cond s 1 0 + (cond t 1 0 + (cond u 1 0 + b)))
    ∙ ap (ltb 0 a ||◌) (some-step s (cond t 1 0 + (cond u 1 0 + b)) ∙ ap (s ||◌) (some-step t (cond u 1 0 + b) ∙ ap (t ||◌) (some-step u b)))
    ∙ flat (ltb 0 a) s
  where
    flat : (x y : Bool) → (x || (y || (t || (u || ltb 0 b)))) ≡ (x || y || t || u || ltb 0 b)
    flat true y = refl
    flat false true = refl
    flat false false = sym (or_assoc t u (ltb 0 b))

pub again : (a b : Bool) → cond b all_bits (cond a all_bits 0) ≡ cond (a || b) all_bits 0
again true true = refl
again true false = refl
again false b = refl

set? : (t : Bool) → not (eqb (cond t all_bits 0) 0) ≡ t
set? true = refl
set? false = refl

-- the test of the mark of a value
pub told-at : (m : ℕ) {some : Bool} {l r : List ℕ} → l ≡ r → nat r m ≡ cond some all_bits 0 → not (eqb (nat l m) 0) ≡ some
told-at m {some} e q = ap (λ l. not (eqb (nat l m) 0)) e ∙ ap (λ n. not (eqb n 0)) q ∙ set? some

by-four : (P : ℤ → ℤ → ℤ → ℤ → Type 0) {a b c d a' b' c' d' : ℤ} → a ≡ a' → b ≡ b' → c ≡ c' → d ≡ d' → P a b c d → P a' b' c' d'
by-four P {a} {b} {c} {d} {a'} {b'} {c'} {d'} ea eb ec ed w =
    subst (λ z. P a' b' c' z) ed (subst (λ z. P a' b' z d) ec (subst (λ z. P a' z c d) eb (subst (λ z. P z b c d) ea w)))

-- ── each place has its turn ──
module _ (xs : List ℤ) where
  abbrev at : ℕ → ℤ
  at j = get_or xs j (pos 0)

  abbrev held : ℕ → ℕ → Bool
  held i j = any (λ x. eq_z (at j) x) (take i xs)

  -- one place further
  step : (k m : ℕ) → k < length xs → k + 1 ≡ m → drop k xs ≡ at k ∷ drop m xs
  step k m l e = next xs k (pos 0) l ∙ ap (λ r. at k ∷ drop r xs) e

  held-step : (k m j : ℕ) → k < length xs → k + 1 ≡ m → held m j ≡ (held k j || eq_z (at j) (at k))
  held-step k m j l e = ap (λ r. held r j) (sym e) ∙ any_next (λ x. eq_z (at j) x) xs k (pos 0) l

  pub turned_none : length xs ≤ 256 → TurnsTaken xs (replicate 256 0) 0 0
  turned_none few = record { long = length-replicate {A = ℕ} 256 0; counted = (passed_none {p = λ x. leb 2 (places x xs)} {xs = xs}).so_far; at = λ j l h. get_or-replicate 256 j 0 0 (omega arith) }

  module _ {marks : List ℕ} {i n : ℕ} (s : TurnsTaken xs marks i n) where
    passed : Passed (λ x. leb 2 (places x xs)) xs i n
    passed = record { so_far = s.counted }

    pub turned-most : n ≤ length xs
    turned-most = passed-most passed

    pub turned-all : length xs ≤ i → n ≡ sharing xs
    turned-all = passed-all passed

    -- a mark is set exactly if an earlier place holds the value
    mark-is : (j : ℕ) → i ≤ j → j < length xs → not (eqb (nat marks j) 0) ≡ ltb 0 (places (at j) (take i xs))
    mark-is j l h =
        ap (λ k. not (eqb k 0)) (s.at j l h) ∙ set? (held i j) ∙ ap (λ p. any p (take i xs)) (fun_ext (λ x. eq_z-back (at j) x)) ∙ any-tally (λ x. eq_z x (at j)) (take i xs)

    mark-next : {p : ℤ → Bool} {after : List ℕ} {k : ℕ} → PlacesMarked p xs k (length xs) marks after → i ≤ k → ((j : ℕ) → held k j ≡ (held i j || p (at j)))
        → (j : ℕ) → k ≤ j → j < length xs → nat after j ≡ cond (held k j) all_bits 0
    mark-next {p} m low e j l h =
        m.compared j l h ∙ ap (cond (p (at j)) all_bits) (s.at j (omega arith) h) ∙ again (held i j) (p (at j)) ∙ sym (ap (λ t. cond t all_bits 0) (e j))

    -- one place: it shares its value exactly if an earlier or a later one holds it
    pub turned-next : {after : List ℕ} {z : ℤ} {k : ℕ} {later : Bool} → i < length xs → z ≡ at i → later ≡ any (λ x. eq_z x z) (drop (i + 1) xs)
        → k ≡ cond (not (eqb (nat marks i) 0) || later) 1 0 → PlacesMarked (λ x. eq_z x z) xs (i + 1) (length xs) marks after → TurnsTaken xs after (i + 1) (n + k)
    turned-next {after} {z} {k} {later} h own e q m = record {
      long = m.long ∙ s.long;
      counted = (passed-next (pos 0) passed h (q ∙ ap (λ t. cond t 1 0) shares)).so_far;
      at = mark-next m (omega arith) (λ j. any_next (λ x. eq_z (at j) x) xs i (pos 0) h ∙ ap (λ y. held i j || eq_z (at j) y) (sym own));
    }
      where
        split : places (at i) xs ≡ places (at i) (take i xs) + (1 + places (at i) (drop (i + 1) xs))
        split =
            ap (places (at i)) (sym (take-append-drop i xs)) ∙ tally-append (λ x. eq_z x (at i)) (take i xs) (drop i xs)
            ∙ ap (places (at i) (take i xs) +◌) (ap (places (at i)) (next xs i (pos 0) h) ∙ ap (λ t. cond t 1 0 + places (at i) (drop (i + 1) xs)) (eq_z-self (at i)))

        shares : (not (eqb (nat marks i) 0) || later) ≡ leb 2 (places (at i) xs)
        shares =
            ap₂ ◌||◌ (mark-is i (le_refl i) h) (e ∙ ap (λ y. any (λ x. eq_z x y) (drop (i + 1) xs)) own ∙ any-tally (λ x. eq_z x (at i)) (drop (i + 1) xs))
            ∙ sym (ap (leb 2) split ∙ one-besides (places (at i) (take i xs)) (places (at i) (drop (i + 1) xs)))

    -- four places: each shares its value exactly if an earlier place, one of the other three or a later place holds it
    module _ (h : i + 4 ≤ length xs) where
      abbrev a : ℤ
      a = at i

      abbrev b : ℤ
      b = at (i + 1)

      abbrev c : ℤ
      c = at (i + 2)

      abbrev d : ℤ
      d = at (i + 3)

      four : drop i xs ≡ a ∷ b ∷ c ∷ d ∷ drop (i + 4) xs
      four =
          step i (i + 1) (omega arith) (omega arith)
          ∙ ap (a ∷◌) (step (i + 1) (i + 2) (omega arith) (omega arith)
          ∙ ap (b ∷◌) (step (i + 2) (i + 3) (omega arith) (omega arith)
          ∙ ap (c ∷◌) (step (i + 3) (i + 4) (omega arith) (omega arith))))

      four-held : (j : ℕ) → held (i + 4) j ≡ (held i j || among_four a b c d (at j))
      four-held j =
          held-step (i + 3) (i + 4) j (omega arith) (omega arith)
          ∙ ap (◌|| eq_z (at j) d) (held-step (i + 2) (i + 3) j (omega arith) (omega arith)
          ∙ ap (◌|| eq_z (at j) c) (held-step (i + 1) (i + 2) j (omega arith) (omega arith)
          ∙ ap (◌|| eq_z (at j) b) (held-step i (i + 1) j (omega arith) (omega arith))))
          ∙ flat (held i j)
        where
          flat : (t : Bool) → (t || eq_z (at j) a || eq_z (at j) b || eq_z (at j) c || eq_z (at j) d) ≡ (t || among_four a b c d (at j))
          flat true = refl
          flat false = refl

      split-four : (z : ℤ) → places z xs ≡ places z (take i xs) + (cond (eq_z a z) 1 0 + (cond (eq_z b z) 1 0 + (cond (eq_z c z) 1 0 + (cond (eq_z d z) 1 0 + places z (drop (i + 4) xs)))))
      split-four z =
          ap (places z) (sym (take-append-drop i xs)) ∙ tally-append (λ x. eq_z x z) (take i xs) (drop i xs) ∙ ap (λ l. places z (take i xs) + places z l) four

      -- place j, with its own value taken out of the four
      shares : (j : ℕ) (s t u : Bool) {k : ℕ} {later : Bool} → i ≤ j → j < length xs
          → places (at j) xs ≡ places (at j) (take i xs) + (1 + (cond s 1 0 + (cond t 1 0 + (cond u 1 0 + places (at j) (drop (i + 4) xs)))))
          → later ≡ any (λ x. eq_z x (at j)) (drop (i + 4) xs) → k ≡ cond (not (eqb (nat marks j) 0) || s || t || u || later) 1 0
          → k ≡ cond (leb 2 (places (at j) xs)) 1 0
      shares j s t u {k} {later} l q others e r =
          r ∙ ap (λ z. cond z 1 0) (ap₂ (λ x y. x || s || t || u || y) (mark-is j l q) (e ∙ any-tally (λ x. eq_z x (at j)) (drop (i + 4) xs))
          ∙ sym (ap (leb 2) others ∙ three-besides (places (at j) (take i xs)) (places (at j) (drop (i + 4) xs)) s t u))

      own : (z : ℤ) → cond {A = ℕ} (eq_z z z) 1 0 ≡ 1
      own z = ap (λ t. cond t 1 0) (eq_z-self z)

      -- what the code tells of the four values, the marks, what was found later and what each adds
      abbrev Told : List ℕ → (in-a in_b in_c in-d : Bool) → (ka kb kc kd : ℕ) → (a b c d : ℤ) → Type 0
      Told after in-a in_b in_c in-d ka kb kc kd a b c d =
          PlacesMarked (among_four a b c d) xs (i + 4) (length xs) marks after
          × (in-a ≡ any (λ x. eq_z x a) (drop (i + 4) xs)) × (in_b ≡ any (λ x. eq_z x b) (drop (i + 4) xs))
          × (in_c ≡ any (λ x. eq_z x c) (drop (i + 4) xs)) × (in-d ≡ any (λ x. eq_z x d) (drop (i + 4) xs))
          × (ka ≡ cond (not (eqb (nat marks i) 0) || eq_z b a || eq_z c a || eq_z d a || in-a) 1 0)
          × (kb ≡ cond (not (eqb (nat marks (i + 1)) 0) || eq_z a b || eq_z c b || eq_z d b || in_b) 1 0)
          × (kc ≡ cond (not (eqb (nat marks (i + 2)) 0) || eq_z a c || eq_z b c || eq_z d c || in_c) 1 0)
          × (kd ≡ cond (not (eqb (nat marks (i + 3)) 0) || eq_z a d || eq_z b d || eq_z c d || in-d) 1 0)

      turned : {after : List ℕ} {in-a in_b in_c in-d : Bool} {ka kb kc kd : ℕ} → Told after in-a in_b in_c in-d ka kb kc kd a b c d → TurnsTaken xs after (i + 4) (n + ka + kb + kc + kd)
      turned w =
          let pa = shares i (eq_z b a) (eq_z c a) (eq_z d a) (omega arith) (omega arith) (omega (arith, split-four a, own a)) w.1 w.5 in
          let pb = shares (i + 1) (eq_z a b) (eq_z c b) (eq_z d b) (omega arith) (omega arith) (omega (arith, split-four b, own b)) w.2 w.6 in
          let pc = shares (i + 2) (eq_z a c) (eq_z b c) (eq_z d c) (omega arith) (omega arith) (omega (arith, split-four c, own c)) w.3 w.7 in
          let pd = shares (i + 3) (eq_z a d) (eq_z b d) (eq_z c d) (omega arith) (omega arith) (omega (arith, split-four d, own d)) w.4 w.8 in record {
            long = w.0.long ∙ s.long;
            counted = omega (arith, s.counted, ap (tally (λ x. leb 2 (places x xs))) four, pa, pb, pc, pd);
            at = mark-next w.0 (omega arith) four-held;
          }

      pub turned-four : {after : List ℕ} {in-a in_b in_c in-d : Bool} {ka kb kc kd : ℕ} {za zb zc zd : ℤ} → za ≡ a → zb ≡ b → zc ≡ c → zd ≡ d
          → Told after in-a in_b in_c in-d ka kb kc kd za zb zc zd → TurnsTaken xs after (i + 4) (n + ka + kb + kc + kd)
      turned-four {after} {in-a} {in_b} {in_c} {in-d} {ka} {kb} {kc} {kd} ea eb ec ed w = turned (by-four (Told after in-a in_b in_c in-d ka kb kc kd) ea eb ec ed w)
