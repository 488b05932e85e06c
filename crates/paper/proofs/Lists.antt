-- Tests, and lists of what passes them, as facts. Assumes nothing.
use Prim.Native.Nat.{ℕ, zero, suc, ◌+◌, ◌<◌}
use native.Mathlib.Omega.{arith}
use mathlib.Core.Bool.{Bool, true, false, ◌&&◌, ◌||◌, true≢false, false≢true}
use mathlib.Core.List.{List, [], ◌∷◌, ◌++◌, map, Memᴰ}
use mathlib.Core.Logic.{◌⊎◌, inl, inr, ◌≢◌}
use mathlib.Core.Path.{◌≡◌, refl, ap, ap₂, sym, ◌∙◌}
use lib.Dec.{eqb}
use lib.ListN.{length, get_or}
use borrow.Author.Tests.{eq-eqb, eqb-true, eqb-false}
use Rattle.paper.specs.Lists.{any, all, every, tally}

-- ── tests ──
pub clash {ℓ} : {X : Type ℓ} {b : Bool} → b ≡ true → b ≡ false → X
clash p q = absurd (true≢false (sym p ∙ q))

pub and_left : (a b : Bool) → (a && b) ≡ true → a ≡ true
and_left true b e = refl
and_left false b e = e

pub and_right : (a b : Bool) → (a && b) ≡ true → b ≡ true
and_right true b e = e
and_right false b e = absurd (false≢true e)

pub or-false-left : (a b : Bool) → (a || b) ≡ false → a ≡ false
or-false-left true b e = e
or-false-left false b e = refl

pub or-false-right : (a b : Bool) → (a || b) ≡ false → b ≡ false
or-false-right true b e = absurd (true≢false e)
or-false-right false b e = e

pub or_right : (a : Bool) {b : Bool} → b ≡ true → (a || b) ≡ true
or_right true e = refl
or_right false e = e

pub eqb-self : (a : ℕ) → eqb a a ≡ true
eqb-self a = eq-eqb a a refl

-- a conjunction of tests, one by one: `(each _ e).1.1.0` is the third
abbrev pub Each : List Bool → Type 0
Each [] = Unit {0}
Each (b ∷ bs) = (b ≡ true) × Each bs

pub each : (bs : List Bool) → every bs ≡ true → Each bs
unfolding every
each [] h = tt
each (b ∷ bs) h = (and_left b (every bs) h, each bs (and_right b (every bs) h))

pub all_yes : (bs : List Bool) → Each bs → every bs ≡ true
unfolding every
all_yes [] h = refl
all_yes (b ∷ bs) h = ap₂ ◌&&◌ h.0 (all_yes bs h.1)

-- ── some and all ──
module _ {A : Type 0} (p : A → Bool) where
  pub all_in : (xs : List A) → all p xs ≡ true → {i : A} → Memᴰ i xs → p i ≡ true
  all_in (x ∷ xs) e (Memᴰ.head q) = ap p q ∙ and_left (p x) (all p xs) e
  all_in (x ∷ xs) e (Memᴰ.tail m) = all_in xs (and_right (p x) (all p xs) e) m
  all_in [] e {i = i} x'' = elim x'' [ ]

  pub any_out : (xs : List A) → any p xs ≡ false → {i : A} → Memᴰ i xs → p i ≡ false
  any_out (x ∷ xs) e (Memᴰ.head q) = ap p q ∙ or-false-left (p x) (any p xs) e
  any_out (x ∷ xs) e (Memᴰ.tail m) = any_out xs (or-false-right (p x) (any p xs) e) m
  any_out [] e {i = i} x'' = elim x'' [ ]

  pub all_of : (xs : List A) → ((i : A) → Memᴰ i xs → p i ≡ true) → all p xs ≡ true
  all_of [] h = refl
  all_of (x ∷ xs) h = ap₂ ◌&&◌ (h x (Memᴰ.head refl)) (all_of xs (λ i m. h i (Memᴰ.tail m)))

  pub any-in : (xs : List A) {i : A} → Memᴰ i xs → p i ≡ true → any p xs ≡ true
  any-in (x ∷ xs) (Memᴰ.head q) e = ap (◌|| any p xs) (sym (ap p q) ∙ e)
  any-in (x ∷ xs) (Memᴰ.tail m) e = or_right (p x) (any-in xs m e)
  any-in [] {i = i} x'' e = elim x'' [ ]

  -- an entry that passes, or fails
  pub any-has : (xs : List A) → any p xs ≡ true → (i : A) × Memᴰ i xs × (p i ≡ true)
  any-has [] e = absurd (false≢true e)
  any-has (x ∷ xs) e = go (p x) refl e (any-has xs)
    where
      go : (b : Bool) → p x ≡ b → (b || any p xs) ≡ true → (any p xs ≡ true → (i : A) × Memᴰ i xs × (p i ≡ true)) → (i : A) × Memᴰ i (x ∷ xs) × (p i ≡ true)
      go true q e' more = (x, Memᴰ.head refl, q)
      go false q e' more = let (i, m, h) = more e' in (i, Memᴰ.tail m, h)

  pub all-lacks : (xs : List A) → all p xs ≡ false → (i : A) × Memᴰ i xs × (p i ≡ false)
  all-lacks [] e = absurd (true≢false e)
  all-lacks (x ∷ xs) e = go (p x) refl e (all-lacks xs)
    where
      go : (b : Bool) → p x ≡ b → (b && all p xs) ≡ false → (all p xs ≡ false → (i : A) × Memᴰ i xs × (p i ≡ false)) → (i : A) × Memᴰ i (x ∷ xs) × (p i ≡ false)
      go true q e' more = let (i, m, h) = more e' in (i, Memᴰ.tail m, h)
      go false q e' more = (x, Memᴰ.head refl, q)

  -- the entry at a place
  pub all-at : (xs : List A) → all p xs ≡ true → (i : ℕ) (d : A) → i < length xs → p (get_or xs i d) ≡ true
  all-at [] e i d l = absurd (omega arith)
  all-at (x ∷ xs) e zero d l = and_left (p x) (all p xs) e
  all-at (x ∷ xs) e (suc i) d l = all-at xs (and_right (p x) (all p xs) e) i d (omega arith)

  pub all-places : (xs : List A) (d : A) → ((i : ℕ) → i < length xs → p (get_or xs i d) ≡ true) → all p xs ≡ true
  all-places [] d h = refl
  all-places (x ∷ xs) d h = ap₂ ◌&&◌ (h 0 (omega arith)) (all-places xs d (λ i l. h (suc i) (omega arith)))

  pub any_at : (xs : List A) → any p xs ≡ false → (i : ℕ) (d : A) → i < length xs → p (get_or xs i d) ≡ false
  any_at [] e i d l = absurd (omega arith)
  any_at (x ∷ xs) e zero d l = or-false-left (p x) (any p xs) e
  any_at (x ∷ xs) e (suc i) d l = any_at xs (or-false-right (p x) (any p xs) e) i d (omega arith)

  -- how many pass, of two lists one behind the other
  pub tally-append : (xs ys : List A) → tally p (xs ++ ys) ≡ tally p xs + tally p ys
  tally-append [] ys = omega arith
  tally-append (x ∷ xs) ys = let h = tally-append xs ys in omega arith

-- what agrees at each entry gives the same over the list
pub map_same : {A B : Type 0} (f g : A → B) (xs : List A) → ((i : A) → Memᴰ i xs → f i ≡ g i) → map f xs ≡ map g xs
map_same f g [] h = refl
map_same f g (x ∷ xs) h = ap₂ ◌∷◌ (h x (Memᴰ.head refl)) (map_same f g xs (λ i m. h i (Memᴰ.tail m)))

module _ {A : Type 0} (f g : A → Bool) where
  pub any_same : (xs : List A) → ((i : A) → Memᴰ i xs → f i ≡ g i) → any f xs ≡ any g xs
  any_same [] h = refl
  any_same (x ∷ xs) h = ap₂ ◌||◌ (h x (Memᴰ.head refl)) (any_same xs (λ i m. h i (Memᴰ.tail m)))

  pub all_same : (xs : List A) → ((i : A) → Memᴰ i xs → f i ≡ g i) → all f xs ≡ all g xs
  all_same [] h = refl
  all_same (x ∷ xs) h = ap₂ ◌&&◌ (h x (Memᴰ.head refl)) (all_same xs (λ i m. h i (Memᴰ.tail m)))

-- two numbers are the same or not
pub same_or : (a b : ℕ) → (a ≡ b) ⊎ (a ≢ b)
same_or a b = go (eqb a b) refl
  where
    go : (c : Bool) → eqb a b ≡ c → (a ≡ b) ⊎ (a ≢ b)
    go true e = inl (eqb-true a b e)
    go false e = inr (eqb-false a b e)
