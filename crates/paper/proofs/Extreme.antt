-- What MIN and MAX leave is one of the inputs that have a value, and none of these is beyond it: one proof for both, over what a choice of two
-- respects. Where no input has a value nothing is left. Assumes nothing.
use native.Mathlib.Omega.{arith}
use mathlib.Core.Bool.{Bool, true, false, cond, ◌&&◌, ◌||◌, false≢true, true≢false}
use mathlib.Core.List.{List, [], ◌∷◌, Memᴰ}
use mathlib.Core.Logic.{◌⊎◌, inl, inr}
use mathlib.Core.Path.{◌≡◌, refl, ap, ap₂, ◌∙◌}
use lib.IntN.{ℤ}
use lib.Signed.{le_z}
use Rattle.integers.specs.Integers.{eq_z}
use Rattle.integers.proofs.Order.{le_yes, le-no, yes_le}
use Rattle.paper.specs.Lists.{all}
use Rattle.paper.specs.Formula.{blank, lesser, greater, valued, extreme}
use Rattle.paper.proofs.Lists.{and_left, and_right}

abbrev pub is_blank : ℤ → Bool
is_blank x = eq_z x blank

-- z is one of the inputs and has a value, and the test says of each input that has one that it is not beyond z
pub record Extreme (test : ℤ → ℤ → Bool) (z : ℤ) (xs : List ℤ) : Type 0 where
  pub one : Memᴰ z xs
  pub has_value : is_blank z ≡ false
  pub none-beyond : all (λ x. is_blank x || test z x) xs ≡ true

-- ── the inputs that have a value ──
valued-in : {z : ℤ} (xs : List ℤ) → Memᴰ z (valued xs) → Memᴰ z xs × (is_blank z ≡ false)
valued-in {z} (x ∷ xs) m = go (is_blank x) refl m (valued-in xs)
  where
    go : (b : Bool) → is_blank x ≡ b → Memᴰ z (cond b (valued xs) (x ∷ valued xs)) → (Memᴰ z (valued xs) → Memᴰ z xs × (is_blank z ≡ false))
        → Memᴰ z (x ∷ xs) × (is_blank z ≡ false)
    go true e m further = let w = further m in (Memᴰ.tail w.0, w.1)
    go false e (Memᴰ.head q) further = (Memᴰ.head q, ap is_blank q ∙ e)
    go false e (Memᴰ.tail m) further = let w = further m in (Memᴰ.tail w.0, w.1)
valued-in {z = z} [] m = elim m [ ]

valued-all : (p : ℤ → Bool) (xs : List ℤ) → all (λ x. is_blank x || p x) xs ≡ all p (valued xs)
valued-all p [] = refl
valued-all p (x ∷ xs) = go (is_blank x) (valued-all p xs)
  where
    go : (b : Bool) → all (λ x. is_blank x || p x) xs ≡ all p (valued xs) → ((b || p x) && all (λ x. is_blank x || p x) xs) ≡ all p (cond b (valued xs) (x ∷ valued xs))
    go true e = e
    go false e = ap (p x &&◌) e

none-valued : (xs : List ℤ) → all is_blank xs ≡ true → valued xs ≡ []
none-valued [] e = refl
none-valued (x ∷ xs) e = go (is_blank x) e (none-valued xs)
  where
    go : (b : Bool) → (b && all is_blank xs) ≡ true → (all is_blank xs ≡ true → valued xs ≡ []) → cond b (valued xs) (x ∷ valued xs) ≡ []
    go true e further = further e
    go false e further = absurd (false≢true e)

-- ── of two, and so of all ──
-- z is one of these numbers, and none of them is beyond it
record Left (test : ℤ → ℤ → Bool) (z : ℤ) (xs : List ℤ) : Type 0 where
  one : Memᴰ z xs
  none-beyond : all (test z) xs ≡ true

-- z is one of a and b, and neither is beyond it
record Choice (test : ℤ → ℤ → Bool) (a b z : ℤ) : Type 0 where
  one : (z ≡ a) ⊎ (z ≡ b)
  first : test z a ≡ true
  second : test z b ≡ true

module _ (test : ℤ → ℤ → Bool) (f : ℤ → ℤ → ℤ) (self : (a : ℤ) → test a a ≡ true)
    (trans : (a b c : ℤ) → test a b ≡ true → test b c ≡ true → test a c ≡ true) (choice : (a b : ℤ) → Choice test a b (f a b)) where
  longer : (a b : ℤ) (xs : List ℤ) {z : ℤ} → Left test z (f a b ∷ xs) → Left test z (a ∷ b ∷ xs)
  longer a b xs {z} e = record {
    one = go (choice a b).one e.one;
    none-beyond = ap₂ ◌&&◌ (past a (choice a b).first) (ap₂ ◌&&◌ (past b (choice a b).second) (and_right (test z (f a b)) (all (test z) xs) e.none-beyond));
  }
    where
      go : (f a b ≡ a) ⊎ (f a b ≡ b) → Memᴰ z (f a b ∷ xs) → Memᴰ z (a ∷ b ∷ xs)
      go (inl q) (Memᴰ.head m) = Memᴰ.head (m ∙ q)
      go (inr q) (Memᴰ.head m) = Memᴰ.tail (Memᴰ.head (m ∙ q))
      go s (Memᴰ.tail m) = Memᴰ.tail (Memᴰ.tail m)

      past : (y : ℤ) → test (f a b) y ≡ true → test z y ≡ true
      past y h = trans z (f a b) y (and_left (test z (f a b)) (all (test z) xs) e.none-beyond) h

  left : (x : ℤ) (xs : List ℤ) → Left test (extreme f (x ∷ xs)) (x ∷ xs)
  left x [] = record { one = Memᴰ.head refl; none-beyond = ap (◌&& true) (self x) }
  left x (y ∷ xs) = longer x y xs (left (f x y) xs)

  -- of the inputs that have a value, if there are any
  left-valued : (xs : List ℤ) → all is_blank xs ≡ false → Left test (extreme f (valued xs)) (valued xs)
  left-valued [] e = absurd (true≢false e)
  left-valued (x ∷ xs) e = go (is_blank x) e (left-valued xs)
    where
      go : (b : Bool) → (b && all is_blank xs) ≡ false → (all is_blank xs ≡ false → Left test (extreme f (valued xs)) (valued xs))
          → Left test (extreme f (cond b (valued xs) (x ∷ valued xs))) (cond b (valued xs) (x ∷ valued xs))
      go true e further = further e
      go false e further = left x (valued xs)

  skipping : (xs : List ℤ) → all is_blank xs ≡ false → Extreme test (extreme f (valued xs)) xs
  skipping xs e =
      let l = left-valued xs e in
      let i = valued-in xs l.one in
      record { one = i.0; has_value = i.1; none-beyond = valued-all (test (extreme f (valued xs))) xs ∙ l.none-beyond }

-- ── the two comparisons ──
same : (a : ℤ) → le_z a a ≡ true
same a = yes_le a a (omega arith)

along : (a b c : ℤ) → le_z a b ≡ true → le_z b c ≡ true → le_z a c ≡ true
along a b c h k = yes_le a c (omega (arith, le_yes a b h, le_yes b c k))

-- the lesser and the greater of two
both : (t : Bool) (a b : ℤ) → le_z a b ≡ t → Choice le_z a b (cond t a b) × Choice (λ z x. le_z x z) a b (cond t b a)
both true a b e = (record { one = inl refl; first = same a; second = e }, record { one = inr refl; first = e; second = same b })
both false a b e =
    let h = yes_le b a (omega (arith, le-no a b e)) in
    (record { one = inr refl; first = h; second = same b }, record { one = inl refl; first = same a; second = h })

-- ── MIN and MAX ──
pub least : (xs : List ℤ) → all is_blank xs ≡ false → Extreme le_z (extreme lesser (valued xs)) xs
least = skipping le_z lesser same along (λ a b. (both (le_z a b) a b refl).0)

pub most : (xs : List ℤ) → all is_blank xs ≡ false → Extreme (λ z x. le_z x z) (extreme greater (valued xs)) xs
most = skipping (λ z x. le_z x z) greater same (λ a b c h k. along c b a k h) (λ a b. (both (le_z a b) a b refl).1)

-- blank exactly if no input has a value
pub none_left : (test : ℤ → ℤ → Bool) (f : ℤ → ℤ → ℤ) → ((xs : List ℤ) → all is_blank xs ≡ false → Extreme test (extreme f (valued xs)) xs)
    → (xs : List ℤ) → is_blank (extreme f (valued xs)) ≡ all is_blank xs
none_left test f law xs = go (all is_blank xs) refl
  where
    go : (b : Bool) → all is_blank xs ≡ b → is_blank (extreme f (valued xs)) ≡ b
    go true e = ap (λ l. is_blank (extreme f l)) (none-valued xs e)
    go false e = (law xs e).has_value
