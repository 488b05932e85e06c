-- A test of every entry of a list, as a loop that no entry stops, and what the answer for the whole list says of its parts. Assumes nothing.
use Prim.Native.Nat.{ℕ, zero, suc, ◌+◌, ◌-◌, ◌≤◌}
use native.Mathlib.Nat.{lt_irrefl, not-suc-le-zero}
use native.Mathlib.Numerals.{add-one}
use native.Mathlib.Omega.{arith}
use mathlib.Core.Bool.{Bool, true, false, cond, ◌&&◌, ◌||◌, and-true, and_assoc}
use mathlib.Core.List.{List, [], ◌∷◌, ◌++◌}
use mathlib.Core.Path.{◌≡◌, refl, sym, ap, ap₂, ◌∙◌}
use lib.Dec.{eqb, ltb}
use lib.ListN.{length, get_or, take, drop}
use lib.Seq.{take-suc, take-take, drop-drop}
use borrow.Author.Tests.{ltb-true, ltb-false, eq-eqb, eqb-true, ne_eqb}
use Rattle.std.specs.Prelude.{None}
use Rattle.integers.specs.Below.{if_below}
use Rattle.integers.proofs.Below.{if_below-none}
use Rattle.paper.specs.Lists.{all, first_fail, all_below}
use Rattle.paper.proofs.Lists.{and_left, and_right, eqb-self}
use Rattle.paper.proofs.Least.{first_fail-le}

-- ── the loop: what was passed, and the next ──
-- by the number of a row
pub below_next : (p : ℕ → Bool) (i : ℕ) (good : Bool) → good ≡ all_below p i → (good && p i) ≡ all_below p (i + 1)
below_next p i good h = ap (◌&& p i) h ∙ sym (ap (all_below p) (add-one i) ∙ go (ltb (first_fail p i) i) refl (p i))
  where
    whole : ltb (first_fail p i) i ≡ false → eqb (first_fail p i) i ≡ true
    whole e = let high = ltb-false (first_fail p i) i e in let low = first_fail-le p i in eq-eqb (first_fail p i) i (omega arith)

    go : (b : Bool) → ltb (first_fail p i) i ≡ b → (q : Bool) → eqb (cond b (first_fail p i) (cond q (suc i) i)) (suc i) ≡ (eqb (first_fail p i) i && q)
    go true e q =
        let low = ltb-true (first_fail p i) i e in
        ne_eqb (first_fail p i) (suc i) (λ x. lt_irrefl i (omega arith)) ∙ sym (ap (◌&& q) (ne_eqb (first_fail p i) i (λ x. lt_irrefl i (omega arith))))
    go false e true = eqb-self (suc i) ∙ sym (ap (◌&& true) (whole e))
    go false e false = ne_eqb i (suc i) (λ x. lt_irrefl i (omega arith)) ∙ sym (ap (◌&& false) (whole e))

-- by `fold`
pub fold_push : {A : Type 0} (p : A → Bool) (xs : List A) {a b : Bool} (x : A) → a ≡ all p xs → b ≡ (a && p x) → b ≡ all p (xs ++ (x ∷ []))
fold_push p xs x h e = e ∙ ap (◌&& p x) h ∙ sym (push xs)
  where
    push : (ys : List _) → all p (ys ++ (x ∷ [])) ≡ (all p ys && p x)
    push [] = and-true (p x)
    push (y ∷ ys) = ap (p y &&◌) (push ys) ∙ sym (and_assoc (p y) (all p ys) (p x))

-- the first m entries, by the number of a row
pub all-first : {A : Type 0} (p : A → Bool) (d : A) (m : ℕ) (l : List A) → m ≤ length l → all p (take m l) ≡ all_below (λ i. p (get_or l i d)) m
all-first p d zero l h = refl
all-first p d (suc m) l h =
    ap (all p) (take-suc l m d h) ∙ sym (fold_push p (take m l) (get_or l m d) refl refl)
    ∙ below_next (λ i. p (get_or l i d)) m (all p (take m l)) (all-first p d m l (omega arith)) ∙ ap (all_below (λ i. p (get_or l i d))) (add-one m)

-- all good: no place fails
pub all-none : (p : ℕ → Bool) (m : ℕ) → all_below p m ≡ true → None ≡ if_below m (first_fail p m)
all-none p m h = if_below-none m (first_fail p m) (let e = eqb-true (first_fail p m) m h in omega arith)

-- ── parts ──
module _ {A : Type 0} (p : A → Bool) where
  all_drop : (k : ℕ) (l : List A) → all p l ≡ true → all p (drop k l) ≡ true
  all_drop zero l h = h
  all_drop (suc k) [] h = refl
  all_drop (suc k) (x ∷ xs) h = all_drop k xs (and_right (p x) (all p xs) h)

  all_take : (k : ℕ) (l : List A) → all p l ≡ true → all p (take k l) ≡ true
  all_take zero l h = refl
  all_take (suc k) [] h = refl
  all_take (suc k) (x ∷ xs) h = ap₂ ◌&&◌ (and_left (p x) (all p xs) h) (all_take k xs (and_right (p x) (all p xs) h))

  pub all-part : (first count : ℕ) (l : List A) → all p l ≡ true → all p (take count (drop first l)) ≡ true
  all-part first count l h = all_take count (drop first l) (all_drop first l h)

-- the first e entries, as the code cuts them out
pub front : {A : Type 0} (e : ℕ) (l : List A) → take (e - 0) (drop 0 l) ≡ take e l
front e l = let same : e - 0 ≡ e = omega arith in ap (λ k. take k l) same

-- a part that ends within the first e entries is a part of these
pub part-front : {A : Type 0} (first count e : ℕ) (l : List A) → first + count ≤ e → take count (drop first (take e l)) ≡ take count (drop first l)
part-front zero count e l h = take-take count e l (omega arith)
part-front (suc first) count zero l h = let none : suc (first + count) ≤ 0 = omega arith in absurd (not-suc-le-zero none)
part-front (suc first) count (suc e) [] h = refl
part-front (suc first) count (suc e) (x ∷ xs) h = part-front first count e xs (omega arith)

-- a part of a part
pub all-within : {A : Type 0} (p : A → Bool) (l : List A) (from n first count : ℕ) → from ≤ first → first + count ≤ from + n
    → all p (take n (drop from l)) ≡ true → all p (take count (drop first l)) ≡ true
all-within p l from n first count low high h =
    let k = first - from in let at : from + k ≡ first = omega arith in
    sym (ap (all p) (part-front k count n (drop from l) (omega arith) ∙ ap (take count) (drop-drop k from l ∙ ap (λ i. drop i l) at)))
    ∙ all-part p k count (take n (drop from l)) h

-- an answer that shows another one
pub shows : (a b : Bool) → (a ≡ true → b ≡ true) → (a && b) ≡ a
shows true b h = h refl
shows false b h = refl

-- what is known need not be looked up
pub known-or : (a b : Bool) → (a ≡ true → b ≡ true) → (a || b) ≡ b
known-or true b h = sym (h refl)
known-or false b h = refl

-- a test that is made only where another fails
pub or-known : (a b v : Bool) → a ≡ true → v ≡ a → v ≡ (a || b)
or-known a b v p q = q ∙ p ∙ sym (ap (◌|| b) p)

pub or-looked : (a b v : Bool) → a ≡ false → v ≡ b → v ≡ (a || b)
or-looked a b v p q = q ∙ sym (ap (◌|| b) p)
