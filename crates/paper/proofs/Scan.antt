-- What loops over rows, parts and lists show, step by step: the least place that fails, tests of all entries, sums of counts.
-- Each law says how what is left, or what was passed, grows by one. Assumes nothing.
use Prim.Native.Nat.{ℕ, zero, suc, ◌+◌, ◌-◌, ◌≤◌, ◌<◌}
use native.Mathlib.Nat.{le_refl, not-suc-le-zero}
use native.Mathlib.Numerals.{add-one}
use native.Mathlib.Omega.{arith}
use mathlib.Core.Bool.{Bool, true, false, cond, ◌&&◌, ◌||◌, true≢false, false≢true}
use mathlib.Core.List.{List, [], ◌∷◌, ◌++◌}
use mathlib.Core.Path.{◌≡◌, refl, ap, ap₂, sym, ◌∙◌}
use lib.Dec.{ltb}
use lib.ListN.{length, get_or, take, drop, drop_of_length-le, length-take, length-drop}
use lib.Seq.{drop-cons, take-suc}
use Rattle.std.specs.Prelude.{Some, None}
use Rattle.integers.specs.Below.{if_below}
use Rattle.integers.proofs.Below.{if_below-some, if_below-none}
use Rattle.paper.specs.Lists.{any, all, total, nat, first_fail, all_below}
use Rattle.paper.proofs.Least.{first_fail-is, first_fail-none, all_below-next, all_more}

-- ── the least place that fails ──
-- a loop that has come to i, at most m, and has passed all before
pub record Scan (p : ℕ → Bool) (m i : ℕ) : Type 0 where
  pub low : i ≤ m
  pub good : (j : ℕ) → j < i → p j ≡ true

module _ (p : ℕ → Bool) (m : ℕ) where
  pub scan-start : Scan p m 0
  scan-start = record { low = omega arith; good = λ j h. absurd (not-suc-le-zero h) }

  pub scan-next : (i : ℕ) → Scan p m i → i < m → p i ≡ true → Scan p m (i + 1)
  scan-next i s l e = record { low = omega arith; good = all_more p i s.good e }

  pub scan-found : (i : ℕ) → Scan p m i → i < m → p i ≡ false → i ≡ first_fail p m
  scan-found i s l e = first_fail-is p m i l e s.good

  pub scan-all : (i : ℕ) → Scan p m i → m ≤ i → m ≡ first_fail p m
  scan-all i s l = first_fail-none p m (λ j h. s.good j (omega arith))

  -- the same of a place, or none
  pub scan-some : (i : ℕ) → Scan p m i → i < m → p i ≡ false → Some i ≡ if_below m (first_fail p m)
  scan-some i s l e = if_below-some m i l ∙ ap (if_below m) (scan-found i s l e)

  pub scan-none : (i : ℕ) → Scan p m i → m ≤ i → None ≡ if_below m (first_fail p m)
  scan-none i s l = if_below-none m m (le_refl m) ∙ ap (if_below m) (scan-all i s l)

  pub scan-end : (i : ℕ) → Scan p m i → m ≤ i → i ≡ first_fail p m
  scan-end i s l = let low = s.low in let same : i ≡ m = omega arith in same ∙ scan-all i s l

-- a loop that joins its tests and leaves at none: it has come to i, at most m, and b says whether all before passed
pub record Joint (p : ℕ → Bool) (m i : ℕ) (b : Bool) : Type 0 where
  pub low : i ≤ m
  pub so : b ≡ all_below p i

module _ (p : ℕ → Bool) (m : ℕ) where
  pub joint-start : Joint p m 0 true
  joint-start = record { low = omega arith; so = refl }

  pub joint-next : (i : ℕ) (b g : Bool) → Joint p m i b → i < m → g ≡ p i → Joint p m (i + 1) (b && g)
  joint-next i b g s l e = record { low = omega arith; so = ap₂ ◌&&◌ s.so e ∙ sym (all_below-next p i) ∙ ap (λ (k : ℕ). all_below p k) (sym (add-one i)) }

  pub joint-end : (i : ℕ) (b : Bool) → Joint p m i b → m ≤ i → b ≡ all_below p m
  joint-end i b s l = let low = s.low in let same : i ≡ m = omega arith in s.so ∙ ap (λ (k : ℕ). all_below p k) same

pub first_fail-same : (p q : ℕ → Bool) (n : ℕ) → ((v : ℕ) → v < n → p v ≡ q v) → first_fail p n ≡ first_fail q n
first_fail-same p q zero h = refl
first_fail-same p q (suc n) h = ap₂ (λ k b. cond (ltb k n) k (cond b (suc n) n)) (first_fail-same p q n (λ v l. h v (omega arith))) (h n (le_refl (suc n)))

-- ── what is left of a list ──
pub next {ℓ} : {A : Type ℓ} (l : List A) (i : ℕ) (d : A) → i < length l → drop i l ≡ get_or l i d ∷ drop (i + 1) l
next l i d h = drop-cons l i d h ∙ ap (λ (n : ℕ). get_or l i d ∷ drop n l) (sym (add-one i))

module _ {A : Type 0} (p : A → Bool) (l : List A) (i : ℕ) where
  pub all-next : (d : A) → i < length l → all p (drop i l) ≡ p (get_or l i d) && all p (drop (i + 1) l)
  all-next d h = ap (all p) (next l i d h)

  pub all_end : length l ≤ i → all p (drop i l) ≡ true
  all_end h = ap (all p) (drop_of_length-le l h)

-- a passed entry leaves the test of the rest, a failed one decides
pub and-on : (a b c : Bool) → a ≡ true → (a && b) ≡ c → b ≡ c
and-on true b c e h = h
and-on false b c e h = absurd (false≢true e)

pub and-off : (a b c : Bool) → a ≡ false → (a && b) ≡ c → false ≡ c
and-off true b c e h = absurd (true≢false e)
and-off false b c e h = h

-- ── what was passed of a list ──
total-append : (xs ys : List ℕ) → total (xs ++ ys) ≡ total xs + total ys
total-append [] ys = omega arith
total-append (x ∷ xs) ys = let h = total-append xs ys in omega arith

pub total-next : (l : List ℕ) (i : ℕ) → i < length l → total (take (i + 1) l) ≡ total (take i l) + nat l i
total-next l i h =
    ap (λ (k : ℕ). total (take k l)) (add-one i) ∙ ap total (take-suc l i 0 h)
    ∙ total-append (take i l) (nat l i ∷ []) ∙ (let z : nat l i + 0 ≡ nat l i = omega arith in ap (total (take i l) +◌) z)

pub any_append : {A : Type 0} (p : A → Bool) (xs ys : List A) → any p (xs ++ ys) ≡ any p xs || any p ys
any_append p [] ys = refl
any_append p (x ∷ xs) ys = go (p x) (any_append p xs ys)
  where
    go : (b : Bool) → any p (xs ++ ys) ≡ any p xs || any p ys → (b || any p (xs ++ ys)) ≡ ((b || any p xs) || any p ys)
    go true h = refl
    go false h = h

pub any_next : {A : Type 0} (p : A → Bool) (l : List A) (i : ℕ) (d : A) → i < length l → any p (take (i + 1) l) ≡ any p (take i l) || p (get_or l i d)
any_next p l i d h =
    ap (λ (k : ℕ). any p (take k l)) (add-one i) ∙ ap (any p) (take-suc l i d h)
    ∙ any_append p (take i l) (get_or l i d ∷ []) ∙ ap (any p (take i l) ||◌) (last (p (get_or l i d)))
  where
    last : (b : Bool) → (b || false) ≡ b
    last true = refl
    last false = refl

-- ── parts ──
pub part_length : {A : Type 0} (l : List A) (a n : ℕ) → a + n ≤ length l → length (take n (drop a l)) ≡ n
part_length l a n h = simp (length-take, length-drop) (omega arith)

pub part_same : {A : Type 0} (l : List A) (s k f c : ℕ) → s ≡ f → k ≡ c → take ((s + k) - s) (drop s l) ≡ take c (drop f l)
part_same l s k f c p q = let d : (s + k) - s ≡ c = omega arith in rw (d, p)
