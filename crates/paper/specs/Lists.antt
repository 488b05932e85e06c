-- The words about lists, and about the numbers below a bound, that the other pages use. Assumes nothing.
use Rattle.std.specs.Prelude.{ℕ, zero, suc, ◌+◌, max, Bool, true, false, cond, ◌&&◌, ◌||◌, List, [], ◌∷◌, ◌++◌, eqb, leb, ltb, get_or, drop}

-- some entry passes a test; each does
abbrev pub any : {A : Type 0} → (A → Bool) → List A → Bool
any p [] = false
any p (x ∷ xs) = p x || any p xs

abbrev pub all : {A : Type 0} → (A → Bool) → List A → Bool
all p [] = true
all p (x ∷ xs) = p x && all p xs

-- each of these tests is passed
unfoldable pub every : List Bool → Bool
every [] = true
every (b ∷ bs) = b && every bs

-- x is from a to b
abbrev pub between : ℕ → ℕ → ℕ → Bool
between a x b = leb a x && leb x b

-- the sum, and the greatest, 0 for none
abbrev pub total : List ℕ → ℕ
total [] = 0
total (x ∷ xs) = x + total xs

abbrev pub greatest : List ℕ → ℕ
greatest [] = zero
greatest (x ∷ xs) = max x (greatest xs)

-- how many entries pass a test
abbrev pub tally : {A : Type 0} → (A → Bool) → List A → ℕ
tally p [] = 0
tally p (x ∷ xs) = cond (p x) 1 0 + tally p xs

-- the number at place i
abbrev pub nat : List ℕ → ℕ → ℕ
nat l i = get_or l i 0

-- the place of the first v, or the length
abbrev pub seek : ℕ → List ℕ → ℕ
seek v [] = zero
seek v (x ∷ xs) = cond (eqb x v) zero (suc (seek v xs))

-- how many numbers below n pass a test
abbrev pub size : (ℕ → Bool) → ℕ → ℕ
size p zero = zero
size p (suc n) = cond (p n) (suc (size p n)) (size p n)

-- the least number below n that fails, or n
abbrev pub first_fail : (ℕ → Bool) → ℕ → ℕ
first_fail p zero = zero
first_fail p (suc n) = cond (ltb (first_fail p n) n) (first_fail p n) (cond (p n) (suc n) n)

-- every number below n passes
abbrev pub all_below : (ℕ → Bool) → ℕ → Bool
all_below p n = eqb (first_fail p n) n

-- the numbers below n that pass, ascending
abbrev pub those : (ℕ → Bool) → ℕ → List ℕ
those p zero = []
those p (suc n) = those p n ++ cond (p n) (n ∷ []) []

-- the lists that f gives of the numbers below n, one after another
abbrev pub joined : {A : Type 0} → (ℕ → List A) → ℕ → List A
joined f zero = []
joined f (suc n) = joined f n ++ f n

-- f of each number below n, in order
abbrev pub below : {A : Type 0} → (ℕ → A) → ℕ → List A
below f zero = []
below f (suc n) = below f n ++ (f n ∷ [])

-- a buffer with f at the places below n, and beyond them what stood there before
abbrev pub over : {A : Type 0} → ℕ → (ℕ → A) → List A → List A
over n f before = below f n ++ drop n before
