-- Numbers and blank, and the nine formulas over the values of a row's inputs, as the paper has them. Assumes nothing.
use Rattle.std.specs.Prelude.{ℕ, zero, suc, ◌+◌, ◌-◌, ◌/◌, Bool, cond, List, [], ◌∷◌, ℤ, pos, negsuc, nat_abs, ◌+ℤ◌, ◌-ℤ◌, ◌*ℤ◌, eqb, leb, get_or, take, drop}
use Rattle.std.specs.Int.Signed.{lt_z, le_z}
use Rattle.integers.specs.Integers.{eq_z}
use Rattle.paper.specs.Lists.{any, tally}

-- -2,147,483,648: no value
abbrev pub blank : ℤ
blank = negsuc 2147483647

abbrev pub in_range : ℤ → Bool
in_range z = leb (nat_abs z) 2147483647

-- an exact result, or blank where it leaves the range
abbrev pub fit : ℤ → ℤ
fit z = cond (in_range z) z blank

abbrev pub some_blank : List ℤ → Bool
some_blank xs = any (λ x. eq_z x blank) xs

-- 1. LINEAR: the sum of coefficient times input
abbrev pub sum : List ℤ → List ℤ → ℤ
sum [] xs = pos 0
sum (c ∷ cs) [] = pos 0
sum (c ∷ cs) (x ∷ xs) = c *ℤ x +ℤ sum cs xs

-- 2. MIN and 3. MAX: the lesser of two, and the greater
abbrev pub lesser : ℤ → ℤ → ℤ
lesser a b = cond (le_z a b) a b

abbrev pub greater : ℤ → ℤ → ℤ
greater a b = cond (le_z a b) b a

-- what is left of z and the others where f leaves one of each two
abbrev pub leave : (ℤ → ℤ → ℤ) → ℤ → List ℤ → ℤ
leave f z [] = z
leave f z (x ∷ xs) = leave f (f z x) xs

-- the inputs that have a value
abbrev pub valued : List ℤ → List ℤ
valued [] = []
valued (x ∷ xs) = cond (eq_z x blank) (valued xs) (x ∷ valued xs)

-- the least of these, with `lesser`, or the greatest, with `greater`; blank if there are none
abbrev pub extreme : (ℤ → ℤ → ℤ) → List ℤ → ℤ
extreme f [] = blank
extreme f (x ∷ xs) = leave f x xs

-- 4. ELEMENT: the candidate that the index picks, counted from 0
abbrev pub pick : ℤ → List ℤ → ℤ
pick (pos i) candidates = get_or candidates i blank
pick (negsuc i) candidates = blank

abbrev pub element : List ℤ → ℤ
element [] = blank
element (index ∷ candidates) = pick index candidates

-- 6. COUNT: how many places hold z
abbrev pub places : ℤ → List ℤ → ℕ
places z xs = tally (λ x. eq_z x z) xs

-- 5. SHARED: how many places hold a value that another place also holds
abbrev pub sharing : List ℤ → ℕ
sharing xs = tally (λ x. leb 2 (places x xs)) xs

-- 7. OVER: a - b if positive, else 0
abbrev pub excess : ℤ → ℤ → ℤ
excess a b = cond (lt_z b a) (fit (a -ℤ b)) (pos 0)

-- 8. DEPARTURES: how many times start + k · headway are strictly before end: the gap divided by the headway, rounded up
abbrev pub trips : ℤ → ℤ → ℤ → ℕ
trips s e h = cond (lt_z s e) ((nat_abs (e -ℤ s) + nat_abs h - 1) / nat_abs h) 0

abbrev pub departures : ℤ → ℤ → ℤ → ℤ
departures s e h = cond (le_z h (pos 0)) blank (fit (pos (trips s e h)))

-- 9. LAST: the latest of so many times; it lies from start to before end, so in the range
abbrev pub last_of : ℤ → ℤ → ℕ → ℤ
last_of s h zero = blank
last_of s h (suc k) = s +ℤ pos k *ℤ h

abbrev pub last : ℤ → ℤ → ℤ → ℤ
last s e h = cond (le_z h (pos 0)) blank (last_of s h (trips s e h))

-- input i of a row
abbrev pub input_at : List ℤ → ℕ → ℤ
input_at xs i = get_or xs i blank

-- the formula that a kind code picks, but for 2, 3 and 4; a code that picks none is refused by check 2 and stands here as blank
abbrev pub picked_formula : ℕ → ℤ → List ℤ → List ℤ → ℤ
picked_formula kind param coefs xs =
    cond (eqb kind 1) (fit (param +ℤ sum coefs xs))
    (cond (eqb kind 5) (pos (sharing xs))
    (cond (eqb kind 6) (pos (places param xs))
    (cond (eqb kind 7) (excess (input_at xs 0) (input_at xs 1))
    (cond (eqb kind 8) (departures (input_at xs 0) (input_at xs 1) (input_at xs 2))
    (cond (eqb kind 9) (last (input_at xs 0) (input_at xs 1) (input_at xs 2))
    blank)))))

-- any blank input gives blank
abbrev pub strict : ℕ → ℤ → List ℤ → List ℤ → ℤ
strict kind param coefs xs = cond (some_blank xs) blank (picked_formula kind param coefs xs)

-- except in kinds 2 and 3, which skip blank inputs
abbrev pub of_all : ℕ → ℤ → List ℤ → List ℤ → ℤ
of_all kind param coefs xs = cond (eqb kind 2) (extreme lesser (valued xs)) (cond (eqb kind 3) (extreme greater (valued xs)) (strict kind param coefs xs))

-- and in kind 4
unfoldable pub formula : ℕ → ℤ → List ℤ → List ℤ → ℤ
formula kind param coefs xs = cond (eqb kind 4) (element xs) (of_all kind param coefs xs)

-- the inputs that a formula looks at: all, but of ELEMENT the index and then only the chosen candidate
abbrev pub chosen : ℤ → List ℕ → List ℕ
chosen (pos i) candidates = take 1 (drop i candidates)
chosen (negsuc i) candidates = []

abbrev pub element_looks : (ℕ → ℤ) → List ℕ → List ℕ
element_looks values [] = []
element_looks values (index ∷ candidates) = index ∷ chosen (values index) candidates

unfoldable pub looked : ℕ → (ℕ → ℤ) → List ℕ → List ℕ
looked kind values vars = cond (eqb kind 4) (element_looks values vars) vars
