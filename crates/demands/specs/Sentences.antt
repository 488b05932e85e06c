-- What each formula gives of its inputs, when each reason is given, and which variables are determined: the paper's sentences, said of places, times and
-- links, where the definitions compute. They are fields of demand 2. Assumes nothing.
use Rattle.std.specs.Prelude.{ℕ, ◌<◌, Bool, true, false, cond, not, ◌&&◌, ◌||◌, ◌⊎◌, ◌↔◌, ◌≡◌, eqb, ltb, ℤ, pos, negsuc, nat_abs, ◌+ℤ◌, ◌-ℤ◌, ◌*ℤ◌, length}
use mathlib.Core.List.{List, [], ◌∷◌, Memᴰ}
use Rattle.std.specs.Int.Signed.{lt_z, le_z}
use Rattle.integers.specs.Integers.{eq_z}
use Rattle.paper.specs.Lists.{any, all, size}
use Rattle.paper.specs.Formula.{blank, in_range, fit, some_blank, sum, input_at, formula}
use Rattle.paper.specs.Net.{Values, Depends, runs, valuation}
use Rattle.paper.specs.Tables.{Tables, net, inputs_of}
use Rattle.paper.specs.Chains.{worth, needs, determined}
use Rattle.paper.specs.Reason.{RowInputs, ReasonRight}

-- ── DEPARTURES and LAST, by the GTFS Schedule Reference ──
-- time k of a window: k headways after its start
abbrev pub time_at : ℤ → ℤ → ℕ → ℤ
time_at start headway k = start +ℤ pos k *ℤ headway

abbrev pub before_end : ℤ → ℤ → ℤ → ℕ → Bool
before_end start end headway k = lt_z (time_at start headway k) end

-- z is the greatest of the times strictly before the end
pub record GreatestTime (start end headway z : ℤ) : Type 0 where
  pub which : ℕ
  pub is : z ≡ time_at start headway which
  pub before : lt_z z end ≡ true
  pub none-later : (k : ℕ) → before_end start end headway k ≡ true → le_z (time_at start headway k) z ≡ true

-- of a window with a positive headway, DEPARTURES is how many times there are strictly before the end, and LAST the greatest of them
pub record WindowRight (start end headway departures last : ℤ) : Type 0 where
  pub number : ℕ
  pub counted : (k : ℕ) → (k < number) ↔ (before_end start end headway k ≡ true)
  -- blank only where the number leaves the range
  pub is_number : departures ≡ fit (pos number)
  pub is-greatest : 0 < number → GreatestTime start end headway last
  pub none : (last ≡ blank) ↔ (number ≡ 0)
  pub never-leaves : 0 < number → in_range last ≡ true

-- ── the other formulas ──
-- z is the value of some input, and no input that has a value lies beyond it
pub record FarthestValue (beyond : ℤ → ℤ → Bool) (z : ℤ) (xs : List ℤ) : Type 0 where
  pub one : Memᴰ z xs
  pub has_value : eq_z z blank ≡ false
  pub none-beyond : all (λ x. eq_z x blank || not (beyond x z)) xs ≡ true

-- another place also holds the value of place i
abbrev pub shares_value : List ℤ → ℕ → Bool
shares_value xs i = ltb 0 (size (λ j. not (eqb j i) && eq_z (input_at xs j) (input_at xs i)) (length xs))

pub record FormulasRight (param : ℤ) (coefs : List ℤ) : Type 0 where
  -- a blank input gives blank, but for MIN, MAX and ELEMENT
  pub blank-input : (kind : ℕ) (xs : List ℤ) → any (eqb kind) (2 ∷ 3 ∷ 4 ∷ []) ≡ false → some_blank xs ≡ true → formula kind param coefs xs ≡ blank
  -- 1. LINEAR: the parameter plus the sum of coefficient times input, exact, and judged once, at the end
  pub linear : (xs : List ℤ) → some_blank xs ≡ false → formula 1 param coefs xs ≡ fit (param +ℤ sum coefs xs)
  -- 2. MIN, 3. MAX: the least or the greatest input that has a value; blank only if none has
  pub min : (xs : List ℤ) → all (λ x. eq_z x blank) xs ≡ false → FarthestValue lt_z (formula 2 param coefs xs) xs
  pub min-blank : (xs : List ℤ) → eq_z (formula 2 param coefs xs) blank ≡ all (λ x. eq_z x blank) xs
  pub max : (xs : List ℤ) → all (λ x. eq_z x blank) xs ≡ false → FarthestValue (λ x z. lt_z z x) (formula 3 param coefs xs) xs
  pub max-blank : (xs : List ℤ) → eq_z (formula 3 param coefs xs) blank ≡ all (λ x. eq_z x blank) xs
  -- 4. ELEMENT: the candidate that the index picks, counted from 0; blank if the index lies outside, as a blank one does
  pub element : (index : ℤ) (candidates : List ℤ)
      → formula 4 param coefs (index ∷ candidates) ≡ cond (le_z (pos 0) index && lt_z index (pos (length candidates))) (input_at candidates (nat_abs index)) blank
  -- 5. SHARED: how many places hold a value that another place also holds
  pub shared : (xs : List ℤ) → some_blank xs ≡ false → formula 5 param coefs xs ≡ pos (size (shares_value xs) (length xs))
  -- 6. COUNT: how many inputs equal the parameter
  pub count : (xs : List ℤ) → some_blank xs ≡ false → formula 6 param coefs xs ≡ pos (size (λ i. eq_z (input_at xs i) param) (length xs))
  -- 7. OVER: a - b if positive, else 0
  pub over : (a b : ℤ) → some_blank (a ∷ b ∷ []) ≡ false → formula 7 param coefs (a ∷ b ∷ []) ≡ cond (lt_z (pos 0) (a -ℤ b)) (fit (a -ℤ b)) (pos 0)
  -- 8. DEPARTURES, 9. LAST: of inputs that have values, with a positive headway, and blank with another one
  pub window : (start end headway : ℤ) → in_range start ≡ true → in_range end ≡ true → in_range headway ≡ true → lt_z (pos 0) headway ≡ true
      → let xs = start ∷ end ∷ headway ∷ [] in WindowRight start end headway (formula 8 param coefs xs) (formula 9 param coefs xs)
  pub no-headway : (start end headway : ℤ) → let xs = start ∷ end ∷ headway ∷ [] in some_blank xs ≡ false → le_z headway (pos 0) ≡ true
      → (formula 8 param coefs xs ≡ blank) × (formula 9 param coefs xs ≡ blank)

-- ── determined ──
-- working v out comes to u: it is v, or v needs it, link by link
abbrev pub ComesTo : Tables → Values → ℕ → ℕ → Type 0
ComesTo t s v u = (v ≡ u) ⊎ Depends (needs t s) v u

-- and so comes to a variable that needs itself
abbrev pub Undetermined : Tables → Values → ℕ → Type 0
Undetermined t s v = (u : ℕ) × ComesTo t s v u × Depends (needs t s) u u

-- a variable is determined exactly if working it out does not; and its value does not depend on where the uses of the rule start
pub record DeterminedExactly (t : Tables) (s : Values) (v : ℕ) : Type 0 where
  pub ends : determined t s v ≡ true → Undetermined t s v → ⊥
  pub round : determined t s v ≡ false → Undetermined t s v
  pub from-anywhere : determined t s v ≡ true → (start : Values) → runs (valuation (net t) s) start t.n v ≡ worth t s v

pub record SentencesRight : Type 0 where
  pub formulas : (param : ℤ) (coefs : List ℤ) → FormulasRight param coefs
  -- a partial sum may leave the range, here by 2 × 2,147,483,647, where the whole sum does not
  pub partial-sum : formula 1 (pos 0) (pos 2 ∷ negsuc 1 ∷ []) (pos 2147483647 ∷ pos 2147483647 ∷ []) ≡ pos 0
  pub reasons : (kind : ℕ) (param : ℤ) (coefs xs : List ℤ) → RowInputs kind xs → ReasonRight kind param coefs xs
  -- of tables whose inputs are variables, as check 3 leaves them
  pub determined : (t : Tables) → ((v i : ℕ) → Memᴰ i (inputs_of t v) → i < t.n) → (s : Values) (v : ℕ) → v < t.n → DeterminedExactly t s v
