-- The reason that goes with a formula's result: 0 it has a value, 1 the result left the range, 2 the index is outside, 3 the headway is 0 or less,
-- 4 a blank input stopped it, 5 there are no departures. Assumes nothing.
use Rattle.std.specs.Prelude.{ℕ, Bool, true, false, cond, not, ◌&&◌, ◌||◌, List, [], ◌∷◌, map, ◌≡◌, ℤ, pos, negsuc, ◌+ℤ◌, ◌-ℤ◌, eqb, ltb, length, get_or}
use Rattle.std.specs.Int.Signed.{lt_z, le_z}
use Rattle.integers.specs.Integers.{eq_z}
use Rattle.paper.specs.Lists.{any, all, between, nat}
use Rattle.paper.specs.Formula.{blank, in_range, some_blank, sum, pick, trips, input_at, formula}
use Rattle.paper.specs.Net.{Values}
use Rattle.paper.specs.Tables.{Tables, part, row_of, is_made, inputs_of}
use Rattle.paper.specs.Checks.{arity}

-- ── 4: a blank input stopped it ──
abbrev pub all_blank : List ℤ → Bool
all_blank xs = all (λ x. eq_z x blank) xs

-- an index picks one of so many candidates
abbrev pub inside : ℤ → ℕ → Bool
inside (pos i) k = ltb i k
inside (negsuc i) k = false

-- ELEMENT: a blank index, or a blank candidate that it picks
abbrev pub choice_blank : List ℤ → Bool
choice_blank [] = false
choice_blank (index ∷ candidates) = eq_z index blank || (inside index (length candidates) && eq_z (pick index candidates) blank)

-- MIN and MAX: all inputs are blank; every other formula: some input is
abbrev pub stopped : ℕ → List ℤ → Bool
stopped kind xs = cond (eqb kind 4) (choice_blank xs) (cond (eqb kind 2 || eqb kind 3) (all_blank xs) (some_blank xs))

-- ── 3: headway 0 or less, of DEPARTURES and LAST ──
abbrev pub is_headway_bad : ℕ → List ℤ → Bool
is_headway_bad kind xs = (eqb kind 8 || eqb kind 9) && le_z (input_at xs 2) (pos 0)

-- ── 2: index outside, of ELEMENT ──
abbrev pub outside_index : List ℤ → Bool
outside_index [] = true
outside_index (index ∷ candidates) = not (inside index (length candidates))

abbrev pub is_index_outside : ℕ → List ℤ → Bool
is_index_outside kind xs = eqb kind 4 && outside_index xs

-- ── 5: no departures, of LAST ──
abbrev pub has_no_departures : ℕ → List ℤ → Bool
has_no_departures kind xs = eqb kind 9 && eqb (trips (input_at xs 0) (input_at xs 1) (input_at xs 2)) 0

-- ── the reason ──
-- why a result is blank: of several reasons 4 comes first, then 3, 2 and 5; without any of these the result left the range
unfoldable pub why : ℕ → List ℤ → ℕ
why kind xs = cond (stopped kind xs) 4 (cond (is_headway_bad kind xs) 3 (cond (is_index_outside kind xs) 2 (cond (has_no_departures kind xs) 5 1)))

-- the reason that goes with a formula's result
abbrev pub reason : ℕ → ℤ → List ℤ → List ℤ → ℕ
reason kind param coefs xs = cond (eq_z (formula kind param coefs xs) blank) (why kind xs) 0

-- the reason of variable v over the values f; 0 for a search variable
abbrev pub reason_of : Tables → ℕ → Values → ℕ
reason_of t v f = let r = row_of t v in cond (is_made t v) (reason (nat t.kinds r) (get_or t.params r (pos 0)) (part t r t.coefs) (map f (inputs_of t v))) 0

-- after a call with new values f: the reason over these of a variable that was evaluated, else the stored one
abbrev pub reason_after : Tables → (ℕ → Bool) → Values → (ℕ → ℕ) → ℕ → ℕ
reason_after t evaluated f stored v = cond (evaluated v) (reason_of t v f) (stored v)

-- as a call stores it: 0 for a search variable
abbrev pub reason_kept : Tables → (ℕ → Bool) → Values → (ℕ → ℕ) → ℕ → ℕ
reason_kept t evaluated f stored v = cond (is_made t v) (reason_after t evaluated f stored v) 0

-- ── when each is given ──
-- inputs as a row has them: of a known kind, as many as it takes, each a value or blank
pub record RowInputs (kind : ℕ) (xs : List ℤ) : Type 0 where
  pub known : between 1 kind 9 ≡ true
  pub many : arity kind (length xs) ≡ true
  pub each : all (λ x. in_range x || eq_z x blank) xs ≡ true

-- the exact result of LINEAR, OVER and DEPARTURES, which alone are judged against the range
abbrev pub exact_result : ℕ → ℤ → List ℤ → List ℤ → ℤ
exact_result kind param coefs xs =
    let a = input_at xs 0 in let b = input_at xs 1 in
    cond (eqb kind 1) (param +ℤ sum coefs xs) (cond (eqb kind 7) (cond (lt_z b a) (a -ℤ b) (pos 0)) (pos (trips a b (input_at xs 2))))

abbrev pub leaves_range : ℕ → ℤ → List ℤ → List ℤ → Bool
leaves_range kind param coefs xs = any (eqb kind) (1 ∷ 7 ∷ 8 ∷ []) && not (in_range (exact_result kind param coefs xs))

-- each reason is given exactly if its sentence holds, and none of those that come before it: 4, 3, 2, 5, 1
pub record ReasonRight (kind : ℕ) (param : ℤ) (coefs xs : List ℤ) : Type 0 where
  pub has_value : eqb (reason kind param coefs xs) 0 ≡ not (eq_z (formula kind param coefs xs) blank)
  pub blank-input : eqb (reason kind param coefs xs) 4 ≡ stopped kind xs
  pub headway : eqb (reason kind param coefs xs) 3 ≡ (not (stopped kind xs) && is_headway_bad kind xs)
  pub index : eqb (reason kind param coefs xs) 2 ≡ (not (stopped kind xs) && (not (is_headway_bad kind xs) && is_index_outside kind xs))
  pub departures : eqb (reason kind param coefs xs) 5 ≡ (not (stopped kind xs) && (not (is_headway_bad kind xs) && (not (is_index_outside kind xs) && has_no_departures kind xs)))
  pub range : eqb (reason kind param coefs xs) 1
      ≡ (not (stopped kind xs) && (not (is_headway_bad kind xs) && (not (is_index_outside kind xs) && (not (has_no_departures kind xs) && leaves_range kind param coefs xs))))
