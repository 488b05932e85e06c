-- A reason is what its sentence says. A result is blank exactly if one of the five sentences holds, and the reason is the number of the first that does,
-- in the order 4, 3, 2, 5, 1: so it is 0 exactly if the formula has a value, and each kind has only the reasons that belong to it. A reason looks
-- only at the inputs that the formula looks at. Assumes nothing.
use Prim.Native.Nat.{ℕ, suc, ◌≤◌}
use native.Mathlib.Omega.{arith}
use mathlib.Core.Bool.{Bool, true, false, cond, not, ◌&&◌, ◌||◌, false≢true}
use mathlib.Core.List.{List, [], ◌∷◌, map, Memᴰ}
use mathlib.Core.Path.{◌≡◌, refl, ap, ap₂, sym, ◌∙◌, subst}
use lib.Dec.{eqb, leb, ltb}
use lib.IntN.{ℤ, pos, negsuc, ◌+ℤ◌, ◌-ℤ◌}
use lib.Signed.{lt_z, le_z}
use lib.ListN.{length, get_or, length-map, get_or-eq_default}
use borrow.Author.Tests.{eqb-true, eqb-false, eq-eqb, ltb-false, leb-true}
use Rattle.integers.specs.Integers.{eq_z}
use Rattle.integers.proofs.Order.{eq_z-yes, le-lt}
use Rattle.paper.specs.Lists.{any, all, between, nat}
use Rattle.paper.specs.Formula.{blank, in_range, fit, some_blank, sum, element, pick, places, sharing, excess, trips, departures, last, input_at, formula, looked, element_looks}
use Rattle.paper.specs.Net.{Values}
use Rattle.paper.specs.Tables.{Tables, part, row_of, is_made, inputs_of, asks_of}
use Rattle.paper.specs.Reason.{all_blank, inside, choice_blank, stopped, is_headway_bad, outside_index, is_index_outside, has_no_departures, why, reason, reason_of, RowInputs, exact_result, leaves_range, ReasonRight}
use Rattle.paper.specs.Checks.{arity}
use Rattle.paper.proofs.Lists.{clash, and_left, and_right, or-false-left, or-false-right, map_same}
use Rattle.paper.proofs.Lawful.{formula-same}
use Rattle.paper.proofs.Windows.{no-headway, last-blank}
use Rattle.paper.proofs.Formulas.{min-blank, max-blank}
use Rattle.paper.proofs.Ranges.{good}

-- ── what reason 1 says ──
-- ── blank, step by step ──
or-none : (b : Bool) → b ≡ (b || false)
or-none true = refl
or-none false = refl

-- a result that is blank in one case, and in the other what it is
unless : (s : Bool) (y : ℤ) → eq_z (cond s blank y) blank ≡ (s || eq_z y blank)
unless true y = refl
unless false y = refl

or_left : (a b : Bool) → (a || b) ≡ true → b ≡ false → a ≡ true
or_left true b e q = refl
or_left false b e q = clash e q

valued-in : (z : ℤ) → in_range z ≡ true → eq_z z blank ≡ false
valued-in z e = go (eq_z z blank) refl
  where
    go : (b : Bool) → eq_z z blank ≡ b → b ≡ false
    go true q = absurd (false≢true (sym (ap in_range (eq_z-yes z blank q)) ∙ e))
    go false q = refl

judged : (z : ℤ) → eq_z (fit z) blank ≡ not (in_range z)
judged z = go (in_range z) refl
  where
    go : (b : Bool) → in_range z ≡ b → eq_z (cond b z blank) blank ≡ not b
    go true e = valued-in z e
    go false e = refl

over-blank : (a b : ℤ) → eq_z (excess a b) blank ≡ not (in_range (cond (lt_z b a) (a -ℤ b) (pos 0)))
over-blank a b = go (lt_z b a)
  where
    go : (t : Bool) → eq_z (cond t (fit (a -ℤ b)) (pos 0)) blank ≡ not (in_range (cond t (a -ℤ b) (pos 0)))
    go true = judged (a -ℤ b)
    go false = refl

element-blank : (xs : List ℤ) → eq_z (element xs) blank ≡ (choice_blank xs || outside_index xs)
element-blank [] = refl
element-blank (negsuc i ∷ cs) = go (eq_z (negsuc i) blank)
  where
    go : (b : Bool) → true ≡ ((b || false) || true)
    go true = refl
    go false = refl
element-blank (pos i ∷ cs) = go (ltb i (length cs)) refl
  where
    go : (b : Bool) → ltb i (length cs) ≡ b → eq_z (get_or cs i blank) blank ≡ ((b && eq_z (get_or cs i blank) blank) || not b)
    go true e = or-none (eq_z (get_or cs i blank) blank)
    go false e = ap (λ x. eq_z x blank) (get_or-eq_default cs blank (ltb-false i (length cs) e))

alike : (x y : Bool) → (x ≡ true → y ≡ true) → (y ≡ true → x ≡ true) → x ≡ y
alike true y f g = sym (f refl)
alike false true f g = g refl
alike false false f g = refl

last-is-blank : (s e h : ℤ) → in_range s ≡ true → in_range e ≡ true → eq_z (last s e h) blank ≡ (le_z h (pos 0) || eqb (trips s e h) 0)
last-is-blank s e h from to = go (le_z h (pos 0)) refl
  where
    go : (b : Bool) → le_z h (pos 0) ≡ b → eq_z (last s e h) blank ≡ (b || eqb (trips s e h) 0)
    go true q = ap (λ z. eq_z z blank) (no-headway s e h q).1
    go false q =
        let l = last-blank s e h (le-lt h (pos 0) q) from to in
        alike (eq_z (last s e h) blank) (eqb (trips s e h) 0) (λ x. eq-eqb (trips s e h) 0 (l.0 (eq_z-yes (last s e h) blank x)))
        (λ x. ap (λ z. eq_z z blank) (l.1 (eqb-true (trips s e h) 0 x)))

-- ── by the kind ──
-- what holds of k, and of all above it
at_least : (P : ℕ → Type 0) (kind k : ℕ) → P k → (suc k ≤ kind → P kind) → k ≤ kind → P kind
at_least P kind k here more l = go (eqb k kind) refl
  where
    go : (b : Bool) → eqb k kind ≡ b → P kind
    go true e = subst P (eqb-true k kind e) here
    go false e = let other = eqb-false k kind e in more (omega arith)

each-kind : (P : ℕ → Type 0) → P 1 → P 2 → P 3 → P 4 → P 5 → P 6 → P 7 → P 8 → P 9 → (kind : ℕ) → between 1 kind 9 ≡ true → P kind
each-kind P one two three four five six seven eight nine kind known =
    let most = leb-true kind 9 (and_right (leb 1 kind) (leb kind 9) known) in
    let from = at_least P kind in
    from 1 one (from 2 two (from 3 three (from 4 four (from 5 five (from 6 six (from 7 seven (from 8 eight (from 9 nine (λ l. absurd (omega arith))))))))))
    (leb-true 1 kind (and_left (leb 1 kind) (leb kind 9) known))

module _ (param : ℤ) (coefs : List ℤ) where
  -- one of the five sentences holds
  abbrev sentences : ℕ → List ℤ → Bool
  sentences kind xs = stopped kind xs || (is_headway_bad kind xs || (is_index_outside kind xs || (has_no_departures kind xs || leaves_range kind param coefs xs)))

  last-blank-law : (xs : List ℤ) → arity 9 (length xs) ≡ true → all good xs ≡ true → eq_z (formula 9 param coefs xs) blank ≡ sentences 9 xs
  unfolding formula
  last-blank-law xs n g = go xs (eqb-true (length xs) 3 (and_right (between 1 (length xs) 256 && true) (eqb (length xs) 3) n)) g
    where
      in-range : (x : ℤ) → good x ≡ true → eq_z x blank ≡ false → in_range x ≡ true
      in-range x g e = or_left (in_range x) (eq_z x blank) g e

      go : (xs : List ℤ) → length xs ≡ 3 → all good xs ≡ true → eq_z (formula 9 param coefs xs) blank ≡ sentences 9 xs
      go [] n g = absurd (omega arith)
      go (s ∷ []) n g = absurd (omega arith)
      go (s ∷ e ∷ []) n g = absurd (omega arith)
      go (s ∷ e ∷ h ∷ rest) n g = unless (some_blank (s ∷ e ∷ h ∷ rest)) (last s e h) ∙ by (some_blank (s ∷ e ∷ h ∷ rest)) refl
        where
          by : (b : Bool) → some_blank (s ∷ e ∷ h ∷ rest) ≡ b → (b || eq_z (last s e h) blank) ≡ (b || (le_z h (pos 0) || (eqb (trips s e h) 0 || false)))
          by true q = refl
          by false q =
              let one = or-false-left (eq_z s blank) _ q in let two = or-false-left (eq_z e blank) _ (or-false-right (eq_z s blank) _ q) in
              let from = in-range s (and_left (good s) _ g) one in let to = in-range e (and_left (good e) _ (and_right (good s) _ g)) two in
              last-is-blank s e h from to ∙ ap (le_z h (pos 0) ||◌) (or-none (eqb (trips s e h) 0))

  -- a result is blank exactly if one of them holds
  pub blank-exactly : (kind : ℕ) (xs : List ℤ) → RowInputs kind xs → eq_z (formula kind param coefs xs) blank ≡ sentences kind xs
  unfolding formula
  blank-exactly kind xs s = each-kind Holds one two three four five six seven eight (λ n. last-blank-law xs n s.each) kind s.known s.many
    where
      Holds : ℕ → Type 0
      Holds k = arity k (length xs) ≡ true → eq_z (formula k param coefs xs) blank ≡ sentences k xs

      a : ℤ
      a = input_at xs 0

      b : ℤ
      b = input_at xs 1

      c : ℤ
      c = input_at xs 2

      one : Holds 1
      one n = unless (some_blank xs) (fit (param +ℤ sum coefs xs)) ∙ ap (some_blank xs ||◌) (judged (param +ℤ sum coefs xs))

      two : Holds 2
      two n = min-blank param coefs xs ∙ or-none (all_blank xs)

      three : Holds 3
      three n = max-blank param coefs xs ∙ or-none (all_blank xs)

      four : Holds 4
      four n = element-blank xs ∙ ap (choice_blank xs ||◌) (or-none (outside_index xs))

      five : Holds 5
      five n = unless (some_blank xs) (pos (sharing xs))

      six : Holds 6
      six n = unless (some_blank xs) (pos (places param xs))

      seven : Holds 7
      seven n = unless (some_blank xs) (excess a b) ∙ ap (some_blank xs ||◌) (over-blank a b)

      eight : Holds 8
      eight n = unless (some_blank xs) (departures a b c) ∙ ap (some_blank xs ||◌) (unless (le_z c (pos 0)) (fit (pos (trips a b c))) ∙ ap (le_z c (pos 0) ||◌) (judged (pos (trips a b c))))

-- ── the number of the first sentence that holds ──
abbrev pub first : Bool → Bool → Bool → Bool → Bool → ℕ
first four three two five one = cond four 4 (cond three 3 (cond two 2 (cond five 5 (cond one 1 0))))

by_number : (a b c d e : Bool) → cond (a || (b || (c || (d || e)))) (cond a 4 (cond b 3 (cond c 2 (cond d 5 1)))) 0 ≡ first a b c d e
by_number true b c d e = refl
by_number false true c d e = refl
by_number false false true d e = refl
by_number false false false true e = refl
by_number false false false false true = refl
by_number false false false false false = refl

-- each number is given exactly if its sentence holds and none that comes before
record Numbers (a b c d e : Bool) : Type 0 where
  four : eqb (first a b c d e) 4 ≡ a
  three : eqb (first a b c d e) 3 ≡ (not a && b)
  two : eqb (first a b c d e) 2 ≡ (not a && (not b && c))
  five : eqb (first a b c d e) 5 ≡ (not a && (not b && (not c && d)))
  one : eqb (first a b c d e) 1 ≡ (not a && (not b && (not c && (not d && e))))

numbers : (a b c d e : Bool) → Numbers a b c d e
numbers true b c d e = record { four = refl; three = refl; two = refl; five = refl; one = refl }
numbers false true c d e = record { four = refl; three = refl; two = refl; five = refl; one = refl }
numbers false false true d e = record { four = refl; three = refl; two = refl; five = refl; one = refl }
numbers false false false true e = record { four = refl; three = refl; two = refl; five = refl; one = refl }
numbers false false false false true = record { four = refl; three = refl; two = refl; five = refl; one = refl }
numbers false false false false false = record { four = refl; three = refl; two = refl; five = refl; one = refl }

module _ (kind : ℕ) (param : ℤ) (coefs xs : List ℤ) where
  -- ── over any inputs ──
  -- why is never 0, so 0 is given exactly where there is a value
  pub zero-exactly : eqb (reason kind param coefs xs) 0 ≡ not (eq_z (formula kind param coefs xs) blank)
  unfolding why
  zero-exactly = go (eq_z (formula kind param coefs xs) blank) (stopped kind xs) (is_headway_bad kind xs) (is_index_outside kind xs) (has_no_departures kind xs)
    where
      go : (z a b c d : Bool) → eqb (cond z (cond a 4 (cond b 3 (cond c 2 (cond d 5 1)))) 0) 0 ≡ not z
      go false a b c d = refl
      go true true b c d = refl
      go true false true c d = refl
      go true false false true d = refl
      go true false false false true = refl
      go true false false false false = refl

  pub at-most-5 : reason kind param coefs xs ≤ 5
  unfolding why
  at-most-5 = go (eq_z (formula kind param coefs xs) blank) (stopped kind xs) (is_headway_bad kind xs) (is_index_outside kind xs) (has_no_departures kind xs)
    where
      go : (z a b c d : Bool) → cond z (cond a 4 (cond b 3 (cond c 2 (cond d 5 1)))) 0 ≤ 5
      go false a b c d = omega arith
      go true true b c d = omega arith
      go true false true c d = omega arith
      go true false false true d = omega arith
      go true false false false true = omega arith
      go true false false false false = omega arith

  -- ── over the inputs of a row ──
  module _ (s : RowInputs kind xs) where
    pub by-sentence : reason kind param coefs xs ≡ first (stopped kind xs) (is_headway_bad kind xs) (is_index_outside kind xs) (has_no_departures kind xs) (leaves_range kind param coefs xs)
    unfolding why
    by-sentence =
        ap (λ z. cond z (why kind xs) 0) (blank-exactly param coefs kind xs s)
        ∙ by_number (stopped kind xs) (is_headway_bad kind xs) (is_index_outside kind xs) (has_no_departures kind xs) (leaves_range kind param coefs xs)

    pub reason-right : ReasonRight kind param coefs xs
    reason-right =
        let n = numbers (stopped kind xs) (is_headway_bad kind xs) (is_index_outside kind xs) (has_no_departures kind xs) (leaves_range kind param coefs xs) in
        record {
          has_value = zero-exactly;
          blank-input = ap (λ r. eqb r 4) by-sentence ∙ n.four;
          headway = ap (λ r. eqb r 3) by-sentence ∙ n.three;
          index = ap (λ r. eqb r 2) by-sentence ∙ n.two;
          departures = ap (λ r. eqb r 5) by-sentence ∙ n.five;
          range = ap (λ r. eqb r 1) by-sentence ∙ n.one;
        }

    -- ── which kinds can have which reason ──
    -- only LINEAR, OVER and DEPARTURES leave the range; LAST never does, by the law of `Windows`
    pub range-kinds : reason kind param coefs xs ≡ 1 → any (eqb kind) (1 ∷ 7 ∷ 8 ∷ []) ≡ true
    range-kinds e = go (stopped kind xs) (is_headway_bad kind xs) (is_index_outside kind xs) (has_no_departures kind xs) (any (eqb kind) (1 ∷ 7 ∷ 8 ∷ [])) (sym reason-right.range ∙ ap (λ r. eqb r 1) e)
      where
        go : (a b c d k : Bool) → (not a && (not b && (not c && (not d && (k && not (in_range (exact_result kind param coefs xs))))))) ≡ true → k ≡ true
        go true b c d k h = absurd (false≢true h)
        go false true c d k h = absurd (false≢true h)
        go false false true d k h = absurd (false≢true h)
        go false false false true k h = absurd (false≢true h)
        go false false false false true h = refl
        go false false false false false h = absurd (false≢true h)

    -- only ELEMENT has an index
    pub index-kinds : reason kind param coefs xs ≡ 2 → eqb kind 4 ≡ true
    index-kinds e = and_left (eqb kind 4) (outside_index xs) (and_right (not (is_headway_bad kind xs)) _ (and_right (not (stopped kind xs)) _ (sym reason-right.index ∙ ap (λ r. eqb r 2) e)))

    -- only DEPARTURES and LAST a headway
    pub headway-kinds : reason kind param coefs xs ≡ 3 → (eqb kind 8 || eqb kind 9) ≡ true
    headway-kinds e = and_left (eqb kind 8 || eqb kind 9) _ (and_right (not (stopped kind xs)) (is_headway_bad kind xs) (sym reason-right.headway ∙ ap (λ r. eqb r 3) e))

    -- only LAST asks for a departure
    pub departures-kinds : reason kind param coefs xs ≡ 5 → eqb kind 9 ≡ true
    departures-kinds e =
        and_left (eqb kind 9) _ (and_right (not (is_index_outside kind xs)) _ (and_right (not (is_headway_bad kind xs)) _ (and_right (not (stopped kind xs)) _ (sym reason-right.departures ∙ ap (λ r. eqb r 5) e))))

-- ── a reason looks only at what the formula looks at ──
module _ (f g : Values) where
  choice-same : (vs : List ℕ) → ((w : ℕ) → Memᴰ w (element_looks f vs) → f w ≡ g w)
      → (choice_blank (map f vs) ≡ choice_blank (map g vs)) × (outside_index (map f vs) ≡ outside_index (map g vs))
  unfolding formula looked
  choice-same [] h = (refl, refl)
  choice-same (v ∷ vs) h =
      let index = h v (Memᴰ.head refl) in
      let long = length-map vs f ∙ sym (length-map vs g) in
      let picked : pick (f v) (map f vs) ≡ pick (g v) (map g vs) = formula-same f g 4 (pos 0) [] (v ∷ vs) h in
      let within = ap₂ inside index long in
      (ap₂ (λ i c. i || c) (ap (λ z. eq_z z blank) index) (ap₂ ◌&&◌ within (ap (λ z. eq_z z blank) picked)), ap not within)

  pub why-same : (kind : ℕ) (vs : List ℕ) → ((w : ℕ) → Memᴰ w (looked kind f vs) → f w ≡ g w) → why kind (map f vs) ≡ why kind (map g vs)
  unfolding why looked
  why-same kind vs h = go (eqb kind 4) refl h
    where
      four : (k : ℕ) → k ≡ 4 → ((w : ℕ) → Memᴰ w (element_looks f vs) → f w ≡ g w) → why k (map f vs) ≡ why k (map g vs)
      four k e t = let c = choice-same vs t in rw e (ap₂ (λ a b. cond a 4 (cond b 2 1)) c.0 c.1)

      go : (b : Bool) → eqb kind 4 ≡ b → ((w : ℕ) → Memᴰ w (cond b (element_looks f vs) vs) → f w ≡ g w) → why kind (map f vs) ≡ why kind (map g vs)
      go true e t = four kind (eqb-true kind 4 e) t
      go false e t = ap (why kind) (map_same f g vs t)

  pub reason-looks : (t : Tables) (v : ℕ) → ((i : ℕ) → Memᴰ i (asks_of t v f) → f i ≡ g i) → reason_of t v f ≡ reason_of t v g
  reason-looks t v h =
      let r = row_of t v in
      ap₂ (λ z y. cond (is_made t v) (cond (eq_z z blank) y 0) 0)
      (formula-same f g (nat t.kinds r) (get_or t.params r (pos 0)) (part t r t.coefs) (inputs_of t v) h) (why-same (nat t.kinds r) (inputs_of t v) h)

-- ── small examples, all by one computation ──
-- kind, parameter, coefficients, inputs, and the reason
pub record Example : Type 0 where
  pub kind : ℕ
  pub param : ℤ
  pub coefs : List ℤ
  pub inputs : List ℤ
  pub number : ℕ

abbrev pub comes-out : Example → Bool
comes-out x = eqb (reason x.kind x.param x.coefs x.inputs) x.number

abbrev pub gives : ℕ → List ℤ → ℕ → Example
gives kind inputs number = record { kind = kind; param = pos 1; coefs = pos 1 ∷ []; inputs = inputs; number = number }

abbrev pub top : ℤ
top = pos 2147483647

abbrev pub bottom : ℤ
bottom = negsuc 2147483646

abbrev pub examples : List Example
examples =
    gives 1 (pos 5 ∷ []) 0 ∷ gives 1 (top ∷ []) 1 ∷ gives 1 (blank ∷ []) 4
    ∷ gives 2 (blank ∷ pos 5 ∷ []) 0 ∷ gives 3 (blank ∷ blank ∷ []) 4
    -- ELEMENT: a blank candidate that is not picked, one that is, a blank index, and an index outside on both sides
    ∷ gives 4 (pos 0 ∷ pos 7 ∷ blank ∷ []) 0 ∷ gives 4 (pos 1 ∷ pos 7 ∷ blank ∷ []) 4 ∷ gives 4 (blank ∷ pos 7 ∷ []) 4
    ∷ gives 4 (pos 2 ∷ pos 7 ∷ blank ∷ []) 2 ∷ gives 4 (negsuc 0 ∷ pos 7 ∷ blank ∷ []) 2
    ∷ gives 5 (pos 4 ∷ blank ∷ []) 4 ∷ gives 6 (blank ∷ pos 1 ∷ []) 4 ∷ gives 7 (top ∷ negsuc 0 ∷ []) 1
    -- a blank input before headway 0, headway 0 before an empty window, an empty window, and the widest one
    ∷ gives 8 (blank ∷ pos 9 ∷ pos 0 ∷ []) 4 ∷ gives 8 (pos 1 ∷ pos 9 ∷ pos 0 ∷ []) 3 ∷ gives 8 (pos 9 ∷ pos 9 ∷ pos 2 ∷ []) 0
    ∷ gives 8 (bottom ∷ top ∷ pos 1 ∷ []) 1 ∷ gives 9 (bottom ∷ top ∷ pos 1 ∷ []) 0 ∷ gives 9 (pos 9 ∷ pos 9 ∷ pos 2 ∷ []) 5
    ∷ gives 9 (pos 9 ∷ pos 9 ∷ pos 0 ∷ []) 3 ∷ gives 9 (pos 9 ∷ blank ∷ pos 0 ∷ []) 4 ∷ []

pub all-come-out : all comes-out examples ≡ true
unfolding why formula
all-come-out = refl
