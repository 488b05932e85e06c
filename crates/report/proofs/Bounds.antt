-- Every text fits in 98,304 bytes: a list has at most 4,096 lines, a topological number is at most n, a value is a number of the range or
-- blank, and a reason is at most 5. Assumes nothing.
use Prim.Native.Nat.{ℕ, zero, suc, ◌-◌, ◌≤◌, ◌<◌}
use native.Mathlib.Omega.{arith}
use mathlib.Core.Bool.{Bool, true, false, cond, ◌||◌}
use mathlib.Core.List.{List, [], ◌∷◌, map}
use mathlib.Core.Path.{◌≡◌, refl, ap, ◌∙◌}
use borrow.Author.Tests.{ltb-true, ltb-false, leb-true, le-leb}
use lib.Dec.{ltb, leb}
use lib.IntN.{ℤ, pos, negsuc, nat_abs}
use lib.ListN.{length, get_or, take, replicate, length-map, length-take, get_or-eq_default}
use lib.Seq.{get_or-take}
use mir.Syntax.{w32}
use mir.Val.{to_z}
use Rattle.integers.specs.Integers.{eq_z}
use Rattle.integers.proofs.Order.{eq_z-yes}
use Rattle.paper.specs.Lists.{all}
use Rattle.paper.specs.Formula.{blank}
use Rattle.paper.specs.Net.{Values, runs, afresh}
use Rattle.paper.specs.Tables.{Tables, net, is_made, inputs_of, row_of, form_of, values_in}
use Rattle.paper.specs.Chains.{group_number, worth}
use Rattle.paper.specs.Checks.{Verdict, accepted, refused, leaves, Sound}
use Rattle.paper.specs.Reason.{reason_of}
use Rattle.paper.specs.Calls.{BuildLent, BuildLeft, build_verdict, build_leaves, build, start_values}
use Rattle.paper.specs.File.{version1, Contents, counted, column, n_in, m_in, e_in, starts_from, laid, read_verdict, read}
use Rattle.paper.proofs.Buffers.{over-at}
use Rattle.paper.proofs.Accept.{sound-row, made_row}
use Rattle.paper.proofs.Sizes.{sized-facts}
use Rattle.paper.proofs.Groups.{group-le}
use Rattle.paper.proofs.Known.{BuildKnown, build-known}
use Rattle.paper.proofs.Reason.{at-most-5}
use Rattle.paper.proofs.Ranges.{good, formula-good}
use Rattle.text.proofs.Lengths.{lines-length, refusal-length}
use Rattle.report.specs.Printed.{lent_for_file, of_tables, of_read, of_file, FileLeft, unbuilt, empty, said, text_of, printed}

-- ── values ──
good-near : (z : ℤ) → good z ≡ true → nat_abs z ≤ 2147483648
good-near z h = go (leb (nat_abs z) 2147483647) refl h
  where
    go : (b : Bool) → leb (nat_abs z) 2147483647 ≡ b → (b || eq_z z blank) ≡ true → nat_abs z ≤ 2147483648
    go true e q = let l = leb-true (nat_abs z) 2147483647 e in omega arith
    go false e q = let same = ap nat_abs (eq_z-yes z blank q) in omega arith

bits-good : (x : ℕ) → good (to_z w32 x) ≡ true
bits-good x = go (ltb x 2147483648) refl
  where
    below-zero : (y : ℕ) → y ≤ 2147483647 → good (negsuc y) ≡ true
    below-zero y h = last (ltb y 2147483647) refl
      where
        last : (b : Bool) → ltb y 2147483647 ≡ b → good (negsuc y) ≡ true
        last true e = ap (◌|| eq_z (negsuc y) blank) (le-leb (suc y) 2147483647 (ltb-true y 2147483647 e))
        last false e = let l = ltb-false y 2147483647 e in let same : y ≡ 2147483647 = omega arith in rw same refl

    go : (b : Bool) → ltb x 2147483648 ≡ b → good (cond b (pos x) (negsuc (4294967296 - suc x))) ≡ true
    go true e = let l = ltb-true x 2147483648 e in ap (◌|| false) (le-leb x 2147483647 (omega arith))
    go false e = let l = ltb-false x 2147483648 e in below-zero (4294967296 - suc x) (omega arith)

all-good : (f : Values) → ((v : ℕ) → good (f v) ≡ true) → (xs : List ℕ) → all good (map f xs) ≡ true
all-good f h [] = refl
all-good f h (x ∷ xs) = rw (h x) (all-good f h xs)

module _ (t : Tables) (s : Sound t) (start : Values) (from : (v : ℕ) → good (start v) ≡ true) where
  few-inputs : (v : ℕ) → is_made t v ≡ true → length (inputs_of t v) ≤ 256
  few-inputs v e = let few = (sound-row t s (row_of t v) (made_row t s v e)).few in rw e (simp length-take (omega arith))

  afresh-good : (k v : ℕ) → good (afresh (net t) start k v) ≡ true
  unfolding runs
  afresh-good zero v = refl
  afresh-good (suc k) v = go (is_made t v) refl (afresh-good k)
    where
      old : Values
      old = afresh (net t) start k

      go : (b : Bool) → is_made t v ≡ b → ((i : ℕ) → good (old i) ≡ true) → good (cond b (form_of t v old) (start v)) ≡ true
      go true e h = let few = few-inputs v e in formula-good _ _ _ (map old (inputs_of t v)) (all-good old h (inputs_of t v)) (rw (length-map (inputs_of t v) old) (omega arith))
      go false e h = from v

-- start values that are good below n are good everywhere: beyond them a model has 0
values-good : (t : Tables) (starts : List ℤ) → ((v : ℕ) → v < t.n → good (get_or starts v (pos 0)) ≡ true) → (v : ℕ) → good (values_in t starts v) ≡ true
values-good t starts h v = go (ltb v t.n) refl
  where
    go : (b : Bool) → ltb v t.n ≡ b → good (values_in t starts v) ≡ true
    go true e = let l = ltb-true v t.n e in ap good (get_or-take t.n starts v (pos 0) l) ∙ h v l
    go false e = let l = ltb-false v t.n e in ap good (get_or-eq_default (take t.n starts) (pos 0) {n = v} (simp length-take (omega arith)))

-- ── reasons ──
reason-low : (t : Tables) (v : ℕ) (f : Values) → reason_of t v f ≤ 5
reason-low t v f = go (is_made t v) _ (at-most-5 _ _ _ (map f (inputs_of t v)))
  where
    go : (b : Bool) (r : ℕ) → r ≤ 5 → cond b r 0 ≤ 5
    go true r h = h
    go false r h = omega arith

-- ── the text of what build leaves ──
module _ (reasons : Bool) (b : BuildLent) (from : (v : ℕ) → v < b.tables.n → good (get_or b.starts v (pos 0)) ≡ true) where
  abbrev text : BuildLeft → List ℕ
  text left = said reasons left.answer b.tables.n left.numbers left.stored left.reasons

  listed : BuildKnown b → length (text (build_leaves b accepted)) ≤ 90112
  listed k =
      let t = b.tables in
      let numbers = group_number t in
      let values = worth t (start_values b) in
      let whys : ℕ → ℕ = λ v. reason_of t v values in
      let most = (sized-facts t k.sound.sized).n-most in
      lines-length reasons t.n _ _ _ most
      (λ v l. let e = over-at numbers t.n b.numbers v 0 l in let h = group-le t v in omega arith)
      (λ v l. rw (over-at values t.n b.stored v (pos 0) l) (good-near (values v) (afresh-good t k.sound (start_values b) (values-good t b.starts from) t.n v)))
      (λ v l. let e = over-at whys t.n b.reasons v 0 l in let h = reason-low t v values in omega arith)

  built-length : length (text (build b)) ≤ 90112
  unfolding build
  built-length = go (build_verdict b) refl
    where
      go : (u : Verdict) → build_verdict b ≡ u → length (text (build_leaves b u)) ≤ 90112
      go accepted e = listed (build-known b e)
      go (refused number place) e = let h = refusal-length number place in omega arith

-- ── the text of a file ──
module _ (reasons : Bool) (file : List ℕ) (c₀ : Contents) (numbers : List ℕ) (stored : List ℤ) (row : List ℕ) where
  read_length : length (text_of reasons (of_read numbers stored row (read version1 file c₀))) ≤ 90112
  unfolding of_tables
  read_length = go (read_verdict version1 file c₀)
    where
      n : ℕ
      n = n_in file

      from : (v : ℕ) → v < n → good (get_or (starts_from file 24 n (m_in file) (e_in file) c₀.starts) v (pos 0)) ≡ true
      from v l = ap good (over-at (λ u. to_z w32 (column file 4 24 4 u)) n c₀.starts v (pos 0) l) ∙ bits-good (column file 4 24 4 v)

      after : Verdict → Contents
      after u = leaves u (laid version1 file (n_in file) (m_in file) (e_in file) c₀) (counted 0 0 0 c₀)

      go : (u : Verdict) → length (text_of reasons (of_read numbers stored row (u, after u))) ≤ 90112
      go accepted = built-length reasons (lent_for_file _ _ numbers stored row) from
      go (refused number place) = let h = refusal-length number place in omega arith

pub printed-length : (reasons : Bool) (file : List ℕ) → length (printed reasons file) ≤ 98304
unfolding printed of_file
printed-length reasons file = go (ltb 65536 (length file)) (read_length reasons file empty (replicate 4096 0) (replicate 4096 (pos 0)) (replicate 4096 0))
  where
    left : FileLeft
    left = of_read (replicate 4096 0) (replicate 4096 (pos 0)) (replicate 4096 0) (read version1 file empty)

    go : (b : Bool) → length (text_of reasons left) ≤ 90112
        → length (text_of reasons (cond b (unbuilt (replicate 4096 0) (replicate 4096 (pos 0)) (replicate 4096 0) 1 0) left)) ≤ 98304
    go true h = let l = refusal-length 1 0 in omega arith
    go false h = omega arith
