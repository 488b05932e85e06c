-- Check 8 is what the two passes decide: numbers that meet the equations are the paper's, and an order that rises is the paper's; and the paper's
-- do both. Assumes nothing.
use Prim.Native.Nat.{ℕ, zero, suc, max, ◌+◌, ◌*◌, ◌≤◌, ◌<◌}
use native.Mathlib.Nat.{not-suc-le-zero, lt_irrefl}
use native.Mathlib.Omega.{arith}
use mathlib.Core.Bool.{Bool, true, false, cond, ◌&&◌}
use mathlib.Core.List.Memᴰ
use mathlib.Core.List.{List, [], ◌∷◌, map, Memᴰ}
use mathlib.Core.Logic.{inl, inr}
use mathlib.Core.Path.{◌≡◌, refl, ap, ap₂, sym, ◌∙◌, subst}
use lib.Dec.{ltb}
use lib.ListN.{length, take, get_or-eq_default}
use lib.Seq.{get_or-take, length-take-le}
use borrow.Author.Tests.{ltb-true, ltb-false, leb-true, eqb-true, eq-eqb, lt-ltb, le-leb}
use Rattle.paper.specs.Lists.{greatest, nat, all_below}
use Rattle.paper.specs.Net.{able}
use Rattle.paper.specs.Tables.{Tables, is_made, inputs_of, net}
use Rattle.paper.proofs.Straight.{numbering, number, order, numbered}
use Rattle.paper.proofs.Lists.{and_left, and_right, all_of, all-at}
use Rattle.paper.proofs.Least.{all_below-at, below_all}
use Rattle.paper.proofs.Lawful.{lawful}
use Rattle.paper.proofs.Numbers.{Numbers, numbering-local, number-right, numbers-unique}
use Rattle.paper.proofs.Circle.{numbers-end, ends-everywhere}
use Rattle.paper.proofs.Order.{Prec, Sorted, Rising, rank, order-sorted, order-in, order-length, order-unique, order-checked}
use Rattle.paper.proofs.Eight.{numbered-ends, numbered-numbers, numbered-order, numbered_of}
use Rattle.tables.specs.Makers.{Makers}
use Rattle.order.specs.Formed.{Formed}
use Rattle.order.specs.Ascent.{rank_of, floor, rises_at}
use Rattle.order.specs.Numbering.{above, searched_right, made_right}
use Rattle.order.proofs.ByRows.{right_at, iff, at_all, made_of, searched-of}
use Rattle.order.proofs.Sweeps.{numbering-above}

-- ── the number that the inputs' numbers ask: those in `left` are still to be looked at ──
pub record Asking (f : ℕ → ℕ) (inputs left : List ℕ) (best : ℕ) : Type 0 where
  pub small : best ≤ 65536
  pub all : max best (above f left) ≡ above f inputs

module _ (f : ℕ → ℕ) (inputs : List ℕ) where
  pub asking-start : Asking f inputs inputs 0
  asking-start = record { small = omega arith; all = omega arith }

  pub asking-end : (left : List ℕ) (best : ℕ) → Asking f inputs left best → left ≡ [] → best ≡ above f inputs
  asking-end left best A e = let h = rw e at A.all in omega arith

  pub asking-next : (left more : List ℕ) (best w : ℕ) → Asking f inputs left best → left ≡ w ∷ more → (x b : ℕ) → x ≡ f w → x < 65536 → b ≡ max best (x + 1) → Asking f inputs more b
  asking-next left more best w A e x b p l q = record { small = let s = A.small in omega arith; all = let h = rw e at A.all in omega arith }

-- ── neighbours ──
index_of : {w : ℕ} (l : List ℕ) → Memᴰ w l → (j : ℕ) × (j < length l) × (w ≡ nat l j)
index_of (x ∷ xs) (Memᴰ.head q) = (0, omega arith, q)
index_of (x ∷ xs) (Memᴰ.tail m) = let (j, l, e) = index_of xs m in (suc j, omega arith, e)
index_of {w = w} [] x' = elim x' [ ]

module _ (d : ℕ → ℕ) where
  rising-of : (x : ℕ) (xs : List ℕ) → ((i : ℕ) → i < length xs → Prec d (nat (x ∷ xs) i) (nat xs i)) → Rising d x xs
  rising-of x [] h = tt
  rising-of x (y ∷ ys) h = (h 0 (omega arith), rising-of y ys (λ i l. h (suc i) (omega arith)))

  sorted-at : (l : List ℕ) → Sorted d l → (i : ℕ) → suc i < length l → Prec d (nat l i) (nat l (suc i))
  sorted-at [] s i h = absurd (not-suc-le-zero h)
  sorted-at (x ∷ []) s i h = absurd (lt_irrefl 1 (omega arith))
  sorted-at (x ∷ y ∷ ys) s zero h = s.0.0
  sorted-at (x ∷ y ∷ ys) s (suc i) h = sorted-at (y ∷ ys) s.1 i (omega arith)

  -- with rows below 65536 the two parts of a standing are read apart
  module _ (a b : ℕ) (la : a < 65536) (lb : b < 65536) where
    stands_up : Prec d a b → d a * 65536 + a + 1 ≤ d b * 65536 + b
    stands_up (inl p) = omega arith
    stands_up (inr p) = omega arith

    stands-down : d a * 65536 + a + 1 ≤ d b * 65536 + b → Prec d a b
    stands-down h = go (ltb (d a) (d b)) refl
      where
        go : (c : Bool) → ltb (d a) (d b) ≡ c → Prec d a b
        go true e = inl (ltb-true (d a) (d b) e)
        go false e = let q = ltb-false (d a) (d b) e in inr (omega arith, omega arith)

module _ (t : Tables) (F : Formed t) (nums ord : List ℕ) (long : t.n ≤ length nums) (room : t.m ≤ length ord) where
  -- ── the numbers ──
  abbrev Numbered : Type 0
  Numbered = (v : ℕ) → v < t.n → nat nums v ≡ number (net t) t.n v

  -- the equations below n, over the numbers below n, are all of them
  meets-all : ((v : ℕ) → v < t.n → right_at (inputs_of t) nums v ≡ true) → Numbers (net t) (nat (take t.n nums))
  meets-all h v = go (ltb v t.n) refl
    where
      off : (b : Bool) → is_made t v ≡ b → t.n ≤ v → 0 ≡ cond b (suc (greatest (map (nat (take t.n nums)) (inputs_of t v)))) 0
      off true q k = let l = F.made-below v q in absurd (lt_irrefl v (omega arith))
      off false q k = refl

      go : (b : Bool) → ltb v t.n ≡ b → nat (take t.n nums) v ≡ numbering (net t) (nat (take t.n nums)) v
      go true e =
          let l = ltb-true v t.n e in
          get_or-take t.n nums v 0 l ∙ eqb-true (nat nums v) (above (nat nums) (inputs_of t v)) (h v l) ∙ sym (numbering-above t F (nat nums) v)
          ∙ numbering-local (net t) (nat nums) (nat (take t.n nums)) v (λ i m. sym (get_or-take t.n nums i 0 (F.inputs-below v i m)))
      go false e =
          let k = ltb-false v t.n e in let s = length-take-le t.n nums long in
          get_or-eq_default (take t.n nums) 0 (omega arith) ∙ off (is_made t v) refl k

  module _ (right : (v : ℕ) → v < t.n → right_at (inputs_of t) nums v ≡ true) where
    ends-all : (v : ℕ) → able (inputs_of t) t.n v ≡ true
    ends-all = numbers-end (net t) (lawful t) t.n F.inputs-below F.made-below F.some (nat (take t.n nums)) (meets-all right)

    numbers-are : Numbered
    numbers-are v l =
        sym (get_or-take t.n nums v 0 l)
        ∙ numbers-unique (net t) (lawful t) t.n ends-all (nat (take t.n nums)) (number (net t) t.n) (meets-all right) (number-right (net t) (lawful t) t.n ends-all) v

  -- ── the order ──
  module _ (is : Numbered) where
    stands-is : (r : ℕ) → r < t.m → rank_of t.makes nums r ≡ rank t r * 65536 + r
    stands-is r l = ap (λ z. z * 65536 + r) (is (nat t.makes r) (F.row_makes r l))

    few : t.m ≤ 65536
    few = let a = F.rows in let b = F.few in omega arith

    abbrev Rises : ℕ → Bool
    Rises = rises_at (rank_of t.makes nums) t.m ord

    module _ (up : (i : ℕ) → i < t.m → Rises i ≡ true) where
      row_below : (i : ℕ) → i < t.m → nat ord i < t.m
      row_below i l = ltb-true (nat ord i) t.m (and_left (ltb (nat ord i) t.m) _ (up i l))

      neighbours : (i : ℕ) → suc i < t.m → Prec (rank t) (nat ord i) (nat ord (suc i))
      neighbours i l =
          let a = row_below i (omega arith) in let b = row_below (suc i) l in let f = few in
          let h = leb-true (rank_of t.makes nums (nat ord i) + 1) (rank_of t.makes nums (nat ord (suc i))) (and_right (ltb (nat ord (suc i)) t.m) _ (up (suc i) l)) in
          let x = stands-is (nat ord i) a in let y = stands-is (nat ord (suc i)) b in
          stands-down (rank t) (nat ord i) (nat ord (suc i)) (omega arith) (omega arith) (omega arith)

      order_is : take t.m ord ≡ order t
      order_is = go (take t.m ord) (length-take-le t.m ord room) (λ i l. get_or-take t.m ord i 0 l)
        where
          go : (l : List ℕ) → length l ≡ t.m → ((i : ℕ) → i < t.m → nat l i ≡ nat ord i) → l ≡ order t
          go [] e same = order-unique t [] tt (λ r m. absurd (Memᴰ.not-nil m)) (λ r h. absurd (not-suc-le-zero (subst (λ z. r < z) (sym e) h)))
          go (x ∷ xs) e same = order-checked t x xs
              (rising-of (rank t) x xs (λ i l. rw (same i (omega arith), same (suc i) (omega arith)) (neighbours i (omega arith))))
              (λ r m. let (j, l, q) = index_of (x ∷ xs) m in let a = same j (omega arith) in let b = row_below j (omega arith) in omega arith) e

    order-rises : take t.m ord ≡ order t → (i : ℕ) → i < t.m → Rises i ≡ true
    order-rises e i l = ap₂ ◌&&◌ (lt-ltb (nat ord i) t.m (at i l)) (le-leb (floor (rank_of t.makes nums) ord i) (rank_of t.makes nums (nat ord i)) (above_floor i l))
      where
        same : (j : ℕ) → j < t.m → nat ord j ≡ nat (order t) j
        same j h = sym (get_or-take t.m ord j 0 h) ∙ ap (λ z. nat z j) e

        at : (j : ℕ) → j < t.m → nat ord j < t.m
        at j h =
            let k = order-length t in let s = same j h in
            let rows = all_of (λ r. ltb r t.m) (order t) (λ r m. lt-ltb r t.m (order-in t r m)) in
            let q = ltb-true (nat (order t) j) t.m (all-at (λ r. ltb r t.m) (order t) rows j 0 (omega arith)) in
            omega arith

        above_floor : (j : ℕ) → j < t.m → floor (rank_of t.makes nums) ord j ≤ rank_of t.makes nums (nat ord j)
        above_floor zero h = omega arith
        above_floor (suc j) h =
            let k = order-length t in let f = few in
            let a = at j (omega arith) in let b = at (suc j) h in
            let x = stands-is (nat ord j) a in let y = stands-is (nat ord (suc j)) b in
            let p = rw (← (same j (omega arith)), ← (same (suc j) h)) at (sorted-at (rank t) (order t) (order-sorted t) j (omega arith)) in
            let u = stands_up (rank t) (nat ord j) (nat ord (suc j)) (omega arith) (omega arith) p in
            omega arith

  -- ── both ──
  eight-right : (by : List ℕ) → Makers t by → {due b : Bool} → due ≡ all_below (made_right t nums) t.m
      → b ≡ ((due && all_below (searched_right by nums) t.n) && all_below (rises_at (rank_of t.makes nums) t.m ord) t.m) → b ≡ true → numbered t nums ord ≡ true
  eight-right by M {due} made e yes-all =
      let rises = all_below (rises_at (rank_of t.makes nums) t.m ord) t.m in let searched = all_below (searched_right by nums) t.n in
      let both = sym e ∙ yes-all in let numbers = and_left (due && searched) rises both in
      let right = at_all t F by nums M (and_right due searched numbers) (sym made ∙ and_left due searched numbers) in let is = numbers-are right in
      numbered_of t nums ord (λ v l. ends-all right v) is (order_is is (all_below-at (rises_at (rank_of t.makes nums) t.m ord) t.m (and_right (due && searched) rises both)))

  -- the paper's numbers meet the equations, and its order rises
  numbers-meet : numbered t nums ord ≡ true → (v : ℕ) → v < t.n → right_at (inputs_of t) nums v ≡ true
  numbers-meet q v l =
      let is = numbered-numbers t nums ord q in
      let ends = ends-everywhere (net t) (lawful t) t.n F.inputs-below F.made-below F.some (numbered-ends t nums ord q) in
      eq-eqb (nat nums v) (above (nat nums) (inputs_of t v))
      (is v l ∙ number-right (net t) (lawful t) t.n ends v
      ∙ numbering-local (net t) (number (net t) t.n) (nat nums) v (λ i m. sym (is i (F.inputs-below v i m))) ∙ numbering-above t F (nat nums) v)

  eight-found : (by : List ℕ) → Makers t by → {due b : Bool} → due ≡ all_below (made_right t nums) t.m
      → b ≡ ((due && all_below (searched_right by nums) t.n) && all_below (rises_at (rank_of t.makes nums) t.m ord) t.m) → numbered t nums ord ≡ true → b ≡ true
  eight-found by M made e q =
      let is = numbered-numbers t nums ord q in
      e ∙ ap₂ ◌&&◌ (ap₂ ◌&&◌ (made ∙ made_of t F by nums M (numbers-meet q)) (searched-of t F by nums M (numbers-meet q)))
      (below_all (rises_at (rank_of t.makes nums) t.m ord) t.m (order-rises is (numbered-order t nums ord q room)))

  pub eight_is : (by : List ℕ) → Makers t by → {due b : Bool} → due ≡ all_below (made_right t nums) t.m
      → b ≡ ((due && all_below (searched_right by nums) t.n) && all_below (rises_at (rank_of t.makes nums) t.m ord) t.m) → b ≡ numbered t nums ord
  eight_is by M {due} {b} made e = iff b (numbered t nums ord) (eight-right by M made e) (eight-found by M made e)
