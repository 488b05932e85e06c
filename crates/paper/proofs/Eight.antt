-- Check 8 where no chain of inputs closes, by local equations: lent numbers that meet the paper's sentence at each variable, and an order whose neighbours
-- rise, are what build gives, and the chains end. Assumes nothing.
use Prim.Native.Nat.{ℕ, ◌≤◌, ◌<◌}
use native.Mathlib.Omega.{arith}
use mathlib.Core.Bool.{true}
use mathlib.Core.List.{List, [], ◌∷◌, Memᴰ}
use mathlib.Core.Path.{◌≡◌, refl, ap, sym, ◌∙◌}
use lib.Dec.{eqb}
use lib.ListN.{length, take}
use lib.Seq.{ext_get_or, length-take-le, get_or-take}
use borrow.Author.Tests.{eqb-true, eq-eqb}
use Rattle.paper.specs.Lists.{nat}
use Rattle.paper.specs.Net.{able}
use Rattle.paper.specs.Tables.{Tables, net, inputs_of, ends}
use Rattle.paper.specs.Checks.{Sound}
use Rattle.paper.proofs.Straight.{number, order, numbered}
use Rattle.paper.proofs.Lists.{each, all_yes}
use Rattle.paper.proofs.Least.{all_below-at, below_all}
use Rattle.paper.proofs.Sizes.{sized-facts}
use Rattle.paper.proofs.Accept.{made-below, inputs-below}
use Rattle.paper.proofs.Lawful.{lawful}
use Rattle.paper.proofs.Numbers.{Numbers, number-right, numbers-unique}
use Rattle.paper.proofs.Circle.{numbers-end}
use Rattle.paper.proofs.Order.{Ascends, rank, order-checked, order-length}

-- ── the check is passed ──
module _ (t : Tables) (nums ord : List ℕ) (ok : numbered t nums ord ≡ true) where
  pub numbered-ends : (v : ℕ) → v < t.n → ends t v ≡ true
  numbered-ends = all_below-at (ends t) t.n (each _ ok).0

  pub numbered-numbers : (v : ℕ) → v < t.n → nat nums v ≡ number (net t) t.n v
  numbered-numbers v l = eqb-true (nat nums v) (number (net t) t.n v) (all_below-at (λ u. eqb (nat nums u) (number (net t) t.n u)) t.n (each _ ok).1.0 v l)

  pub numbered-order : t.m ≤ length ord → take t.m ord ≡ order t
  numbered-order h = ext_get_or 0 (take t.m ord) (order t) (length-take-le t.m ord h ∙ sym (order-length t)) (λ i l.
      let low : i < t.m = let k = length-take-le t.m ord h in omega arith in
      get_or-take t.m ord i 0 low
      ∙ eqb-true (nat ord i) (nat (order t) i) (all_below-at (λ j. eqb (nat ord j) (nat (order t) j)) t.m (each _ ok).1.1.0 i low))

pub numbered_of : (t : Tables) (nums ord : List ℕ) → ((v : ℕ) → v < t.n → ends t v ≡ true) → ((v : ℕ) → v < t.n → nat nums v ≡ number (net t) t.n v)
    → take t.m ord ≡ order t → numbered t nums ord ≡ true
numbered_of t nums ord chains p q =
    all_yes _ (
      below_all (ends t) t.n chains,
      (
        below_all (λ v. eqb (nat nums v) (number (net t) t.n v)) t.n (λ v l. eq-eqb (nat nums v) (number (net t) t.n v) (p v l)),
        (below_all (λ i. eqb (nat ord i) (nat (order t) i)) t.m (λ i l. eq-eqb (nat ord i) (nat (order t) i) (sym (get_or-take t.m ord i 0 l) ∙ ap (λ (o : List ℕ). nat o i) q)), tt),
      ),
    )

-- ── by the equations, over tables that passed checks 1 to 5 ──
module _ (t : Tables) (s : Sound t) where
  -- numbers that meet the sentence are build's, and every chain ends
  pub numbers-checked : (nums : List ℕ) → Numbers (net t) (nat (take t.n nums))
      → ((v : ℕ) → able (inputs_of t) t.n v ≡ true) × ((v : ℕ) → v < t.n → nat nums v ≡ number (net t) t.n v)
  numbers-checked nums h = (
    chain,
    λ v l.
        sym (get_or-take t.n nums v 0 l)
        ∙ numbers-unique (net t) (lawful t) t.n chain (nat (take t.n nums)) (number (net t) t.n) h (number-right (net t) (lawful t) t.n chain) v,
  )
    where
      chain : (v : ℕ) → able (inputs_of t) t.n v ≡ true
      chain = numbers-end (net t) (lawful t) t.n (inputs-below t s) (made-below t s) (sized-facts t s.sized).n-some (nat (take t.n nums)) h

  -- with an order that rises strictly the two are what build gives
  pub checked : (nums ord : List ℕ) → Numbers (net t) (nat (take t.n nums)) → t.m ≤ length ord → ((r : ℕ) → Memᴰ r (take t.m ord) → r < t.m) → Ascends (rank t) (take t.m ord) → numbered t nums ord ≡ true
  checked nums ord h k low up =
      let known = numbers-checked nums h in
      numbered_of t nums ord (λ v q. known.0 v) known.1 (go (take t.m ord) (length-take-le t.m ord k) low up)
    where
      go : (rows : List ℕ) → length rows ≡ t.m → ((r : ℕ) → Memᴰ r rows → r < t.m) → Ascends (rank t) rows → rows ≡ order t
      go [] e low up = nothing (order t) (order-length t ∙ sym e)
        where
          nothing : (xs : List ℕ) → length xs ≡ 0 → [] ≡ xs
          nothing [] e = refl
          nothing (x ∷ xs) e = absurd (omega arith)
      go (x ∷ xs) e low up = order-checked t x xs up low e
