-- The pass over the order, a loop that tests each place. Assumes nothing.
use Prim.Native.Nat.{ℕ, ◌+◌, ◌*◌, ◌≤◌, ◌<◌}
use native.Mathlib.Nat.{lt_irrefl}
use native.Mathlib.Numerals.{add-one}
use native.Mathlib.Omega.{arith}
use mathlib.Core.Bool.{Bool, true, false, ◌&&◌}
use mathlib.Core.List.{List}
use mathlib.Core.Path.{◌≡◌, refl, ap, ap₂, sym, ◌∙◌}
use lib.Dec.{leb, ltb}
use borrow.Author.Tests.{ne_eqb, lt-ltb, le-ltb, le-leb, lt-leb}
use Rattle.paper.specs.Lists.{nat, first_fail, all_below}
use Rattle.paper.proofs.Least.{below_all}
use Rattle.paper.proofs.Scan.{Scan, scan-start, scan-next, scan-found}
use Rattle.order.specs.Ascent.{rank_of, floor, rises_at}

-- ── a loop that tests each number below m ──
module _ (p : ℕ → Bool) (m i : ℕ) (S : Scan p m i) where
  pub fails-here : i < m → p i ≡ false → false ≡ all_below p m
  fails-here l e = let f = scan-found p m i S l e in sym (ne_eqb (first_fail p m) m (λ q. lt_irrefl i (omega arith)))

  pub holds-all : m ≤ i → true ≡ all_below p m
  holds-all l = sym (below_all p m (λ j h. S.good j (omega arith)))

-- ── the pass over the order: all places passed rise, and the next must reach `low` ──
pub record Climbing (makes nums ord : List ℕ) (m i low : ℕ) : Type 0 where
  pub passed : Scan (rises_at (rank_of makes nums) m ord) m i
  pub next : low ≡ floor (rank_of makes nums) ord i
  pub small : low ≤ 65536 * 65536

module _ (makes nums ord : List ℕ) (m : ℕ) where
  pub climbing-start : Climbing makes nums ord m 0 0
  climbing-start = record { passed = scan-start _ m; next = refl; small = omega arith }

  module _ (i low : ℕ) (C : Climbing makes nums ord m i low) where
    pub climbed : m ≤ i → true ≡ all_below (rises_at (rank_of makes nums) m ord) m
    climbed l = holds-all _ m i C.passed l

    module _ (l : i < m) (r : ℕ) (e : r ≡ nat ord i) where
      pub no_row : m ≤ r → false ≡ all_below (rises_at (rank_of makes nums) m ord) m
      no_row h = fails-here _ m i C.passed l (ap (◌&& leb (floor (rank_of makes nums) ord i) (rank_of makes nums (nat ord i))) (le-ltb (nat ord i) m (omega arith)))

      module _ (v x : ℕ) (ev : v ≡ nat makes r) (ex : x ≡ nat nums v) where
        stands : x * 65536 + r ≡ rank_of makes nums (nat ord i)
        stands = rw (ex, ev, e)

        pub too-low : x * 65536 + r < low → false ≡ all_below (rises_at (rank_of makes nums) m ord) m
        too-low h =
            let s = stands in let f = C.next in
            fails-here _ m i C.passed l
            (ap (ltb (nat ord i) m &&◌) (lt-leb (floor (rank_of makes nums) ord i) (rank_of makes nums (nat ord i)) (omega arith)) ∙ go (ltb (nat ord i) m))
          where
            go : (b : Bool) → (b && false) ≡ false
            go true = refl
            go false = refl

        pub climbing-next : r < m → low ≤ x * 65536 + r → x < 65536 → r < 65536 → Climbing makes nums ord m (i + 1) (x * 65536 + r + 1)
        climbing-next lr h lx k = let s = stands in let f = C.next in record {
          passed = scan-next _ m i C.passed l
              (ap₂ ◌&&◌ (lt-ltb (nat ord i) m (omega arith)) (le-leb (floor (rank_of makes nums) ord i) (rank_of makes nums (nat ord i)) (omega arith)));
          next = rw (add-one i) (ap (◌+ 1) stands);
          small = omega arith;
        }
