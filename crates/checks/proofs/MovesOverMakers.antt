-- The tests of moves over the row of makers are the paper's over the tables, and where 10, 12 and 17 pass of all pairs the chain is check 11. Assumes nothing.
use Prim.Native.Nat.{ℕ, ◌<◌}
use native.Mathlib.Omega.{arith}
use mathlib.Core.Bool.{Bool, true, false, not, ◌&&◌}
use mathlib.Core.List.{List}
use mathlib.Core.Path.{◌≡◌, refl, ap, sym, ◌∙◌}
use Rattle.std.specs.Prelude.{None}
use lib.Dec.{eqb, ltb}
use borrow.Author.Tests.{ltb-true}
use Rattle.paper.specs.Lists.{nat, all_below}
use Rattle.paper.specs.Tables.{Tables, is_made}
use Rattle.paper.specs.Checks.{Verdict, accepted, check, Bounds, Move, movable, named_once, has_value, pair_within}
use Rattle.paper.proofs.Lists.{and_left, and_right}
use Rattle.paper.proofs.Least.{all_below-at, below_all}
use Rattle.tables.specs.Makers.{Makers}
use Rattle.tables.proofs.Made.{maker-zero}
use Rattle.tables.proofs.Whole.{all-none}
use Rattle.tables.proofs.Answered.{none_fails-passes}
use Rattle.checks.specs.Moves.{pair_good, pair_checks}
use Rattle.checks.proofs.MovesJudged.{from_eleven, from_seventeen}

module _ (t : Tables) (by : List ℕ) (k : Makers t by) where
  -- 10, of a pair
  pub movable-told : (n : ℕ) → t.n ≡ n → (mv : Move) (i : ℕ) → (ltb (nat mv.vars i) n && eqb (nat by (nat mv.vars i)) 0) ≡ movable mv t i
  movable-told n e mv i = go (ltb (nat mv.vars i) n) refl ∙ ap (λ k. ltb (nat mv.vars i) k && not (is_made t (nat mv.vars i))) (sym e)
    where
      go : (b : Bool) → ltb (nat mv.vars i) n ≡ b → (ltb (nat mv.vars i) n && eqb (nat by (nat mv.vars i)) 0) ≡ (ltb (nat mv.vars i) n && not (is_made t (nat mv.vars i)))
      go true q = let low = ltb-true (nat mv.vars i) n q in ap (ltb (nat mv.vars i) n &&◌) (maker-zero t by k (nat mv.vars i) (omega arith))
      go false q = ap (◌&& eqb (nat by (nat mv.vars i)) 0) q ∙ sym (ap (◌&& not (is_made t (nat mv.vars i))) q)

-- a check that all places pass is past
past : (number bound : ℕ) (good : ℕ → Bool) (next : Verdict) → ((i : ℕ) → i < bound → good i ≡ true) → check number bound good next ≡ next
past number bound good next h = none_fails-passes number bound good None (all-none good bound (below_all good bound h)) next tt refl

module _ (t : Tables) (by : List ℕ) (k : Makers t by) (n : ℕ) (e : t.n ≡ n) (bs : Bounds) (mv : Move) (h : all_below (pair_good n by bs mv) mv.pairs ≡ true) where
  abbrev told : ℕ → Bool
  told i = ltb (nat mv.vars i) n && eqb (nat by (nat mv.vars i)) 0

  abbrev rest : ℕ → Bool
  rest i = has_value mv i && pair_within mv bs i

  all-told : (i : ℕ) → i < mv.pairs → (told i && rest i) ≡ true
  all-told i l = all_below-at (pair_good n by bs mv) mv.pairs h i l

  moved : (i : ℕ) → i < mv.pairs → movable mv t i ≡ true
  moved i l = sym (movable-told t by k n e mv i) ∙ and_left (told i) (rest i) (all-told i l)

  valued : (i : ℕ) → i < mv.pairs → has_value mv i ≡ true
  valued i l = and_left (has_value mv i) (pair_within mv bs i) (and_right (told i) (rest i) (all-told i l))

  inside : (i : ℕ) → i < mv.pairs → pair_within mv bs i ≡ true
  inside i l = and_right (has_value mv i) (pair_within mv bs i) (and_right (told i) (rest i) (all-told i l))

  pub only-eleven : pair_checks mv bs t accepted ≡ check 11 mv.pairs (named_once mv) accepted
  only-eleven =
      past 10 mv.pairs (movable mv t) (from_eleven mv bs accepted) moved
      ∙ ap (check 11 mv.pairs (named_once mv))
      (past 12 mv.pairs (has_value mv) (from_seventeen mv bs accepted) valued ∙ past 17 mv.pairs (pair_within mv bs) accepted inside)
