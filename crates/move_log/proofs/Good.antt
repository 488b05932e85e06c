-- Check 16 is made of checks 10, 11, 12 and 17, over each move that the log holds. Assumes nothing.
use Prim.Native.Nat.{ℕ, ◌+◌, ◌-◌, ◌*◌, ◌≤◌, ◌<◌}
use native.Mathlib.Nat.{lt_irrefl}
use native.Mathlib.Omega.{arith}
use native.Mathlib.Numerals.{add-one}
use mathlib.Core.Bool.{Bool, true, false, cond, not, ◌&&◌}
use mathlib.Core.List.{List}
use mathlib.Core.Path.{◌≡◌, refl, ap, ap₂, sym, subst, ◌∙◌}
use lib.Dec.{leb, ltb}
use lib.ListN.{length, get_or, take, drop}
use Rattle.std.specs.Bool.{MatchBool}
use Rattle.std.specs.List.{AllWithin, HoldsAt, range_with_len}
use Rattle.std.proofs.lemmas.List.FromFn.{length-range_with_len, get_or-range_with_len}
use borrow.Author.Rules.{part_to_end}
use borrow.Author.Tests.{ltb-true, ltb-false, eq-eqb, ne_eqb, le-leb, lt-leb}
use Rattle.std.specs.Prelude.{Some, None, is_some}
use Rattle.integers.specs.Below.{if_below}
use Rattle.paper.specs.Lists.{every, nat, first_fail, all_below}
use Rattle.paper.specs.Tables.{Tables}
use Rattle.paper.specs.Checks.{Verdict, accepted, refused, check, Bounds, Move, movable, named_once, has_value, pair_within}
use Rattle.paper.specs.Log.{Log, move_good, back, logged, log_good}
use Rattle.paper.proofs.Lists.{all_yes, and_left, and_right}
use Rattle.paper.proofs.Least.{first_fail-le, all_below-at, below_all}
use Rattle.checks.specs.Allowed.{OfMakers}
use Rattle.tables.specs.Makers.{Makers}
use Rattle.checks.specs.Moves.{move_of, pair_good, pair_checks}
use Rattle.checks.proofs.MovesJudged.{from_eleven, from_twelve, from_seventeen}
use Rattle.checks.proofs.MovesOverMakers.{movable-told, only-eleven}

-- a verdict accepts
abbrev pub passes : Verdict → Bool
passes accepted = true
passes (refused number place) = false

check-passed : (code bound : ℕ) (good : ℕ → Bool) (next : Verdict) → passes (check code bound good next) ≡ (all_below good bound && passes next)
check-passed code bound good next = go (ltb (first_fail good bound) bound) refl
  where
    go : (b : Bool) → ltb (first_fail good bound) bound ≡ b → passes (cond b (refused code (first_fail good bound)) next) ≡ (all_below good bound && passes next)
    go true e = let low = ltb-true (first_fail good bound) bound e in rw (ne_eqb (first_fail good bound) bound (λ q. lt_irrefl bound (omega arith))) refl
    go false e =
        let a = ltb-false (first_fail good bound) bound e in let b = first_fail-le good bound in
        rw (eq-eqb (first_fail good bound) bound (omega arith)) refl

-- ── one move ──
module _ (t : Tables) (bs : Bounds) (mv : Move) where
  pub move-good : move_good t bs mv ≡ (leb mv.pairs 64 && passes (pair_checks mv bs t accepted))
  unfolding every
  move-good =
      ap (leb mv.pairs 64 &&◌)
      (sym (check-passed 10 mv.pairs (movable mv t) (from_eleven mv bs accepted)
      ∙ ap (all_below (movable mv t) mv.pairs &&◌) (check-passed 11 mv.pairs (named_once mv) (from_twelve mv bs accepted)
      ∙ ap (all_below (named_once mv) mv.pairs &&◌) (check-passed 12 mv.pairs (has_value mv) (from_seventeen mv bs accepted)
      ∙ ap (all_below (has_value mv) mv.pairs &&◌) (check-passed 17 mv.pairs (pair_within mv bs) accepted)))))

-- ── what one pass and the search for a variable named twice say of it is what the chain says ──
none-again : (m : ℕ) (good : ℕ → Bool) (b : Bool) → is_some (if_below m (first_fail good m)) ≡ not b → b ≡ passes (check 11 m good accepted)
none-again m good b = go (ltb (first_fail good m) m) b
  where
    go : (c b : Bool) → is_some (cond c (Some (first_fail good m)) None) ≡ not b → b ≡ passes (cond c (refused 11 (first_fail good m)) accepted)
    go true true h = h
    go true false h = refl
    go false true h = refl
    go false false h = h

module _ (t : Tables) (by : List ℕ) (made : Makers t by) (n : ℕ) (e : t.n ≡ n) (bs : Bounds) (mv : Move) where
  chain-passed : passes (pair_checks mv bs t accepted) ≡ true
      → (all_below (movable mv t) mv.pairs ≡ true) × (all_below (has_value mv) mv.pairs ≡ true) × (all_below (pair_within mv bs) mv.pairs ≡ true)
  chain-passed h =
      let M = all_below (movable mv t) mv.pairs in let O = all_below (named_once mv) mv.pairs in let H = all_below (has_value mv) mv.pairs in
      let W = all_below (pair_within mv bs) mv.pairs in
      let eleven = sym (check-passed 10 mv.pairs (movable mv t) (from_eleven mv bs accepted)) ∙ h in
      let twelve = sym (check-passed 11 mv.pairs (named_once mv) (from_twelve mv bs accepted)) ∙ and_right M (passes (from_eleven mv bs accepted)) eleven in
      let seventeen = sym (check-passed 12 mv.pairs (has_value mv) (from_seventeen mv bs accepted)) ∙ and_right O (passes (from_twelve mv bs accepted)) twelve in
      let last = sym (check-passed 17 mv.pairs (pair_within mv bs) accepted) ∙ and_right H (passes (from_seventeen mv bs accepted)) seventeen in
      (and_left M (passes (from_eleven mv bs accepted)) eleven, and_left H (passes (from_seventeen mv bs accepted)) seventeen, and_left W true last)

  all-told : passes (pair_checks mv bs t accepted) ≡ true → all_below (pair_good n by bs mv) mv.pairs ≡ true
  all-told h =
      let p = chain-passed h in
      below_all (pair_good n by bs mv) mv.pairs
      (λ i l. ap₂ ◌&&◌ (movable-told t by made n e mv i ∙ all_below-at (movable mv t) mv.pairs p.0 i l)
      (ap₂ ◌&&◌ (all_below-at (has_value mv) mv.pairs p.1 i l) (all_below-at (pair_within mv bs) mv.pairs p.2 i l)))

  pub passes-all : all_below (pair_good n by bs mv) mv.pairs ≡ true → (b : Bool) → is_some (if_below mv.pairs (first_fail (named_once mv) mv.pairs)) ≡ not b
      → b ≡ passes (pair_checks mv bs t accepted)
  passes-all p b h = none-again mv.pairs (named_once mv) b h ∙ ap passes (sym (only-eleven t by made n e bs mv p))

  pub passes-none : all_below (pair_good n by bs mv) mv.pairs ≡ false → false ≡ passes (pair_checks mv bs t accepted)
  passes-none p = go (passes (pair_checks mv bs t accepted)) refl
    where
      go : (c : Bool) → passes (pair_checks mv bs t accepted) ≡ c → false ≡ c
      go true q = sym p ∙ all-told q
      go false q = refl

-- ── move k of a log, as it is lent to checks 10, 11, 12 and 17: its rows from place 64 k on ──
module _ (l : Log) (k pairs : ℕ) (e : pairs ≡ nat l.sizes (k + 1)) where
  abbrev pub lent : Move
  lent = move_of pairs (take (length l.vars - 64 * k) (drop (64 * k) l.vars)) (take (length l.values - 64 * k) (drop (64 * k) l.values))

  size : pairs ≡ (back l k).pairs
  size = e ∙ ap (nat l.sizes) (add-one k)

  same : lent ≡ back l k
  same = rw (size, part_to_end l.vars (64 * k), part_to_end l.values (64 * k)) refl

  module _ (t : Tables) (bs : Bounds) where
    pub back-many : 64 < pairs → false ≡ move_good t bs (back l k)
    back-many h = sym (move-good t bs (back l k) ∙ ap (◌&& passes (pair_checks (back l k) bs t accepted)) (lt-leb (back l k).pairs 64 (omega (arith, size))))

    -- what the checks of it say
    pub back-told : pairs ≤ 64 → passes (pair_checks lent bs t accepted) ≡ move_good t bs (back l k)
    back-told h =
        sym (move-good t bs (back l k) ∙ ap₂ ◌&&◌ (le-leb (back l k).pairs 64 (omega (arith, size))) (ap (λ mv. passes (pair_checks mv bs t accepted)) (sym same)))

-- ── the whole log ──
module _ (l : Log) (t : Tables) (bs : Bounds) (kept : ℕ) where
  abbrev good : ℕ → Bool
  good k = move_good t bs (back l k)

  pub log-many : 64 < logged l → false ≡ log_good l t bs kept
  unfolding every
  log-many h = sym (ap (◌&& (leb (logged l) kept && (all_below good (logged l) && true))) (lt-leb (logged l) 64 h))

  pub log-more : logged l ≤ 64 → kept < logged l → false ≡ log_good l t bs kept
  unfolding every
  log-more a h = sym (ap₂ (λ x y. x && (y && (all_below good (logged l) && true))) (le-leb (logged l) 64 a) (lt-leb (logged l) kept h))

  module _ (a : logged l ≤ 64) (b : logged l ≤ kept) where
    pub log-bad : (k : ℕ) → k < logged l → false ≡ good k → false ≡ log_good l t bs kept
    unfolding every
    log-bad k h e = sym (ap₂ ◌&&◌ (le-leb (logged l) 64 a) (ap₂ (λ x y. x && (y && true)) (le-leb (logged l) kept b) (go (all_below good (logged l)) refl)))
      where
        go : (c : Bool) → all_below good (logged l) ≡ c → c ≡ false
        go false q = refl
        go true q = sym (all_below-at good (logged l) q k h) ∙ sym e

    pub log-all : ((k : ℕ) → k < logged l → true ≡ good k) → true ≡ log_good l t bs kept
    log-all h = sym (all_yes _ (le-leb (logged l) 64 a, (le-leb (logged l) kept b, (below_all good (logged l) (λ k m. sym (h k m)), tt))))

-- what is told of all its moves, whichever tables the makers are of
module _ (l : Log) (bs : Bounds) (kept n : ℕ) (by : List ℕ) where
  abbrev pub Says : Bool → ℕ → Type 0
  Says b k = OfMakers n by (λ t. b ≡ move_good t bs (back l k))

  module _ (held : ℕ) (same : held ≡ logged l) (a : logged l ≤ 64) (b : logged l ≤ kept) where
    abbrev moves : List ℕ
    moves = range_with_len 0 held

    at : (k : ℕ) → k < held → get_or moves k 0 ≡ k
    at k h = get_or-range_with_len 0 held k 0 h ∙ omega arith

    pub log-told : (r : Bool) → MatchBool r (AllWithin (Says true) moves 0 (length moves)) ((k : ℕ) × (k < length moves) × HoldsAt (Says false) moves k)
        → OfMakers n by (λ t. r ≡ log_good l t bs kept)
    log-told true h = record {
      of = λ t e q. log-all l t bs kept a b (λ k m. let long = length-range_with_len 0 held in (subst (Says true) (at k (omega arith)) (h k 0 (omega arith) (omega arith))).of t e q);
    }
    log-told false h = record {
      of = λ t e q. let long = length-range_with_len 0 held in let low = h.1 in log-bad l t bs kept a b h.0 (omega arith) ((subst (Says false) (at h.0 (omega arith)) (h.2 0)).of t e q);
    }
