-- Check 8: where the numbers show that every chain ends they are those of the groups, since each variable is then a group of its own; elsewhere the lent numbers
-- and order are compared with those found. Assumes nothing.
use Prim.Native.Nat.{ℕ, ◌≤◌, ◌<◌}
use native.Mathlib.Omega.{arith}
use mathlib.Core.Bool.{Bool, true, false, cond, not, ◌&&◌}
use mathlib.Core.List.{List, ◌++◌}
use mathlib.Core.Path.{◌≡◌, refl, ap, ap₂, sym, ◌∙◌}
use lib.Dec.{eqb}
use lib.ListN.{length, take, drop}
use lib.ListN.{get_or-append}
use borrow.Author.Tests.{eq-eqb, eqb-true}
use Rattle.std.specs.Prelude.{Option, Some, None}
use Rattle.std.specs.Bool.{Decides, then_some}
use Rattle.std.specs.Cmp.Lexicographic.{pointwise}
use Rattle.std.specs.Option.{is_some}
use Rattle.std.proofs.lemmas.Bool.Decides.{Decides-eqb, nat_tests}
use Rattle.std.proofs.lemmas.List.{ext_get_or, get_or-take, length-take-le}
use Rattle.std.proofs.lemmas.Slice.Eq.{slice_eq-Decides}
use Rattle.integers.specs.Below.{if_below}
use Rattle.paper.specs.Lists.{every, nat, first_fail, all_below}
use Rattle.paper.specs.Net.{able}
use Rattle.paper.specs.Tables.{Tables, net, inputs_of, ends}
use Rattle.paper.proofs.Straight.{number, order, numbered}
use Rattle.paper.specs.Chains.{permitted, group_number, group_order, closes, groups_numbered}
use Rattle.paper.proofs.Lists.{clash, each, all_yes}
use Rattle.paper.proofs.Least.{first_fail-le, all_below-at, below_all}
use Rattle.paper.proofs.Saturate.{both_ways}
use Rattle.paper.proofs.Scan.{first_fail-same}
use Rattle.paper.proofs.Lawful.{lawful}
use Rattle.paper.proofs.Circle.{ends-everywhere}
use Rattle.paper.proofs.Eight.{numbered-ends, numbered-numbers}
use Rattle.paper.proofs.Closes.{closes-not, not-closes, group-order-length, groups-numbers}
use Rattle.paper.proofs.Open.{open-permitted, open-number, open_order}
use Rattle.order.specs.Formed.{Formed}
use Rattle.order.proofs.Bare.{bare_of, numbered-bare}
use Rattle.chains.specs.Links.{Shared, Told}

module _ (t : Tables) (F : Formed t) (numbers ord : List ℕ) where
  -- ── no chain closes ──
  module _ (ok : numbered t numbers ord ≡ true) where
    chains-end : (v : ℕ) → able (inputs_of t) t.n v ≡ true
    chains-end = ends-everywhere (net t) (lawful t) t.n F.inputs-below F.made-below F.some (numbered-ends t numbers ord ok)

    number-right : (v : ℕ) → v < t.n → eqb (nat numbers v) (group_number t v) ≡ true
    number-right v l = eq-eqb (nat numbers v) (group_number t v) (numbered-numbers t numbers ord ok v l ∙ sym (open-number t F.inputs-below chains-end F.made-below v))

    place-right : (i : ℕ) → i < t.m → eqb (nat ord i) (nat (group_order t) i) ≡ true
    place-right i l =
        ap (λ (o : List ℕ). eqb (nat ord i) (nat o i)) (open_order t F.inputs-below chains-end F.made-below)
        ∙ all_below-at (λ j. eqb (nat ord j) (nat (order t) j)) t.m (each _ ok).1.1.0 i l

    open-groups : groups_numbered t numbers ord ≡ true
    open-groups = all_yes _ (
      below_all (permitted t) t.n (λ v l. open-permitted t F.inputs-below chains-end v),
      (
        below_all (λ v. eqb (nat numbers v) (group_number t v)) t.n number-right,
        (below_all (λ i. eqb (nat ord i) (nat (group_order t) i)) t.m place-right, tt),
      ),
    )

  pub right-open : numbered (bare_of t) numbers ord ≡ true → true ≡ groups_numbered t numbers ord
  right-open e = sym (open-groups (sym (numbered-bare t numbers ord) ∙ e))

  -- ── whether one does: if none does, check 8 is passed by such numbers alone ──
  module _ (ok : groups_numbered t numbers ord ≡ true) (none : closes t ≡ false) where
    all_end : (v : ℕ) → able (inputs_of t) t.n v ≡ true
    all_end = ends-everywhere (net t) (lawful t) t.n F.inputs-below F.made-below F.some (closes-not t none)

    open-numbered : numbered t numbers ord ≡ true
    open-numbered = all_yes _ (
      below_all (ends t) t.n (closes-not t none),
      (
        below_all (λ v. eqb (nat numbers v) (number (net t) t.n v)) t.n
            (λ v l. eq-eqb (nat numbers v) (number (net t) t.n v) (groups-numbers t numbers ord ok v l ∙ open-number t F.inputs-below all_end F.made-below v)),
        (
          below_all (λ i. eqb (nat ord i) (nat (order t) i)) t.m (λ i l.
              ap (λ (o : List ℕ). eqb (nat ord i) (nat o i)) (sym (open_order t F.inputs-below all_end F.made-below))
              ∙ all_below-at (λ j. eqb (nat ord j) (nat (group_order t) j)) t.m (each _ ok).1.1.0 i l),
          tt,
        ),
      ),
    )

  pub told-by : {b : Bool} → b ≡ numbered (bare_of t) numbers ord → Told t numbers ord (not b)
  told-by {b} e = record { is = λ ok. go b (sym (numbered-bare t numbers ord) ∙ sym e) (closes t) refl ok }
    where
      go : (b : Bool) → numbered t numbers ord ≡ b → (c : Bool) → closes t ≡ c → groups_numbered t numbers ord ≡ true → not b ≡ c
      go true q c p ok = sym (not-closes t (numbered-ends t numbers ord q)) ∙ p
      go false q true p ok = refl
      go false q false p ok = clash (open-numbered ok p) q

  -- ── the numbers and the order found anew ──
  right-found : {barred : ℕ} {shared rows : List ℕ} (before : List ℕ) {b c : Bool} → barred ≡ first_fail (permitted t) t.n → Shared t shared
      → rows ≡ group_order t ++ drop t.m before → b ≡ all_below (λ i. eqb (nat numbers i) (nat shared i)) t.n → c ≡ all_below (λ i. eqb (nat ord i) (nat rows i)) t.m
      → (eqb barred t.n && (b && c)) ≡ groups_numbered t numbers ord
  unfolding every
  right-found {barred} {shared} {rows} before {b} {c} e S w p q =
      ap₂ ◌&&◌ (ap (λ k. eqb k t.n) e) (ap₂ ◌&&◌ (p ∙ same_numbers) (q ∙ same_rows ∙ sym (end (all_below (λ i. eqb (nat ord i) (nat (group_order t) i)) t.m))))
    where
      end : (x : Bool) → (x && true) ≡ x
      end true = refl
      end false = refl

      same_numbers : all_below (λ i. eqb (nat numbers i) (nat shared i)) t.n ≡ all_below (λ v. eqb (nat numbers v) (group_number t v)) t.n
      same_numbers =
          ap (λ k. eqb k t.n)
          (first_fail-same (λ i. eqb (nat numbers i) (nat shared i)) (λ v. eqb (nat numbers v) (group_number t v)) t.n (λ v l. ap (eqb (nat numbers v)) (S.at v l)))

      row_at : (i : ℕ) → i < t.m → nat rows i ≡ nat (group_order t) i
      row_at i l = ap (λ (o : List ℕ). nat o i) w ∙ get_or-append (group_order t) (drop t.m before) 0 i (let h = group-order-length t in omega arith)

      same_rows : all_below (λ i. eqb (nat ord i) (nat rows i)) t.m ≡ all_below (λ i. eqb (nat ord i) (nat (group_order t) i)) t.m
      same_rows =
          ap (λ k. eqb k t.m)
          (first_fail-same (λ i. eqb (nat ord i) (nat rows i)) (λ i. eqb (nat ord i) (nat (group_order t) i)) t.m (λ i l. ap (eqb (nat ord i)) (row_at i l)))

-- ── as the code tells them ──
-- an open model
pub told-open : (t : Tables) (numbers ord : List ℕ) → groups_numbered t numbers ord ≡ true → Told t numbers ord false
    → Some false ≡ cond (groups_numbered t numbers ord) (Some (closes t)) None
told-open t numbers ord ok T = ap Some (T.is ok) ∙ ap (λ x. cond x (Some (closes t)) None) (sym ok)

-- and another
pub told-closed : (t : Tables) (numbers ord : List ℕ) {right : Bool} → right ≡ groups_numbered t numbers ord → Told t numbers ord true
    → then_some right true ≡ cond (groups_numbered t numbers ord) (Some (closes t)) None
told-closed t numbers ord e T = ap (λ x. then_some x true) e ∙ go (groups_numbered t numbers ord) refl
  where
    go : (b : Bool) → groups_numbered t numbers ord ≡ b → then_some b true ≡ cond b (Some (closes t)) None
    go true q = ap Some (T.is q)
    go false q = refl

-- no variable fails
none-fails : (t : Tables) {r : Option ℕ} {b : Bool} → r ≡ if_below t.n (first_fail (permitted t) t.n) → is_some r ≡ not b
    → b ≡ eqb (first_fail (permitted t) t.n) t.n
none-fails t {r} {b} e q = flip b _ (sym q ∙ ap is_some e ∙ there t.n (first_fail (permitted t) t.n) (first_fail-le (permitted t) t.n))
  where
    there : (n k : ℕ) → k ≤ n → is_some (if_below n k) ≡ not (eqb k n)
    there n k h = grind (arith, nat_tests)

    flip : (a b : Bool) → not a ≡ not b → a ≡ b
    flip true true e = refl
    flip false false e = refl
    flip true false e = sym e
    flip false true e = sym e

-- the fronts of two rows are the same exactly if their places are
fronts-same : (xs ys : List ℕ) (n : ℕ) → n ≤ length xs → n ≤ length ys → pointwise eqb (take n xs) (take n ys) ≡ all_below (λ i. eqb (nat xs i) (nat ys i)) n
fronts-same xs ys n h k = both_ways _ _ to from
  where
    decides : Decides (pointwise eqb (take n xs) (take n ys)) (take n xs ≡ take n ys)
    decides = slice_eq-Decides Decides-eqb (take n xs) (take n ys) _ refl

    at : (l : List ℕ) (i : ℕ) → i < n → nat (take n l) i ≡ nat l i
    at l i q = get_or-take n l i 0 q

    to : pointwise eqb (take n xs) (take n ys) ≡ true → all_below (λ i. eqb (nat xs i) (nat ys i)) n ≡ true
    to e =
        below_all (λ i. eqb (nat xs i) (nat ys i)) n
        (λ i q. eq-eqb (nat xs i) (nat ys i) (sym (at xs i q) ∙ ap (λ (l : List ℕ). nat l i) (decides.0 e) ∙ at ys i q))

    from : all_below (λ i. eqb (nat xs i) (nat ys i)) n ≡ true → pointwise eqb (take n xs) (take n ys) ≡ true
    from e =
        let a = length-take-le n xs h in let b = length-take-le n ys k in
        decides.1 (ext_get_or 0 (take n xs) (take n ys) (a ∙ sym b) (λ i q.
        let l : i < n = omega arith in
        at xs i l ∙ eqb-true (nat xs i) (nat ys i) (all_below-at (λ i. eqb (nat xs i) (nat ys i)) n e i l) ∙ sym (at ys i l)))

-- so, as the code compares them in turn: the first comparison that fails decides, and otherwise the last
module _ (t : Tables) (F : Formed t) (numbers ord : List ℕ) {found : Option ℕ} {shared rows : List ℕ} (before : List ℕ) (none : Bool)
    (least : found ≡ if_below t.n (first_fail (permitted t) t.n)) (is : is_some found ≡ not none) (S : Shared t shared)
    (w : rows ≡ group_order t ++ drop t.m before) (long : (t.n ≤ length numbers) × (t.m ≤ length ord)) (room : t.m ≤ length rows) where
  same_numbers : Bool
  same_numbers = pointwise eqb (take t.n numbers) (take t.n shared)

  same_rows : Bool
  same_rows = pointwise eqb (take t.m ord) (take t.m rows)

  all_right : (none && (same_numbers && same_rows)) ≡ groups_numbered t numbers ord
  unfolding same_numbers same_rows
  all_right =
      ap (◌&& (pointwise eqb (take t.n numbers) (take t.n shared) && pointwise eqb (take t.m ord) (take t.m rows))) (none-fails t least is)
      ∙ right-found t F numbers ord before refl S w (fronts-same numbers shared t.n long.0 S.long) (fronts-same ord rows t.m long.1 room)

  pub right-none : none ≡ false → false ≡ groups_numbered t numbers ord
  right-none p = ap (◌&& (same_numbers && same_rows)) (sym p) ∙ all_right

  pub right-numbers : none ≡ true → pointwise eqb (take t.n numbers) (take t.n shared) ≡ false → false ≡ groups_numbered t numbers ord
  unfolding same_numbers
  right-numbers p q = ap (◌&& same_rows) (sym q) ∙ ap (◌&& (same_numbers && same_rows)) (sym p) ∙ all_right

  pub right-order : none ≡ true → pointwise eqb (take t.n numbers) (take t.n shared) ≡ true
      → pointwise eqb (take t.m ord) (take t.m rows) ≡ groups_numbered t numbers ord
  unfolding same_numbers same_rows
  right-order p q = ap (◌&& same_rows) (sym q) ∙ ap (◌&& (same_numbers && same_rows)) (sym p) ∙ all_right
