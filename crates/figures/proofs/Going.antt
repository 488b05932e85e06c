-- The loop over the moves: what was counted, and the figures of the moves that are left, make the figures of all. Assumes nothing.
use Prim.Native.Nat.{ℕ, suc, ◌+◌, ◌*◌, ◌≤◌, ◌<◌}
use native.Mathlib.Numerals.{add-one}
use native.Mathlib.Omega.{arith}
use mathlib.Core.Bool.{Bool, true, false, cond}
use mathlib.Core.List.{List, [], ◌∷◌, map}
use mathlib.Core.Path.{◌≡◌, refl, sym, ap, ap₂, ◌∙◌}
use lib.Dec.{eqb}
use lib.ListN.{length, take, drop, set, length-set, drop_of_length-le}
use lib.Seq.{drop-cons, drop-drop, drop-set-lt, get_or-set_same, get_or-set_other, get_or-take, length-take-le}
use borrow.Author.Tests.{eqb-true, eqb-false}
use Rattle.paper.specs.Lists.{nat, over}
use Rattle.paper.specs.Checks.{Move}
use Rattle.paper.specs.Calls.{Session, Model}
use Rattle.paper.proofs.Buffers.{over-length, over-at, over-over, over-of}
use Rattle.figures.specs.Outcomes.{outcome, SmallOutcome}
use Rattle.figures.specs.declared.outcomes.Outcome.{Outcome}
use Rattle.trials.specs.Batch.{Batch, unpacked}
use Rattle.figures.specs.Figures.{outcomes, having, totals, tallies}
use Rattle.figures.specs.Adding.{single, plus, RoomForOne}
use Rattle.figures.specs.declared.Totals.{Totals}
use Rattle.figures.proofs.Adding.{plus_assoc, none-plus, plus_none, totals-next, Bounded, bounded-none, bounded-room, bounded-next}

-- ── a row of tallies ──
-- i moves are counted in it, and with those that are left they are all
pub record Counting (all rest : List Outcome) (i : ℕ) (before row : List ℕ) : Type 0 where
  pub long : length row ≡ length before
  pub back : drop 22 row ≡ drop 22 before
  pub front : (k : ℕ) → k < 22 → nat row k + having k rest ≡ having k all
  pub few : (k : ℕ) → k < 22 → nat row k ≤ i

module _ (all rest : List Outcome) (before : List ℕ) (room : 22 ≤ length before) where
  counting-next : (o : Outcome) (i : ℕ) (row : List ℕ) → o.number < 22 → Counting all (o ∷ rest) i before row
      → Counting all rest (i + 1) before (set row o.number (suc (nat row o.number)))
  counting-next o i row low c = record {
    long = length-set row o.number _ ∙ c.long;
    back = drop-set-lt 22 row o.number _ low ∙ c.back;
    front = λ k l. (at k (eqb o.number k) refl (c.front k l) (c.few k l)).0;
    few = λ k l. (at k (eqb o.number k) refl (c.front k l) (c.few k l)).1;
  }
    where
      at : (k : ℕ) (b : Bool) → eqb o.number k ≡ b → nat row k + (cond b 1 0 + having k rest) ≡ having k all → nat row k ≤ i
          → let row' = set row o.number (suc (nat row o.number)) in (nat row' k + having k rest ≡ having k all) × (nat row' k ≤ i + 1)
      at k true e f g =
          let same = eqb-true o.number k e in let h = c.long in
          let is : nat (set row o.number (suc (nat row o.number))) k ≡ suc (nat row k) =
          ap (λ j. nat (set row o.number (suc (nat row o.number))) j) (sym same) ∙ get_or-set_same row o.number (suc (nat row o.number)) 0 (omega arith)
          ∙ ap (λ j. suc (nat row j)) same in
          (omega arith, omega arith)
      at k false e f g =
          let is = get_or-set_other row o.number k (suc (nat row o.number)) 0 (λ z. eqb-false o.number k e (sym z)) in
          (omega arith, omega arith)

counting-start : (all : List Outcome) (before : List ℕ) → 22 ≤ length before → Counting all all 0 (over 22 (λ k. 0) before) (over 22 (λ k. 0) before)
counting-start all before room = record {
  long = refl;
  back = refl;
  front = λ k l. let z = over-at (λ k. 0) 22 before k 0 l in omega arith;
  few = λ k l. let z = over-at (λ k. 0) 22 before k 0 l in omega arith;
}

counting-end : (all : List Outcome) (i : ℕ) (before row : List ℕ) → 22 ≤ length before → Counting all [] i before row → row ≡ tallies all before
counting-end all i before row room c = over-of (λ k. having k all) 22 before row 0 c.long room (λ k l. let h = c.front k l in omega arith) c.back

pub cleared-long : (before cleared : List ℕ) → 22 ≤ length before → cleared ≡ over 22 (λ k. 0) before → length cleared ≡ length before
cleared-long before cleared room e = ap length e ∙ over-length (λ k. 0) 22 before room

-- ── the loop ──
module _ (s : Session) (w : Model) (asked : ℕ) (b : Batch) where
  abbrev pub move_at : ℕ → ℕ → Move
  move_at at k = record { pairs = k; vars = take k (drop at b.vars); values = take k (drop at b.values) }

  -- the outcomes of the moves from i on, whose pairs stand at `at` and on
  abbrev pub rest : ℕ → ℕ → List Outcome
  rest i at = map (outcome s w asked) (unpacked (drop i (take b.moves b.pairs)) (drop at b.vars) (drop at b.values))

  pub record Going (before row : List ℕ) (t : Totals) (at i : ℕ) : Type 0 where
    pub at_most : at ≤ i * 65535
    pub counting : Counting (outcomes s w asked b) (rest i at) i before row
    pub adding : plus t (totals (rest i at)) ≡ totals (outcomes s w asked b)
    pub bounded : Bounded i t

  pub going_start : (before cleared : List ℕ) (t : Totals) → 22 ≤ length before → cleared ≡ over 22 (λ k. 0) before → t ≡ totals [] → Going cleared cleared t 0 0
  going_start before cleared t room e f = rw (e, f) (record {
    at_most = omega arith;
    counting = counting-start (outcomes s w asked b) before room;
    adding = none-plus (totals (outcomes s w asked b));
    bounded = bounded-none;
  })

  -- the next move and those behind it
  rest-next : (at i k : ℕ) → i < b.moves → b.moves ≤ length b.pairs → k ≡ nat b.pairs i → rest i at ≡ outcome s w asked (move_at at k) ∷ rest (i + 1) (at + k)
  rest-next at i k l h e =
      let long = length-take-le b.moves b.pairs h in
      ap (λ ks. map (outcome s w asked) (unpacked ks (drop at b.vars) (drop at b.values)))
      (drop-cons (take b.moves b.pairs) i 0 (omega arith) ∙ ap₂ ◌∷◌ (get_or-take b.moves b.pairs i 0 l ∙ sym e) (ap (λ j. drop j (take b.moves b.pairs)) (sym (add-one i))))
      ∙ ap₂ (λ vs xs. outcome s w asked (move_at at k) ∷ map (outcome s w asked) (unpacked (drop (i + 1) (take b.moves b.pairs)) vs xs))
      (drop-drop k at b.vars) (drop-drop k at b.values)

  module _ (before row : List ℕ) (t : Totals) (at i k : ℕ) (g : Going before row t at i) (l : i < b.moves) (h : b.moves ≤ length b.pairs) (room : 22 ≤ length before)
      (e : k ≡ nat b.pairs i) (o : Outcome) (is : o ≡ outcome s w asked (move_at at k)) (small : SmallOutcome o) where
    rest-is : rest i at ≡ o ∷ rest (i + 1) (at + k)
    rest-is = rest-next at i k l h e ∙ ap (λ (x : Outcome). x ∷ rest (i + 1) (at + k)) (sym is)

    pub going_next : k < 65536 → (row' : List ℕ) → row' ≡ set row o.number (suc (nat row o.number)) → (t' : Totals) → t' ≡ plus t (single o)
        → Going before row' t' (at + k) (i + 1)
    going_next low row' counted t' added = rw (counted, added) (record {
      at_most = let m = g.at_most in omega arith;
      counting = counting-next (outcomes s w asked b) (rest (i + 1) (at + k)) before room o i row small.number (rw rest-is at g.counting);
      adding =
          plus_assoc t (single o) (totals (rest (i + 1) (at + k))) ∙ ap (plus t) (sym (totals-next o (rest (i + 1) (at + k))))
          ∙ ap (λ os. plus t (totals os)) (sym rest-is) ∙ g.adding;
      bounded = bounded-next i t o g.bounded small;
    })

  module _ (before row : List ℕ) (t : Totals) (at i : ℕ) (g : Going before row t at i) where
    pub going-long : length row ≡ length before
    going-long = g.counting.long

    -- there is room for one more
    pub going-few : (k : ℕ) → k < 22 → nat row k ≤ i
    going-few = g.counting.few

    pub going-room : i < 1000 → RoomForOne t
    going-room = bounded-room i t g.bounded

    -- none is left
    pub going_end : (first : List ℕ) → before ≡ over 22 (λ k. 0) first → 22 ≤ length first → b.moves ≤ length b.pairs → b.moves ≤ i
        → (t ≡ totals (outcomes s w asked b)) × (row ≡ tallies (outcomes s w asked b) first)
    going_end first cleared room h l = (
      sym (plus_none t) ∙ ap (λ os. plus t (totals os)) (sym none) ∙ g.adding,
      let long = cleared-long first before room cleared in
          counting-end (outcomes s w asked b) i before row (omega arith) (rw none at g.counting)
          ∙ ap (tallies (outcomes s w asked b)) cleared ∙ over-over (λ k. having k (outcomes s w asked b)) 22 first (λ k. 0),
    )
      where
        none : rest i at ≡ []
        none =
            let long = length-take-le b.moves b.pairs h in
            ap (λ ks. map (outcome s w asked) (unpacked ks (drop at b.vars) (drop at b.values))) (drop_of_length-le (take b.moves b.pairs) {i = i} (omega arith))
