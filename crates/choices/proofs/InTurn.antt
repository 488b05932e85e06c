-- A row follows its places in turn: at each the variable there is visited, then those from the next place on, and at the end the row's own value
-- stands. Assumes nothing.
use Prim.Native.Nat.{ℕ, suc, ◌+◌, ◌-◌, ◌≤◌, ◌<◌}
use native.Mathlib.Omega.{arith}
use mathlib.Core.List.{List, ◌∷◌, Memᴰ}
use mathlib.Core.Logic.{◌≢◌}
use mathlib.Core.Path.{◌≡◌, refl, ap, sym, ◌∙◌, subst}
use lib.Dec.{ltb}
use lib.IntN.{ℤ}
use lib.ListN.{length, set}
use borrow.Author.Tests.{ltb-true}
use Rattle.paper.specs.Lists.{nat, size}
use Rattle.paper.specs.Formula.{looked}
use Rattle.paper.specs.Net.{Values, Net}
use Rattle.paper.specs.Tables.{Tables, part}
use Rattle.paper.proofs.Lists.{all_in}
use Rattle.paper.proofs.Lawful.{Lawful}
use Rattle.rows.specs.Asking.{next_place}
use Rattle.routes.specs.Rows.{values_of, RowFits, row_gives}
use Rattle.routes.specs.Work.{work_net, asked_from}
use Rattle.routes.proofs.Places.{asked-start, asked-end, asked-next}
use Rattle.routes.proofs.Asks.{lawful-work, busy, row-form, row-asks, row-ins}
use Rattle.routes.proofs.InTurn.{turn-less}
use Rattle.choices.specs.Visiting.{PartsLent, unbegun, ValuesRight, Visited}
use Rattle.choices.proofs.Visited.{Begun, Going, going_start, going_less, going_step, going-fail, going_end}

module _ (t : Tables) (by : List ℕ) where
  -- the model that the row of makers describes
  abbrev model : Net
  model = work_net t by

  abbrev lawful : Lawful model
  lawful = lawful-work t by

  -- row r, which makes v, has come to place i of those from first to last
  pub record InTurn (v r first last i : ℕ) (start : List ℤ) (mid : List ℕ) (values : List ℤ) (states : List ℕ) : Type 0 where
    pub from : first ≤ i
    pub going : Going model lawful (length by) v (λ g. asked_from (nat t.kinds r) g t.vars first last i) start mid values states

  -- what is known while it does: v was fresh at first, and r is its row
  pub record Known (v r first last : ℕ) (start : List ℤ) (before : List ℕ) : Type 0 where
    pub laid : PartsLent t by
    pub row : nat by v ≡ suc r
    pub begun : Begun model lawful (length by) v start before
    pub first-is : first ≡ nat t.firsts r
    pub last-is : last ≡ nat t.firsts r + nat t.counts r

module _ {t : Tables} {by : List ℕ} {v r first last : ℕ} {start : List ℤ} {before : List ℕ} (K : Known t by v r first last start before) where
  inside : last ≤ length t.vars
  inside = let h = (K.laid.fits v r K.row start K.begun.right.in-values).suits.in-vars in let z = K.last-is in omega arith

  -- from the first place on it follows all that the formula looks at
  all_from : (g : Values) → asked_from (nat t.kinds r) g t.vars first last first ≡ (model t by).asks v g
  all_from g =
      asked-start (nat t.kinds r) g t.vars first last
      ∙ ap (looked (nat t.kinds r) g) (let z = K.last-is in let f = K.first-is in let d : last - first ≡ nat t.counts r = omega arith in rw (d, f))
      ∙ sym (row-asks t by v r K.row g)

  pub turn-start : InTurn t by v r first last first start (set before v 1) start (set before v 1)
  turn-start = record { from = omega arith; going = going_start (model t by) (lawful t by) (length by) v start before K.begun _ all_from }

  module _ {i : ℕ} {values : List ℤ} {states : List ℕ} (G : InTurn t by v r first last i start (set before v 1) values states) where
    pub turn_inside : last ≤ length t.vars
    turn_inside = inside

    pub turn-room : v < length values
    turn-room = let h = G.going.right.in-values in let l = K.begun.below in omega arith

    pub turn-fits : RowFits r t.kinds t.params t.firsts t.counts t.vars t.coefs values
    turn-fits = K.laid.fits v r K.row values G.going.right.in-values

    pub turn_end : last ≤ i → (y : ℤ) → y ≡ row_gives r t.kinds t.params t.firsts t.counts t.vars t.coefs values
        → Visited (model t by) (length by) v start before (set values v y) (set states v 2) 2
    turn_end h y p =
        going_end (model t by) (lawful t by) (length by) v start before K.begun _ values states G.going y
        (asked-end (nat t.kinds r) (values_of values) t.vars first last i h) (busy t by v r K.row) (p ∙ sym (row-form t by v r K.row (values_of values)))

    module _ (h : i < last) {u : ℕ} (here : u ≡ nat t.vars i) where
      -- the variable at place i, and those from the next place on
      next-is : (x : ℤ) (g : Values) → g u ≡ x
          → asked_from (nat t.kinds r) g t.vars first last i ≡ u ∷ asked_from (nat t.kinds r) g t.vars first last (next_place (nat t.kinds r) x i first last)
      next-is x g p =
          asked-next (nat t.kinds r) g t.vars first last i x G.from h inside (sym p ∙ ap g here)
          ∙ ap (◌∷ asked_from (nat t.kinds r) g t.vars first last (next_place (nat t.kinds r) x i first last)) (sym here)

      first-left : (g : Values) → Memᴰ u (asked_from (nat t.kinds r) g t.vars first last i)
      first-left g = subst (Memᴰ u) (sym (next-is (g u) g refl)) (Memᴰ.head refl)

      -- it can be visited, with fewer fresh variables than v met
      pub turn-call : (size (unbegun states) (length by) < size (unbegun before) (length by)) × (u < length by) × ValuesRight (model t by) (length by) values states
      turn-call =
          let m = (lawful t by).asks-in v (values_of values) u (G.going.rest (values_of values) (λ w s. refl) u (first-left (values_of values))) in (
            going_less (model t by) (lawful t by) (length by) v start before K.begun _ values states G.going,
            ltb-true u (length by) (all_in (λ w. ltb w (length by)) (part t r t.vars) (K.laid.inputs v r K.row) (subst (Memᴰ u) (row-ins t by v r K.row) m)),
            G.going.right,
          )

      module _ {values' : List ℤ} {states' : List ℕ} {found : ℕ} (W : Visited (model t by) (length by) u values states values' states' found) where
        pub turn-fail : found ≡ 1 → Visited (model t by) (length by) v start before values' states' 1
        turn-fail one = going-fail (model t by) (lawful t by) (length by) v start before K.begun _ values states G.going u found values' states' W one first-left

        pub turn-next : found ≢ 1 → (x : ℤ) (j : ℕ) → x ≡ values_of values' u → j ≡ next_place (nat t.kinds r) x i first last
            → InTurn t by v r first last j start (set before v 1) values' states'
        turn-next ne x j p q = rw q (record {
          from = let l = G.from in let d = turn-less (nat t.kinds r) x i (next_place (nat t.kinds r) x i first last) first last refl h in omega arith;
          going = going_step (model t by) (lawful t by) (length by) v u found _ _ start (set before v 1) values states values' states' G.going W ne (λ g a. next-is x g (a ∙ sym p));
        })
