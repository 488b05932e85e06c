-- A row asks its inputs in turn: at each place the variable there, then those from the next place on, and at the end the row itself. So does
-- one who asks a list. Assumes nothing.
use Prim.Native.Nat.{ℕ, suc, ◌+◌, ◌-◌, ◌≤◌, ◌<◌}
use native.Mathlib.Omega.{arith}
use mathlib.Core.Bool.{Bool, true, false, cond}
use mathlib.Core.List.Memᴰ
use mathlib.Core.List.{List, ◌∷◌, Memᴰ}
use mathlib.Core.Logic.{◌⊎◌, inl, inr}
use mathlib.Core.Path.{◌≡◌, refl, ap, sym, ◌∙◌, subst}
use lib.Dec.{eqb, ltb}
use lib.IntN.{ℤ, pos, negsuc}
use lib.ListN.{length, drop, set, drop_of_length-le}
use borrow.Author.Tests.{eqb-true}
use Rattle.paper.specs.Lists.{nat}
use Rattle.paper.specs.Formula.{looked}
use Rattle.paper.specs.Net.{Values}
use Rattle.paper.specs.Tables.{Tables}
use Rattle.paper.proofs.Scan.{next}
use Rattle.rows.specs.Asking.{chosen_place, next_place}
use Rattle.routes.proofs.Members.{at_place}
use Rattle.routes.proofs.Reach.{reaching-skip}
use Rattle.routes.specs.Rows.{values_of, RowFits, row_gives}
use Rattle.routes.specs.Work.{depth, RowsWorkable, worked_out, asks_out, Ready, Asked, Asking, AllAsked, works_out, asked_from}
use Rattle.routes.proofs.Places.{asked-start, asked-end, asked-next}
use Rattle.routes.proofs.Asks.{row-asks, asks-below, asked-value, asking-start, asking-same, asking-ready, asking-step, asked-row, busy-below}

-- the first of a list, or one of the others
split : (u x : ℕ) (rest : List ℕ) → Memᴰ u (x ∷ rest) → (u ≡ x) ⊎ Memᴰ u rest
split u x rest (Memᴰ.head e) = inl e
split u x rest (Memᴰ.tail m) = inr m

-- the next place is further on
next-on : (kind : ℕ) (x : ℤ) (i first last : ℕ) → i < last → i < next_place kind x i first last
unfolding next_place
next-on kind x i first last h = go (eqb kind 4) (eqb i first) refl
  where
    chosen_on : (z : ℤ) → i ≡ first → i < chosen_place z first last
    chosen_on (negsuc k) e = h
    chosen_on (pos k) e = side (ltb (first + 1 + k) last)
      where
        side : (b : Bool) → i < cond b (first + 1 + k) last
        side true = omega arith
        side false = h

    go : (a b : Bool) → eqb i first ≡ b → i < cond a (cond b (chosen_place x first last) last) (i + 1)
    go true true e = chosen_on x (eqb-true i first e)
    go true false e = h
    go false b e = omega arith

pub turn-less : (kind : ℕ) (x : ℤ) (i j first last : ℕ) → j ≡ next_place kind x i first last → i < last → last - j < last - i
turn-less kind x i j first last e h = let k = next-on kind x i first last h in omega arith

module _ (t : Tables) (work : List ℕ) (v r : ℕ) where
  -- the variables that the row of v asks, and those of them from place i on
  abbrev Goal : List ℤ → ℕ → Type 0
  Goal trial u = Memᴰ u (asks_out t work trial v)

  abbrev From : List ℤ → ℕ → ℕ → ℕ → ℕ → Type 0
  From trial first last i u = Memᴰ u (asked_from (nat t.kinds r) (worked_out t work trial) t.vars first last i)

  -- the row has come to place i of those from first to last
  pub record InTurn (first last i : ℕ) (trial : List ℤ) (flags : List ℕ) (trial' : List ℤ) (flags' : List ℕ) : Type 0 where
    pub first-is : first ≡ nat t.firsts r
    pub last-is : last ≡ nat t.firsts r + nat t.counts r
    pub from : first ≤ i
    pub some : (u : ℕ) → From trial first last i u → Goal trial u
    pub asking : Asking t work (Goal trial) (From trial first last i) trial flags trial' flags'

-- the row of v is to be worked out
pub record Started (t : Tables) (work : List ℕ) (v r : ℕ) (trial : List ℤ) (flags : List ℕ) : Type 0 where
  pub workable : RowsWorkable t work
  pub row : nat work v ≡ suc r
  pub ready : Ready t work trial flags

module _ {t : Tables} {work : List ℕ} {v r : ℕ} {trial : List ℤ} {flags : List ℕ} (S : Started t work v r trial flags) where
  abbrev w : RowsWorkable t work
  w = S.workable

  abbrev ready : Ready t work trial flags
  ready = S.ready

  -- the variables that the row asks, and those of them from place i on
  abbrev goal : ℕ → Type 0
  goal = Goal t work v r trial

  abbrev left : ℕ → ℕ → ℕ → ℕ → Type 0
  left = From t work v r trial

  pub turn-fits : {l : List ℤ} → length l ≡ length trial → RowFits r t.kinds t.params t.firsts t.counts t.vars t.coefs l
  turn-fits {l} long = w.fits v r S.row l (let k = ready.in-trial in omega arith)

  module _ {first last : ℕ} (f : first ≡ nat t.firsts r) (z : last ≡ nat t.firsts r + nat t.counts r) where
    -- from the first place on it asks all that it asks
    all_from : asked_from (nat t.kinds r) (worked_out t work trial) t.vars first last first ≡ asks_out t work trial v
    all_from =
        asked-start (nat t.kinds r) (worked_out t work trial) t.vars first last
        ∙ ap (looked (nat t.kinds r) (worked_out t work trial)) (let d : last - first ≡ nat t.counts r = omega arith in rw (d, f))
        ∙ sym (row-asks t work v r S.row (worked_out t work trial))

    pub turn-start : InTurn t work v r first last first trial flags trial flags
    turn-start = record {
      first-is = f;
      last-is = z;
      from = omega arith;
      some = λ u m. subst (Memᴰ u) all_from m;
      asking = subst (λ (l : List ℕ). Asking t work (goal) (λ u. Memᴰ u l) trial flags trial flags) (sym all_from) (asking-start t work w (goal) trial flags ready);
    }

  module _ {first last i : ℕ} {trial' : List ℤ} {flags' : List ℕ} (g : InTurn t work v r first last i trial flags trial' flags') where
    pub turn_inside : last ≤ length t.vars
    turn_inside = let k = (turn-fits {l = trial} refl).suits.in-vars in let z = g.last-is in omega arith

    pub turn-room : (v < length trial') × (v < length flags')
    turn-room =
        let k = busy-below t work v r S.row in let p = ready.in-trial in let q = ready.in-flags in let y = g.asking.long in let z = g.asking.reaching.long in
        (omega arith, omega arith)

    module _ (h : i < last) {u : ℕ} (here : u ≡ nat t.vars i) where
      -- the variable at place i, and those from the next place on
      next-is : (x : ℤ) → x ≡ worked_out t work trial u
          → asked_from (nat t.kinds r) (worked_out t work trial) t.vars first last i
          ≡ u ∷ asked_from (nat t.kinds r) (worked_out t work trial) t.vars first last (next_place (nat t.kinds r) x i first last)
      next-is x p =
          asked-next (nat t.kinds r) (worked_out t work trial) t.vars first last i x g.from h turn_inside (p ∙ ap (worked_out t work trial) here)
          ∙ ap (◌∷ asked_from (nat t.kinds r) (worked_out t work trial) t.vars first last (next_place (nat t.kinds r) x i first last)) (sym here)

      asked_here : goal u
      asked_here = g.some u (subst (Memᴰ u) (sym (next-is (worked_out t work trial u) refl)) (Memᴰ.head refl))

      -- it stands lower, has room, and can be asked
      pub turn-call : (depth t work u < depth t work v) × (u < length work) × Ready t work trial' flags'
      turn-call =
          let k = asks-below t work w v r S.row (worked_out t work trial) u asked_here in
          (k.0, k.1, asking-ready t work w (goal) (left first last i) trial flags trial' flags' g.asking ready)

      pub turn-next : {x : ℤ} {j : ℕ} {trial'' : List ℤ} {flags'' : List ℕ} → x ≡ values_of trial'' u → j ≡ next_place (nat t.kinds r) x i first last
          → Asked t work u trial' flags' trial'' flags'' → InTurn t work v r first last j trial flags trial'' flags''
      turn-next {x} {j} {trial''} {flags''} p q a = rw q (record {
        first-is = g.first-is;
        last-is = g.last-is;
        from = let l = g.from in let k = next-on (nat t.kinds r) x i first last h in omega arith;
        some = λ o m. g.some o (subst (Memᴰ o) (sym (next-is x value)) (Memᴰ.tail m));
        asking =
            asking-step t work w (goal) (left first last i) trial flags trial' flags' g.asking (left first last (next_place (nat t.kinds r) x i first last)) u trial'' flags''
            asked_here (λ o m. split o u _ (subst (Memᴰ o) (next-is x value) m)) a;
      })
        where
          value : x ≡ worked_out t work trial u
          value = p ∙ asked-value t work u trial' flags' trial'' flags'' a ∙ ap (λ (f : Values). f u) (asking-same t work w (goal) (left first last i) trial flags trial' flags' g.asking)

    pub turn_end : last ≤ i → {y : ℤ} → y ≡ row_gives r t.kinds t.params t.firsts t.counts t.vars t.coefs trial'
        → (y ≡ worked_out t work trial v) × Asked t work v trial flags (set trial' v y) (set flags' v 1)
    turn_end h {y} p =
        asked-row t work w v r S.row (left first last i) trial flags trial' flags' y ready g.asking
        (λ u m. Memᴰ.not-nil (subst (Memᴰ u) (asked-end (nat t.kinds r) (worked_out t work trial) t.vars first last i h) m)) p

-- ── a list ──
module _ (t : Tables) (work asked : List ℕ) (trial : List ℤ) (flags : List ℕ) where
  -- its variables from place j on are left
  abbrev pub ListFrom : ℕ → List ℤ → List ℕ → Type 0
  ListFrom j = Asking t work (λ u. Memᴰ u asked) (λ u. Memᴰ u (drop j asked)) trial flags

  module _ (w : RowsWorkable t work) (j : ℕ) (trial' : List ℤ) (flags' : List ℕ) (a : ListFrom j trial' flags') where
    pub list-next : j < length asked → (x : ℕ) (trial'' : List ℤ) (flags'' : List ℕ) → x ≡ nat asked j → Asked t work x trial' flags' trial'' flags'' → ListFrom (j + 1) trial'' flags''
    list-next h x trial'' flags'' e b =
        asking-step t work w (λ u. Memᴰ u asked) (λ u. Memᴰ u (drop j asked)) trial flags trial' flags' a (λ u. Memᴰ u (drop (j + 1) asked)) x trial'' flags''
        (subst (λ z. Memᴰ z asked) (sym e) (at_place asked j h))
        (λ u m. split u x (drop (j + 1) asked) (subst (Memᴰ u) (next asked j 0 h ∙ ap (◌∷ drop (j + 1) asked) (sym e)) m)) b

    pub list-end : length asked ≤ j → AllAsked t work asked trial flags trial' flags'
    list-end h = record {
      reaching =
          reaching-skip (works_out t work) (asks_out t work trial) (λ u. Memᴰ u asked) (λ u. Memᴰ u (drop j asked)) (λ u. ⊥) flags flags' a.reaching
          (λ u g m. Memᴰ.not-nil (subst (Memᴰ u) (drop_of_length-le asked {i = j} h) m));
      holds = a.holds;
      still = a.still;
      long = a.long;
    }
