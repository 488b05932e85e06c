-- A row goes to its places in turn: at each to the variable there, and then to those from the next place on. So does one who goes through a list.
-- Assumes nothing.
use Prim.Native.Nat.{ℕ, suc, ◌+◌, ◌-◌, ◌≤◌, ◌<◌}
use native.Mathlib.Omega.{arith}
use mathlib.Core.List.{List, ◌∷◌, Memᴰ}
use mathlib.Core.Logic.{◌≢◌}
use mathlib.Core.Path.{◌≡◌, refl, ap, sym, ◌∙◌, subst}
use lib.Dec.{ltb}
use lib.IntN.{ℤ}
use lib.ListN.{length, drop, set, drop_of_length-le}
use borrow.Author.Tests.{ltb-true}
use Rattle.paper.specs.Lists.{nat, size}
use Rattle.paper.specs.Formula.{looked}
use Rattle.paper.specs.Tables.{Tables, part}
use Rattle.paper.proofs.Lists.{all_in}
use Rattle.paper.proofs.Scan.{next}
use Rattle.rows.specs.Asking.{next_place}
use Rattle.routes.specs.Reach.{Reaching}
use Rattle.routes.proofs.Members.{at_place}
use Rattle.routes.proofs.Reach.{reaching-step, reaching-skip}
use Rattle.closed_routes.specs.Walk.{unmarked, Walked, Walking}
use Rattle.closed_routes.proofs.Walks.{walking_start, walking-step, walking-long, walking-end, walking-less, walked-reached}
use Rattle.routes.specs.Rows.{values_of}
use Rattle.routes.specs.Work.{works_out, asked_from}
use Rattle.routes.proofs.Places.{asked-start, asked-end, asked-next}
use Rattle.routes.proofs.Asks.{lawful-work, busy, busy-below, row-asks, row-ins}
use Rattle.routes.proofs.InTurn.{turn-less}
use Rattle.closed_routes.specs.Looking.{looks_at, Lookable, AllLooked}

module _ (t : Tables) (work : List ℕ) (values : List ℤ) where
  abbrev from : ℕ → ℕ → ℕ → ℕ → List ℕ
  from r first last i = asked_from (nat t.kinds r) (values_of values) t.vars first last i

  -- row r, which makes v, has come to place i of those from first to last
  pub record InTurn (v r first last i : ℕ) (mid flags : List ℕ) : Type 0 where
    pub further : first ≤ i
    pub some : (u : ℕ) → Memᴰ u (from r first last i) → Memᴰ u (looks_at t work values v)
    pub walking : Walking (works_out t work) (looks_at t work values) v (λ u. Memᴰ u (from r first last i)) mid flags

  -- what is known while it does: r is the row of v, which has no flag before
  pub record Known (v r first last : ℕ) (before : List ℕ) : Type 0 where
    pub laid : Lookable t work values
    pub row : nat work v ≡ suc r
    pub room : length work ≤ length before
    pub unseen : nat before v ≢ 1
    pub first-is : first ≡ nat t.firsts r
    pub last-is : last ≡ nat t.firsts r + nat t.counts r

module _ {t : Tables} {work : List ℕ} {values : List ℤ} {v r first last : ℕ} {before : List ℕ} (K : Known t work values v r first last before) where
  low : v < length work
  low = busy-below t work v r K.row

  in-before : v < length before
  in-before = let l = low in let k = K.room in omega arith

  pub turn_inside : last ≤ length t.vars
  turn_inside = let h = K.laid.parts.inside v r K.row in let z = K.last-is in omega arith

  -- from the first place on it goes to all that the formula looks at
  all_from : from t work values r first last first ≡ looks_at t work values v
  all_from =
      asked-start (nat t.kinds r) (values_of values) t.vars first last
      ∙ ap (looked (nat t.kinds r) (values_of values)) (let z = K.last-is in let f = K.first-is in let d : last - first ≡ nat t.counts r = omega arith in rw (d, f))
      ∙ sym (row-asks t work v r K.row (values_of values))

  pub turn-start : InTurn t work values v r first last first (set before v 1) (set before v 1)
  turn-start = record {
    further = omega arith;
    some = λ u m. subst (Memᴰ u) all_from m;
    walking =
        subst (λ (l : List ℕ). Walking (works_out t work) (looks_at t work values) v (λ u. Memᴰ u l) (set before v 1) (set before v 1)) (sym all_from)
        (walking_start (works_out t work) (looks_at t work values) v (set before v 1));
  }

  module _ {i : ℕ} {flags : List ℕ} (G : InTurn t work values v r first last i (set before v 1) flags) where
    pub turn_end : last ≤ i → Walked (works_out t work) (looks_at t work values) v before flags
    turn_end h =
        walking-end (works_out t work) (looks_at t work values) v before in-before (λ u. Memᴰ u (from t work values r first last i)) flags G.walking (busy t work v r K.row)
        (λ u m. mathlib.Core.List.Memᴰ.not-nil (subst (Memᴰ u) (asked-end (nat t.kinds r) (values_of values) t.vars first last i h) m))

    module _ (h : i < last) {u : ℕ} (here : u ≡ nat t.vars i) where
      -- the variable at place i, and those from the next place on
      next-is : (x : ℤ) → x ≡ values_of values u → from t work values r first last i ≡ u ∷ from t work values r first last (next_place (nat t.kinds r) x i first last)
      next-is x p =
          asked-next (nat t.kinds r) (values_of values) t.vars first last i x G.further h turn_inside (p ∙ ap (values_of values) here)
          ∙ ap (◌∷ from t work values r first last (next_place (nat t.kinds r) x i first last)) (sym here)

      looked-here : Memᴰ u (looks_at t work values v)
      looked-here = G.some u (subst (Memᴰ u) (sym (next-is (values_of values u) refl)) (mathlib.Core.List.Memᴰ.head refl))

      -- the walk can go on to it, with fewer unmarked
      pub turn-call : (size (unmarked flags) (length work) < size (unmarked before) (length work)) × (u < length work) × (length work ≤ length flags)
      turn-call =
          let m = (lawful-work t work).asks-in v (values_of values) u looked-here in (
            walking-less (works_out t work) (looks_at t work values) v before in-before (λ w. Memᴰ w (from t work values r first last i)) flags G.walking (length work) low K.unseen,
            ltb-true u (length work) (all_in (λ w. ltb w (length work)) (part t r t.vars) (K.laid.parts.inputs v r K.row) (subst (Memᴰ u) (row-ins t work v r K.row) m)),
            (let long = walking-long (works_out t work) (looks_at t work values) v before in-before (λ w. Memᴰ w (from t work values r first last i)) flags G.walking in let k = K.room in omega arith),
          )

      pub turn-next : (x : ℤ) (j : ℕ) (flags' : List ℕ) → x ≡ values_of values u → j ≡ next_place (nat t.kinds r) x i first last
          → Walked (works_out t work) (looks_at t work values) u flags flags' → InTurn t work values v r first last j (set before v 1) flags'
      turn-next x j flags' p q W = rw q (record {
        further = let l = G.further in let d = turn-less (nat t.kinds r) x i (next_place (nat t.kinds r) x i first last) first last refl h in omega arith;
        some = λ w m. G.some w (subst (Memᴰ w) (sym (next-is x p)) (mathlib.Core.List.Memᴰ.tail m));
        walking =
            walking-step (works_out t work) (looks_at t work values) v (λ w. Memᴰ w (from t work values r first last i)) (set before v 1) flags G.walking
            (λ w. Memᴰ w (from t work values r first last (next_place (nat t.kinds r) x i first last))) u flags' (busy t work v r K.row) looked-here
            (λ w m. mathlib.Core.List.Memᴰ.cases_cons (subst (Memᴰ w) (next-is x p) m)) W;
      })

-- ── a list ──
module _ (t : Tables) (work : List ℕ) (values : List ℤ) (asked before : List ℕ) where
  -- its variables from place j on are left
  abbrev pub ListFrom : ℕ → List ℕ → Type 0
  ListFrom j = Reaching (works_out t work) (looks_at t work values) (λ u. Memᴰ u asked) (λ u. Memᴰ u (drop j asked)) before

  module _ (j : ℕ) (flags : List ℕ) (a : ListFrom j flags) where
    pub list-next : j < length asked → (x : ℕ) (flags' : List ℕ) → x ≡ nat asked j → Walked (works_out t work) (looks_at t work values) x flags flags' → ListFrom (j + 1) flags'
    list-next h x flags' e W =
        reaching-step (works_out t work) (looks_at t work values) (λ u. Memᴰ u asked) (λ u. Memᴰ u (drop j asked)) (λ u. Memᴰ u (drop (j + 1) asked)) before flags a x flags'
        (subst (λ z. Memᴰ z asked) (sym e) (at_place asked j h))
        (λ u m. mathlib.Core.List.Memᴰ.cases_cons (subst (Memᴰ u) (next asked j 0 h ∙ ap (◌∷ drop (j + 1) asked) (sym e)) m))
        (walked-reached (works_out t work) (looks_at t work values) x flags flags' a.closed W)

    pub list-end : length asked ≤ j → AllLooked t work values asked before flags
    list-end h =
        reaching-skip (works_out t work) (looks_at t work values) (λ u. Memᴰ u asked) (λ u. Memᴰ u (drop j asked)) (λ u. ⊥) before flags a
        (λ u g m. mathlib.Core.List.Memᴰ.not-nil (subst (Memᴰ u) (drop_of_length-le asked {i = j} h) m))
