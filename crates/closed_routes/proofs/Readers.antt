-- A walk along the rows that read a variable, which is marked before. Assumes nothing.
use Prim.Native.Nat.{ℕ, suc, ◌+◌, ◌≤◌, ◌<◌}
use native.Mathlib.Numerals.{add-one}
use native.Mathlib.Omega.{arith}
use mathlib.Core.Bool.{true}
use mathlib.Core.List.{List, ◌∷◌, map, Memᴰ}
use mathlib.Core.Logic.{◌≢◌}
use mathlib.Core.Path.{◌≡◌, refl, ap, sym, ◌∙◌, subst}
use lib.ListN.{length, set}
use lib.Seq.{slice}
use Rattle.paper.specs.Lists.{nat, size}
use Rattle.order.proofs.Visits.{left-next, left-none}
use Rattle.routes.specs.Sections.{section, made_from}
use Rattle.routes.specs.Readers.{variables}
use Rattle.routes.proofs.Members.{mapped}
use Rattle.closed_routes.specs.Walk.{unmarked, Walked, Walking}
use Rattle.closed_routes.specs.Readers.{LeadsUp}
use Rattle.closed_routes.proofs.Walks.{walking_start, walking-step, walking-long, walking-end, walking-less}

-- those from place i on are still to come
pub record Going (makes starts places : List ℕ) (v end : ℕ) (mid marks : List ℕ) (i : ℕ) : Type 0 where
  pub stop : end ≡ nat starts (suc v)
  pub rest : (r : ℕ) → Memᴰ r (slice i end places) → Memᴰ r (section starts places v)
  pub walking : Walking (λ u. true) (made_from makes starts places) v (λ x. Memᴰ x (map (nat makes) (slice i end places))) mid marks

-- what is known of v before it is marked
pub record Begun (makes starts places : List ℕ) (v : ℕ) (before : List ℕ) : Type 0 where
  pub upward : LeadsUp makes starts places
  pub low : suc v < length starts
  pub room : length starts ≤ suc (length before)

module _ {makes starts places : List ℕ} {v : ℕ} {before : List ℕ} (B : Begun makes starts places v before) where
  abbrev to : ℕ → List ℕ
  to = made_from makes starts places

  inside : v < length before
  inside = let h = B.low in let k = B.room in omega arith

  pub going_start : {i end : ℕ} → i ≡ nat starts v → end ≡ nat starts (v + 1) → Going makes starts places v end (set before v 1) (set before v 1) i
  going_start e q = rw (e, q ∙ ap (nat starts) (add-one v)) (record {
    stop = refl;
    rest = λ r m. m;
    walking = walking_start (λ u. true) to v (set before v 1);
  })

  module _ {end i : ℕ} {marks : List ℕ} (G : Going makes starts places v end (set before v 1) marks i) where
    -- the places that are left
    abbrev left : ℕ → List ℕ
    left j = slice j end places

    pub going_end : end ≤ i → Walked (λ u. true) to v before marks
    going_end h =
        walking-end (λ u. true) to v before inside (λ x. Memᴰ x (map (nat makes) (left i))) marks G.walking refl
        (λ x m. mathlib.Core.List.Memᴰ.not-nil (subst (λ (rs : List ℕ). Memᴰ x (map (nat makes) rs)) (left-none places i end h) m))

    module _ (p : i < end) where
      pub going-inside : end ≤ length places
      going-inside = let a = G.stop in let b = B.upward.inside v B.low in omega arith

      module _ {r : ℕ} (q : r ≡ nat places i) where
        here : left i ≡ r ∷ left (i + 1)
        here = left-next places i end r p going-inside q

        reader : Memᴰ r (section starts places v)
        reader = G.rest r (subst (Memᴰ r) (sym here) (mathlib.Core.List.Memᴰ.head refl))

        pub going-row : r < length makes
        going-row = B.upward.row v r reader

        module _ {x : ℕ} (e : x ≡ nat makes r) where
          made : Memᴰ x (to v)
          made = subst (λ y. Memᴰ y (to v)) (sym e) (mapped (nat makes) (section starts places v) reader)

          -- the walk can go on to what the next reader makes, with fewer unmarked
          pub going-call : nat before v ≢ 1 → (size (unmarked marks) (variables starts) < size (unmarked before) (variables starts)) × (suc x < length starts) × (length starts ≤ suc (length marks))
          going-call ne = (
            walking-less (λ u. true) to v before inside (λ y. Memᴰ y (map (nat makes) (left i))) marks G.walking (variables starts) (let h = B.low in omega arith) ne,
            rw e (B.upward.below v r reader),
            (let long = walking-long (λ u. true) to v before inside (λ y. Memᴰ y (map (nat makes) (left i))) marks G.walking in let h = B.room in omega arith),
          )

          pub going_step : {after : List ℕ} → Walked (λ u. true) to x marks after → Going makes starts places v end (set before v 1) after (i + 1)
          going_step {after} w = record {
            stop = G.stop;
            rest = λ s m. G.rest s (subst (Memᴰ s) (sym here) (mathlib.Core.List.Memᴰ.tail m));
            walking =
                walking-step (λ u. true) to v (λ y. Memᴰ y (map (nat makes) (left i))) (set before v 1) marks G.walking (λ y. Memᴰ y (map (nat makes) (left (i + 1)))) x after refl made
                (λ y m. mathlib.Core.List.Memᴰ.cases_cons (subst (Memᴰ y) (ap (map (nat makes)) here ∙ ap (◌∷ map (nat makes) (left (i + 1))) (sym e)) m)) w;
          }
