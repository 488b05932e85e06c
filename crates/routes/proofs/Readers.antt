-- A walk along the rows that read a variable: what they make is made from it, so its topological number is the greater and its distance to the
-- greatest the less. Assumes nothing.
use Prim.Native.Nat.{ℕ, zero, suc, ◌+◌, ◌≤◌, ◌<◌}
use native.Mathlib.Numerals.{add-one}
use native.Mathlib.Omega.{arith}
use mathlib.Core.Bool.{true, false, true≢false}
use mathlib.Core.List.Memᴰ
use mathlib.Core.List.{List, [], ◌∷◌, map, Memᴰ}
use mathlib.Core.Path.{◌≡◌, refl, ap, sym, ◌∙◌, subst}
use lib.Dec.{eqb}
use lib.ListN.{length, set}
use lib.Seq.{slice}
use Rattle.paper.specs.Lists.{any, nat}
use Rattle.paper.specs.Net.{able, runs}
use Rattle.paper.proofs.Straight.{number}
use Rattle.paper.proofs.Lists.{all_in, all_of, any-in, eqb-self}
use Rattle.paper.proofs.Lawful.{Lawful}
use Rattle.paper.proofs.Numbers.{lower-input, number-right, number-le}
use Rattle.paper.proofs.Those.{those-has}
use Rattle.order.proofs.Visits.{left-next, left-none}
use Rattle.routes.specs.Reach.{Reached, Reaching}
use Rattle.routes.specs.Sections.{section, made_from}
use Rattle.routes.specs.Readers.{variables, read_from, index_net, distance, Upward, Markable}
use Rattle.routes.proofs.Members.{mapped}
use Rattle.routes.proofs.Reach.{reaching-start, reaching-step, reached-own}

-- chains end where there are fewer inputs
pub able-fewer : (dep less : ℕ → List ℕ) → ((v i : ℕ) → Memᴰ i (less v) → Memᴰ i (dep v)) → (k v : ℕ) → able dep k v ≡ true → able less k v ≡ true
unfolding runs
able-fewer dep less h zero v e = e
able-fewer dep less h (suc k) v e = all_of (able less k) (less v) (λ i m. able-fewer dep less h k i (all_in (able dep k) (dep v) e (h v i m)))

-- ── the walk along the readers of v ──
-- those from place i on are still to come
pub record Going (makes starts places : List ℕ) (v end : ℕ) (before marks : List ℕ) (i : ℕ) : Type 0 where
  pub stop : end ≡ nat starts (suc v)
  pub rest : (r : ℕ) → Memᴰ r (slice i end places) → Memᴰ r (section starts places v)
  pub reaching :
      Reaching (λ u. true) (made_from makes starts places) (λ x. Memᴰ x (made_from makes starts places v)) (λ x. Memᴰ x (map (nat makes) (slice i end places))) before marks

module _ (makes starts places : List ℕ) (U : Upward makes starts places) where
  abbrev to : ℕ → List ℕ
  to = made_from makes starts places

  -- ── the numbers rise from a variable to what is made from it ──
  lawful-index : Lawful (index_net makes starts places)
  unfolding index_net
  lawful-index = record { bare = λ x e. empty (read_from makes starts places x) e; asks-in = λ v f i m. absurd (Memᴰ.not-nil m); looks = λ v f g h. refl; asks-same = λ v f g h. refl }
    where
      empty : (xs : List ℕ) → any (λ v. true) xs ≡ false → xs ≡ []
      empty [] e = refl
      empty (x ∷ xs) e = absurd (true≢false e)

  rises : (v x : ℕ) → suc v < length starts → Memᴰ x (to v) → distance makes starts places x < distance makes starts places v
  unfolding read_from index_net distance
  rises v x l m =
      let N = index_net makes starts places in
      let from = those-has (λ u. any (eqb x) (to u)) (variables starts) v (omega arith) (any-in (eqb x) (to v) m (eqb-self x)) in
      let a = lower-input N lawful-index (number N (variables starts)) x v (number-right N lawful-index (variables starts) U.ends x) from in
      let b = number-le N (variables starts) x in
      omega arith

  pub going_start : (v i end : ℕ) (marks : List ℕ) → Markable makes starts places marks → i ≡ nat starts v → end ≡ nat starts (v + 1)
      → Going makes starts places v end marks marks i
  going_start v i end marks M e q = rw (e, q ∙ ap (nat starts) (add-one v)) (record {
    stop = refl;
    rest = λ r m. m;
    reaching = reaching-start (λ u. true) to (λ x. Memᴰ x (to v)) marks M.closed;
  })

  module _ (v end i : ℕ) (before marks : List ℕ) (G : Going makes starts places v end before marks i) where
    -- the places that are left
    abbrev on : ℕ → List ℕ
    on j = slice j end places

    pub going-room : length starts ≤ suc (length before) → length starts ≤ suc (length marks)
    going-room h = let e = G.reaching.long in omega arith

    pub going_end : end ≤ i → v < length marks → Reached (λ u. true) to v before (set marks v 1)
    going_end h l =
        reached-own (λ u. true) to v (λ x. Memᴰ x (map (nat makes) (on i))) before marks refl l
        (λ x m. Memᴰ.not-nil (subst (λ (rs : List ℕ). Memᴰ x (map (nat makes) rs)) (left-none places i end h) m)) G.reaching

    module _ (l : suc v < length starts) (p : i < end) where
      pub going-inside : end ≤ length places
      going-inside = let a = G.stop in let b = U.inside v l in omega arith

      module _ (r : ℕ) (q : r ≡ nat places i) where
        here : on i ≡ r ∷ on (i + 1)
        here = left-next places i end r p going-inside q

        reader : Memᴰ r (section starts places v)
        reader = G.rest r (subst (Memᴰ r) (sym here) (Memᴰ.head refl))

        pub going-row : r < length makes
        going-row = U.row v r reader

        module _ (x : ℕ) (e : x ≡ nat makes r) where
          made : Memᴰ x (to v)
          made = subst (λ y. Memᴰ y (to v)) (sym e) (mapped (nat makes) (section starts places v) reader)

          -- what the next reader makes may be marked
          pub going-call : length starts ≤ suc (length before)
              → (distance makes starts places x < distance makes starts places v) × (suc x < length starts) × Markable makes starts places marks
          going-call h = (rises v x l made, rw e (U.below v r reader), record { room = going-room h; closed = G.reaching.closed })

          pub going_step : (after : List ℕ) → Reached (λ u. true) to x marks after → Going makes starts places v end before after (i + 1)
          going_step after w = record {
            stop = G.stop;
            rest = λ s m. G.rest s (subst (Memᴰ s) (sym here) (Memᴰ.tail m));
            reaching =
                reaching-step (λ u. true) to (λ y. Memᴰ y (to v)) (λ y. Memᴰ y (map (nat makes) (on i))) (λ y. Memᴰ y (map (nat makes) (on (i + 1))))
                before marks G.reaching x after made (λ y m. Memᴰ.cases_cons (subst (Memᴰ y) (ap (map (nat makes)) here ∙ ap (◌∷ map (nat makes) (on (i + 1))) (sym e)) m)) w;
          }
