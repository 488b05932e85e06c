-- Whether a chain closes, told by the numbers that groups share: an input in the group of what is made from it has the same number, and each other input a lower
-- one. A closed chain lies in one group; if it is permitted it passes through no index and not only through inputs of other kinds, so one of its links goes to a
-- candidate with the same number. Assumes nothing.
use Prim.Native.Nat.{ℕ, ◌≤◌, ◌<◌}
use native.Mathlib.Nat.{lt_irrefl}
use native.Mathlib.Omega.{arith}
use mathlib.Core.Logic.{◌⊎◌, inl, inr}
use mathlib.Core.Bool.{Bool, true, false, cond, not, ◌&&◌}
use mathlib.Core.List.Memᴰ
use mathlib.Core.List.{List, [], ◌∷◌, Memᴰ}
use mathlib.Core.Path.{◌≡◌, refl, ap, ap₂, sym, ◌∙◌, subst, subst⁻¹}
use lib.Dec.{leb}
use lib.ListN.{take, drop}
use borrow.Author.Tests.{leb-true, le-leb, not-true}
use Rattle.paper.specs.Lists.{nat, all_below}
use Rattle.paper.specs.Net.{Depends, direct, through}
use Rattle.paper.specs.Tables.{Tables, inputs_of, ends}
use Rattle.paper.specs.Chains.{depends, together, grouped, is_element, plain_inputs, indices, candidates, round_index, permitted, closes}
use Rattle.paper.proofs.Lists.{any-in, any-has, any_out, and_left, and_right, clash}
use Rattle.paper.proofs.Least.{all_below-at, below_all}
use Rattle.paper.proofs.Circle.{then, unable-comes, circle-unable}
use Rattle.paper.proofs.Depends.{Mutual, chain, SameGroup, depends-yes, depends-low, together-yes, grouped-yes, grouped-is}
use Rattle.paper.proofs.Groups.{group-same, group-lower}
use Rattle.order.specs.Formed.{Formed}
use Rattle.chains.specs.Links.{Grouped}
use Rattle.chains.specs.Level.{level_candidate}
use Rattle.chains.proofs.Candidates.{candidate-input}

module _ (t : Tables) (F : Formed t) where
  -- v is w or comes to it
  abbrev Reaches : ℕ → ℕ → Type 0
  Reaches v w = (v ≡ w) ⊎ Depends (inputs_of t) v w

  link_on : {v i w : ℕ} → Memᴰ i (inputs_of t v) → Reaches i w → Depends (inputs_of t) v w
  link_on {v} m (inl e) = direct (subst (λ j. Memᴰ j (inputs_of t v)) e m)
  link_on m (inr d) = through m d

  reach-on : {v a i : ℕ} → Reaches v a → Memᴰ i (inputs_of t a) → Depends (inputs_of t) v i
  reach-on {v} {a} {i} (inl e) m = subst⁻¹ (λ j. Depends (inputs_of t) j i) e (direct m)
  reach-on (inr d) m = then (inputs_of t) d m

  -- w comes to v, and from there by a link to i, and back to w
  module _ (w : ℕ) {v i : ℕ} (to : Reaches w v) (m : Memᴰ i (inputs_of t v)) (from : Reaches i w) where
    round-start : Mutual (inputs_of t) w v
    round-start = let back = link_on m from in go to back
      where
        go : Reaches w v → Depends (inputs_of t) v w → Mutual (inputs_of t) w v
        go (inl e) d = let r = subst (Depends (inputs_of t) v) e d in subst⁻¹ (λ j. Mutual (inputs_of t) j v) e (r, r)
        go (inr c) d = (c, d)

    round-end : Mutual (inputs_of t) w i
    round-end = let on = reach-on to m in go from on
      where
        go : Reaches i w → Depends (inputs_of t) w i → Mutual (inputs_of t) w i
        go (inl e) d = (d, subst⁻¹ (λ j. Depends (inputs_of t) j w) e (subst (Depends (inputs_of t) w) e d))
        go (inr c) d = (d, c)

  -- an index on it is found by the test
  index-found : (w : ℕ) {v i : ℕ} → Mutual (inputs_of t) w v → Mutual (inputs_of t) w i → Memᴰ i (indices t v) → permitted t w ≡ true → ⊥
  index-found w {v} {i} a b m ok =
      let found = any-in (λ j. together (inputs_of t) t.n w v && together (inputs_of t) t.n w j) (indices t v) m
      (ap₂ ◌&&◌ (together-yes (inputs_of t) t.n F.inputs-below w v a) (together-yes (inputs_of t) t.n F.inputs-below w i b)) in
      let off = and_right (not (depends (plain_inputs t) t.n w w)) (all_below (λ x. not (round_index t w x)) t.n) ok in
      clash found (not-true (round_index t w v) (all_below-at (λ x. not (round_index t w x)) t.n off v (depends-low (inputs_of t) t.n F.inputs-below a.0)))

  -- ── no candidate has the number of what is chosen from it ──
  module _ (numbers : List ℕ) (G : Grouped t numbers) (none : (v : ℕ) → v < t.n → level_candidate t numbers v ≡ false) where
    -- a link of a closed chain goes to no candidate
    no-candidate : (v i : ℕ) → v < t.n → grouped (inputs_of t) t.n v i ≡ true → i < t.n → Memᴰ i (candidates t v) → ⊥
    no-candidate v i l g k m =
        let out = any_out (λ j. leb (nat numbers v) (nat numbers j)) (candidates t v) (none v l) m in
        let same = G.shared.at v l ∙ group-same t F.inputs-below F.some v i g ∙ sym (G.shared.at i k) in
        clash (le-leb (nat numbers v) (nat numbers i) (omega arith)) out

    link-kind : (v i : ℕ) → Memᴰ i (inputs_of t v) → (Memᴰ i (plain_inputs t v)) ⊎ ((Memᴰ i (indices t v)) ⊎ (Memᴰ i (candidates t v)))
    link-kind v i m = go (is_element t v) (inputs_of t v) m
      where
        go : (b : Bool) (xs : List ℕ) → Memᴰ i xs
            → (Memᴰ i (cond b [] xs)) ⊎ ((Memᴰ i (cond b (take 1 xs) [])) ⊎ (Memᴰ i (cond b (drop 1 xs) [])))
        go false xs h = inl h
        go true (x ∷ xs) (Memᴰ.head q) = inr (inl (Memᴰ.head q))
        go true (x ∷ xs) (Memᴰ.tail h) = inr (inr h)
        go true [] h = elim h [ ]

    -- so each goes to an input that no choice decides
    link-plain : (w : ℕ) → w < t.n → {v i : ℕ} → Reaches w v → Memᴰ i (inputs_of t v) → Reaches i w → Memᴰ i (plain_inputs t v)
    link-plain w l {v} {i} to m from = go (link-kind v i m)
      where
        go : (Memᴰ i (plain_inputs t v)) ⊎ ((Memᴰ i (indices t v)) ⊎ (Memᴰ i (candidates t v))) → Memᴰ i (plain_inputs t v)
        go (inl h) = h
        go (inr (inl h)) = absurd (index-found w (round-start w to m from) (round-end w to m from) h (G.permitted w l))
        go (inr (inr h)) =
            let a = round-start w to m from in let b = round-end w to m from in
            absurd (no-candidate v i (depends-low (inputs_of t) t.n F.inputs-below a.0)
            (grouped-yes (inputs_of t) t.n F.inputs-below v i (inr (chain (inputs_of t) a.1 b.0, chain (inputs_of t) b.1 a.0))) (F.inputs-below v i m) h)

    plain-chain : (w : ℕ) → w < t.n → {v : ℕ} → Reaches w v → Depends (inputs_of t) v w → Depends (plain_inputs t) v w
    plain-chain w l to (direct m) = direct (link-plain w l to m (inl refl))
    plain-chain w l to (through m d) = through (link-plain w l to m (inr d)) (plain-chain w l (inr (reach-on to m)) d)

    -- and no closed chain of these is permitted
    no-round : (w : ℕ) → Depends (inputs_of t) w w → ⊥
    no-round w d =
        let l = depends-low (inputs_of t) t.n F.inputs-below d in
        let p = plain-chain w l (inl refl) d in
        let off = and_left (not (depends (plain_inputs t) t.n w w)) (all_below (λ x. not (round_index t w x)) t.n) (G.permitted w l) in
        clash (depends-yes (plain_inputs t) t.n (λ v i m. F.inputs-below v i (plain-input v i m)) w w l p) (not-true (depends (plain_inputs t) t.n w w) off)
      where
        plain-input : (v i : ℕ) → Memᴰ i (plain_inputs t v) → Memᴰ i (inputs_of t v)
        plain-input v i m = go (is_element t v) m
          where
            go : (b : Bool) → Memᴰ i (cond b [] (inputs_of t v)) → Memᴰ i (inputs_of t v)
            go true h = absurd (Memᴰ.not-nil h)
            go false h = h

    pub none-closes : false ≡ closes t
    none-closes = sym (ap not (below_all (ends t) t.n (λ v l. at v l (ends t v) refl)))
      where
        at : (v : ℕ) → v < t.n → (b : Bool) → ends t v ≡ b → ends t v ≡ true
        at v l true e = e
        at v l false e = let (w, c, d) = unable-comes (inputs_of t) t.n F.inputs-below v l e in absurd (no-round w d)

  -- ── some candidate has ──
  pub some-closes : (numbers : List ℕ) → Grouped t numbers → (v : ℕ) → v < t.n → level_candidate t numbers v ≡ true → true ≡ closes t
  some-closes numbers G v l e = sym (ap not (unequal (all_below (ends t) t.n) refl))
    where
      round : Depends (inputs_of t) v v
      round =
          let (i, m, h) = any-has (λ j. leb (nat numbers v) (nat numbers j)) (candidates t v) e in
          let k = candidate-input t v i m in
          group i k (leb-true (nat numbers v) (nat numbers i) h) (grouped (inputs_of t) t.n v i) refl
        where
          on : (i : ℕ) → Memᴰ i (inputs_of t v) → SameGroup (inputs_of t) v i → Depends (inputs_of t) v v
          on i m (inl q) = direct (subst⁻¹ (λ j. Memᴰ j (inputs_of t v)) q m)
          on i m (inr d) = through m d.1

          group : (i : ℕ) → Memᴰ i (inputs_of t v) → nat numbers v ≤ nat numbers i → (b : Bool) → grouped (inputs_of t) t.n v i ≡ b → Depends (inputs_of t) v v
          group i m h true q = on i m (grouped-is (inputs_of t) t.n F.inputs-below v i q)
          group i m h false q =
              let low = group-lower t F.inputs-below F.some v i l m q in
              let a = G.shared.at v l in let b = G.shared.at i (F.inputs-below v i m) in
              absurd (lt_irrefl (nat numbers v) (omega arith))

      unequal : (b : Bool) → all_below (ends t) t.n ≡ b → all_below (ends t) t.n ≡ false
      unequal true q = absurd (circle-unable (inputs_of t) t.n v round (all_below-at (ends t) t.n q v l))
      unequal false q = q
