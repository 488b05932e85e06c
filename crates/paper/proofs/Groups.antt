-- The numbers that groups share: from group to group every chain ends, so they exist and are the only ones that meet the paper's sentence; variables of one group
-- have the same, and an input from outside the group has a lower one. Assumes nothing.
use Prim.Native.Nat.{ℕ, zero, suc, ◌≤◌, ◌<◌}
use native.Mathlib.Nat.{le_refl}
use native.Mathlib.Omega.{arith}
use mathlib.Core.Logic.{inl, inr}
use mathlib.Core.Bool.{Bool, true, false, cond, false≢true}
use mathlib.Core.List.Memᴰ
use mathlib.Core.List.{List, [], ◌∷◌, map, Memᴰ}
use mathlib.Core.Path.{◌≡◌, refl, ap, ap₂, sym, ◌∙◌, subst}
use Rattle.paper.specs.Lists.{greatest}
use Rattle.paper.specs.Net.{Rule, runs, able, Depends, direct, through}
use Rattle.paper.specs.Tables.{Tables, is_made, inputs_of}
use Rattle.paper.proofs.Lists.{map_same}
use Rattle.paper.proofs.Fix.{Local, solution, able-suc}
use Rattle.paper.proofs.Lawful.{lawful}
use Rattle.paper.specs.Chains.{grouped, outside, group_numbering, group_number}
use Rattle.paper.proofs.Depends.{SameGroup, grouped-is, grouped-self}
use Rattle.paper.proofs.Outside.{Leads, outside-has, outside_low, outside-ends, outside-same}

greatest-le : {i : ℕ} (f : ℕ → ℕ) (xs : List ℕ) → Memᴰ i xs → f i ≤ greatest (map f xs)
greatest-le f (x ∷ xs) (Memᴰ.head q) = rw q (omega arith)
greatest-le f (x ∷ xs) (Memᴰ.tail m) = let h = greatest-le f xs m in omega arith
greatest-le {i = i} f [] x' = elim x' [ ]

greatest-most : (f : ℕ → ℕ) (k : ℕ) (xs : List ℕ) → ((i : ℕ) → f i ≤ k) → greatest (map f xs) ≤ k
greatest-most f k [] h = omega arith
greatest-most f k (x ∷ xs) h = let a = h x in let b = greatest-most f k xs h in omega arith

-- ── over any links below n, and any variables that count as made ──
module _ (dep : ℕ → List ℕ) (n : ℕ) (made : ℕ → Bool) where
  -- 0 at those not made; 1 plus the greatest among where the group's links lead out of it
  abbrev pub sharing : Rule ℕ
  sharing f v = cond (made v) (suc (greatest (map f (outside dep n v)))) zero

  abbrev pub shared : ℕ → ℕ
  shared = runs sharing (λ v. zero) n

  pub sharing-le : (k v : ℕ) → runs sharing (λ w. zero) k v ≤ k
  unfolding runs
  sharing-le zero v = le_refl zero
  sharing-le (suc k) v = go (made v) (greatest-most (runs sharing (λ w. zero) k) k (outside dep n v) (sharing-le k))
    where
      go : (b : Bool) → greatest (map (runs sharing (λ w. zero) k) (outside dep n v)) ≤ k → cond b (suc (greatest (map (runs sharing (λ w. zero) k) (outside dep n v)))) zero ≤ suc k
      go true h = omega arith
      go false h = omega arith

  module _ (below : (v i : ℕ) → Memᴰ i (dep v) → i < n) (0<n : 0 < n) where
    sharing-local : Local (outside dep n) sharing
    sharing-local f g v h = ap (λ l. cond (made v) (suc (greatest l)) zero) (map_same f g (outside dep n v) h)

    pub shared-equation : (v : ℕ) → shared v ≡ sharing shared v
    shared-equation = solution (outside dep n) sharing sharing-local (λ v. zero) n (outside-ends dep n below 0<n)

    -- numbers that meet the sentence at every variable below n are these
    pub shared-unique : (f : ℕ → ℕ) → ((v : ℕ) → v < n → f v ≡ sharing f v) → (v : ℕ) → v < n → f v ≡ shared v
    unfolding runs
    shared-unique f h v l = go n v l (outside-ends dep n below 0<n v)
      where
        go : (k u : ℕ) → u < n → able (outside dep n) k u ≡ true → f u ≡ shared u
        go zero u q e = absurd (false≢true e)
        go (suc k) u q e =
            h u q ∙ sharing-local f shared u (λ i m. go k i (outside_low dep n below u i m) (able-suc (outside dep n) k u e m)) ∙ sym (shared-equation u)

    pub shared_same : (v w : ℕ) → grouped dep n v w ≡ true → made v ≡ made w → shared v ≡ shared w
    shared_same v w e m =
        shared-equation v ∙ ap₂ (λ b l. cond b (suc (greatest (map shared l))) zero) m (outside-same dep n below v w e) ∙ sym (shared-equation w)

    pub shared-lower : (v i : ℕ) → made v ≡ true → Leads dep n v i → shared i < shared v
    shared-lower v i m h =
        let e = shared-equation v ∙ ap (λ b. cond b (suc (greatest (map shared (outside dep n v)))) zero) m in
        let l = greatest-le shared (outside dep n v) (outside-has dep n v i h) in
        omega arith

-- ── of tables ──
module _ (t : Tables) where
  pub group-le : (v : ℕ) → group_number t v ≤ t.n
  unfolding group_number
  group-le v = sharing-le (inputs_of t) t.n (is_made t) t.n v

  -- what has an input is made
  pub linked-made : (v i : ℕ) → Memᴰ i (inputs_of t v) → is_made t v ≡ true
  linked-made v i m = go (is_made t v) refl
    where
      go : (b : Bool) → is_made t v ≡ b → is_made t v ≡ true
      go true e = e
      go false e = absurd (Memᴰ.not-nil (subst (Memᴰ i) ((lawful t).bare v e) m))

  depends-made : {v w : ℕ} → Depends (inputs_of t) v w → is_made t v ≡ true
  depends-made (direct {v} {w} m) = linked-made v w m
  depends-made (through {v} {i} m d) = linked-made v i m

  same-made : (v w : ℕ) → SameGroup (inputs_of t) v w → is_made t v ≡ is_made t w
  same-made v w (inl e) = ap (is_made t) e
  same-made v w (inr d) = depends-made d.0 ∙ sym (depends-made d.1)

  module _ (below : (v i : ℕ) → Memᴰ i (inputs_of t v) → i < t.n) (0<n : 0 < t.n) where
    pub group-equation : (v : ℕ) → group_number t v ≡ group_numbering t (group_number t) v
    unfolding group_number
    group-equation v = shared-equation (inputs_of t) t.n (is_made t) below 0<n v

    pub group-unique : (f : ℕ → ℕ) → ((v : ℕ) → v < t.n → f v ≡ group_numbering t f v) → (v : ℕ) → v < t.n → f v ≡ group_number t v
    unfolding group_number
    group-unique f h v l = shared-unique (inputs_of t) t.n (is_made t) below 0<n f h v l

    -- variables of one group share the number
    pub group-same : (v w : ℕ) → grouped (inputs_of t) t.n v w ≡ true → group_number t v ≡ group_number t w
    unfolding group_number
    group-same v w e = shared_same (inputs_of t) t.n (is_made t) below 0<n v w e (same-made v w (grouped-is (inputs_of t) t.n below v w e))

    -- an input from outside the group has a lower one, and no input a higher one
    pub group-lower : (v i : ℕ) → v < t.n → Memᴰ i (inputs_of t v) → grouped (inputs_of t) t.n v i ≡ false → group_number t i < group_number t v
    unfolding group_number
    group-lower v i l m e = shared-lower (inputs_of t) t.n (is_made t) below 0<n v i (linked-made v i m) (record {
      from = v;
      low = l;
      here = grouped-self (inputs_of t) t.n below v;
      linked = m;
      out = e;
    })

    pub group-input : (v i : ℕ) → v < t.n → Memᴰ i (inputs_of t v) → group_number t i ≤ group_number t v
    group-input v i l m = go (grouped (inputs_of t) t.n v i) refl
      where
        go : (b : Bool) → grouped (inputs_of t) t.n v i ≡ b → group_number t i ≤ group_number t v
        go true e = let same = group-same v i e in omega arith
        go false e = let h = group-lower v i l m e in omega arith
