-- Topological numbers: a table that meets the paper's sentence numbers inputs lower, so no variable depends on itself; where every chain of
-- inputs ends such a table exists, and it is the only one. Assumes nothing.
use Prim.Native.Nat.{ℕ, zero, suc, ◌≤◌, ◌<◌}
use native.Mathlib.Nat.{lt_irrefl, lt_trans, le_refl}
use native.Mathlib.Omega.{arith}
use mathlib.Core.Bool.{Bool, true, false, cond}
use mathlib.Core.List.Memᴰ
use mathlib.Core.List.{List, [], ◌∷◌, map, Memᴰ}
use mathlib.Core.Path.{◌≡◌, refl, ap, subst}
use Rattle.paper.specs.Lists.{greatest}
use Rattle.paper.specs.Net.{Net, runs, able, Depends, direct, through}
use Rattle.paper.proofs.Straight.{numbering, number}
use Rattle.paper.proofs.Lists.{map_same}
use Rattle.paper.proofs.Fix.{Local, unique, solution}
use Rattle.paper.proofs.Lawful.{Lawful}

greatest-le : {i : ℕ} (f : ℕ → ℕ) (xs : List ℕ) → Memᴰ i xs → f i ≤ greatest (map f xs)
greatest-le f (x ∷ xs) (Memᴰ.head q) = rw q (omega arith)
greatest-le f (x ∷ xs) (Memᴰ.tail m) = let h = greatest-le f xs m in omega arith
greatest-le {i = i} f [] x' = elim x' [ ]

module _ (N : Net) where
  -- a table of numbers that meets the paper's sentence at every variable
  abbrev pub Numbers : (ℕ → ℕ) → Type 0
  Numbers num = (v : ℕ) → num v ≡ numbering N num v

  -- one that meets it at v and at all that v depends on
  pub record Meets (num : ℕ → ℕ) (v : ℕ) : Type 0 where
    pub here : num v ≡ numbering N num v
    pub further : (w : ℕ) → Depends N.ins v w → num w ≡ numbering N num w

  -- v can have a topological number of its own
  abbrev pub CanHave : ℕ → Type 0
  CanHave v = (num : ℕ → ℕ) × Meets num v

  pub numbering-local : Local N.ins (numbering N)
  numbering-local f g v h = ap (λ l. cond (N.made v) (suc (greatest l)) zero) (map_same f g (N.ins v) h)

module _ (N : Net) (L : Lawful N) where
  -- ── inputs are numbered lower ──
  pub lower-input : (num : ℕ → ℕ) (v i : ℕ) → num v ≡ numbering N num v → Memᴰ i (N.ins v) → num i < num v
  lower-input num v i h m = go (N.made v) refl h
    where
      go : (b : Bool) → N.made v ≡ b → num v ≡ cond b (suc (greatest (map num (N.ins v)))) zero → num i < num v
      go true q e = let l = greatest-le num (N.ins v) m in omega arith
      go false q e = absurd (Memᴰ.not-nil (subst (Memᴰ i) (L.bare v q) m))

  -- where the sentence is met at v and at all that v depends on
  input-meets : (num : ℕ → ℕ) {v i : ℕ} → Meets N num v → Memᴰ i (N.ins v) → Meets N num i
  input-meets num {v} {i} h m = record { here = h.further i (direct m); further = λ w d. h.further w (through m d) }

  pub lower : (num : ℕ → ℕ) {v w : ℕ} → Meets N num v → Depends N.ins v w → num w < num v
  lower num h (direct {v} {w} m) = lower-input num v w h.here m
  lower num h (through {v} {i} m d) = lt_trans (lower num (input-meets num h m) d) (lower-input num v i h.here m)

  -- so no table is right where some variable depends on itself
  pub circular-unnumbered : (num : ℕ → ℕ) → Numbers N num → (v : ℕ) → Depends N.ins v v → ⊥
  circular-unnumbered num h v d = lt_irrefl (num v) (lower num (record { here = h v; further = λ w e. h w }) d)

  -- ── where every chain ends ──
  module _ (k : ℕ) (ends : (v : ℕ) → able N.ins k v ≡ true) where
    -- the definition's numbers are right, and a table that is right is the definition's
    pub number-right : Numbers N (number N k)
    number-right = solution N.ins (numbering N) (numbering-local N) (λ v. zero) k ends

    pub numbers-unique : (a b : ℕ → ℕ) → Numbers N a → Numbers N b → (v : ℕ) → a v ≡ b v
    numbers-unique a b ha hb v = unique N.ins (numbering N) (numbering-local N) a b ha hb k v (ends v)

-- ── a number is at most the number of variables ──
greatest-bound : (f : ℕ → ℕ) (k : ℕ) (xs : List ℕ) → ((i : ℕ) → f i ≤ k) → greatest (map f xs) ≤ k
greatest-bound f k [] h = omega arith
greatest-bound f k (x ∷ xs) h = let a = h x in let b = greatest-bound f k xs h in omega arith

pub number-le : (N : Net) (k v : ℕ) → number N k v ≤ k
unfolding runs
number-le N zero v = le_refl zero
number-le N (suc k) v = go (N.made v) (greatest-bound (number N k) k (N.ins v) (number-le N k))
  where
    go : (b : Bool) → greatest (map (number N k) (N.ins v)) ≤ k → cond b (suc (greatest (map (number N k) (N.ins v)))) zero ≤ suc k
    go true h = omega arith
    go false h = omega arith
