-- A chain of inputs that goes on for n steps, n being the number of variables, passes some variable twice. So a variable from which some chain does not end
-- comes to one that depends on itself, and can have no topological number of its own. Assumes nothing.
use Prim.Native.Nat.{ℕ, zero, suc, ◌+◌, ◌≤◌, ◌<◌}
use native.Mathlib.Nat.{lt_irrefl, not-suc-le-zero}
use native.Mathlib.Omega.{arith}
use mathlib.Core.Bool.{Bool, true, false, false≢true}
use mathlib.Core.List.Memᴰ
use mathlib.Core.List.{List, [], ◌∷◌, Memᴰ}
use mathlib.Core.Logic.{◌⊎◌, inl, inr}
use mathlib.Core.Path.{◌≡◌, refl, ap}
use lib.Dec.{eqb}
use lib.ListN.{length}
use borrow.Author.Tests.{eqb-true}
use Rattle.paper.specs.Lists.{any, all}
use Rattle.paper.specs.Net.{Net, runs, able, Depends, direct, through}
use Rattle.paper.proofs.Lists.{all-lacks, any-has}
use Rattle.paper.proofs.Count.{Distinct, distinct-length}
use Rattle.paper.proofs.Fix.{able-suc}
use Rattle.paper.proofs.Lawful.{Lawful}
use Rattle.paper.proofs.Numbers.{Numbers, CanHave, lower, circular-unnumbered}

-- ── chains, whatever a variable's inputs are ──
module _ (dep : ℕ → List ℕ) where
  pub then : {v i w : ℕ} → Depends dep v i → Memᴰ w (dep i) → Depends dep v w
  then (direct m) n = through m (direct n)
  then (through m d) n = through m (then d n)

  -- a variable that depends on itself fails the test, however long it goes on
  pub circle-unable : (k v : ℕ) → Depends dep v v → able dep k v ≡ true → ⊥
  unfolding runs
  circle-unable zero v d e = false≢true e
  circle-unable (suc k) v (direct m) e = circle-unable k v (direct m) (able-suc dep k v e m)
  circle-unable (suc k) v (through {i} m d) e = circle-unable k i (then d m) (able-suc dep k v e m)

  -- one that fails has an input that fails one step sooner
  unable-input : (k v : ℕ) → able dep (suc k) v ≡ false → (i : ℕ) × Memᴰ i (dep v) × (able dep k i ≡ false)
  unfolding runs
  unable-input k v e = all-lacks (able dep k) (dep v) e

  -- v comes to a variable that depends on itself
  abbrev pub Comes : ℕ → Type 0
  Comes v = (w : ℕ) × ((v ≡ w) ⊎ Depends dep v w) × Depends dep w w

  module _ (n : ℕ) (below : (v i : ℕ) → Memᴰ i (dep v) → i < n) (start : ℕ) where
    -- a walk down the inputs: `seen` lists the variables passed, v is the one reached
    pub record Walk (v : ℕ) (seen : List ℕ) : Type 0 where
      pub here : v < n
      pub there : (i : ℕ) → Memᴰ i seen → i < n
      pub down : (i : ℕ) → Memᴰ i seen → Depends dep i v
      pub once : Distinct seen
      pub from : (start ≡ v) ⊎ Depends dep start v

    passed : {v : ℕ} {seen : List ℕ} → Walk v seen → (i : ℕ) → Memᴰ i (v ∷ seen) → i < n
    passed w i (Memᴰ.head q) = rw q w.here
    passed w i (Memᴰ.tail m) = w.there i m

    further : {v j : ℕ} {seen : List ℕ} → Walk v seen → Memᴰ j (dep v) → any (eqb v) seen ≡ false → Walk j (v ∷ seen)
    further {v} {j} {seen} w m new = record { here = below v j m; there = passed w; down = on; once = (new, w.once); from = come w.from }
      where
        on : (i : ℕ) → Memᴰ i (v ∷ seen) → Depends dep i j
        on i (Memᴰ.head q) = rw q (direct m)
        on i (Memᴰ.tail t) = then (w.down i t) m

        come : (start ≡ v) ⊎ Depends dep start v → (start ≡ j) ⊎ Depends dep start j
        come (inl e) = inr (rw e (direct m))
        come (inr d) = inr (then d m)

    twice : {v : ℕ} {seen : List ℕ} → Walk v seen → any (eqb v) seen ≡ true → Comes start
    twice {v} {seen} w e = let (i, m, h) = any-has (eqb v) seen e in (v, w.from, rw (← (eqb-true v i h)) at (w.down i m))

    walk : (k v : ℕ) (seen : List ℕ) → Walk v seen → k + length seen ≡ n → able dep k v ≡ false → Comes start
    walk zero v seen w e u = go (any (eqb v) seen) refl
      where
        go : (b : Bool) → any (eqb v) seen ≡ b → Comes start
        go true q = twice w q
        go false q = let h : suc (length seen) ≤ n = distinct-length n (v ∷ seen) (passed w) (q, w.once) in absurd (lt_irrefl n (omega arith))
    walk (suc k) v seen w e u = go (any (eqb v) seen) refl (unable-input k v u) (walk k)
      where
        go : (b : Bool) → any (eqb v) seen ≡ b → (i : ℕ) × Memᴰ i (dep v) × (able dep k i ≡ false)
            → ((j : ℕ) (past : List ℕ) → Walk j past → k + length past ≡ n → able dep k j ≡ false → Comes start) → Comes start
        go true q t rest = twice w q
        go false q t rest = let (j, m, h) = t in rest j (v ∷ seen) (further w m q) (omega arith) h

    -- a variable whose chains do not end comes to one that depends on itself
    pub unable-comes : start < n → able dep n start ≡ false → Comes start
    unable-comes l u = walk n start [] (record {
      here = l;
      there = λ i m. absurd (Memᴰ.not-nil m);
      down = λ i m. absurd (Memᴰ.not-nil m);
      once = tt;
      from = inl refl;
    }) (omega arith) u

-- ── of a model ──
module _ (N : Net) (L : Lawful N) (n : ℕ) (below : (v i : ℕ) → Memᴰ i (N.ins v) → i < n) (bound : (v : ℕ) → N.made v ≡ true → v < n) (0<n : 0 < n) where
  -- a variable that no row makes has no chain
  pub free : (k v : ℕ) → 0 < k → N.made v ≡ false → able N.ins k v ≡ true
  unfolding runs
  free zero v h e = absurd (not-suc-le-zero h)
  free (suc k) v h e = ap (all (able N.ins k)) (L.bare v e)

  -- a test passed below n is passed everywhere
  pub ends-everywhere : ((v : ℕ) → v < n → able N.ins n v ≡ true) → (v : ℕ) → able N.ins n v ≡ true
  ends-everywhere h v = go (N.made v) refl
    where
      go : (b : Bool) → N.made v ≡ b → able N.ins n v ≡ true
      go true e = h v (bound v e)
      go false e = free n v 0<n e

  -- a right table of numbers: then every chain ends
  pub numbers-end : (num : ℕ → ℕ) → Numbers N num → (v : ℕ) → able N.ins n v ≡ true
  numbers-end num h = ends-everywhere (λ v l. go v l (able N.ins n v) refl)
    where
      go : (v : ℕ) → v < n → (a : Bool) → able N.ins n v ≡ a → able N.ins n v ≡ true
      go v l true q = q
      go v l false q = let (w, c, d) = unable-comes N.ins n below v l q in absurd (circular-unnumbered N L num h w d)

-- ── a variable that can have a topological number passes the test ──
module _ (N : Net) (L : Lawful N) (n : ℕ) where
  -- no table of numbers is right where some chain comes to a variable that depends on itself
  pub has-able : (below : (v i : ℕ) → Memᴰ i (N.ins v) → i < n) (v : ℕ) → v < n → CanHave N v → able N.ins n v ≡ true
  has-able below v l (num, h) = go (able N.ins n v) refl
    where
      falls : (w : ℕ) → (v ≡ w) ⊎ Depends N.ins v w → Depends N.ins w w → ⊥
      falls w (inl e) d = lt_irrefl (num w) (lower N L num (rw e at h) d)
      falls w (inr c) d = lt_irrefl (num w) (lower N L num (record { here = h.further w c; further = λ u e. h.further u (onward c e) }) d)
        where
          onward : {a b u : ℕ} → Depends N.ins a b → Depends N.ins b u → Depends N.ins a u
          onward (direct m) e = through m e
          onward (through m d) e = through m (onward d e)

      go : (b : Bool) → able N.ins n v ≡ b → able N.ins n v ≡ true
      go true e = e
      go false e = let (w, c, d) = unable-comes N.ins n below v l e in absurd (falls w c d)
