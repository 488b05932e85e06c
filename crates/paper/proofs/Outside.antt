-- The links that lead out of a group, over links below n: they are the links of its variables to variables of other groups, they lead strictly down, and so
-- every chain of them ends. Assumes nothing.
use Prim.Native.Nat.{ℕ, zero, suc, ◌<◌}
use native.Mathlib.Nat.{le_refl, lt_irrefl, not-suc-le-zero}
use native.Mathlib.Omega.{arith}
use mathlib.Core.Logic.{◌⊎◌, inl, inr}
use mathlib.Core.Bool.{Bool, true, false, cond, not}
use mathlib.Core.List.Memᴰ
use mathlib.Core.List.{List, [], ◌∷◌, ◌++◌, Memᴰ}
use mathlib.Core.Path.{◌≡◌, refl, ap, sym, ◌∙◌, subst, fun_ext}
use lib.Dec.{ltb}
use borrow.Author.Tests.{ltb-true, ltb-false, not-true}
use Rattle.paper.specs.Lists.{joined}
use Rattle.paper.specs.Net.{able, Depends, direct, through}
use Rattle.paper.proofs.Lists.{clash}
use Rattle.paper.proofs.Circle.{unable-comes}
use Rattle.paper.specs.Chains.{only, grouped, outside}
use Rattle.paper.proofs.Depends.{chain, SameGroup, same_from, depends-low, grouped-is, grouped-not, grouped-same}
use Rattle.paper.proofs.Ends.{able-free}

-- ── the entries that pass a test, and lists one after another ──
only-in : {i : ℕ} (p : ℕ → Bool) (xs : List ℕ) → Memᴰ i (only p xs) → Memᴰ i xs × (p i ≡ true)
only-in {i} p (x ∷ xs) m = go (p x) refl m (only-in p xs)
  where
    go : (b : Bool) → p x ≡ b → Memᴰ i (cond b (x ∷ only p xs) (only p xs)) → (Memᴰ i (only p xs) → Memᴰ i xs × (p i ≡ true))
        → Memᴰ i (x ∷ xs) × (p i ≡ true)
    go true e (Memᴰ.head q) ih = (Memᴰ.head q, ap p q ∙ e)
    go true e (Memᴰ.tail t) ih = (Memᴰ.tail (ih t).0, (ih t).1)
    go false e t ih = (Memᴰ.tail (ih t).0, (ih t).1)
only-in {i = i} p [] m = elim m [ ]

only-has : {i : ℕ} (p : ℕ → Bool) (xs : List ℕ) → Memᴰ i xs → p i ≡ true → Memᴰ i (only p xs)
only-has {i} p (x ∷ xs) m e = go (p x) refl m (λ t. only-has p xs t e)
  where
    go : (b : Bool) → p x ≡ b → Memᴰ i (x ∷ xs) → (Memᴰ i xs → Memᴰ i (only p xs)) → Memᴰ i (cond b (x ∷ only p xs) (only p xs))
    go true q (Memᴰ.head s) ih = Memᴰ.head s
    go true q (Memᴰ.tail t) ih = Memᴰ.tail (ih t)
    go false q (Memᴰ.head s) ih = clash (sym (ap p s) ∙ e) q
    go false q (Memᴰ.tail t) ih = ih t
only-has {i = i} p [] m e = elim m [ ]

pub only-all : (p : ℕ → Bool) (xs : List ℕ) → ((i : ℕ) → Memᴰ i xs → p i ≡ true) → only p xs ≡ xs
only-all p [] h = refl
only-all p (x ∷ xs) h = ap (λ b. cond b (x ∷ only p xs) (only p xs)) (h x (Memᴰ.head refl)) ∙ ap (x ∷◌) (only-all p xs (λ i m. h i (Memᴰ.tail m)))

module _ (f : ℕ → List ℕ) where
  joined_in : {i : ℕ} (k : ℕ) → Memᴰ i (joined f k) → (u : ℕ) × (u < k) × Memᴰ i (f u)
  joined_in {i} (suc k) m = go (Memᴰ.append_cases (joined f k) m) (joined_in k)
    where
      go : Memᴰ i (joined f k) ⊎ Memᴰ i (f k) → (Memᴰ i (joined f k) → (u : ℕ) × (u < k) × Memᴰ i (f u)) → (u : ℕ) × (u < suc k) × Memᴰ i (f u)
      go (inl t) ih = let (u, l, h) = ih t in (u, omega arith, h)
      go (inr t) ih = (k, le_refl (suc k), t)
  joined_in {i = i} zero m = elim m [ ]

  joined-has : {i : ℕ} (k u : ℕ) → u < k → Memᴰ i (f u) → Memᴰ i (joined f k)
  joined-has zero u l m = absurd (not-suc-le-zero l)
  joined-has {i} (suc k) u l m = go (ltb u k) refl (joined-has k u)
    where
      go : (b : Bool) → ltb u k ≡ b → (u < k → Memᴰ i (f u) → Memᴰ i (joined f k)) → Memᴰ i (joined f k ++ f k)
      go true q ih = Memᴰ.append_left (f k) (ih (ltb-true u k q) m)
      go false q ih =
          let h = ltb-false u k q in let same : u ≡ k = omega arith in
          Memᴰ.append_right (joined f k) (subst (λ w. Memᴰ i (f w)) same m)

-- i is where a link of v's group leads out of it
pub record Leads (dep : ℕ → List ℕ) (n v i : ℕ) : Type 0 where
  pub from : ℕ
  pub low : from < n
  pub here : grouped dep n v from ≡ true
  pub linked : Memᴰ i (dep from)
  pub out : grouped dep n v i ≡ false

module _ (dep : ℕ → List ℕ) (n : ℕ) where
  abbrev leaving : ℕ → ℕ → List ℕ
  leaving v u = cond (grouped dep n v u) (only (λ i. not (grouped dep n v i)) (dep u)) []

  pub outside-in : (v i : ℕ) → Memᴰ i (outside dep n v) → Leads dep n v i
  outside-in v i m = let (u, l, h) = joined_in (leaving v) n m in go u l (grouped dep n v u) refl h
    where
      go : (u : ℕ) → u < n → (b : Bool) → grouped dep n v u ≡ b → Memᴰ i (cond b (only (λ j. not (grouped dep n v j)) (dep u)) []) → Leads dep n v i
      go u l true e t =
          let (k, o) = only-in (λ j. not (grouped dep n v j)) (dep u) t in
          record { from = u; low = l; here = e; linked = k; out = not-true (grouped dep n v i) o }
      go u l false e t = elim t [ ]

  pub outside-has : (v i : ℕ) → Leads dep n v i → Memᴰ i (outside dep n v)
  outside-has v i h =
      joined-has (leaving v) n h.from h.low
      (rw h.here (only-has (λ j. not (grouped dep n v j)) (dep h.from) h.linked (ap not h.out)))

  module _ (below : (v i : ℕ) → Memᴰ i (dep v) → i < n) where
    pub outside_low : (v i : ℕ) → Memᴰ i (outside dep n v) → i < n
    outside_low v i m = let h = outside-in v i m in below h.from i h.linked

    -- ── strictly down ──
    pub outside-down : (v i : ℕ) → Memᴰ i (outside dep n v) → Depends dep v i × (Depends dep i v → ⊥)
    outside-down v i m =
        let h = outside-in v i m in
        let down = same_from dep (grouped-is dep n below v h.from h.here) (direct h.linked) in
        (down, λ up. grouped-not dep n below v i h.out (inr (down, up)))

    pub outside-strict : {v w : ℕ} → Depends (outside dep n) v w → Depends dep v w × (Depends dep w v → ⊥)
    outside-strict (direct {v} {w} m) = outside-down v w m
    outside-strict (through {v} {i} m d) =
        let a = outside-down v i m in let b = outside-strict d in
        (chain dep a.0 b.0, λ up. b.1 (chain dep up a.0))

    -- so from group to group every chain ends
    pub outside-ends : 0 < n → (v : ℕ) → able (outside dep n) n v ≡ true
    outside-ends 0<n v = go (ltb v n) refl (able (outside dep n) n v) refl
      where
        low : (u : ℕ) → u < n → SameGroup dep v u → v < n
        low u l (inl e) = omega arith
        low u l (inr d) = depends-low dep n below d.1

        go : (b : Bool) → ltb v n ≡ b → (c : Bool) → able (outside dep n) n v ≡ c → able (outside dep n) n v ≡ true
        go true l true e = e
        go true l false e =
            let (w, c, d) = unable-comes (outside dep n) n outside_low v (ltb-true v n l) e in let h = outside-strict d in
            absurd (h.1 h.0)
        go false l c e = able-free (outside dep n) n v 0<n (λ i m.
            let h = outside-in v i m in let a = ltb-false v n l in let b = low h.from h.low (grouped-is dep n below v h.from h.here) in
            lt_irrefl n (omega arith))

    -- ── one list for a group ──
    pub outside-same : (v w : ℕ) → grouped dep n v w ≡ true → outside dep n v ≡ outside dep n w
    outside-same v w e =
        ap (λ (g : ℕ → Bool). joined (λ u. cond (g u) (only (λ i. not (g i)) (dep u)) []) n) (fun_ext (λ u. grouped-same dep n below v w u e))
