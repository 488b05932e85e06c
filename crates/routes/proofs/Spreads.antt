-- Flags that agree with a test: what is made from a variable that passes it has 1, all else 0. They agree still if a variable comes to pass the
-- test and what is made from it is flagged. Assumes nothing.
use Prim.Native.Nat.{ℕ, ◌≤◌, ◌<◌}
use native.Mathlib.Omega.{arith}
use mathlib.Core.Bool.{Bool, true, false, cond, ◌||◌, false≢true}
use mathlib.Core.List.Memᴰ
use mathlib.Core.List.{List, [], ◌∷◌, Memᴰ}
use mathlib.Core.Logic.{◌⊎◌, inl, inr}
use mathlib.Core.Path.{◌≡◌, refl, ap, ap₂, sym, ◌∙◌, subst}
use lib.Dec.{eqb}
use lib.IntN.{ℤ}
use lib.ListN.{length, drop}
use borrow.Author.Tests.{eqb-true, eqb-false}
use Rattle.paper.specs.Lists.{any, nat}
use Rattle.paper.specs.Net.{differs}
use Rattle.paper.specs.Tables.{Tables, inputs_of}
use Rattle.paper.specs.Checks.{Sound}
use Rattle.paper.proofs.Lists.{eqb-self, any-in, any-has, any_same}
use Rattle.paper.proofs.Accept.{made-below, inputs-below}
use Rattle.index.specs.Index.{Indexed}
use Rattle.routes.specs.Sections.{made_from}
use Rattle.routes.specs.Rows.{values_of}
use Rattle.routes.specs.Routed.{flag_each, pass_on, pass_each}
use Rattle.routes.proofs.Read.{input-made, section-input, input-section}
use Rattle.routes.proofs.Flags.{flag-length, flag-drop, flag_at}

-- ── tests ──
-- two that follow from each other are one
both_ways : (a b : Bool) → (a ≡ true → b ≡ true) → (b ≡ true → a ≡ true) → a ≡ b
both_ways true b f g = sym (f refl)
both_ways false true f g = g refl
both_ways false false f g = refl

any-or : {A : Type 0} (p q : A → Bool) (xs : List A) → any (λ x. p x || q x) xs ≡ (any p xs || any q xs)
any-or p q [] = refl
any-or p q (x ∷ xs) = ap (λ b. (p x || q x) || b) (any-or p q xs) ∙ swap (p x) (q x) (any p xs) (any q xs)
  where
    swap : (a b c d : Bool) → ((a || b) || (c || d)) ≡ ((a || c) || (b || d))
    swap true b c d = refl
    swap false true true d = refl
    swap false true false d = refl
    swap false false c d = refl

-- a test at one variable, and another elsewhere
at_one : (v i : ℕ) (a b : ℕ → Bool) → a v ≡ true → (eqb v i ≡ false → a i ≡ b i) → a i ≡ (eqb v i || b i)
at_one v i a b e f = go (eqb v i) refl
  where
    go : (c : Bool) → eqb v i ≡ c → a i ≡ (c || b i)
    go true q = subst (λ u. a u ≡ true) (eqb-true v i q) e
    go false q = f q

-- 1 where a test is passed
abbrev one_if : Bool → ℕ → ℕ
one_if c k = cond c 1 k

module _ (t : Tables) where
  pub record Agrees (test : ℕ → Bool) (flags : List ℕ) : Type 0 where
    pub at : (u : ℕ) → u < t.n → nat flags u ≡ cond (any test (inputs_of t u)) 1 0

  -- no variable passes, and no flag is set
  pub agrees-clear : (flags : List ℕ) → ((u : ℕ) → u < t.n → nat flags u ≡ 0) → Agrees (λ i. false) flags
  agrees-clear flags clear = record { at = λ u l. clear u l ∙ ap (λ b. cond b 1 0) (sym (none (inputs_of t u))) }
    where
      none : (xs : List ℕ) → any (λ i. false) xs ≡ false
      none [] = refl
      none (x ∷ xs) = none xs

  module _ (s : Sound t) where
    pub agrees-same : (a b : ℕ → Bool) (flags : List ℕ) → ((i : ℕ) → i < t.n → a i ≡ b i) → Agrees a flags → Agrees b flags
    agrees-same a b flags h g = record { at = λ u l. g.at u l ∙ ap (λ c. cond c 1 0) (any_same a b (inputs_of t u) (λ i m. h i (inputs-below t s u i m))) }

    module _ (starts places : List ℕ) (x : Indexed t starts places) where
      abbrev from : ℕ → List ℕ
      from = made_from t.makes starts places

      -- u is made from v exactly if v is among its inputs
      from_is : (v u : ℕ) → v < t.n → any (eqb u) (from v) ≡ any (eqb v) (inputs_of t u)
      from_is v u l = both_ways (any (eqb u) (from v)) (any (eqb v) (inputs_of t u))
          (λ e. let (w, m, q) = any-has (eqb u) (from v) e in any-in (eqb v) (inputs_of t u) (section-input t s starts places x v l u (subst (λ z. Memᴰ z (from v)) (sym (eqb-true u w q)) m)) (eqb-self v))
          (λ e. let (w, m, q) = any-has (eqb v) (inputs_of t u) e in any-in (eqb u) (from v) (input-section t s starts places x v l u (subst (λ z. Memᴰ z (inputs_of t u)) (sym (eqb-true v w q)) m)) (eqb-self u))

      from-below : (v : ℕ) → v < t.n → (u : ℕ) → Memᴰ u (from v) → u < t.n
      from-below v l u m = made-below t s u (input-made t s v u (section-input t s starts places x v l u m))

      -- ── v comes to pass the test, or fails it as before ──
      module _ (a b : ℕ → Bool) (v : ℕ) (l : v < t.n) (flags : List ℕ) (room : t.n ≤ length flags) (g : Agrees a flags) (other : (i : ℕ) → eqb v i ≡ false → b i ≡ a i) (kept : a v ≡ true → b v ≡ true) where
        pub agrees-next : (c : Bool) → c ≡ b v → Agrees b (cond c (flag_each (from v) flags) flags)
        agrees-next true e = record {
          at = λ u h.
              flag_at (from v) flags u (omega arith) ∙ ap₂ one_if (from_is v u l) (g.at u h) ∙ join (any (eqb v) (inputs_of t u)) (any a (inputs_of t u))
              ∙ ap (λ c. cond c 1 0) (sym (any_same b (λ i. eqb v i || a i) (inputs_of t u) (λ i m. at_one v i b a (sym e) (other i)) ∙ any-or (eqb v) a (inputs_of t u)));
        }
          where
            join : (c d : Bool) → one_if c (one_if d 0) ≡ one_if (c || d) 0
            join true d = refl
            join false d = refl
        agrees-next false e = agrees-same a b flags (λ i h. go i (eqb v i) refl) g
          where
            fails : a v ≡ b v
            fails = both_ways (a v) (b v) kept (λ q. absurd (false≢true (e ∙ q)))

            go : (i : ℕ) (c : Bool) → eqb v i ≡ c → a i ≡ b i
            go i true q = subst (λ u. a u ≡ b u) (eqb-true v i q) fails
            go i false q = sym (other i q)

      -- ── variables that pass on what changed ──
      module _ (stored trial : List ℤ) where
        abbrev changed : ℕ → Bool
        changed = differs (values_of trial) (values_of stored)

        abbrev pass : ℕ → List ℕ → List ℕ
        pass = pass_on t.makes starts places stored trial

        abbrev pass_all : List ℕ → List ℕ → List ℕ
        pass_all = pass_each t.makes starts places stored trial

        -- nothing but flags of variables is set
        pub pass-still : (v : ℕ) → v < t.n → (flags : List ℕ) → (length (pass v flags) ≡ length flags) × (drop t.n (pass v flags) ≡ drop t.n flags)
        pass-still v l flags = go (changed v)
          where
            go : (c : Bool) → (length (cond c (flag_each (from v) flags) flags) ≡ length flags) × (drop t.n (cond c (flag_each (from v) flags) flags) ≡ drop t.n flags)
            go true = (flag-length (from v) flags, flag-drop t.n (from v) flags (from-below v l))
            go false = (refl, refl)

        pub each-still : (moves : List ℕ) → ((v : ℕ) → Memᴰ v moves → v < t.n) → (flags : List ℕ)
            → (length (pass_all moves flags) ≡ length flags) × (drop t.n (pass_all moves flags) ≡ drop t.n flags)
        each-still [] low flags = (refl, refl)
        each-still (v ∷ vs) low flags =
            let p = pass-still v (low v (Memᴰ.head refl)) flags in let q = each-still vs (λ u m. low u (Memᴰ.tail m)) (pass v flags) in
            (q.0 ∙ p.0, q.1 ∙ p.1)

        -- each that changed has passed it on or is among those that are left
        pub each-agrees : (moves : List ℕ) → ((v : ℕ) → Memᴰ v moves → v < t.n) → (a : ℕ → Bool) (flags : List ℕ) → t.n ≤ length flags → Agrees a flags
            → ((i : ℕ) → a i ≡ true → changed i ≡ true) → ((i : ℕ) → i < t.n → changed i ≡ true → (a i ≡ true) ⊎ Memᴰ i moves) → Agrees changed (pass_all moves flags)
        each-agrees [] low a flags room g to from = agrees-same a changed flags (λ i l. both_ways (a i) (changed i) (to i) (λ e. left i (from i l e))) g
          where
            left : (i : ℕ) → (a i ≡ true) ⊎ Memᴰ i [] → a i ≡ true
            left i (inl e) = e
            left i (inr m) = absurd (Memᴰ.not-nil m)
        each-agrees (v ∷ vs) low a flags room g to from =
            each-agrees vs (λ u m. low u (Memᴰ.tail m)) b (pass v flags) (let q = (pass-still v l flags).0 in omega arith)
            (agrees-next a b v l flags room g (λ i q. ap (λ c. cond c (changed i) (a i)) q) (λ e. own ∙ to v e) (changed v) (sym own))
            (λ i. up i (eqb v i) refl) (λ i h e. down i e (from i h e) (eqb v i) refl)
          where
            l : v < t.n
            l = low v (Memᴰ.head refl)

            b : ℕ → Bool
            b i = cond (eqb v i) (changed i) (a i)

            own : b v ≡ changed v
            own = ap (λ c. cond c (changed v) (a v)) (eqb-self v)

            up : (i : ℕ) (c : Bool) → eqb v i ≡ c → cond c (changed i) (a i) ≡ true → changed i ≡ true
            up i true q e = e
            up i false q e = to i e

            down : (i : ℕ) → changed i ≡ true → (a i ≡ true) ⊎ Memᴰ i (v ∷ vs) → (c : Bool) → eqb v i ≡ c → (cond c (changed i) (a i) ≡ true) ⊎ Memᴰ i vs
            down i e p true q = inl e
            down i e (inl p) false q = inl p
            down i e (inr (Memᴰ.head w)) false q = absurd (eqb-false v i q (sym w))
            down i e (inr (Memᴰ.tail m)) false q = inr m
