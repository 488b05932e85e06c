-- The steps of a walk that marks: nothing to do, one goal more, and the variable itself after all that it leads to. Since the own mark is set
-- last, what a marked variable leads to is marked at every step. Assumes nothing.
use Prim.Native.Nat.{ℕ, ◌<◌}
use mathlib.Core.Bool.{Bool, true, false}
use mathlib.Core.List.{List, Memᴰ}
use mathlib.Core.Logic.{◌⊎◌, inl, inr}
use mathlib.Core.Path.{◌≡◌, refl, sym, ◌∙◌, subst}
use lib.Dec.{eqb}
use lib.ListN.{length, set, length-set}
use lib.Seq.{get_or-set_same, get_or-set_other}
use borrow.Author.Tests.{eqb-true, eqb-false}
use Rattle.paper.specs.Lists.{nat}
use Rattle.routes.specs.Reach.{Closed, Either, Reached, Reaching}

module _ (works : ℕ → Bool) (to : ℕ → List ℕ) where
  -- ── nothing to do ──
  pub reached-still : (v : ℕ) (marks : List ℕ) → Closed works to marks → (works v ≡ true → nat marks v ≡ 1) → Reached works to v marks marks
  reached-still v marks c e = record { long = refl; kept = λ u h. h; here = e; closed = c; only = λ test f h u. inl refl }

  -- ── one goal after another ──
  pub reaching-start : (goal : ℕ → Type 0) (marks : List ℕ) → Closed works to marks → Reaching works to goal goal marks marks
  reaching-start goal marks c = record { long = refl; kept = λ u h. h; passed = λ i g w. inr g; closed = c; only = λ test f h u. inl refl }

  both : (test : ℕ → Bool) (before mid after : List ℕ) (u : ℕ) → Either works to test before mid u → Either works to test mid after u → Either works to test before after u
  both test before mid after u p (inr q) = inr q
  both test before mid after u (inl p) (inl q) = inl (q ∙ p)
  both test before mid after u (inr p) (inl q) = inr (p.0, p.1, q ∙ p.2)

  module _ (goal left rest : ℕ → Type 0) (before marks : List ℕ) (r : Reaching works to goal left before marks) where
    pub reaching-step : (x : ℕ) (after : List ℕ) → goal x → ((i : ℕ) → left i → (i ≡ x) ⊎ rest i) → Reached works to x marks after → Reaching works to goal rest before after
    reaching-step x after g split w = record {
      long = w.long ∙ r.long;
      kept = λ u h. w.kept u (r.kept u h);
      passed = λ i h e. go i e (r.passed i h e);
      closed = w.closed;
      only = λ test f h u. both test before marks after u (r.only test f h u) (w.only test f (h x g) u);
    }
      where
        next : (i : ℕ) → works i ≡ true → (i ≡ x) ⊎ rest i → (nat after i ≡ 1) ⊎ rest i
        next i e (inl q) = inl (subst (λ u. works u ≡ true → nat after u ≡ 1) (sym q) w.here e)
        next i e (inr q) = inr q

        go : (i : ℕ) → works i ≡ true → (nat marks i ≡ 1) ⊎ left i → (nat after i ≡ 1) ⊎ rest i
        go i e (inl h) = inl (w.kept i h)
        go i e (inr h) = next i e (split i h)

    -- no goal here
    pub reaching-skip : ((i : ℕ) → goal i → left i → rest i) → Reaching works to goal rest before marks
    reaching-skip on = record { long = r.long; kept = r.kept; passed = λ i h e. go i h (r.passed i h e); closed = r.closed; only = r.only }
      where
        go : (i : ℕ) → goal i → (nat marks i ≡ 1) ⊎ left i → (nat marks i ≡ 1) ⊎ rest i
        go i g (inl h) = inl h
        go i g (inr h) = inr (on i g h)

  -- ── the own mark last ──
  pub reached-own : (v : ℕ) (left : ℕ → Type 0) (before marks : List ℕ) → works v ≡ true → v < length marks → ((i : ℕ) → left i → ⊥)
      → Reaching works to (λ i. Memᴰ i (to v)) left before marks → Reached works to v before (set marks v 1)
  reached-own v left before marks w l none r = record {
    long = length-set marks v 1 ∙ r.long;
    kept = λ u h. keep u (r.kept u h);
    here = λ e. own;
    closed = record { on = λ a i h m e. keep i (on a i (eqb v a) refl h m e) };
    only = λ test f h u. only test u h (r.only test f (λ i m. f.on v i h w m) u) (eqb v u) refl;
  }
    where
      own : nat (set marks v 1) v ≡ 1
      own = get_or-set_same marks v 1 0 l

      other : (u : ℕ) → eqb v u ≡ false → nat (set marks v 1) u ≡ nat marks u
      other u q = get_or-set_other marks v u 1 0 (λ z. eqb-false v u q (sym z))

      keep : (u : ℕ) → nat marks u ≡ 1 → nat (set marks v 1) u ≡ 1
      keep u h = go (eqb v u) refl
        where
          go : (b : Bool) → eqb v u ≡ b → nat (set marks v 1) u ≡ 1
          go true q = subst (λ z. nat (set marks v 1) z ≡ 1) (eqb-true v u q) own
          go false q = other u q ∙ h

      met : (i : ℕ) → (nat marks i ≡ 1) ⊎ left i → nat marks i ≡ 1
      met i (inl h) = h
      met i (inr h) = absurd (none i h)

      on : (a i : ℕ) (b : Bool) → eqb v a ≡ b → nat (set marks v 1) a ≡ 1 → Memᴰ i (to a) → works i ≡ true → nat marks i ≡ 1
      on a i true q h m e = met i (r.passed i (subst (λ z. Memᴰ i (to z)) (sym (eqb-true v a q)) m) e)
      on a i false q h m e = r.closed.on a i (sym (other a q) ∙ h) m e

      only : (test : ℕ → Bool) (u : ℕ) → test v ≡ true → Either works to test before marks u → (b : Bool) → eqb v u ≡ b → Either works to test before (set marks v 1) u
      only test u h p true q = subst (λ z. Either works to test before (set marks v 1) z) (eqb-true v u q) (inr (w, h, own))
      only test u h (inl p) false q = inl (other u q ∙ p)
      only test u h (inr p) false q = inr (p.0, p.1, other u q ∙ p.2)
