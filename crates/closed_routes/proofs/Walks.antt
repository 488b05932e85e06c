-- A walk that marks before it goes on: what it has marked and not yet led on from is on its way, so once nothing is left all is closed but what was
-- marked before; and each call finds fewer unmarked. Assumes nothing.
use Prim.Native.Nat.{ℕ, ◌<◌}
use mathlib.Core.Bool.{Bool, true, false, not}
use mathlib.Core.List.{List, Memᴰ}
use mathlib.Core.Logic.{◌⊎◌, inl, inr, ◌≢◌}
use mathlib.Core.Path.{◌≡◌, refl, ap, sym, ◌∙◌, subst}
use lib.Dec.{eqb}
use lib.ListN.{length, set, length-set}
use lib.Seq.{get_or-set_same, get_or-set_other}
use borrow.Author.Tests.{eqb-true, eqb-false, eq-eqb, ne_eqb, not-true}
use Rattle.paper.specs.Lists.{nat, size}
use Rattle.paper.proofs.Lists.{clash}
use Rattle.paper.proofs.Count.{size-more}
use Rattle.routes.specs.Reach.{Closed, Either, Reached}
use Rattle.closed_routes.specs.Walk.{unmarked, Walked, Walking}

module _ (works : ℕ → Bool) (to : ℕ → List ℕ) where
  -- ── nothing to do ──
  pub walked-still : (v : ℕ) (marks : List ℕ) → (works v ≡ true → nat marks v ≡ 1) → Walked works to v marks marks
  walked-still v marks e = record { long = refl; kept = λ u h. h; here = e; on = λ a i h m w. inl h; only = λ test f h u. inl refl }

  both : (test : ℕ → Bool) (before mid after : List ℕ) (u : ℕ) → Either works to test before mid u → Either works to test mid after u → Either works to test before after u
  both test before mid after u p (inr q) = inr q
  both test before mid after u (inl p) (inl q) = inl (q ∙ p)
  both test before mid after u (inr p) (inl q) = inr (p.0, p.1, q ∙ p.2)

  -- ── one after another ──
  pub walking_start : (v : ℕ) (mid : List ℕ) → Walking works to v (λ i. Memᴰ i (to v)) mid mid
  walking_start v mid = record { long = refl; kept = λ u h. h; on = λ a i h m e. on a i h m (eqb v a) refl; only = λ test f h u. inl refl }
    where
      on : (a i : ℕ) → nat mid a ≡ 1 → Memᴰ i (to a) → (b : Bool) → eqb v a ≡ b → ((a ≢ v) × (nat mid a ≡ 1)) ⊎ ((nat mid i ≡ 1) ⊎ Memᴰ i (to v))
      on a i h m true q = inr (inr (subst (λ z. Memᴰ i (to z)) (sym (eqb-true v a q)) m))
      on a i h m false q = inl ((λ z. eqb-false v a q (sym z)), h)

  pub walking-step : (v : ℕ) (left : ℕ → Type 0) (mid marks : List ℕ) → Walking works to v left mid marks → (rest : ℕ → Type 0) (x : ℕ) (after : List ℕ)
      → works v ≡ true → Memᴰ x (to v) → ((i : ℕ) → left i → (i ≡ x) ⊎ rest i) → Walked works to x marks after → Walking works to v rest mid after
  walking-step v left mid marks W rest x after w m split X = record {
    long = X.long ∙ W.long;
    kept = λ u h. X.kept u (W.kept u h);
    on = λ a i h k e. late a i k e (X.on a i h k e);
    only = λ test f h u. both test mid marks after u (W.only test f h u) (X.only test f (f.on v x h w m) u);
  }
    where
      next : (i : ℕ) → works i ≡ true → (i ≡ x) ⊎ rest i → (nat after i ≡ 1) ⊎ rest i
      next i e (inl q) = inl (subst (λ u. works u ≡ true → nat after u ≡ 1) (sym q) X.here e)
      next i e (inr q) = inr q

      early : (a i : ℕ) → works i ≡ true → ((a ≢ v) × (nat mid a ≡ 1)) ⊎ ((nat marks i ≡ 1) ⊎ left i) → ((a ≢ v) × (nat mid a ≡ 1)) ⊎ ((nat after i ≡ 1) ⊎ rest i)
      early a i e (inl h) = inl h
      early a i e (inr (inl h)) = inr (inl (X.kept i h))
      early a i e (inr (inr h)) = inr (next i e (split i h))

      late : (a i : ℕ) → Memᴰ i (to a) → works i ≡ true → (nat marks a ≡ 1) ⊎ (nat after i ≡ 1) → ((a ≢ v) × (nat mid a ≡ 1)) ⊎ ((nat after i ≡ 1) ⊎ rest i)
      late a i k e (inl h) = early a i e (W.on a i h k e)
      late a i k e (inr h) = inr (inl h)

  -- ── a walk that began with the own mark ──
  module _ (v : ℕ) (before : List ℕ) (l : v < length before) where
    own : nat (set before v 1) v ≡ 1
    own = get_or-set_same before v 1 0 l

    other : (u : ℕ) → u ≢ v → nat (set before v 1) u ≡ nat before u
    other u ne = get_or-set_other before v u 1 0 ne

    started : (u : ℕ) → nat before u ≡ 1 → nat (set before v 1) u ≡ 1
    started u h = go (eqb v u) refl
      where
        go : (b : Bool) → eqb v u ≡ b → nat (set before v 1) u ≡ 1
        go true q = subst (λ z. nat (set before v 1) z ≡ 1) (eqb-true v u q) own
        go false q = other u (λ z. eqb-false v u q (sym z)) ∙ h

    module _ (left : ℕ → Type 0) (marks : List ℕ) (W : Walking works to v left (set before v 1) marks) where
      pub walking-long : length marks ≡ length before
      walking-long = W.long ∙ length-set before v 1

      pub walking-end : works v ≡ true → ((i : ℕ) → left i → ⊥) → Walked works to v before marks
      walking-end w none = record {
        long = walking-long;
        kept = λ u h. W.kept u (started u h);
        here = λ e. W.kept v own;
        on = λ a i h m e. go a i (W.on a i h m e);
        only = λ test f h u. both test before (set before v 1) marks u (first test h u (eqb v u) refl) (W.only test f h u);
      }
        where
          go : (a i : ℕ) → ((a ≢ v) × (nat (set before v 1) a ≡ 1)) ⊎ ((nat marks i ≡ 1) ⊎ left i) → (nat before a ≡ 1) ⊎ (nat marks i ≡ 1)
          go a i (inl (ne, h)) = inl (sym (other a ne) ∙ h)
          go a i (inr (inl h)) = inr h
          go a i (inr (inr h)) = absurd (none i h)

          first : (test : ℕ → Bool) → test v ≡ true → (u : ℕ) (b : Bool) → eqb v u ≡ b → Either works to test before (set before v 1) u
          first test h u true q = subst (λ z. Either works to test before (set before v 1) z) (eqb-true v u q) (inr (w, h, own))
          first test h u false q = inl (other u (λ z. eqb-false v u q (sym z)))

      -- fewer are unmarked
      pub walking-less : (n : ℕ) → v < n → nat before v ≢ 1 → size (unmarked marks) n < size (unmarked before) n
      walking-less n k ne =
          size-more (unmarked marks) (unmarked before) v n k (ap not (eq-eqb (nat marks v) 1 (W.kept v own))) (ap not (ne_eqb (nat before v) 1 ne)) (λ u e. was u e (eqb (nat before u) 1) refl)
        where
          was : (u : ℕ) → unmarked marks u ≡ true → (b : Bool) → eqb (nat before u) 1 ≡ b → unmarked before u ≡ true
          was u e true q = clash (eq-eqb (nat marks u) 1 (W.kept u (started u (eqb-true (nat before u) 1 q)))) (not-true (eqb (nat marks u) 1) e)
          was u e false q = ap not q

  -- ── over closed marks ──
  pub walked-reached : (v : ℕ) (before after : List ℕ) → Closed works to before → Walked works to v before after → Reached works to v before after
  walked-reached v before after c W = record {
    long = W.long;
    kept = W.kept;
    here = W.here;
    closed = record { on = λ a i h m e. go a i m e (W.on a i h m e) };
    only = W.only;
  }
    where
      go : (a i : ℕ) → Memᴰ i (to a) → works i ≡ true → (nat before a ≡ 1) ⊎ (nat after i ≡ 1) → nat after i ≡ 1
      go a i m e (inl h) = W.kept i (c.on a i h m e)
      go a i m e (inr h) = h
