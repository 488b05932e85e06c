-- Tables without a closed chain: every variable is permitted and determined, each is a group of its own, and its number and the order are those of `Straight`.
-- Assumes nothing.
use Prim.Native.Nat.{ℕ, zero, suc, ◌<◌}
use native.Mathlib.Nat.{le_refl, lt_irrefl, not-suc-le-zero}
use native.Mathlib.Omega.{arith}
use mathlib.Core.Logic.{inl, inr}
use mathlib.Core.Bool.{Bool, true, false, cond, not}
use mathlib.Core.List.{List, [], ◌++◌, map, Memᴰ, append-nil}
use mathlib.Core.Path.{◌≡◌, refl, ap, ap₂, sym, ◌∙◌, subst, fun_ext}
use lib.Dec.{ltb}
use borrow.Author.Tests.{ltb-true, ltb-false}
use Rattle.paper.specs.Lists.{joined, greatest}
use Rattle.paper.specs.Net.{Values, Rule, runs, able, Depends, direct}
use Rattle.paper.specs.Tables.{Tables, net, is_made, inputs_of, levels}
use Rattle.paper.proofs.Straight.{number, order}
use Rattle.paper.proofs.Those.{joined-none}
use Rattle.paper.proofs.Lawful.{lawful}
use Rattle.paper.proofs.Circle.{circle-unable}
use Rattle.paper.specs.Chains.{only, grouped, outside, permitted, worth, determined, group_number, group_order}
use Rattle.paper.proofs.Depends.{chain, SameGroup, grouped-is, grouped-self}
use Rattle.paper.proofs.Ends.{able-fewer}
use Rattle.paper.proofs.Outside.{only-all}
use Rattle.paper.proofs.Permitted.{chain-depends, permitted-exactly}

-- the list of one number below n among lists that are empty at the others
joined-one : (f : ℕ → List ℕ) (v n : ℕ) → v < n → ((u : ℕ) → u < n → (v ≡ u → ⊥) → f u ≡ []) → joined f n ≡ f v
joined-one f v zero l h = absurd (not-suc-le-zero l)
joined-one f v (suc n) l h = go (ltb v n) refl (joined-one f v n)
  where
    go : (b : Bool) → ltb v n ≡ b → (v < n → ((u : ℕ) → u < n → (v ≡ u → ⊥) → f u ≡ []) → joined f n ≡ f v) → joined f n ++ f n ≡ f v
    go true q ih =
        let k = ltb-true v n q in
        ap₂ ◌++◌ (ih k (λ u i ne. h u (omega arith) ne)) (h n (le_refl (suc n)) (λ e. lt_irrefl n (omega arith))) ∙ append-nil (f v)
    go false q ih =
        let k = ltb-false v n q in let same : v ≡ n = omega arith in
        ap (◌++ f n) (joined-none f n (λ u i. h u (omega arith) (λ e. lt_irrefl n (omega arith)))) ∙ ap f (sym same)

-- ── over any links below n ──
module _ (dep : ℕ → List ℕ) (n : ℕ) (below : (v i : ℕ) → Memᴰ i (dep v) → i < n) (straight : (v : ℕ) → Depends dep v v → ⊥) where
  -- a variable is alone in its group
  pub alone : (v w : ℕ) → grouped dep n v w ≡ true → v ≡ w
  alone v w e = go (grouped-is dep n below v w e)
    where
      go : SameGroup dep v w → v ≡ w
      go (inl q) = q
      go (inr d) = absurd (straight v (chain dep d.0 d.1))

  apart : (v w : ℕ) → (v ≡ w → ⊥) → grouped dep n v w ≡ false
  apart v w ne = go (grouped dep n v w) refl
    where
      go : (b : Bool) → grouped dep n v w ≡ b → grouped dep n v w ≡ false
      go true e = absurd (ne (alone v w e))
      go false e = e

  -- and all its links lead out of it
  pub outside-open : (v : ℕ) → v < n → outside dep n v ≡ dep v
  outside-open v l =
      joined-one (λ u. cond (grouped dep n v u) (only (λ i. not (grouped dep n v i)) (dep u)) []) v n l
      (λ u k ne. ap (λ b. cond b (only (λ i. not (grouped dep n v i)) (dep u)) []) (apart v u ne))
      ∙ ap (λ b. cond b (only (λ i. not (grouped dep n v i)) (dep v)) []) (grouped-self dep n below v)
      ∙ only-all (λ i. not (grouped dep n v i)) (dep v)
      (λ i m. ap not (apart v i (λ e. straight v (direct (subst (λ j. Memᴰ j (dep v)) (sym e) m)))))

-- ── of tables ──
module _ (t : Tables) (below : (v i : ℕ) → Memᴰ i (inputs_of t v) → i < t.n) (ends : (v : ℕ) → able (inputs_of t) t.n v ≡ true) where
  pub no-circle : (v : ℕ) → Depends (inputs_of t) v v → ⊥
  no-circle v d = circle-unable (inputs_of t) t.n v d (ends v)

  pub open-permitted : (v : ℕ) → permitted t v ≡ true
  open-permitted v = go (permitted t v) refl
    where
      go : (b : Bool) → permitted t v ≡ b → permitted t v ≡ true
      go true e = e
      go false e = let (c, x, d, h) = (permitted-exactly t below v).some e in absurd (no-circle v (chain-depends t d))

  pub open-determined : (s : Values) (v : ℕ) → determined t s v ≡ true
  unfolding determined
  open-determined s v = able-fewer (inputs_of t) (λ w. (net t).asks w (worth t s)) (λ w i m. (lawful t).asks-in w (worth t s) i m) t.n v (ends v)

  module _ (bound : (v : ℕ) → is_made t v ≡ true → v < t.n) where
    pub open-numbers : group_number t ≡ number (net t) t.n
    unfolding group_number
    open-numbers = ap (λ (r : Rule ℕ). runs r (λ v. zero) t.n) (fun_ext (λ f. fun_ext (λ v. go f v (is_made t v) refl)))
      where
        go : (f : ℕ → ℕ) (v : ℕ) (b : Bool) → is_made t v ≡ b
            → cond b (suc (greatest (map f (outside (inputs_of t) t.n v)))) zero ≡ cond b (suc (greatest (map f (inputs_of t v)))) zero
        go f v true e = ap (λ l. suc (greatest (map f l))) (outside-open (inputs_of t) t.n below no-circle v (bound v e))
        go f v false e = refl

    pub open-number : (v : ℕ) → group_number t v ≡ number (net t) t.n v
    open-number v = ap (λ (f : ℕ → ℕ). f v) open-numbers

    pub open_order : group_order t ≡ order t
    open_order = ap (λ f. levels t f (suc t.n)) open-numbers
