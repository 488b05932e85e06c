-- Closed chains by groups: a link closes a chain exactly if it leads back into the group that it comes from. Assumes nothing.
use Prim.Native.Nat.{ℕ, ◌<◌}
use mathlib.Core.Bool.{Bool, true, false, ◌&&◌}
use mathlib.Core.List.{List, Memᴰ}
use mathlib.Core.Logic.{inr}
use mathlib.Core.Path.{◌≡◌, refl, ap₂, sym, ◌∙◌}
use lib.Dec.{eqb}
use Rattle.paper.specs.Lists.{any, nat}
use Rattle.paper.specs.Net.{Depends, direct, through}
use Rattle.paper.proofs.Lists.{any-in, any-has, any_same, and_left, and_right}
use Rattle.paper.specs.Chains.{depends, together, grouped}
use Rattle.paper.proofs.Saturate.{both_ways}
use Rattle.paper.proofs.Depends.{chain, same-sym, same_from, same-to, depends-yes, depends-is, together-yes, together-is, grouped-yes, grouped-is, grouped-self, grouped-sym}
use Rattle.groups.specs.Groups.{Found}
use Rattle.chains.specs.Back.{leads_back}

module _ (dep : ℕ → List ℕ) (n : ℕ) (below : (v i : ℕ) → Memᴰ i (dep v) → i < n) where
  -- ── v is on a closed chain exactly if one of its links leads back into its group ──
  back-closes : (v : ℕ) → v < n → any (grouped dep n v) (dep v) ≡ depends dep n v v
  back-closes v l = both_ways (any (grouped dep n v) (dep v)) (depends dep n v v) closes (λ e. leads (depends-is dep n below v v e))
    where
      closes : any (grouped dep n v) (dep v) ≡ true → depends dep n v v ≡ true
      closes e =
          let (i, m, q) = any-has (grouped dep n v) (dep v) e in
          depends-yes dep n below v v l (same-to dep (direct m) (same-sym dep (grouped-is dep n below v i q)))

      leads : Depends dep v v → any (grouped dep n v) (dep v) ≡ true
      leads (direct m) = any-in (grouped dep n v) (dep v) m (grouped-self dep n below v)
      leads (through {i} m d) = any-in (grouped dep n v) (dep v) m (grouped-yes dep n below v i (inr (direct m, d)))

  -- ── v is on a closed chain with both ends of a link exactly if it is of their group, and they are of one ──
  round-link : (v x i : ℕ) → Memᴰ i (dep x) → (together dep n v x && together dep n v i) ≡ (grouped dep n v x && grouped dep n x i)
  round-link v x i m = both_ways (together dep n v x && together dep n v i) (grouped dep n v x && grouped dep n x i) to from
    where
      to : (together dep n v x && together dep n v i) ≡ true → (grouped dep n v x && grouped dep n x i) ≡ true
      to e =
          let a = together-is dep n below v x (and_left (together dep n v x) (together dep n v i) e) in
          let b = together-is dep n below v i (and_right (together dep n v x) (together dep n v i) e) in
          ap₂ ◌&&◌ (grouped-yes dep n below v x (inr a)) (grouped-yes dep n below x i (inr (chain dep a.1 b.0, chain dep b.1 a.0)))

      from : (grouped dep n v x && grouped dep n x i) ≡ true → (together dep n v x && together dep n v i) ≡ true
      from e =
          let s = grouped-is dep n below v x (and_left (grouped dep n v x) (grouped dep n x i) e) in
          let q = grouped-is dep n below x i (and_right (grouped dep n v x) (grouped dep n x i) e) in
          let round : Depends dep x x = same-to dep (direct m) (same-sym dep q) in
          let up : Depends dep i x = same_from dep (same-sym dep q) round in
          ap₂ ◌&&◌
          (together-yes dep n below v x (same_from dep s round, same-to dep round (same-sym dep s)))
          (together-yes dep n below v i (same_from dep s (direct m), same-to dep up (same-sym dep s)))

  -- ── by the marks of the groups ──
  module _ (marks numbers : List ℕ) (F : Found n dep marks numbers) where
    pub back-depends : (v : ℕ) → v < n → leads_back dep marks v ≡ depends dep n v v
    back-depends v l =
        any_same (λ i. eqb (nat marks v) (nat marks i)) (grouped dep n v) (dep v) (λ i m. F.same v i l (below v i m)) ∙ back-closes v l

    pub round-marks : (v x i : ℕ) → v < n → x < n → Memᴰ i (dep x)
        → (together dep n v x && together dep n v i) ≡ (eqb (nat marks x) (nat marks i) && eqb (nat marks x) (nat marks v))
    round-marks v x i lv lx m =
        round-link v x i m ∙ swap (grouped dep n v x) (grouped dep n x i)
        ∙ ap₂ ◌&&◌ (sym (F.same x i lx (below x i m))) (grouped-sym dep n below v x ∙ sym (F.same x v lx lv))
      where
        swap : (a b : Bool) → (a && b) ≡ (b && a)
        swap true true = refl
        swap true false = refl
        swap false true = refl
        swap false false = refl
