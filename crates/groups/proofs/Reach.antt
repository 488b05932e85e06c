-- What links lead to: chains join end to end, and what is closed under links holds all that they lead to. Assumes nothing.
use Prim.Native.Nat.{ℕ}
use mathlib.Core.List.Memᴰ
use mathlib.Core.List.{List, [], Memᴰ}
use mathlib.Core.Logic.{◌⊎◌, inl, inr}
use mathlib.Core.Path.{◌≡◌, refl, subst}
use Rattle.paper.specs.Net.{Depends, direct, through}
use Rattle.groups.specs.Walk.{Reaches, here, on}

-- ── chains of links ──
module _ {dep : ℕ → List ℕ} where
  pub here-or : {v w : ℕ} → v ≡ w → Reaches dep v w
  here-or {v} e = subst (Reaches dep v) e here

  pub one_link : {v i : ℕ} → Memᴰ i (dep v) → Reaches dep v i
  one_link m = on m here

  pub joins : {v i w : ℕ} → Reaches dep v i → Reaches dep i w → Reaches dep v w
  joins here q = q
  joins (on m p) q = on m (joins p q)

  -- what holds of v and of all links of what it holds of
  pub carries : (P : ℕ → Type 0) → ((v i : ℕ) → P v → Memᴰ i (dep v) → P i) → {v w : ℕ} → Reaches dep v w → P v → P w
  carries P h here p = p
  carries P h (on {v} {i} m r) p = carries P h r (h v i p m)

  -- without links v leads nowhere else
  pub alone : {v w : ℕ} → dep v ≡ [] → Reaches dep v w → v ≡ w
  alone e here = refl
  alone {v} e (on {i} m r) = absurd (Memᴰ.not-nil (subst (Memᴰ _) e m))

  pub further : {v i w : ℕ} → Memᴰ i (dep v) → Reaches dep i w → Depends dep v w
  further m here = direct m
  further m (on q r) = through m (further q r)

  pub depends-or : {v w : ℕ} → Reaches dep v w → (v ≡ w) ⊎ Depends dep v w
  depends-or here = inl refl
  depends-or (on m r) = inr (further m r)

  pub reaches : {v w : ℕ} → Depends dep v w → Reaches dep v w
  reaches (direct m) = one_link m
  reaches (through m d) = on m (reaches d)
