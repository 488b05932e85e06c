-- After every variable's visit: what stands has its fresh value and is determined, and what waits looks at one that waits, so that it is not.
-- Assumes nothing.
use Prim.Native.Nat.{ℕ, ◌+◌, ◌-◌, ◌≤◌, ◌<◌}
use native.Mathlib.Nat.{not-suc-le-zero, lt_irrefl}
use native.Mathlib.Omega.{arith}
use mathlib.Core.Bool.{Bool, true, false, cond}
use mathlib.Core.List.{List, Memᴰ}
use mathlib.Core.Logic.{◌⊎◌, inl, inr, ⊎_elim}
use mathlib.Core.Path.{◌≡◌, refl, ap, sym, ◌∙◌, subst, fun_ext}
use lib.Dec.{eqb, ltb}
use lib.IntN.{ℤ, pos}
use lib.ListN.{length, drop, length-drop}
use lib.Seq.{get_or-take, get_or-drop, ext_get_or}
use borrow.Author.Tests.{eqb-true, eqb-false, ltb-true, ltb-false}
use Rattle.paper.specs.Lists.{nat, size}
use Rattle.paper.specs.Net.{Values, Net, able, valuation}
use Rattle.paper.specs.Tables.{Tables, net, is_made, form_of, asks_of, values_in}
use Rattle.paper.specs.Checks.{Sound}
use Rattle.paper.proofs.Lists.{clash}
use Rattle.paper.proofs.Buffers.{over-of}
use Rattle.paper.proofs.Count.{size-le}
use Rattle.paper.proofs.Lawful.{Lawful}
use Rattle.paper.specs.Chains.{worth, determined}
use Rattle.paper.proofs.Needs.{followed, determined-least}
use Rattle.tables.specs.Makers.{Makers}
use Rattle.order.specs.Numbering.{Clean}
use Rattle.routes.specs.Rows.{values_of}
use Rattle.choices.specs.Choices.{Followed}
use Rattle.choices.specs.Visiting.{value_stands, Visited}
use Rattle.choices.specs.Swept.{Swept}
use Rattle.choices.proofs.Whole.{makers, whole, makers-long, made-is, form-is, asks-is}
use Rattle.choices.proofs.Visited.{held_on}

-- ── the loop over all variables ──
module _ (N : Net) (L : Lawful N) (n : ℕ) where
  pub swept-start : (values : List ℤ) (states : List ℕ) → n ≤ length values → Clean n states → Swept N n 0 values values states
  swept-start values states room C = record {
    right = record {
      in-values = room;
      in-states = C.long;
      most = λ u. let z = C.at u in omega arith;
      below = λ u h. absurd (none u h);
      value = λ u h. absurd (none u h);
      asked = λ u h. absurd (none u h);
      ends = λ u h. absurd (none u h);
    };
    begun = λ u l. absurd (not-suc-le-zero l);
    still = λ u. inl refl;
    long = refl;
    held = λ u h. absurd (lt_irrefl 0 (let z = C.at u in omega arith));
  }
    where
      none : (u : ℕ) → nat states u ≡ 2 → ⊥
      none u h = lt_irrefl 0 (let z = C.at u in omega arith)

  pub swept_step : {v r : ℕ} {start values values' : List ℤ} {states states' : List ℕ} → Swept N n v start values states → Visited N n v values states values' states' r
      → Swept N n (v + 1) start values' states'
  swept_step {v} {r} {start} {values} {values'} {states} {states'} S W = record {
    right = W.right;
    begun = λ u l. go u l (ltb u v) refl;
    still = λ u. join u (S.still u) (W.onward.still u);
    long = W.onward.long ∙ S.long;
    held = λ u h. ⊎_elim (λ q. held_on N L n W.onward u (S.held u q)) (λ q. q.1) (W.stuck u h);
  }
    where
      go : (u : ℕ) → u < v + 1 → (b : Bool) → ltb u v ≡ b → 0 < nat states' u
      go u l true e = let b = S.begun u (ltb-true u v e) in let k = W.onward.kept u b in omega arith
      go u l false e = let x = ltb-false u v e in let s : v ≡ u = omega arith in subst (λ z. 0 < nat states' z) s (rw (← W.is) W.begun)

      join : (u : ℕ) → (values_of values u ≡ values_of start u) ⊎ ((nat states u ≡ 2) × (N.made u ≡ true))
          → (values_of values' u ≡ values_of values u) ⊎ ((nat states u ≡ 0) × (nat states' u ≡ 2) × (N.made u ≡ true))
          → (values_of values' u ≡ values_of start u) ⊎ ((nat states' u ≡ 2) × (N.made u ≡ true))
      join u (inr (s, m)) q = inr (W.onward.kept u (omega arith) ∙ s, m)
      join u (inl e) (inl d) = inl (d ∙ e)
      join u (inl e) (inr (z, s, m)) = inr (s, m)

  pub swept-end : {v : ℕ} {start values : List ℤ} {states : List ℕ} → n ≤ v → Swept N n v start values states → Swept N n n start values states
  swept-end h S = record { right = S.right; begun = λ u l. S.begun u (omega arith); still = S.still; long = S.long; held = S.held }

-- ── what the values and states then say ──
module _ (t : Tables) (sound : Sound t) (by : List ℕ) (k : Makers t by) (before values : List ℤ) (states : List ℕ)
    (S : Swept (whole t sound by k) t.n t.n before values states) where
  -- the search variables' values, and the values that were found
  abbrev s : Values
  s = values_in t before

  abbrev f : Values
  f = values_of values

  abbrev Stands : ℕ → Type 0
  Stands u = nat states u ≡ 2

  -- what does not stand, or is not made, has the value that was lent
  as_lent : (u : ℕ) → u < t.n → (Stands u → is_made t u ≡ true → ⊥) → f u ≡ s u
  as_lent u l h = ⊎_elim (λ e. e ∙ sym (get_or-take t.n before u (pos 0) l)) (λ (q, m). absurd (h q (sym (made-is t sound by k u) ∙ m))) (S.still u)

  meets : (u : ℕ) → Stands u → f u ≡ valuation (net t) s f u
  meets u h = go (is_made t u) refl
    where
      go : (b : Bool) → is_made t u ≡ b → f u ≡ cond b (form_of t u f) (s u)
      go true e = S.right.value u h (made-is t sound by k u ∙ e) ∙ form-is t sound by k u e f
      go false e = as_lent u (S.right.below u h) (λ q m. clash m e)

  closed : (u i : ℕ) → Stands u → Memᴰ i (asks_of t u f) → Stands i
  closed u i h m = S.right.asked u h i (subst (Memᴰ i) (sym (asks-is t sound by k f u)) m)

  ends : (u : ℕ) → Stands u → able (λ w. asks_of t w f) (size (value_stands states) t.n) u ≡ true
  ends u h = ap (λ (dep : ℕ → List ℕ). able dep (size (value_stands states) t.n) u) (sym (fun_ext (asks-is t sound by k f))) ∙ S.right.ends u h

  stands-is : (u : ℕ) → Stands u → (determined t s u ≡ true) × (worth t s u ≡ f u)
  stands-is u h = followed t s f Stands meets closed (size (value_stands states) t.n) u (size-le (value_stands states) t.n) h (ends u h)

  -- a variable that is determined does not wait, since none that it needs does
  not-waiting : (u : ℕ) → determined t s u ≡ true → nat states u ≡ 1 → ⊥
  not-waiting = determined-least t s (λ u. nat states u ≡ 1 → ⊥) (λ u none e.
      let H = S.held u e in
      none H.on (subst (Memᴰ H.on) (asks-is t sound by k (worth t s) u) (H.looks (worth t s) (λ w h. (stands-is w h).1))) H.waits)

  -- each variable stands or waits
  waits : (v : ℕ) → v < t.n → eqb (nat states v) 2 ≡ false → nat states v ≡ 1
  waits v l e = let ne = eqb-false (nat states v) 2 e in let b = S.begun v l in let m = S.right.most v in omega arith

  which : (v : ℕ) → v < t.n → determined t s v ≡ eqb (nat states v) 2
  which v l = go (eqb (nat states v) 2) refl
    where
      none : (b : Bool) → determined t s v ≡ b → nat states v ≡ 1 → b ≡ false
      none true e h = absurd (not-waiting v e h)
      none false e h = refl

      go : (b : Bool) → eqb (nat states v) 2 ≡ b → determined t s v ≡ b
      go true e = (stands-is v (eqb-true (nat states v) 2 e)).0
      go false e = none (determined t s v) refl (waits v l e)

  value-is : (v : ℕ) → v < t.n → f v ≡ cond (determined t s v) (worth t s v) (s v)
  value-is v l = go (eqb (nat states v) 2) refl ∙ ap (λ b. cond b (worth t s v) (s v)) (sym (which v l))
    where
      go : (b : Bool) → eqb (nat states v) 2 ≡ b → f v ≡ cond b (worth t s v) (s v)
      go true e = sym (stands-is v (eqb-true (nat states v) 2 e)).1
      go false e = as_lent v l (λ q m. eqb-false (nat states v) 2 e q)

  beyond : drop t.n values ≡ drop t.n before
  beyond = ext_get_or (pos 0) (drop t.n values) (drop t.n before) (length-drop t.n values ∙ ap (λ z. z - t.n) S.long ∙ sym (length-drop t.n before)) (λ i l.
      get_or-drop t.n values i (pos 0) ∙ past (t.n + i) (omega arith) ∙ sym (get_or-drop t.n before i (pos 0)))
    where
      past : (u : ℕ) → t.n ≤ u → values_of values u ≡ values_of before u
      past u h = ⊎_elim (λ e. e) (λ q. absurd (lt_irrefl u (let l = S.right.below u q.0 in omega arith))) (S.still u)

  all-followed : t.n ≤ length before → Followed t before values states
  all-followed room = record {
    values-are = over-of (λ v. cond (determined t s v) (worth t s v) (s v)) t.n before values (pos 0) S.long room value-is beyond;
    which = which;
  }

pub swept-followed : (t : Tables) (sound : Sound t) (by : List ℕ) (k : Makers t by) (before values : List ℤ) (states : List ℕ) → t.n ≤ length before
    → Swept (whole t sound by k) (length (makers t sound by k)) (length (makers t sound by k)) before values states → Followed t before values states
swept-followed t sound by k before values states room S =
    all-followed t sound by k before values states (subst (λ n. Swept (whole t sound by k) n n before values states) (makers-long t sound by k) S) room
