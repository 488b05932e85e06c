-- Checks 1 to 5 as facts: how the chain of 2 to 5 goes on, what a row that passed them says, and which row makes which variable.
-- Assumes nothing.
use Prim.Native.Nat.{ℕ, zero, suc, pred, ◌+◌, ◌≤◌, ◌<◌}
use native.Mathlib.Nat.{le_of_suc-le-suc}
use native.Mathlib.Omega.{arith}
use mathlib.Core.Bool.{Bool, true, false, cond}
use mathlib.Core.List.Memᴰ
use mathlib.Core.List.{List, [], ◌∷◌, Memᴰ}
use mathlib.Core.Path.{◌≡◌, refl, ap, sym, ◌∙◌}
use lib.Dec.{eqb, leb, ltb}
use lib.ListN.{length, take, length-take}
use lib.Seq.{get_or-take}
use borrow.Author.Tests.{ltb-true, leb-true, eqb-true, eq-eqb, ne_eqb, lt-ltb, not-true}
use Rattle.paper.specs.Lists.{any, all, between, total, nat, seek}
use Rattle.paper.specs.Tables.{Tables, part, row_of, is_made, inputs_of}
use Rattle.paper.specs.Checks.{Verdict, accepted, refused, arity, sized, kind_good, shape_good, number_good, Bounds, bounds_good, made_once, table_lines, Sound, by_lines}
use Rattle.paper.proofs.Lists.{clash, and_left, and_right, each, all_in, all-at, any_at}
use Rattle.paper.proofs.Scan.{part_length}
use Rattle.paper.proofs.Verdicts.{check-next, check-rest, check-held, check-other, require-next, require-rest, require-held, require-other}
use Rattle.paper.proofs.Sizes.{Sized, sized-facts}

-- ── checks 2 to 5 in a chain ──
module _ (t : Tables) where
  abbrev filled : Bool
  filled = eqb (total (take t.m t.counts)) t.e

  -- the bounds are good at every variable
  abbrev pub BoundsGood : Bounds → Type 0
  BoundsGood bs = (v : ℕ) → v < t.n → bounds_good t bs v ≡ true

  -- passed: the next decides
  pub tables-next : (bs : Bounds) → Sound t → BoundsGood bs → (next : Verdict) → by_lines (table_lines t bs) next ≡ next
  tables-next bs s good next =
      check-next 2 t.m (kind_good t) _ s.kinds ∙ check-next 3 t.m (shape_good t) _ s.shapes ∙ require-next 3 (pred t.m) filled _ s.whole
      ∙ check-next 4 t.m (number_good t) _ s.numbers ∙ check-next 4 t.n (bounds_good t bs) _ good ∙ check-next 5 t.m (made_once t) next s.once

  -- accepted: passed, and so was the next
  pub tables-passed : (bs : Bounds) → sized t ≡ true → (next : Verdict) → by_lines (table_lines t bs) next ≡ accepted → Sound t × BoundsGood bs × (next ≡ accepted)
  tables-passed bs fits next e =
      let e₃ = check-rest 2 t.m (kind_good t) _ e in
      let e₃' = check-rest 3 t.m (shape_good t) _ e₃ in
      let e₄ = require-rest 3 (pred t.m) filled _ e₃' in
      let e₄' = check-rest 4 t.m (number_good t) _ e₄ in
      let e₅ = check-rest 4 t.n (bounds_good t bs) _ e₄' in (
        record {
          sized = fits;
          kinds = check-held 2 t.m (kind_good t) _ e;
          shapes = check-held 3 t.m (shape_good t) _ e₃;
          whole = require-held 3 (pred t.m) filled _ e₃';
          numbers = check-held 4 t.m (number_good t) _ e₄;
          once = check-held 5 t.m (made_once t) _ e₅;
        },
        check-held 4 t.n (bounds_good t bs) _ e₄',
        check-rest 5 t.m (made_once t) _ e₅,
      )

  -- refused with a number above 5: passed, and the refusal is the next one's
  pub tables-other : (bs : Bounds) → sized t ≡ true → (next : Verdict) (c p : ℕ) → 5 < c → by_lines (table_lines t bs) next ≡ refused c p → Sound t × BoundsGood bs × (next ≡ refused c p)
  tables-other bs fits next c p l e =
      let r₂ = check-other 2 t.m (kind_good t) _ c p (λ q. omega arith) e in
      let r₃ = check-other 3 t.m (shape_good t) _ c p (λ q. omega arith) r₂.1 in
      let r₃' = require-other 3 (pred t.m) filled _ c p (λ q. omega arith) r₃.1 in
      let r₄ = check-other 4 t.m (number_good t) _ c p (λ q. omega arith) r₃'.1 in
      let r₄' = check-other 4 t.n (bounds_good t bs) _ c p (λ q. omega arith) r₄.1 in
      let r₅ = check-other 5 t.m (made_once t) _ c p (λ q. omega arith) r₄'.1 in
      (record { sized = fits; kinds = r₂.0; shapes = r₃.0; whole = r₃'.0; numbers = r₄.0; once = r₅.0 }, r₄'.0, r₅.1)

-- ── what a row that passed them says ──
pub record SoundRow (t : Tables) (r : ℕ) : Type 0 where
  pub makes : nat t.makes r < t.n
  pub first : nat t.firsts r ≡ total (take r t.counts)
  pub inside : nat t.firsts r + nat t.counts r ≤ t.e
  pub some : 1 ≤ nat t.counts r
  pub few : nat t.counts r ≤ 256
  pub suits : arity (nat t.kinds r) (nat t.counts r) ≡ true
  pub inputs : all (λ v. ltb v t.n) (part t r t.vars) ≡ true

arity-some : (kind count : ℕ) → arity kind count ≡ true → (1 ≤ count) × (count ≤ 256)
arity-some k c h = go (eqb k 4) (and_left _ _ (and_left _ _ h))
  where
    go : (b : Bool) → between (cond b 2 1) c 256 ≡ true → (1 ≤ c) × (c ≤ 256)
    go true q = let x = leb-true 2 c (and_left (leb 2 c) (leb c 256) q) in (omega arith, leb-true c 256 (and_right (leb 2 c) (leb c 256) q))
    go false q = (leb-true 1 c (and_left (leb 1 c) (leb c 256) q), leb-true c 256 (and_right (leb 1 c) (leb c 256) q))

pub sound-row : (t : Tables) → Sound t → (r : ℕ) → r < t.m → SoundRow t r
sound-row t s r l =
    let kind = nat t.kinds r in let first = nat t.firsts r in let count = nat t.counts r in
    let f = each _ (s.shapes r l) in
    record {
      makes = ltb-true (nat t.makes r) t.n f.0;
      first = eqb-true first (total (take r t.counts)) f.1.1.1.0;
      inside = leb-true (first + count) t.e f.1.1.1.1.0;
      some = (arity-some kind count f.1.1.0).0;
      few = (arity-some kind count f.1.1.0).1;
      suits = f.1.1.0;
      inputs = f.1.0;
    }

-- ── which row makes which variable ──
-- the place found is the first that holds v
seek-at : (v : ℕ) (xs : List ℕ) (r : ℕ) → r < length xs → nat xs r ≡ v → ((q : ℕ) → q < r → nat xs q ≡ v → ⊥) → seek v xs ≡ r
seek-at v [] r l e h = absurd (omega arith)
seek-at v (x ∷ xs) zero l e h = ap (λ b. cond b zero (suc (seek v xs))) (eq-eqb x v e)
seek-at v (x ∷ xs) (suc r) l e h =
    ap (λ b. cond b zero (suc (seek v xs))) (ne_eqb x v (h zero (omega arith)))
    ∙ ap suc (seek-at v xs r (le_of_suc-le-suc l) e (λ q k. h (suc q) (omega arith)))

seek-holds : (v : ℕ) (xs : List ℕ) → seek v xs < length xs → nat xs (seek v xs) ≡ v
seek-holds v [] l = absurd (omega arith)
seek-holds v (x ∷ xs) l = go (eqb x v) refl l (seek-holds v xs)
  where
    go : (b : Bool) → eqb x v ≡ b → cond b zero (suc (seek v xs)) < suc (length xs) → (seek v xs < length xs → nat xs (seek v xs) ≡ v)
        → nat (x ∷ xs) (cond b zero (suc (seek v xs))) ≡ v
    go true q h more = eqb-true x v q
    go false q h more = more (le_of_suc-le-suc h)

module _ (t : Tables) (s : Sound t) where
  size : Sized t
  size = sized-facts t s.sized

  made-long : length (take t.m t.makes) ≡ t.m
  made-long = let h = size.makes in simp length-take (omega arith)

  -- no two rows make the same variable
  pub made-once : (r q : ℕ) → r < q → q < t.m → nat t.makes r ≡ nat t.makes q → ⊥
  made-once r q l h e =
      let long = size.makes in
      let len : length (take q t.makes) ≡ q = simp length-take (omega arith) in
      let out = any_at (eqb (nat t.makes q)) (take q t.makes) (not-true (any (eqb (nat t.makes q)) (take q t.makes)) (s.once q h)) r 0 (omega arith) in
      clash (eq-eqb (nat t.makes q) (nat t.makes r) (sym e)) (rw (get_or-take q t.makes r 0 l) at out)

  -- row r is the row of the variable that it makes
  pub row-of : (r : ℕ) → r < t.m → row_of t (nat t.makes r) ≡ r
  unfolding row_of
  row-of r l =
      seek-at (nat t.makes r) (take t.m t.makes) r (let h = made-long in omega arith) (get_or-take t.m t.makes r 0 l)
      (λ q k e. made-once q r k l (sym (get_or-take t.m t.makes q 0 (omega arith)) ∙ e))

  pub row-is-made : (r : ℕ) → r < t.m → is_made t (nat t.makes r) ≡ true
  row-is-made r l = ap (λ k. ltb k t.m) (row-of r l) ∙ lt-ltb r t.m l

  -- a made variable has a row, which makes it
  pub made_row : (v : ℕ) → is_made t v ≡ true → row_of t v < t.m
  made_row v e = ltb-true (row_of t v) t.m e

  pub made_by : (v : ℕ) → is_made t v ≡ true → nat t.makes (row_of t v) ≡ v
  unfolding row_of
  made_by v e =
      let l = ltb-true (seek v (take t.m t.makes)) t.m e in let h = made-long in
      sym (get_or-take t.m t.makes (seek v (take t.m t.makes)) 0 l) ∙ seek-holds v (take t.m t.makes) (omega arith)

  pub made-below : (v : ℕ) → is_made t v ≡ true → v < t.n
  made-below v e = rw (made_by v e) at (sound-row t s (row_of t v) (made_row v e)).makes

  -- the inputs of a row's variable are the row's part
  pub row-inputs : (r : ℕ) → r < t.m → inputs_of t (nat t.makes r) ≡ part t r t.vars
  row-inputs r l =
      ap (λ b. cond b (part t (row_of t (nat t.makes r)) t.vars) []) (row-is-made r l)
      ∙ ap (λ q. part t q t.vars) (row-of r l)

  pub row-length : {A : Type 0} (entries : List A) → t.e ≤ length entries → (r : ℕ) → r < t.m → length (part t r entries) ≡ nat t.counts r
  row-length entries h r l = let i = (sound-row t s r l).inside in part_length entries (nat t.firsts r) (nat t.counts r) (omega arith)

  -- inputs are variables of the model
  pub row_below : (r i : ℕ) → r < t.m → i < nat t.counts r → nat (part t r t.vars) i < t.n
  row_below r i l k =
      let long = row-length t.vars size.vars r l in
      ltb-true (nat (part t r t.vars) i) t.n (all-at (λ v. ltb v t.n) (part t r t.vars) (sound-row t s r l).inputs i 0 (omega arith))

  pub inputs-below : (v i : ℕ) → Memᴰ i (inputs_of t v) → i < t.n
  inputs-below v i m = go (is_made t v) refl m
    where
      go : (b : Bool) → is_made t v ≡ b → Memᴰ i (cond b (part t (row_of t v) t.vars) []) → i < t.n
      go true e h = ltb-true i t.n (all_in (λ w. ltb w t.n) (part t (row_of t v) t.vars) (sound-row t s (row_of t v) (made_row v e)).inputs h)
      go false e h = absurd (Memᴰ.not-nil h)
