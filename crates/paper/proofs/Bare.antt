-- Tables are as sound without what their rows hold beyond the counts as with it, and have the same chains and start values: no check looks
-- beyond. Assumes nothing.
use Prim.Native.Nat.{ℕ, zero, suc, ◌+◌, ◌≤◌, ◌<◌}
use native.Mathlib.Nat.{le_refl}
use native.Mathlib.Omega.{arith}
use mathlib.Core.Bool.{Bool, true, false, cond, not}
use mathlib.Core.List.{List, [], ◌∷◌, ◌++◌}
use mathlib.Core.Path.{◌≡◌, refl, ap, ap₂, sym, ◌∙◌, fun_ext}
use lib.Dec.{eqb, leb, ltb}
use lib.IntN.{ℤ, pos}
use lib.ListN.{length, get_or, take, drop, length-take}
use lib.Seq.{get_or-take, take-take}
use borrow.Author.Tests.{leb-true, leb-false, le-leb, lt-leb}
use Rattle.integers.specs.Integers.{eq_z}
use Rattle.paper.specs.Lists.{every, total, nat, seek}
use Rattle.paper.specs.Formula.{blank}
use Rattle.paper.specs.Net.{able}
use Rattle.paper.specs.Tables.{Tables, bare, part, row_of, is_made, inputs_of, ends, values_in}
use Rattle.paper.specs.Checks.{sized, kind_good, shape_good, number_good, made_once, start_good, Sound}
use Rattle.paper.proofs.Accept.{sound-row, made_row}

-- a list cut at k is as long as k asks exactly if it was
pub cut-long : {A : Type 0} (k : ℕ) (l : List A) → leb k (length (take k l)) ≡ leb k (length l)
cut-long k l = go (leb k (length l)) refl
  where
    go : (b : Bool) → leb k (length l) ≡ b → leb k (length (take k l)) ≡ b
    go true e = let h = leb-true k (length l) e in le-leb k (length (take k l)) (simp length-take (omega arith))
    go false e = let h = leb-false k (length l) e in lt-leb k (length (take k l)) (simp length-take (omega arith))

-- a conjunction whose last test fails
last-fails : (bs : List Bool) → every (bs ++ (false ∷ [])) ≡ false
unfolding every
last-fails [] = refl
last-fails (true ∷ bs) = last-fails bs
last-fails (false ∷ bs) = refl

-- a part that lies within the first e entries
part-front : {A : Type 0} (a c e : ℕ) (l : List A) → a + c ≤ e → take c (drop a (take e l)) ≡ take c (drop a l)
part-front zero c e l h = take-take c e l (omega arith)
part-front (suc a) c zero l h = absurd (omega arith)
part-front (suc a) c (suc e) [] h = refl
part-front (suc a) c (suc e) (x ∷ l) h = part-front a c e l (omega arith)

module _ (t : Tables) where
  abbrev m : ℕ
  m = t.m

  -- ── each row is as good ──
  module _ (r : ℕ) (l : r < m) where
    pub kind_at : nat (bare t).kinds r ≡ nat t.kinds r
    kind_at = get_or-take m t.kinds r 0 l

    pub makes-at : nat (bare t).makes r ≡ nat t.makes r
    makes-at = get_or-take m t.makes r 0 l

    first-at : nat (bare t).firsts r ≡ nat t.firsts r
    first-at = get_or-take m t.firsts r 0 l

    count_at : nat (bare t).counts r ≡ nat t.counts r
    count_at = get_or-take m t.counts r 0 l

    pub kind-same : kind_good (bare t) r ≡ kind_good t r
    kind-same = rw kind_at

    module _ (inside : nat t.firsts r + nat t.counts r ≤ t.e) where
      pub part_same : {A : Type 0} (entries : List A) → part (bare t) r (take t.e entries) ≡ part t r entries
      part_same entries = rw (first-at, count_at) (part-front (nat t.firsts r) (nat t.counts r) t.e entries inside)

      shape-inside : shape_good (bare t) r ≡ shape_good t r
      shape-inside = rw (makes-at, part_same t.vars, kind_at, count_at, first-at, take-take r m t.counts (omega arith))

      pub number_same : number_good (bare t) r ≡ number_good t r
      number_same = rw (kind_at, get_or-take m t.params r (pos 0) l, part_same t.coefs)

    -- a part that does not end within e is bad either way
    pub shape_same : shape_good (bare t) r ≡ shape_good t r
    shape_same = go (leb (nat t.firsts r + nat t.counts r) t.e) refl
      where
        go : (b : Bool) → leb (nat t.firsts r + nat t.counts r) t.e ≡ b → shape_good (bare t) r ≡ shape_good t r
        go true e = shape-inside (leb-true (nat t.firsts r + nat t.counts r) t.e e)
        go false e = rw (first-at, count_at, e) (last-fails (_ ∷ _ ∷ _ ∷ _ ∷ []) ∙ sym (last-fails (_ ∷ _ ∷ _ ∷ _ ∷ [])))

    pub once-same : made_once (bare t) r ≡ made_once t r
    once-same = rw (makes-at, take-take r m t.makes (omega arith))

  pub counts_same : total (take m (bare t).counts) ≡ total (take m t.counts)
  counts_same = ap total (take-take m m t.counts (le_refl m))

  -- ── so are the tables ──
  pub sized_same : sized (bare t) ≡ sized t
  sized_same = rw (
    cut-long m t.kinds,
    cut-long m t.makes,
    cut-long m t.params,
    cut-long m t.firsts,
    cut-long m t.counts,
    cut-long t.e t.vars,
    cut-long t.e t.coefs,
  )

  pub bare-sound : Sound t → Sound (bare t)
  bare-sound s = record {
    sized = sized_same ∙ s.sized;
    kinds = λ r l. kind-same r l ∙ s.kinds r l;
    shapes = λ r l. shape_same r l ∙ s.shapes r l;
    whole = ap (λ (x : ℕ). eqb x t.e) counts_same ∙ s.whole;
    numbers = λ r l. number_same r l (sound-row t s r l).inside ∙ s.numbers r l;
    once = λ r l. once-same r l ∙ s.once r l;
  }

  pub sound-bare : sized t ≡ true → Sound (bare t) → Sound t
  sound-bare h s = record {
    sized = h;
    kinds = λ r l. sym (kind-same r l) ∙ s.kinds r l;
    shapes = λ r l. sym (shape_same r l) ∙ s.shapes r l;
    whole = ap (λ (x : ℕ). eqb x t.e) (sym counts_same) ∙ s.whole;
    numbers = λ r l. sym (number_same r l (inside r l)) ∙ s.numbers r l;
    once = λ r l. sym (once-same r l) ∙ s.once r l;
  }
    where
      inside : (r : ℕ) → r < m → nat t.firsts r + nat t.counts r ≤ t.e
      inside r l = rw (first-at r l, count_at r l) at (sound-row (bare t) s r l).inside

  -- ── the same model ──
  pub bare-row : (v : ℕ) → row_of (bare t) v ≡ row_of t v
  unfolding row_of
  bare-row v = ap (seek v) (take-take m m t.makes (le_refl m))

  pub bare-made : (v : ℕ) → is_made (bare t) v ≡ is_made t v
  bare-made v = ap (λ r. ltb r m) (bare-row v)

  pub bare-inputs : Sound t → (v : ℕ) → inputs_of (bare t) v ≡ inputs_of t v
  bare-inputs s v = ap₂ (λ b r. cond b (part (bare t) r (bare t).vars) []) (bare-made v) (bare-row v) ∙ go (is_made t v) refl
    where
      go : (b : Bool) → is_made t v ≡ b → cond b (part (bare t) (row_of t v) (bare t).vars) [] ≡ cond b (part t (row_of t v) t.vars) []
      go true e = let l = made_row t s v e in part_same (row_of t v) l (sound-row t s (row_of t v) l).inside t.vars
      go false e = refl

  pub bare_ends : Sound t → (v : ℕ) → ends (bare t) v ≡ ends t v
  bare_ends s v = ap (λ f. able f t.n v) (fun_ext (bare-inputs s))

  pub bare-starts : (starts : List ℤ) (v : ℕ) → start_good (bare t) (values_in (bare t) (take t.n starts)) v ≡ start_good t (values_in t starts) v
  bare-starts starts v =
      ap₂ (λ b (x : ℤ). cond b (eq_z x (pos 0)) (not (eq_z x blank))) (bare-made v) (ap (λ l. get_or l v (pos 0)) (take-take t.n t.n starts (le_refl t.n)))
