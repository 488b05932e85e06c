-- Flags set one after another: what is set, what stays, and what is left of the readers of a variable and of a list of moves. Assumes nothing.
use Prim.Native.Nat.{ℕ, suc, ◌+◌, ◌≤◌, ◌<◌}
use native.Mathlib.Omega.{arith}
use mathlib.Core.Bool.{Bool, true, false, cond, ◌||◌}
use mathlib.Core.List.{List, [], ◌∷◌, map, Memᴰ}
use mathlib.Core.Path.{◌≡◌, refl, ap, sym, ◌∙◌}
use lib.Dec.{eqb}
use lib.IntN.{ℤ}
use lib.ListN.{length, drop, set, length-set}
use lib.Seq.{slice, slice-cons, get_or-set_same, get_or-set_other, drop-set-lt}
use borrow.Author.Tests.{eqb-true, eqb-false, eq-eqb}
use Rattle.paper.specs.Lists.{any, nat}
use Rattle.paper.specs.Net.{differs}
use Rattle.paper.specs.Tables.{Tables}
use Rattle.paper.specs.Checks.{Sound}
use Rattle.paper.proofs.Scan.{next}
use Rattle.paper.proofs.Sizes.{sized-facts}
use Rattle.paper.proofs.Accept.{sound-row}
use Rattle.index.specs.Index.{Indexed}
use Rattle.routes.specs.Sections.{made_from}
use Rattle.routes.specs.Rows.{values_of, row_gives}
use Rattle.routes.specs.Routed.{flag_each, Section, pass_on, pass_each, Turned}
use Rattle.routes.proofs.Read.{slice_at, section-reads}

-- ── flags at the variables of a list ──
pub flag-length : (us flags : List ℕ) → length (flag_each us flags) ≡ length flags
flag-length [] flags = refl
flag-length (u ∷ us) flags = flag-length us (set flags u 1) ∙ length-set flags u 1

pub flag-drop : (n : ℕ) (us flags : List ℕ) → ((u : ℕ) → Memᴰ u us → u < n) → drop n (flag_each us flags) ≡ drop n flags
flag-drop n [] flags low = refl
flag-drop n (u ∷ us) flags low = flag-drop n us (set flags u 1) (λ w m. low w (Memᴰ.tail m)) ∙ drop-set-lt n flags u 1 (low u (Memᴰ.head refl))

pub flag_at : (us flags : List ℕ) (u : ℕ) → u < length flags → nat (flag_each us flags) u ≡ cond (any (eqb u) us) 1 (nat flags u)
flag_at [] flags u h = refl
flag_at (w ∷ us) flags u h = flag_at us (set flags w 1) u (let l = length-set flags w 1 in omega arith) ∙ go (eqb u w) refl (any (eqb u) us)
  where
    go : (b : Bool) → eqb u w ≡ b → (c : Bool) → cond c 1 (nat (set flags w 1) u) ≡ cond (b || c) 1 (nat flags u)
    go b e true = both b
      where
        both : (b : Bool) → 1 ≡ cond (b || true) 1 (nat flags u)
        both true = refl
        both false = refl
    go true e false = let q = eqb-true u w e in rw (sym q) (get_or-set_same flags u 1 0 h)
    go false e false = get_or-set_other flags w u 1 0 (eqb-false u w e)

-- ── the readers that are left from place i on ──
module _ (makes places goal : List ℕ) (i last : ℕ) (flags : List ℕ) (e : flag_each (map (nat makes) (slice i last places)) flags ≡ goal) where
  pub flag-next : i < last → last ≤ length places → (r u : ℕ) → r ≡ nat places i → u ≡ nat makes r → flag_each (map (nat makes) (slice (i + 1) last places)) (set flags u 1) ≡ goal
  flag-next h k r u p q =
      let d : i + 1 ≡ suc i = omega arith in
      rw (d, q, p) (sym (ap (λ (l : List ℕ). flag_each (map (nat makes) l) flags) (slice-cons i last places 0 h k)) ∙ e)

-- ── the moves that are left from place i on ──
module _ (makes starts places : List ℕ) (stored trial : List ℤ) (moves goal : List ℕ) (i : ℕ) (flags : List ℕ) (e : pass_each makes starts places stored trial (drop i moves) flags ≡ goal) where
  -- one that changed, and one that did not
  pub pass-next : i < length moves → (v : ℕ) → v ≡ nat moves i → (b : Bool) → b ≡ differs (values_of trial) (values_of stored) v
      → (b ≡ true → (after : List ℕ) → after ≡ flag_each (made_from makes starts places v) flags → (length after ≡ length flags) × (pass_each makes starts places stored trial (drop (i + 1) moves) after ≡ goal))
      × (b ≡ false → pass_each makes starts places stored trial (drop (i + 1) moves) flags ≡ goal)
  pass-next h v p b q = (λ y after w. rw w (flag-length (made_from makes starts places v) flags, rw (sym q ∙ y) at one), λ y. rw (sym q ∙ y) at one)
    where
      one : pass_each makes starts places stored trial (drop (i + 1) moves) (pass_on makes starts places stored trial v flags) ≡ goal
      one = rw p (sym (ap (λ (l : List ℕ). pass_each makes starts places stored trial l flags) (next moves i 0 h)) ∙ e)

-- ── the index has a section for each variable ──
pub section-of : (t : Tables) → Sound t → (starts places : List ℕ) → Indexed t starts places → (v room : ℕ) → v < t.n → t.n ≤ room → Section t.makes starts places v room
section-of t s starts places x v room l k = record {
  long = let h = x.long in omega arith;
  inside = x.inside v l;
  row = λ i g h. let q = row i g h in let z = (sized-facts t s.sized).makes in omega arith;
  made = λ i g h. let q = (sound-row t s (nat places i) (row i g h)).makes in omega arith;
}
  where
    row : (i : ℕ) → nat starts v ≤ i → i < nat starts (suc v) → nat places i < t.m
    row i g h = (section-reads t s starts places x v l (nat places i) (slice_at (nat starts v) (nat starts (suc v)) places i (x.inside v l) g h)).0

-- ── the turn of a row ──
module _ (t : Tables) (starts places : List ℕ) (r : ℕ) (stored trial : List ℤ) (flags : List ℕ) (v : ℕ) (q : v ≡ nat t.makes r) where
  -- one that changed, and one that did not
  pub turned : nat flags v ≡ 1 → (x : ℤ) → x ≡ row_gives r t.kinds t.params t.firsts t.counts t.vars t.coefs trial
      → (b : Bool) → b ≡ differs (values_of (set trial v x)) (values_of stored) v
      → (b ≡ true → (after : List ℕ) → after ≡ flag_each (made_from t.makes starts places v) flags → Turned t starts places r stored trial flags (set trial v x) after)
      × (b ≡ false → Turned t starts places r stored trial flags (set trial v x) flags)
  turned f x p b d =
      let e = eq-eqb (nat flags v) 1 f in
      (λ y after w. record { values = rw (sym q, e, p); flagged = rw (sym q, e, sym d ∙ y) w }, λ y. record { values = rw (sym q, e, p); flagged = rw (sym q, e, sym d ∙ y) })
