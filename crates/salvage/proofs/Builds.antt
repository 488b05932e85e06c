-- What is saved is read back and built: its rows are sound tables in which every chain ends, its start values are good, and each number fits
-- its field. Assumes nothing.
use Prim.Native.Nat.{ℕ, ◌<◌}
use native.Mathlib.Nat.{le_refl}
use native.Mathlib.Omega.{arith}
use mathlib.Core.Bool.{Bool, true, false, cond, not, ◌&&◌, ◌||◌}
use mathlib.Core.List.{List}
use mathlib.Core.Path.{◌≡◌, refl, ap, ap₂, sym, ◌∙◌, subst}
use lib.Dec.{eqb}
use lib.IntN.{ℤ, pos}
use lib.ListN.{get_or}
use lib.Signed.{le_z}
use lib.Seq.{get_or-take}
use mir.Syntax.{w32}
use mir.Val.{SFits}
use mir.Facts.{sfits_lit}
use Rattle.integers.specs.Integers.{eq_z}
use Rattle.paper.specs.Lists.{any, nat, those}
use Rattle.paper.specs.Formula.{blank}
use Rattle.paper.specs.Tables.{Tables, is_made, ends, values_in}
use Rattle.paper.specs.Chains.{permitted, determined}
use Rattle.paper.specs.Checks.{accepted, sized, bound_good, within, start_good, in_bounds, start_allowed, Sound}
use Rattle.paper.specs.Calls.{BuildLent, start_values, build_fits, build_verdict}
use Rattle.paper.specs.File.{version1, Contents, unbounded_contents, held, n_in, m_in, e_in, Fitting, cut}
use Rattle.paper.proofs.Lists.{and_left, and_right}
use Rattle.paper.proofs.Buffers.{length-below, get_d-below}
use Rattle.paper.proofs.Verdicts.{check-next, require-next}
use Rattle.paper.proofs.Sizes.{held_of}
use Rattle.paper.proofs.Accept.{tables-next}
use Rattle.paper.proofs.Bare.{bare-sound, sound-bare, bare_ends, bare-starts}
use Rattle.paper.proofs.Closes.{not-closes, Opened, opened}
use Rattle.paper.proofs.Reread.{reread, cut-back}
use Rattle.damage.specs.Saved.{packed, given, start_given, kept_rows, is_saved, start_whole, saved_tables, start_kept, saved_starts, saved_file}
use Rattle.salvage.specs.Promises.{Readable, AllFull, Builds, SalvageBuilds}
use Rattle.damage.proofs.Packed.{Rows, packed-sized, packed-sound}
use Rattle.damage.proofs.Given.{vars-long, coefs-long, given-fits}
use Rattle.damage.proofs.KeptRows.{those-at, any-those, keeps, kept-those, rows-kept}
use Rattle.salvage.proofs.Ends.{all_end}
use Rattle.salvage.proofs.Fits.{packed-fits}
use Rattle.salvage.proofs.Full.{full-good, full-within}

-- build accepts sound tables in which every chain ends, with good start values and full bounds, in any rows that are long enough
build-accepts : (t : Tables) (starts : List ℤ) → Sound t → ((v : ℕ) → ends t v ≡ true) → ((v : ℕ) → v < t.n → start_good t (values_in t starts) v ≡ true)
    → ((v : ℕ) → v < t.n → SFits w32 (get_or starts v (pos 0)))
    → (b : BuildLent) → cut version1 (unbounded_contents b.tables b.starts) ≡ cut version1 (unbounded_contents t starts) → AllFull b.tables.n b.bounds → build_fits b ≡ true → build_verdict b ≡ accepted
unfolding build_verdict
build-accepts t starts sound chains good small b e full fits =
    require-next 1 0 (build_fits b) _ fits
    ∙ tables-next u b.bounds own (λ v l. ap₂ (bound_good (is_made u v)) (full v l).0 (full v l).1 ∙ full-good (is_made u v)) _
    ∙ check-next 6 u.n (permitted u) _ (λ v l. straight.permitted v)
    ∙ check-next 7 u.n (start_allowed u b.bounds (start_values b)) _ (λ v l. ap₂ ◌&&◌ (own-good v l) (inside v l))
    ∙ check-next 20 u.n (determined u (start_values b)) accepted (λ v l. straight.determined (start_values b) v)
  where
    u : Tables
    u = b.tables

    own : Sound b.tables
    own = sound-bare b.tables (and_left (sized b.tables) _ fits) (subst (λ x. Sound x.tables) (sym e) (bare-sound t sound))

    own-chains : (v : ℕ) → v < b.tables.n → ends b.tables v ≡ true
    own-chains v l = sym (bare_ends b.tables own v) ∙ ap (λ x. ends x.tables v) e ∙ bare_ends t sound v ∙ chains v

    straight : Opened b.tables
    straight = opened b.tables own (not-closes b.tables own-chains)

    low-too : (v : ℕ) → v < b.tables.n → v < t.n
    low-too v l = rw (ap (λ (x : Contents). x.tables.n) e) at l

    own-good : (v : ℕ) → v < b.tables.n → start_good b.tables (start_values b) v ≡ true
    own-good v l =
        sym (bare-starts b.tables b.starts v) ∙ ap (λ x. start_good x.tables (values_in x.tables x.starts) v) e
        ∙ bare-starts t starts v ∙ good v (low-too v l)

    own-small : (v : ℕ) → v < b.tables.n → SFits w32 (start_values b v)
    own-small v l = subst (SFits w32) (sym (ap (λ (x : Contents). get_or x.starts v (pos 0)) e ∙ get_or-take t.n starts v (pos 0) (low-too v l))) (small v (low-too v l))

    inside : (v : ℕ) → v < b.tables.n → in_bounds b.tables b.bounds (start_values b) v ≡ true
    inside v l = go (is_made b.tables v) (own-good v l)
      where
        go : (made : Bool) → cond made (eq_z (start_values b v) (pos 0)) (not (eq_z (start_values b v) blank)) ≡ true → (made || within b.bounds v (start_values b v)) ≡ true
        go true h = refl
        go false h = ap₂ (λ x y. le_z x (start_values b v) && le_z (start_values b v) y) (full v l).0 (full v l).1 ∙ full-within (start_values b v) (own-small v l) h

module _ (bytes : List ℕ) (ok : Readable bytes) where
  abbrev t : Tables
  t = given bytes

  abbrev m : ℕ
  m = m_in bytes

  abbrev S : Tables
  S = saved_tables bytes

  -- ── the rows ──
  stands-keeps : (r : ℕ) → r < m → is_saved bytes r ≡ true → keeps bytes r ≡ true
  stands-keeps r l e = sym (any-those (keeps bytes) m r l) ∙ ap (any (eqb r)) (sym (kept-those bytes m)) ∙ and_left _ _ e

  kept : Rows t (those (keeps bytes) m)
  kept = rows-kept bytes ok.head (keeps bytes) m (λ r l e. e)

  left : Rows t (those (is_saved bytes) m)
  left = rows-kept bytes ok.head (is_saved bytes) m stands-keeps

  sound : Sound S
  sound = packed-sound t (those (is_saved bytes) m) left

  top : (r : ℕ) → r < m → is_saved bytes r ≡ true → ends (packed t (those (keeps bytes) m)) (nat t.makes r) ≡ true
  top r l e = subst (λ rows. ends (packed t rows) (nat t.makes r) ≡ true) (kept-those bytes m) (and_right (any (eqb r) (kept_rows bytes m)) _ e)

  chains : (v : ℕ) → ends S v ≡ true
  chains = all_end t (is_saved bytes) (keeps bytes) m stands-keeps kept left top

  -- ── the start values ──
  value : (v : ℕ) → v < n_in bytes → get_or (saved_starts bytes) v (pos 0) ≡ cond (start_kept bytes v) (get_or (start_given bytes) v (pos 0)) (pos 0)
  value v l = get_d-below (λ u. cond (start_kept bytes u) (get_or (start_given bytes) u (pos 0)) (pos 0)) (n_in bytes) v (pos 0) l

  starts-good : (v : ℕ) → v < n_in bytes → start_good S (values_in S (saved_starts bytes)) v ≡ true
  starts-good v l = ap good (get_or-take (n_in bytes) (saved_starts bytes) v (pos 0) l ∙ value v l) ∙ go (start_kept bytes v) refl
    where
      good : ℤ → Bool
      good x = cond (is_made S v) (eq_z x (pos 0)) (not (eq_z x blank))

      zero-good : (b : Bool) → cond b (eq_z (pos 0) (pos 0)) (not (eq_z (pos 0) blank)) ≡ true
      zero-good true = refl
      zero-good false = refl

      go : (b : Bool) → start_kept bytes v ≡ b → good (cond b (get_or (start_given bytes) v (pos 0)) (pos 0)) ≡ true
      go true e = ap good (sym (get_or-take (n_in bytes) (start_given bytes) v (pos 0) l)) ∙ and_right (start_whole bytes v) (start_good S (values_in S (start_given bytes)) v) e
      go false e = zero-good (is_made S v)

  -- ── the file ──
  start_fits : (v : ℕ) → v < n_in bytes → SFits w32 (get_or (saved_starts bytes) v (pos 0))
  start_fits v l = subst (SFits w32) (sym (value v l)) (go (start_kept bytes v))
    where
      go : (b : Bool) → SFits w32 (cond b (get_or (start_given bytes) v (pos 0)) (pos 0))
      go true = (given-fits bytes ok.small).starts v l
      go false = sfits_lit tt

  abbrev saved : Contents
  saved = unbounded_contents S (saved_starts bytes)

  fits : Fitting version1 saved
  fits =
      packed-fits t (start_given bytes) (given-fits bytes ok.small) (those (is_saved bytes) m) left (λ k l. (those-at (is_saved bytes) m k l).low)
      (rw (vars-long bytes) (le_refl (e_in bytes))) (rw (coefs-long bytes) (le_refl (e_in bytes))) (saved_starts bytes) start_fits

  holds : held version1 saved ≡ true
  holds = held_of version1 saved (record {
    sized = packed-sized t (those (is_saved bytes) m) left;
    starts = let h = length-below (λ u. cond (start_kept bytes u) (get_or (start_given bytes) u (pos 0)) (pos 0)) (n_in bytes) in omega arith;
    lows = omega arith;
    highs = omega arith;
  })

  pub builds : Builds bytes
  unfolding saved_file
  builds = record {
    reads = λ c h. subst (λ back. (back.0 ≡ accepted) × (cut version1 back.1 ≡ cut version1 saved)) (reread version1 saved holds fits c h) (refl, cut-back version1 saved holds fits c);
    builds = build-accepts S (saved_starts bytes) sound chains starts-good start_fits;
  }

pub salvage-builds : SalvageBuilds
salvage-builds = builds
