-- A file without a closed chain that reading and build accept is saved whole: every row is kept, and all rows packed are the file's tables, so every row stands; every
-- start value is kept; and the file of these tables is the file. Assumes nothing.
use Prim.Native.Nat.{ℕ, zero, suc, ◌+◌, ◌≤◌, ◌<◌}
use native.Mathlib.Nat.{le_refl}
use native.Mathlib.Omega.{arith}
use mathlib.Core.Bool.{Bool, true, false, cond, not, ◌&&◌}
use mathlib.Core.List.{List, [], ◌∷◌, ◌++◌, map}
use mathlib.Core.Path.{◌≡◌, refl, ap, ap₂, ◌∙◌, subst}
use lib.Dec.{eqb, leb}
use lib.IntN.{ℤ, pos}
use lib.ListN.{length, get_or}
use lib.Seq.{take_all}
use borrow.Author.Tests.{le-leb}
use Rattle.paper.specs.Lists.{any, total, nat, those}
use Rattle.paper.specs.Tables.{Tables, lent, ends, values_in}
use Rattle.paper.specs.Checks.{accepted, leaves, start_good, Sound}
use Rattle.paper.specs.File.{version1, Contents, rows_from, entries_from, ends_at, unbounded_contents, counted, file_bytes, n_in, m_in, e_in, header, laid, cut}
use Rattle.paper.proofs.Lists.{all_yes}
use Rattle.paper.proofs.Those.{those-same}
use Rattle.paper.proofs.Buffers.{below-same, below-list}
use Rattle.paper.proofs.Accept.{sound-row}
use Rattle.paper.proofs.Bare.{bare-sound, bare_ends, bare-starts}
use Rattle.paper.proofs.Closes.{opened}
use Rattle.paper.proofs.Known.{BuildKnown, build-known}
use Rattle.paper.proofs.Reading.{Headed, headed, read-headed}
use Rattle.paper.proofs.Rewritten.{rewritten}
use Rattle.damage.specs.Saved.{packed, given, start_given, can_keep, kept_rows, is_saved, saved_tables, start_kept, saved_starts, saved_file, saved_list}
use Rattle.salvage.specs.Promises.{Same, UndamagedSame}
use Rattle.damage.proofs.Packed.{alone-good}
use Rattle.damage.proofs.Given.{starts-long, laid-given}
use Rattle.damage.proofs.KeptRows.{any-those}
use Rattle.salvage.proofs.All.{numbers, packed_all, sound-whole, sound-good, made-new, made-few}

-- no number passes
those-none : (p : ℕ → Bool) (n : ℕ) → ((r : ℕ) → r < n → p r ≡ false) → those p n ≡ []
those-none p zero h = refl
those-none p (suc n) h = ap₂ (λ l b. l ++ cond b (n ∷ []) []) (those-none p n (λ r l. h r (omega arith))) (h n (le_refl (suc n)))

module _ (bytes : List ℕ) (small : (i : ℕ) → nat bytes i < 256) (good : header version1 bytes ≡ accepted) (sound : Sound (given bytes)) (chains : (v : ℕ) → ends (given bytes) v ≡ true)
    (starts : (v : ℕ) → v < n_in bytes → start_good (given bytes) (values_in (given bytes) (start_given bytes)) v ≡ true) where
  abbrev t : Tables
  t = given bytes

  abbrev m : ℕ
  m = m_in bytes

  head : Headed version1 bytes
  head = headed version1 bytes good

  -- ── the rows ──
  keeps-row : (r : ℕ) → r < m → kept_rows bytes r ≡ numbers r → can_keep bytes (kept_rows bytes r) r ≡ true
  keeps-row r l e =
      let whole = head.whole in let inside = (sound-row t sound r l).inside in let end = nat t.firsts r + nat t.counts r in
      let row = le-leb (entries_from 24 (n_in bytes) (suc r)) (length bytes) (omega arith) in
      let entries = ap₂ ◌&&◌ (le-leb end (e_in bytes) inside) (le-leb (ends_at version1 (n_in bytes) m end) (length bytes) (omega arith)) in
      let alone = alone-good t r (sound-whole t sound r l) (sound-good t sound r l) in
      let new = ap (λ rows. not (any (λ q. eqb (nat t.makes q) (nat t.makes r)) rows)) e ∙ ap not (made-new t sound r l) in
      let few = ap (λ rows. leb (total (map (nat t.counts) rows) + nat t.counts r) 16384) e ∙ le-leb _ _ (made-few t sound r l) in
      all_yes _ (row, (entries, (alone, (new, (few, tt)))))

  kept-all : (k : ℕ) → k ≤ m → kept_rows bytes k ≡ numbers k
  kept-all zero h = refl
  kept-all (suc k) h =
      let before = kept-all k (omega arith) in
      ap₂ (λ rows b. rows ++ cond b (k ∷ []) []) before (keeps-row k h before)

  all-packed : packed t (numbers m) ≡ t
  all-packed = packed_all t sound ∙ ap (λ (x : Contents). x.tables) (laid-given bytes (lent 0 0 0 [] [] [] [] [] [] []) [])

  stands-all : (r : ℕ) → r < m → is_saved bytes r ≡ true
  stands-all r l =
      let all = kept-all m (le_refl m) in
      ap₂ ◌&&◌ (ap (any (eqb r)) all ∙ any-those (λ i. true) m r l)
      (ap (λ rows. ends (packed t rows) (nat t.makes r)) all ∙ ap (λ p. ends p (nat t.makes r)) all-packed ∙ chains (nat t.makes r))

  tables-same : saved_tables bytes ≡ t
  tables-same = ap (packed t) (those-same (is_saved bytes) (λ r. true) m stands-all) ∙ all-packed

  -- ── the start values ──
  start-kept : (v : ℕ) → v < n_in bytes → start_kept bytes v ≡ true
  start-kept v l =
      let size = head.whole in
      ap₂ ◌&&◌ (le-leb (rows_from 24 (suc v)) (length bytes) (omega arith)) (ap (λ p. start_good p (values_in p (start_given bytes)) v) tables-same ∙ starts v l)

  starts-same : saved_starts bytes ≡ start_given bytes
  starts-same =
      let given-at : ℕ → ℤ = λ v. get_or (start_given bytes) v (pos 0) in let long = starts-long bytes in
      below-same (λ v. cond (start_kept bytes v) (given-at v) (pos 0)) given-at (n_in bytes) (λ v l. ap (λ b. cond b (given-at v) (pos 0)) (start-kept v l))
      ∙ below-list (start_given bytes) (pos 0) (n_in bytes) (rw long (le_refl (n_in bytes))) ∙ take_all (n_in bytes) (start_given bytes) (rw long (le_refl (n_in bytes)))

  -- ── the file, and nothing listed ──
  pub same : Same bytes
  unfolding saved_file saved_list
  same = record {
    file = ap₂ (λ t s. file_bytes version1 (unbounded_contents t s)) tables-same starts-same ∙ rewritten version1 bytes good (unbounded_contents (lent 0 0 0 [] [] [] [] [] [] []) []) small;
    none = ap₂ ◌++◌ (those-none (λ r. not (is_saved bytes r)) m (λ r l. ap not (stands-all r l))) (those-none (λ v. not (start_kept bytes v)) (n_in bytes) (λ v l. ap not (start-kept v l)));
  }

pub undamaged-same : UndamagedSame
undamaged-same bytes small t₀ starts₀ ok b e straight v =
    same bytes small (read-headed version1 bytes (unbounded_contents t₀ starts₀) ok) (subst (λ p. Sound p.tables) is (bare-sound b.tables k.sound))
    (λ u. subst (λ p. ends p.tables u ≡ true) is (bare_ends b.tables k.sound u ∙ (opened b.tables k.sound straight).chains u))
    (subst (λ p. (u : ℕ) → u < p.tables.n → start_good p.tables (values_in p.tables p.starts) u ≡ true) is (λ u l. bare-starts b.tables b.starts u ∙ k.starts u l))
  where
    k : BuildKnown b
    k = build-known b v

    -- what was read, without what the lent rows hold beyond the counts, is what the file gives
    is : cut version1 (unbounded_contents b.tables b.starts) ≡ unbounded_contents (given bytes) (start_given bytes)
    is = ap (cut version1) (e ∙ ap (λ w. leaves w (laid version1 bytes (n_in bytes) (m_in bytes) (e_in bytes) (unbounded_contents t₀ starts₀)) (counted 0 0 0 (unbounded_contents t₀ starts₀))) ok) ∙ laid-given bytes t₀ starts₀
