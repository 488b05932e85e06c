-- The header by its fields, whatever the version: its bytes stand in front of a file exactly if each field holds its number, and a header is
-- accepted exactly if the fields hold what the counts say and the file is as long. Assumes nothing.
use Prim.Native.Nat.{ℕ, ◌≤◌, ◌<◌}
use native.Mathlib.Omega.{arith}
use mathlib.Core.Bool.{true}
use mathlib.Core.List.{List, [], ◌∷◌}
use mathlib.Core.Path.{◌≡◌, refl}
use lib.ListN.{length}
use borrow.Author.Tests.{eqb-true, eq-eqb}
use Rattle.paper.specs.Lists.{nat}
use Rattle.paper.specs.Checks.{accepted}
use Rattle.paper.specs.File.{field, Version, version1, version2, version_number, head_of, rows_from, entries_from, bounds_from, ends_at, head_bytes, n_in, m_in, e_in, bounds_told, header}
use Rattle.paper.proofs.Fields.{Stands, Field, Follow, Holds, stands-holds, holds-stands}
use Rattle.paper.proofs.Reading.{headed, header_of}

-- counts within their bounds
pub record Within (n m e : ℕ) : Type 0 where
  pub n-some : 1 ≤ n
  pub n-most : n ≤ 4096
  pub m-most : m ≤ n
  pub e-most : e ≤ 16384

-- the field that version 2 has behind the total
abbrev pub last_field : Version → ℕ → ℕ → ℕ → List Field
last_field version1 n m e = []
last_field version2 n m e = (24, 4, bounds_from 28 n m e) ∷ []

abbrev pub head_fields : Version → ℕ → ℕ → ℕ → List Field
head_fields v n m e =
    (0, 2, version_number v) ∷ (2, 2, n) ∷ (4, 2, m) ∷ (6, 2, e)
    ∷ (8, 4, head_of v) ∷ (12, 4, rows_from (head_of v) n) ∷ (16, 4, entries_from (head_of v) n m) ∷ (20, 4, ends_at v n m e) ∷ last_field v n m e

-- the fields follow one another from the front
heads-follow : (v : Version) (n m e : ℕ) → Follow 0 (head_fields v n m e)
heads-follow version1 n m e = (refl, (refl, (refl, (refl, (refl, (refl, (refl, (refl, tt))))))))
heads-follow version2 n m e = (refl, (refl, (refl, (refl, (refl, (refl, (refl, (refl, (refl, tt)))))))))

module _ (b : List ℕ) (n m e : ℕ) where
  pub head-shows : (v : Version) → Within n m e → Stands b 0 (head_bytes v n m e) → Holds b (head_fields v n m e)
  head-shows version1 s h = stands-holds b 0 (head_fields version1 n m e) (heads-follow version1 n m e) (omega arith) h
  head-shows version2 s h = stands-holds b 0 (head_fields version2 n m e) (heads-follow version2 n m e) (omega arith) h

  pub head-stands : (v : Version) → ((i : ℕ) → nat b i < 256) → Holds b (head_fields v n m e) → Stands b 0 (head_bytes v n m e)
  head-stands version1 small h = holds-stands b small 0 (head_fields version1 n m e) (heads-follow version1 n m e) h
  head-stands version2 small h = holds-stands b small 0 (head_fields version2 n m e) (heads-follow version2 n m e) h

  -- a file that holds them is accepted if it is as long as they say
  module _ (v : Version) (s : Within n m e) (whole : length b ≡ ends_at v n m e) (long : head_of v ≤ length b) where
    passes : field 2 0 b ≡ version_number v → n_in b ≡ n → m_in b ≡ m → e_in b ≡ e → field 4 8 b ≡ head_of v → field 4 12 b ≡ rows_from (head_of v) n
        → field 4 16 b ≡ entries_from (head_of v) n m → field 4 20 b ≡ ends_at v n m e → bounds_told v b ≡ true → header v b ≡ accepted
    passes version is-n is_m is-e starts rows entries end bounds = header_of v b (record {
      long = long;
      version = version;
      n-some = rw is-n s.n-some;
      n-most = rw is-n s.n-most;
      m-most = rw (is-n, is_m) s.m-most;
      e-most = rw is-e s.e-most;
      starts = starts;
      rows = rw is-n rows;
      entries = rw (is-n, is_m) entries;
      end = rw (is-n, is_m, is-e) end;
      whole = rw (is-n, is_m, is-e) whole;
      bounds = bounds;
    })

  pub head-accepted : (v : Version) → Within n m e → length b ≡ ends_at v n m e → Holds b (head_fields v n m e) → header v b ≡ accepted
  head-accepted version1 s whole (version, (is-n, (is_m, (is-e, (starts, (rows, (entries, (end, rest)))))))) =
      passes version1 s whole (omega arith) version is-n is_m is-e starts rows entries end refl
  head-accepted version2 s whole (version, (is-n, (is_m, (is-e, (starts, (rows, (entries, (end, (last, rest))))))))) =
      passes version2 s whole (omega arith) version is-n is_m is-e starts rows entries end
      (eq-eqb (field 4 24 b) (bounds_from 28 (n_in b) (m_in b) (e_in b)) (rw (is-n, is_m, is-e) last))

-- and an accepted header holds them
module _ (b : List ℕ) where
  pub accepted-holds : (v : Version) → header v b ≡ accepted → Holds b (head_fields v (n_in b) (m_in b) (e_in b))
  accepted-holds version1 ok = let h = headed version1 b ok in (h.version, (refl, (refl, (refl, (h.starts, (h.rows, (h.entries, (h.end, tt))))))))
  accepted-holds version2 ok =
      let h = headed version2 b ok in
      (h.version, (refl, (refl, (refl, (h.starts, (h.rows, (h.entries, (h.end, (eqb-true (field 4 24 b) (bounds_from 28 (n_in b) (m_in b) (e_in b)) h.bounds, tt)))))))))

  pub accepted-within : (v : Version) → header v b ≡ accepted → Within (n_in b) (m_in b) (e_in b)
  accepted-within v ok = let h = headed v b ok in record { n-some = h.n-some; n-most = h.n-most; m-most = h.m-most; e-most = h.e-most }
