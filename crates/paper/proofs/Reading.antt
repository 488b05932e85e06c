-- The outcome of a call that reads, whatever the version: the header is refused, or a lent row is too short, or each column is laid over its
-- row. Assumes nothing.
use Prim.Native.Nat.{ℕ, ◌≤◌}
use mathlib.Core.Bool.{Bool, true, false, ◌&&◌}
use mathlib.Core.List.{List, [], ◌∷◌, map}
use mathlib.Core.Path.{◌≡◌, refl, ap, ap₂, sym, ◌∙◌}
use lib.IntN.{ℤ}
use lib.Dec.{leb, eqb}
use lib.ListN.{length}
use borrow.Author.Tests.{leb-true, le-leb, eqb-true, eq-eqb}
use Rattle.paper.specs.Lists.{between}
use Rattle.paper.specs.Tables.{Tables, lent}
use Rattle.paper.specs.Checks.{Verdict, accepted, refused, require, leaves}
use Rattle.paper.specs.File.{field, Version, version1, version_number, head_of, rows_from, entries_from, ends_at, Contents, contents, unbounded_contents, counted, held, n_in, m_in, e_in, bounds_told, header_lines, header, laid, read_verdict, read}
use Rattle.paper.proofs.Lists.{and_left, and_right, Each}
use Rattle.paper.proofs.Least.{between_in}
use Rattle.paper.proofs.Verdicts.{and_then, then-first, lines_then, require-held, require-rest, require-next}

-- ── check 14: one test after another, each with its place ──
abbrev judged : List (ℕ × Bool) → Verdict
judged [] = accepted
judged ((place, good) ∷ rest) = require 14 place good (judged rest)

judged-each : (tests : List (ℕ × Bool)) → judged tests ≡ accepted → Each (map (λ test. test.1) tests)
judged-each [] h = tt
judged-each ((place, good) ∷ rest) h = (require-held 14 place good (judged rest) h, judged-each rest (require-rest 14 place good (judged rest) h))

each-judged : (tests : List (ℕ × Bool)) → Each (map (λ test. test.1) tests) → judged tests ≡ accepted
each-judged [] h = refl
each-judged ((place, good) ∷ rest) h = require-next 14 place good (judged rest) h.0 ∙ each-judged rest h.1

module _ (v : Version) (bytes : List ℕ) where
  abbrev n : ℕ
  n = n_in bytes

  abbrev m : ℕ
  m = m_in bytes

  abbrev e : ℕ
  e = e_in bytes

  abbrev h : ℕ
  h = head_of v

  -- those of the header
  abbrev tests : List (ℕ × Bool)
  tests =
      (length bytes, leb h (length bytes)) ∷ (0, eqb (field 2 0 bytes) (version_number v)) ∷ (2, between 1 n 4096) ∷ (4, leb m n) ∷ (6, leb e 16384)
      ∷ (8, eqb (field 4 8 bytes) h) ∷ (12, eqb (field 4 12 bytes) (rows_from h n)) ∷ (16, eqb (field 4 16 bytes) (entries_from h n m))
      ∷ (20, eqb (field 4 20 bytes) (ends_at v n m e) && eqb (length bytes) (ends_at v n m e)) ∷ (24, bounds_told v bytes) ∷ []

  -- what they say
  pub record Headed : Type 0 where
    pub long : h ≤ length bytes
    pub version : field 2 0 bytes ≡ version_number v
    pub n-some : 1 ≤ n
    pub n-most : n ≤ 4096
    pub m-most : m ≤ n
    pub e-most : e ≤ 16384
    pub starts : field 4 8 bytes ≡ h
    pub rows : field 4 12 bytes ≡ rows_from h n
    pub entries : field 4 16 bytes ≡ entries_from h n m
    pub end : field 4 20 bytes ≡ ends_at v n m e
    pub whole : length bytes ≡ ends_at v n m e
    pub bounds : bounds_told v bytes ≡ true

  pub headed : header v bytes ≡ accepted → Headed
  unfolding header
  headed a = let passed = judged-each tests a in search (leb-true, eqb-true, and_left, and_right)

  pub header_of : Headed → header v bytes ≡ accepted
  unfolding header
  header_of a = let last = ap₂ ◌&&◌ (eq-eqb _ _ a.end) (eq-eqb _ _ a.whole) in each-judged tests (search (le-leb, eq-eqb, between_in) depth 11)

  -- ── the call ──
  module _ (c : Contents) where
    -- the header's verdict, and then that of the lent rows
    pub read-verdict : read_verdict v bytes c ≡ and_then (header v bytes) (require 1 0 (held v (counted n m e c)) accepted)
    unfolding read_verdict header
    read-verdict = lines_then (header_lines v bytes) (require 1 0 (held v (counted n m e c)) accepted)

    pub read-refused : (number place : ℕ) → header v bytes ≡ refused number place
        → ◌≡◌ {A = Verdict × Contents} (refused number place, counted 0 0 0 c) (read v bytes c)
    read-refused number place a = simp (read-verdict, a)

    pub read_short : header v bytes ≡ accepted → held v (counted n m e c) ≡ false
        → ◌≡◌ {A = Verdict × Contents} (refused 1 0, counted 0 0 0 c) (read v bytes c)
    read_short a l = simp (read-verdict, a, l)

    pub read_done : header v bytes ≡ accepted → held v (counted n m e c) ≡ true → {after : Contents} → after ≡ laid v bytes n m e c
        → ◌≡◌ {A = Verdict × Contents} (accepted, after) (read v bytes c)
    read_done a l q = simp (read-verdict, a, l) (ap (λ z. (accepted, z)) q)

    -- what is accepted had an accepted header
    pub read-headed : read_verdict v bytes c ≡ accepted → header v bytes ≡ accepted
    read-headed ok = then-first (header v bytes) (require 1 0 (held v (counted n m e c)) accepted) (sym read-verdict ∙ ok)

-- contents are their counts and their rows: the columns may be laid one by one
pub same-contents : {n m e : ℕ} {kinds kinds' makes makes' firsts firsts' counts counts' vars vars' : List ℕ} {params params' coefs coefs' starts starts' lows lows' highs highs' : List ℤ}
    → starts ≡ starts' → kinds ≡ kinds' → makes ≡ makes' → params ≡ params' → firsts ≡ firsts' → counts ≡ counts' → vars ≡ vars' → coefs ≡ coefs' → lows ≡ lows' → highs ≡ highs'
    → contents (lent n m e kinds makes params firsts counts vars coefs) starts lows highs ≡ contents (lent n m e kinds' makes' params' firsts' counts' vars' coefs') starts' lows' highs'
same-contents s k a p f c v o l h = cc

-- what is read of version 1 into rows without bounds has none
pub read_plain : (bytes : List ℕ) (t : Tables) (starts : List ℤ) → let x = (read version1 bytes (unbounded_contents t starts)).1 in x ≡ unbounded_contents x.tables x.starts
read_plain bytes t starts = go (read_verdict version1 bytes (unbounded_contents t starts))
  where
    left : Verdict → Contents
    left w = leaves w (laid version1 bytes (n_in bytes) (m_in bytes) (e_in bytes) (unbounded_contents t starts)) (counted 0 0 0 (unbounded_contents t starts))

    go : (w : Verdict) → left w ≡ unbounded_contents (left w).tables (left w).starts
    go accepted = refl
    go (refused number place) = refl
