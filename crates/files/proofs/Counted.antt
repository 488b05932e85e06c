-- The header's length, version and counts, whatever the version: what they say where all are right, and that what comes next decides only there. Assumes nothing.
use Prim.Native.Nat.{ℕ, ◌≤◌}
use mathlib.Core.Bool.{Bool}
use mathlib.Core.List.{List, [], ◌∷◌}
use mathlib.Core.Path.{◌≡◌, ap, ◌∙◌}
use lib.ListN.{length}
use borrow.Author.Tests.{leb-true, eqb-true}
use Rattle.paper.specs.Checks.{Verdict, accepted, refused, Line, places, whole, by_lines}
use Rattle.paper.specs.File.{field, Version, version_number, head_of, n_in, m_in, e_in, head_lines}
use Rattle.paper.proofs.Lists.{and_left, and_right, Each}
use Rattle.paper.proofs.Verdicts.{and_then, lines_then, check-rest, require-held, require-rest}

-- ── lines with a fixed place each: their tests are passed ──
abbrev tests_of : List Line → List Bool
tests_of [] = []
tests_of (places number bound good ∷ rest) = tests_of rest
tests_of (whole number place good ∷ rest) = good ∷ tests_of rest

lines-each : (lines : List Line) → by_lines lines accepted ≡ accepted → Each (tests_of lines)
lines-each [] h = tt
lines-each (places number bound good ∷ rest) h = lines-each rest (check-rest number bound good (by_lines rest accepted) h)
lines-each (whole number place good ∷ rest) h = (require-held number place good (by_lines rest accepted) h, lines-each rest (require-rest number place good (by_lines rest accepted) h))

module _ (v : Version) (bytes : List ℕ) where
  -- what the header's first lines say
  pub record Counted : Type 0 where
    pub long : head_of v ≤ length bytes
    pub version : field 2 0 bytes ≡ version_number v
    pub n-some : 1 ≤ n_in bytes
    pub n-most : n_in bytes ≤ 4096
    pub m-most : m_in bytes ≤ n_in bytes
    pub e-most : e_in bytes ≤ 16384

  pub counted-facts : by_lines (head_lines v bytes) accepted ≡ accepted → Counted
  counted-facts h = let passed = lines-each (head_lines v bytes) h in search (leb-true, eqb-true, and_left, and_right)

  -- what comes next decides
  pub counted_next : by_lines (head_lines v bytes) accepted ≡ accepted → (next : Verdict) → by_lines (head_lines v bytes) next ≡ next
  counted_next h next = lines_then (head_lines v bytes) next ∙ ap (λ w. and_then w next) h

  pub counted-stops : {number place : ℕ} → by_lines (head_lines v bytes) accepted ≡ refused number place → (next : Verdict) → by_lines (head_lines v bytes) next ≡ refused number place
  counted-stops h next = lines_then (head_lines v bytes) next ∙ ap (λ w. and_then w next) h
