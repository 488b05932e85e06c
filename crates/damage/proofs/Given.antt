-- What a file gives by its counts: rows exactly as long as the counts, each number one of its field, and the same as reading lays over any lent
-- rows. Assumes nothing.
use Prim.Native.Nat.{ℕ, ◌+◌, ◌*◌, ◌^◌, ◌≤◌, ◌<◌}
use native.Mathlib.Nat.{not-suc-le-zero}
use mathlib.Core.List.{List, [], ◌++◌, append-nil}
use mathlib.Core.Path.{◌≡◌, refl, ap, ◌∙◌}
use lib.Dec.{eqb, leb}
use lib.IntN.{ℤ, pos}
use lib.ListN.{length, get_or}
use lib.Seq.{drop-nil}
use borrow.Author.Tests.{leb-true}
use mir.Syntax.{Width, w16, w32}
use mir.Val.{to_z, bits, SFits}
use mir.Facts.{sfits_to_z}
use Rattle.paper.specs.Lists.{between, nat, below, over}
use Rattle.paper.specs.Tables.{Tables}
use Rattle.paper.specs.Checks.{accepted, by_lines}
use Rattle.paper.specs.File.{field, version1, rows_from, entries_from, unbounded_contents, n_in, m_in, e_in, head_lines, column, laid, Fitting, cut}
use Rattle.paper.proofs.Lists.{and_left, and_right}
use Rattle.paper.proofs.Buffers.{length-below, over-at, over-front}
use Rattle.paper.proofs.Verdicts.{require-held, require-rest}
use Rattle.paper.proofs.Fields.{field-small}
use Rattle.damage.specs.Saved.{given, start_given}

-- ── rows as long as the counts ──
over_nothing : {A : Type 0} (n : ℕ) (f : ℕ → A) → over n f [] ≡ below f n
over_nothing n f = ap (below f n ++◌) (drop-nil n) ∙ append-nil (below f n)

pub over-long : {A : Type 0} (n : ℕ) (f : ℕ → A) → length (over n f []) ≡ n
over-long n f = ap length (over_nothing n f) ∙ length-below f n

module _ (bytes : List ℕ) where
  pub vars-long : length (given bytes).vars ≡ e_in bytes
  vars-long = over-long (e_in bytes) _

  pub coefs-long : length (given bytes).coefs ≡ e_in bytes
  coefs-long = over-long (e_in bytes) _

  pub starts-long : length (start_given bytes) ≡ n_in bytes
  starts-long = over-long (n_in bytes) _

  -- what reading lays over lent rows, without what they hold beyond the counts
  pub laid-given : (t : Tables) (starts : List ℤ) → cut version1 (laid version1 bytes (n_in bytes) (m_in bytes) (e_in bytes) (unbounded_contents t starts)) ≡ unbounded_contents (given bytes) (start_given bytes)
  laid-given t starts = simp (over-front, over_nothing)

  -- how many variables a header that is right states
  pub record Variables : Type 0 where
    pub some : 1 ≤ n_in bytes
    pub most : n_in bytes ≤ 4096

  pub variables : by_lines (head_lines version1 bytes) accepted ≡ accepted → Variables
  variables h =
      let n = n_in bytes in
      let far = require-rest 14 0 (eqb (field 2 0 bytes) 1) _ (require-rest 14 (length bytes) (leb 24 (length bytes)) _ h) in
      let both = require-held 14 2 (between 1 n 4096) _ far in
      record { some = leb-true 1 n (and_left (leb 1 n) (leb n 4096) both); most = leb-true n 4096 (and_right (leb 1 n) (leb n 4096) both) }

-- ── each number is one of its field ──
module _ (bytes : List ℕ) (small : (i : ℕ) → nat bytes i < 256) where
  number : (n at step i : ℕ) → i < n → nat (over n (column bytes 2 at step) []) i < 65536
  number n at step i l = rw (over-at (column bytes 2 at step) n [] i 0 l) (field-small bytes small 2 (at + step * i))

  signed : (width : Width) (w : ℕ) → 256 ^ w ≡ 2 ^ bits width → (n at step i : ℕ) → i < n
      → SFits width (get_or (over n (λ j. to_z width (column bytes w at step j)) []) i (pos 0))
  signed width w same n at step i l =
      let f = field-small bytes small w (at + step * i) in
      rw (over-at (λ j. to_z width (column bytes w at step j)) n [] i (pos 0) l) (sfits_to_z {w = width} (record { fits = rw same at f }))

  pub given-fits : Fitting version1 (unbounded_contents (given bytes) (start_given bytes))
  given-fits = let n = n_in bytes in let m = m_in bytes in let e = e_in bytes in record {
    starts = signed w32 4 refl n 24 4;
    rows = λ r l. (
      number m (rows_from 24 n) 12 r l,
      number m (rows_from 24 n + 2) 12 r l,
      signed w32 4 refl m (rows_from 24 n + 4) 12 r l,
      number m (rows_from 24 n + 8) 12 r l,
      number m (rows_from 24 n + 10) 12 r l,
    );
    entries = λ i l. (number e (entries_from 24 n m) 4 i l, signed w16 2 refl e (entries_from 24 n m + 2) 4 i l);
    bounds = λ i l. absurd (not-suc-le-zero l);
  }
