-- The header by the answer to the counts, whatever the version: the counts that an accepted one gives are those that the file states. Assumes nothing.
use Prim.Native.Nat.{ℕ}
use native.Mathlib.Omega.{arith}
use mathlib.Core.List.{List}
use mathlib.Core.Path.{◌≡◌, refl, ap, sym}
use lib.ListN.{length}
use Rattle.std.specs.Prelude.{Ok, Err}
use Rattle.paper.specs.Checks.{Verdict, accepted, refused, by_lines}
use Rattle.paper.specs.File.{Version, head_lines, header, ends_at}
use Rattle.paper.proofs.Reading as reading
use Rattle.tables.specs.declared.Refusal.{Refusal}
use Rattle.fields.specs.declared.places.Size.{Size}
use Rattle.files.specs.HeaderAnswers.{answer, size_in, Stated}
use Rattle.files.proofs.Counted.{Counted, counted-facts, counted-stops}

-- ── the verdict that an answer was given to ──
pub stated : (bytes : List ℕ) (w : Verdict) {size : Size} → Ok size ≡ answer bytes w → Stated bytes w size.n size.m size.e
stated bytes accepted {size} q = let z : size ≡ size_in bytes = cc in record { good = refl; n-is = ap (λ s. s.n) z; m-is = ap (λ s. s.m) z; e-is = ap (λ s. s.e) z }
stated bytes (refused number place) q = let z : ◌≡◌ {A = ℕ} 0 1 = cc in absurd (omega arith)

pub turned : (bytes : List ℕ) (w : Verdict) {r : Refusal} → Err r ≡ answer bytes w → w ≡ refused r.number r.place
turned bytes accepted q = let z : ◌≡◌ {A = ℕ} 0 1 = cc in absurd (omega arith)
turned bytes (refused number place) q = cc

-- ── the answer to the counts, and the rest of the header ──
module _ (v : Version) (bytes : List ℕ) where
  pub refused-counts : {r : Refusal} → Err r ≡ answer bytes (by_lines (head_lines v bytes) accepted) → Err r ≡ answer bytes (header v bytes)
  unfolding header
  refused-counts q = sym (ap (answer bytes) (counted-stops v bytes (turned bytes (by_lines (head_lines v bytes) accepted) q) _))

  pub given-counts : {size : Size} → Ok size ≡ answer bytes (by_lines (head_lines v bytes) accepted)
      → Stated bytes (by_lines (head_lines v bytes) accepted) size.n size.m size.e × Counted v bytes
  given-counts q = let s = stated bytes (by_lines (head_lines v bytes) accepted) q in (s, counted-facts v bytes s.good)

  -- ── what an accepted header states ──
  module _ {size : Size} (q : Ok size ≡ answer bytes (header v bytes)) where
    pub told : Stated bytes (header v bytes) size.n size.m size.e
    told = stated bytes (header v bytes) q

    -- the file ends where its counts say
    pub ends : length bytes ≡ ends_at v size.n size.m size.e
    ends = rw (told.n-is, told.m-is, told.e-is) (reading.headed v bytes told.good).whole
