-- What holds of what is saved, whatever the bytes are: build accepts it with full bounds, and a file that was not damaged and has no closed chain comes back.
-- `proofs/Builds` and `proofs/Same` prove it, and `demands/proofs/Buffers` of what a caller has. Assumes nothing.
use Rattle.std.specs.Prelude.{ℕ, ◌<◌, true, false, List, [], ◌≡◌, ℤ, take, drop, Ok}
use Rattle.paper.specs.Lists.{nat}
use Rattle.paper.specs.Tables.{Tables}
use Rattle.paper.specs.Chains.{closes}
use Rattle.paper.specs.Checks.{accepted, Bounds, lowest, highest, low, high, by_lines}
use Rattle.paper.specs.Calls.{number_of, BuildLent, build_fits, build_verdict}
use Rattle.paper.specs.File.{version1, Contents, unbounded_contents, held, counted, head_lines, read, cut}
use Rattle.records.specs.Stated.{BuildOutcome, left_built}
use Rattle.files.specs.Stated.{ReadOutcome, left_read}
use Rattle.damage.specs.Saved.{saved_tables, saved_starts, saved_file, saved_list}
use Rattle.salvage.specs.Salvage.{SalvageLent, SalvageHad, saved}

-- the bytes are bytes, and the header's version and counts are right
pub record Readable (bytes : List ℕ) : Type 0 where
  pub small : (i : ℕ) → nat bytes i < 256
  pub head : by_lines (head_lines version1 bytes) accepted ≡ accepted

-- the bounds of the first n variables are full: the file has none
abbrev pub AllFull : ℕ → Bounds → Type 0
AllFull n bs = (v : ℕ) → v < n → (low bs v ≡ lowest) × (high bs v ≡ highest)

-- the saved file is read, by rows that hold it, to the saved tables and start values, and build accepts these with full bounds, in any rows that are
-- long enough
pub record Builds (bytes : List ℕ) : Type 0 where
  pub reads : (c : Contents) → let s = saved_tables bytes in held version1 (counted s.n s.m s.e c) ≡ true
      → ((read version1 (saved_file bytes) c).0 ≡ accepted) × (cut version1 (read version1 (saved_file bytes) c).1 ≡ cut version1 (unbounded_contents s (saved_starts bytes)))
  pub builds : (b : BuildLent) → cut version1 (unbounded_contents b.tables b.starts) ≡ cut version1 (unbounded_contents (saved_tables bytes) (saved_starts bytes)) → AllFull b.tables.n b.bounds
      → build_fits b ≡ true → build_verdict b ≡ accepted

-- a file without a closed chain that reading and build accept comes back the same, and nothing is listed
pub record Same (bytes : List ℕ) : Type 0 where
  pub file : saved_file bytes ≡ bytes
  pub none : saved_list bytes ≡ []

abbrev pub SalvageBuilds : Type 0
SalvageBuilds = (bytes : List ℕ) → Readable bytes → Builds bytes

abbrev pub UndamagedSame : Type 0
UndamagedSame =
    (bytes : List ℕ) → ((i : ℕ) → nat bytes i < 256) → (t : Tables) (starts : List ℤ) → let left = read version1 bytes (unbounded_contents t starts) in left.0 ≡ accepted
    → (b : BuildLent) → unbounded_contents b.tables b.starts ≡ left.1 → closes b.tables ≡ false → build_verdict b ≡ accepted → Same bytes

-- ── what a caller has: after an accepted salvage the first `size` bytes of the buffer are the saved file ──
pub record SavedRight {l : SalvageLent} (o : SalvageHad l) (size : ℕ) : Type 0 where
  -- reading accepts it, into rows that hold it, and build accepts what was read, with full bounds and in any rows that are long enough
  pub reads : (c : Contents) → let s = saved_tables l.bytes in held version1 (counted s.n s.m s.e c) ≡ true
      → (r : ReadOutcome version1 (take size o.file) c) → ((left_read r).0 ≡ accepted)
      × ((b : BuildLent) (q : BuildOutcome b) → cut version1 (unbounded_contents b.tables b.starts) ≡ cut version1 (left_read r).1 → AllFull b.tables.n b.bounds → build_fits b ≡ true → number_of (left_built q).answer ≡ 0)
  pub rest : drop size o.file ≡ drop size l.file

-- a file that reading and build accept, without a closed chain, is saved as it is, and nothing is listed
abbrev pub ComesBack : SalvageLent → Type 0
ComesBack l =
    (t : Tables) (starts : List ℤ) (r : ReadOutcome version1 l.bytes (unbounded_contents t starts)) → (left_read r).0 ≡ accepted
    → (b : BuildLent) (q : BuildOutcome b) → unbounded_contents b.tables b.starts ≡ (left_read r).1 → closes b.tables ≡ false → number_of (left_built q).answer ≡ 0
    → (o : SalvageHad l) (size rows values : ℕ) → o.answer ≡ Ok (saved size rows values) → (take size o.file ≡ l.bytes) × (rows ≡ 0) × (values ≡ 0)
