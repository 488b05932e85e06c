-- An index of readers whose chains may close. Assumes nothing.
use Rattle.std.specs.Prelude.{ℕ, suc, ◌≤◌, ◌<◌, length}
use mathlib.Core.List.{List, Memᴰ}
use Rattle.paper.specs.Lists.{nat}
use Rattle.routes.specs.Sections.{section}

-- the index leads to rows and these to variables
pub record LeadsUp (makes starts places : List ℕ) : Type 0 where
  pub inside : (v : ℕ) → suc v < length starts → nat starts (suc v) ≤ length places
  pub row : (v r : ℕ) → Memᴰ r (section starts places v) → r < length makes
  pub below : (v r : ℕ) → Memᴰ r (section starts places v) → suc (nat makes r) < length starts
