-- A number that stands for a place if it lies below a bound. Assumes nothing.
use Rattle.std.specs.Prelude.{ℕ, cond, ltb, Option, Some, None}

-- the place k below m, or none
abbrev pub if_below : ℕ → ℕ → Option ℕ
if_below m k = cond (ltb k m) (Some k) None
