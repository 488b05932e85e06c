-- Departures counted up to 2,001, which stands for any more than 2,000. Assumes nothing.
use Rattle.std.specs.Prelude.{ℕ, ◌+◌, min, ℤ, pos, negsuc}

-- the count with one window's DEPARTURES, which is blank only for more than 2,147,483,647
abbrev pub counted_on : ℕ → ℤ → ℕ
counted_on count (pos more) = min (count + more) 2001
counted_on count (negsuc z) = 2001
