-- The codes of the reasons. Assumes nothing.
use Rattle.std.specs.Prelude.{ℕ}
use Rattle.whys.specs.declared.Cause.{Cause}
use Rattle.whys.specs.declared.Cause.TheVariants.{LeftRange, IndexOutside, HeadwayBad, InputBlank, NoDepartures}

abbrev pub code : Cause → ℕ
code LeftRange = 1
code IndexOutside = 2
code HeadwayBad = 3
code InputBlank = 4
code NoDepartures = 5
