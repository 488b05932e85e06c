-- The quotes passed stood double, but for one that the next byte must follow: what is left decides as the whole does (`double-goes`). Assumes nothing.
use mathlib.Core.Bool.{false}
use mathlib.Core.Path.{◌≡◌}
use lib.ListN.{drop}
use Rattle.frequencies.specs.Csv.{doubled_from}
use Rattle.frequencies.proofs.names.quotes_double.Given as goal

abbrev pub invariant-loop-byte : goal.invariant-loop-byte
invariant-loop-byte l = (doubled_from l.one (drop l.byte-index l.name) ≡ doubled_from false l.name)
