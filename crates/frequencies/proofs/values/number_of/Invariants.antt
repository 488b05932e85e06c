-- The number of the digits passed and those that are left say the number of all (`said_from`). Assumes nothing.
use Prim.Native.Nat.{◌≤◌}
use mathlib.Core.Path.{◌≡◌}
use lib.ListN.{drop}
use Rattle.frequencies.proofs.Told.{said_from}
use Rattle.frequencies.proofs.values.number_of.Given as goal

abbrev pub invariant-loop-digit : goal.invariant-loop-digit
invariant-loop-digit l = (l.n ≤ 2147483647) × (said_from l.n (drop l.digit-index l.bytes) ≡ said_from 0 l.bytes)
