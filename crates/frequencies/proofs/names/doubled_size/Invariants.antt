-- The size is that of the bytes passed, and each turn adds the next one's (`doubled-next`). Assumes nothing.
use Prim.Native.Nat.{◌≤◌, ◌*◌}
use mathlib.Core.Path.{◌≡◌}
use lib.ListN.{length, take}
use Rattle.frequencies.specs.Writing.{doubled}
use Rattle.frequencies.proofs.names.doubled_size.Given as goal

abbrev pub invariant-loop-byte : goal.invariant-loop-byte
invariant-loop-byte l = (l.size ≡ length (doubled (take l.byte-index l.name))) × (l.size ≤ 2 * l.byte-index)
