-- The size is that of the first line and the windows' before this one, and each turn adds a line (`size-next`). Assumes nothing.
use Prim.Native.Nat.{◌≤◌, min}
use mathlib.Core.Path.{◌≡◌}
use lib.ListN.{length}
use Rattle.frequencies.specs.Writing.{file_bytes}
use Rattle.frequencies.specs.Lent.{lent_windows}
use Rattle.frequencies.proofs.write.file_size.Given as goal

abbrev pub invariant-loop-i : goal.invariant-loop-i
invariant-loop-i l = (l.size ≡ min (length (file_bytes l.i l.text (lent_windows l.windows))) 2147483648) × (l.i ≤ l.windows.count)
