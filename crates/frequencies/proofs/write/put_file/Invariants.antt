-- The lines of the windows before this one stand behind the first, and each turn puts one more (`lines_next`). Assumes nothing.
use Prim.Native.Nat.{◌≤◌}
use mathlib.Core.Path.{◌≡◌}
use lib.ListN.{length}
use Rattle.paper.specs.Lists.{joined}
use Rattle.frequencies.specs.Writing.{window_bytes}
use Rattle.frequencies.specs.Puts.{Puts}
use Rattle.frequencies.specs.Lent.{lent_windows}
use Rattle.frequencies.proofs.write.put_file.Given as goal

abbrev pub invariant-loop-i : goal.invariant-loop-i
invariant-loop-i l = (l.i ≤ l.windows.count) × (length l.out ≡ length l.initial.out) × Puts (joined (window_bytes l.text (lent_windows l.windows)) l.i) l.initial.out l.initial.at l.out l.at
