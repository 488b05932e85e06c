-- The lines passed have been put, and each turn puts the next behind them (`put_then`). Assumes nothing.
use Prim.Native.Nat.{◌≤◌, min}
use mathlib.Core.Path.{◌≡◌}
use lib.IntN.{pos}
use lib.ListN.{length, get_or}
use Rattle.paper.specs.Lists.{nat, joined}
use Rattle.text.specs.Buffer.{Put}
use Rattle.text.specs.Lines.{line}
use Rattle.text.proofs.put_lines.Given as goal

abbrev pub invariant-loop-v : goal.invariant-loop-v
invariant-loop-v l = (l.v ≤ l.count) × (l.count ≡ min l.n (min (length l.numbers) (length l.values))) × (length l.out ≡ length l.initial.out)
    × Put (joined (λ u. line l.reasons u (nat l.numbers u) (get_or l.values u (pos 0)) (nat l.row u)) l.v) l.initial.out 0 l.out l.at
