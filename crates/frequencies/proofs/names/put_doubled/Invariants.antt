-- The bytes passed have been put, and each turn puts the next behind them (`doubled-next`). Assumes nothing.
use mathlib.Core.Path.{◌≡◌}
use lib.ListN.{length, take}
use Rattle.frequencies.specs.Puts.{Puts}
use Rattle.frequencies.specs.Writing.{doubled}
use Rattle.frequencies.proofs.names.put_doubled.Given as goal

abbrev pub invariant-loop-byte : goal.invariant-loop-byte
invariant-loop-byte l = (length l.out ≡ length l.initial.out) × Puts (doubled (take l.byte-index l.name)) l.initial.out l.at l.out l.next
