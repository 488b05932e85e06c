-- The bytes passed have been put, and each turn puts the next behind them (`put_next`). Assumes nothing.
use Rattle.std.proofs.Common.{◌≡◌, length, take}
use Rattle.text.specs.Buffer.{Put}
use Rattle.text.proofs.buffers.put_all.Given as goal

abbrev pub invariant-loop-byte : goal.invariant-loop-byte
invariant-loop-byte l = (length l.out ≡ length l.initial.out) × Put (take l.byte-index l.bytes) l.initial.out l.at l.out l.next
