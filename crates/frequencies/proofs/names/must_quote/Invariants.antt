-- The answer is that of the bytes passed, and each turn joins the next (`any_next`). Assumes nothing.
use mathlib.Core.Path.{◌≡◌}
use lib.ListN.{take}
use Rattle.frequencies.specs.Writing.{must_quote}
use Rattle.frequencies.proofs.names.must_quote.Given as goal

abbrev pub invariant-loop-byte : goal.invariant-loop-byte
invariant-loop-byte l = (l.must ≡ must_quote (take l.byte-index l.name))
