-- Each byte that goes on belongs to the field (`PlainPassed`), and the first that does not ends it. Assumes nothing.
use Prim.Native.Nat.{◌-◌}
use lib.ListN.{length}
use Rattle.frequencies.specs.Scan.{PlainPassed}
use Rattle.frequencies.proofs.fields.pass_plain.Given as goal

abbrev pub invariant-loop-quote : goal.invariant-loop-quote
invariant-loop-quote l = PlainPassed l.bytes l.at l.i l.quote

abbrev pub decreases-loop-quote : goal.decreases-loop-quote
decreases-loop-quote l = length l.bytes - l.i
