-- Each byte that stays in belongs to the field (`QuotesPassed`), and a line feed among them begins a line. Assumes nothing.
use Prim.Native.Nat.{◌-◌}
use lib.ListN.{length}
use Rattle.frequencies.specs.Scan.{QuotesPassed}
use Rattle.frequencies.proofs.fields.pass_quotes.Given as goal

abbrev pub invariant-loop-b : goal.invariant-loop-b
invariant-loop-b l = QuotesPassed l.bytes l.fn.from.at l.fn.from.line l.i l.lines l.closing

abbrev pub decreases-loop-b : goal.decreases-loop-b
decreases-loop-b l = length l.bytes - l.i
