use mathlib.Core.Path.{sym, ◌∙◌}
use Rattle.frequencies.proofs.Scanning.{plain-next}
use Rattle.frequencies.proofs.fields.pass_plain.Goals as goal

pub loop-quote-preserved : goal.loop-quote-preserved
loop-quote-preserved c =
    plain-next c.args.bytes.now c.args.at c.loop-quote.invariant (sym c.goes_on.ensures ∙ c.loop-quote-test.true)
