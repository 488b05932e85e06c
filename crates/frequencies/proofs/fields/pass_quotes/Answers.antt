use mathlib.Core.Path.{sym, ◌∙◌}
use Rattle.frequencies.proofs.Scanning.{one-or-none, quotes-next}
use Rattle.frequencies.proofs.fields.pass_quotes.Goals as goal

pub loop-b-preserved : goal.loop-b-preserved
loop-b-preserved c =
    let s = c.args in
    rw (c.from-lines.ensures ∙ one-or-none _)
    (quotes-next s.bytes.now s.from.at s.from.line c.loop-b.invariant (sym c.stays_in.ensures ∙ c.loop-b-test.true))
