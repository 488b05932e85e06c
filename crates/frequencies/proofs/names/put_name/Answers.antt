-- A name that must be quoted is put between quotes (`name-quoted`), and another as it stands. Assumes nothing.
use mathlib.Core.Path.{sym, ◌∙◌}
use Rattle.frequencies.proofs.Putting.{puts_then}
use Rattle.frequencies.proofs.Quoting.{name-quoted, name-plain}
use Rattle.frequencies.proofs.names.put_name.Goals as goal

pub returns-then-must_quote : goal.returns-then-must_quote
returns-then-must_quote c =
    let a = c.args in
    rw (name-quoted a.double a.name.now c.requires (sym c.must_quote.ensures ∙ c.if-must_quote.true))
    (puts_then (puts_then c.put-from.ensures c.put_inside-to.ensures) c.put.ensures)

pub returns : goal.returns
returns c =
    let a = c.args in
    rw (name-plain a.double a.name.now c.requires (sym c.must_quote.ensures ∙ c.if-must_quote.false)) c.put_all.ensures
