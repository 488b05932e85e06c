-- A quoted name has two quotes around it (`name-long`), and another is its bytes. Assumes nothing.
use native.Mathlib.Omega.{arith}
use mathlib.Core.Path.{ap, sym, ◌∙◌}
use lib.ListN.{length}
use Rattle.frequencies.proofs.Quoting.{name-plain, name-long}
use Rattle.frequencies.proofs.names.name_size.Goals as goal

pub returns-then-must_quote : goal.returns-then-must_quote
returns-then-must_quote c =
    let a = c.args in
    (name-long a.double a.name.now c.requires.doubles (sym c.must_quote.ensures ∙ c.if-must_quote.true) _ c.inside_size.ensures.0, omega (arith, c.inside_size.ensures.1))

pub returns : goal.returns
returns c =
    let a = c.args in
    (sym (ap length (name-plain a.double a.name.now c.requires.doubles (sym c.must_quote.ensures ∙ c.if-must_quote.false))), omega arith)
