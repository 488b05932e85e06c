-- All inputs are blank exactly if as many places hold blank as there are. Assumes nothing.
use mathlib.Core.Path.{sym, ◌∙◌, ap₂}
use lib.Dec.{leb}
use Rattle.integers.specs.Integers.{eq_z}
use Rattle.paper.specs.Formula.{blank}
use Rattle.formulas.specs.Given.{inputs_of}
use Rattle.formulas.proofs.Reading.{inputs-length}
use Rattle.whys.proofs.Tests.{all-tally}
use Rattle.whys.proofs.all_blank.Goals as goal

pub returns : goal.returns
returns c =
    let row = c.args.row in
    ap₂ leb (c.len.ensures ∙ sym (inputs-length row.vars.now row.values.now)) c.places.ensures ∙ sym (all-tally (λ x. eq_z x blank) (inputs_of row))
