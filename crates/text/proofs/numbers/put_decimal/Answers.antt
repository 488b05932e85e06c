-- `io::decimal` gives the fewest digits, which are those of `decimal` (`decimal-is`). Assumes nothing.
use native.Mathlib.Omega.{arith}
use mathlib.Core.Path.{◌∙◌}
use Rattle.text.proofs.Tens.{decimal-is}
use Rattle.text.proofs.numbers.put_decimal.Goals as goal

pub returns : goal.returns
returns c =
    let d = c.decimal-k.ensures in
    rw (← (d.digits ∙ decimal-is c.args.n _ d.len (omega arith))) c.put_all.ensures
