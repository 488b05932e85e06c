use native.Mathlib.Omega.{arith}
use mathlib.Core.List.{[], ◌∷◌}
use mathlib.Core.Path.{ap}
use lib.ListN.{length, take, length-append}
use Rattle.paper.specs.Lists.{nat}
use Rattle.frequencies.specs.Writing.{doubled}
use Rattle.frequencies.proofs.Quoting.{doubled-next}
use Rattle.frequencies.proofs.names.doubled_size.Goals as goal

pub loop-byte-preserved : goal.loop-byte-preserved
loop-byte-preserved c =
    let l = c.loop-byte in let name = c.args.name.now in
    let a = length-append (doubled (take l.byte-index name)) (doubled (nat name l.byte-index ∷ [])) in let n = ap length (doubled-next name l.byte-index (omega arith)) in
    (omega (arith, a, n, l.invariant.0, c.byte_size-size.ensures.0), omega (arith, l.invariant.1, c.byte_size-size.ensures.1))
