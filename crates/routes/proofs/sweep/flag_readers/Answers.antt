use Rattle.std.proofs.Common.{arith, ◌+◌, ◌≡◌, suc, ap, ◌∙◌}
use Rattle.std.proofs.Math.ListN.{length-set}
use Rattle.paper.specs.Lists.{nat}
use Rattle.routes.proofs.Flags.{flag-next}
use Rattle.routes.proofs.sweep.flag_readers.Goals as goal

pub loop-i-preserved : goal.loop-i-preserved
loop-i-preserved c =
    let d : c.args.v + 1 ≡ suc c.args.v = omega arith in
    let q = c.wide-end.ensures.0 ∙ ap (nat c.args.index.now.starts.now) d in (
      omega (arith, c.loop-i.invariant.0),
      length-set c.loop-i.flags _ 1 ∙ c.loop-i.invariant.1,
      flag-next c.args.makes.now c.args.index.now.places.now _ c.loop-i.i c.wide-end.result c.loop-i.flags c.loop-i.invariant.2 (omega arith) (omega (arith, c.requires.inside, q)) _ _ c.wide.ensures.0 c.wide-in-loop-i.ensures.0,
    )
