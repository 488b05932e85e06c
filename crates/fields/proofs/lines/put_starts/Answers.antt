use Rattle.std.proofs.Common.{◌<◌, get_or, get_or-take, take, length-take-le, arith, pos, FitsSigned, to_z-of_z, refl, rules}
use Rattle.std.specs.Int.{w32}
use Rattle.fields.proofs.Runs.{lines_next, lines_end}
use Rattle.fields.proofs.lines.put_starts.Goals as goal

pub loop-v-preserved : goal.loop-v-preserved
loop-v-preserved c =
    let low : c.loop-v.v < c.args.n = omega (arith, length-take-le c.args.n c.args.starts.now c.requires.0) in
    let fits : FitsSigned w32 (get_or (take c.args.n c.args.starts.now) c.loop-v.v (pos 0)) = search rules in
    lines_next c.loop-v.invariant 4 (λ v. refl) low (rw (to_z-of_z fits, get_or-take c.args.n c.args.starts.now c.loop-v.v (pos 0) low) at c.write.ensures)

pub returns : goal.returns
returns c = lines_end c.loop-v.invariant (omega (arith, length-take-le c.args.n c.args.starts.now c.requires.0))
