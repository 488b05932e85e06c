use Rattle.std.proofs.Common.{get_or, pos, FitsSigned, to_z-of_z, refl, rules}
use Rattle.std.specs.Int.{w32}
use Rattle.fields.proofs.Runs.{lines_next}
use Rattle.fields.proofs.limits.put_bounds.Goals as goal

pub loop-v-preserved : goal.loop-v-preserved
loop-v-preserved c =
    let low : FitsSigned w32 (get_or c.args.bounds.now.lows.now c.loop-v.v (pos 0)) = search rules in
    let high : FitsSigned w32 (get_or c.args.bounds.now.highs.now c.loop-v.v (pos 0)) = search rules in
    lines_next c.loop-v.invariant 8 (λ v. refl) c.loop-v-test.true (rw (to_z-of_z low, to_z-of_z high) at c.put_bound.ensures)
