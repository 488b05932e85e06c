use mathlib.Core.Path.{refl}
use Rattle.fields.proofs.Runs.{lines_next, lines_end}
use Rattle.files.proofs.conversions.convert.put_full.Goals as goal

pub loop-v-preserved : goal.loop-v-preserved
loop-v-preserved c =
    let b = c.before.before.before.before.before in
    lines_next b.loop-v.invariant 8 (λ v. refl) b.loop-v-test.true c.put_bound.ensures

pub returns : goal.returns
returns c = lines_end c.loop-v.invariant c.loop-v-test.false
