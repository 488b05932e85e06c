use native.Mathlib.Omega.{arith}
use mathlib.Core.Bool.{cond, ◌||◌}
use mathlib.Core.Path.{ap, ◌∙◌}
use lib.Dec.{eqb}
use Rattle.paper.specs.Lists.{nat}
use Rattle.paper.proofs.Buffers.{filled_next, filled-still}
use Rattle.whys.specs.Plain.{plain_noted}
use Rattle.whys.proofs.plain.note_plain.Goals as goal

pub loop-v-preserved : goal.loop-v-preserved
loop-v-preserved c =
    let a = c.args in let l = c.loop-v in
    let left = plain_noted a.by.now a.flags.now (nat a.reasons.now) in
    filled_next left a.reasons.now l.reasons l.v l.invariant (omega (arith, c.requires))
    (c.cleared.ensures ∙ ap (cond (eqb (nat a.by.now l.v) 0 || eqb (nat a.flags.now l.v) 1) 0) (filled-still left a.reasons.now l.reasons l.v 0 l.invariant))
