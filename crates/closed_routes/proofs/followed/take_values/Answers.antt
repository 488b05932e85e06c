use Rattle.std.proofs.Common.{arith, cond, eqb, ℕ, ℤ, pos, rules, ap₂, ◌∙◌}
use mir.Syntax.{w32}
use mir.Val.{SFits}
use mir.Facts.{to_z-of_z}
use Rattle.integers.proofs.Bits.{told}
use Rattle.paper.specs.Lists.{nat}
use Rattle.paper.proofs.Buffers.{filled_next, filled-still}
use Rattle.routes.specs.Rows.{values_of}
use Rattle.closed_routes.proofs.followed.take_values.Goals as goal

pub loop-v-preserved : goal.loop-v-preserved
loop-v-preserved c =
    let f = λ (v : ℕ). cond (eqb (nat c.args.flags.now v) 1) (values_of c.args.values.now v) (values_of c.args.trial.now v) in
    let new : SFits w32 (values_of c.args.values.now c.loop-v.v) = search rules in
    let old : SFits w32 (values_of c.loop-v.trial c.loop-v.v) = search rules in
    filled_next f c.args.trial.now c.loop-v.trial c.loop-v.v c.loop-v.invariant (omega arith)
    (told w32 c.pick.type_inv (c.pick.ensures
    ∙ ap₂ (λ (x y : ℤ). cond (eqb (nat c.args.flags.now c.loop-v.v) 1) x y) (to_z-of_z new)
    (to_z-of_z old ∙ filled-still f c.args.trial.now c.loop-v.trial c.loop-v.v (pos 0) c.loop-v.invariant)))
