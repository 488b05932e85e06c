use Rattle.std.proofs.Common.{arith, rules, ℕ, Bool, true, false, cond, ◌≡◌, ◌∙◌, ◌+◌, ◌<◌, ◌≤◌, eqb, slice_set}
use lib.Seq.{get_or-take, length-take-le}
use mir.Syntax.{w32}
use mir.Val.{SFits, bool_byte}
use mir.Facts.{to_z-of_z}
use Rattle.paper.specs.Lists.{nat, size}
use Rattle.paper.proofs.Count.{size-le}
use Rattle.rows.specs.Changes.{values_of}
use Rattle.probes.proofs.Undone.{taken, back_low, back-next, back_end, none-flagged}
use Rattle.probes.proofs.back.put_back.Goals as goal

-- the number of a test
one : {k : ℕ} (b : Bool) → k ≡ bool_byte b → k ≡ cond b 1 0
one true e = e
one false e = e

-- the listed variable is one of the model, and a flag taken is one fewer
pub overflow_add-evaluated : goal.overflow_add-evaluated
overflow_add-evaluated c =
    let A = c.loop-u.invariant.0 in
    let long = length-take-le c.args.count c.args.touched.now A.in_list in
    let h : c.loop-u.u-index < c.args.count = omega arith in
    let e = c.wide-v.ensures.0 ∙ get_or-take c.args.count c.args.touched.now c.loop-u.u-index 0 h in
    let low = back_low _ _ _ _ _ _ _ _ _ A h _ e in
    let t = taken c.loop-u.flags c.wide-v.result c.args.n low (omega (arith, low, A.roomy.in-flags)) in
    omega (arith, t, one _ c.from-evaluated.ensures, c.loop-u.invariant.1, size-le (λ v. eqb (nat c.args.flags.now v) 1) c.args.n, c.ranges.n.fits)

pub loop-u-preserved : goal.loop-u-preserved
loop-u-preserved c =
    let A = c.loop-u.invariant.0 in
    let long = length-take-le c.args.count c.args.touched.now A.in_list in
    let h : c.loop-u.u-index < c.args.count = omega arith in
    let e = c.wide-v.ensures.0 ∙ get_or-take c.args.count c.args.touched.now c.loop-u.u-index 0 h in
    let low = back_low _ _ _ _ _ _ _ _ _ A h _ e in
    let t = taken c.loop-u.flags c.wide-v.result c.args.n low (omega (arith, low, A.roomy.in-flags)) in
    let fits : SFits w32 (values_of c.args.stored.now c.wide-v.result) = search rules in
    let counted : c.loop-u.evaluated + c.from-evaluated.result + size (λ v. eqb (nat (slice_set c.loop-u.flags c.wide-v.result 0) v) 1) c.args.n
    ≡ size (λ v. eqb (nat c.args.flags.now v) 1) c.args.n
    = omega (arith, t, one _ c.from-evaluated.ensures, c.loop-u.invariant.1) in
    (back-next _ _ _ _ _ _ _ _ _ A h _ e _ (to_z-of_z fits), counted)

pub returns-clause-counted : goal.returns-clause-counted
returns-clause-counted c =
    let long = length-take-le c.args.count c.args.touched.now c.loop-u.invariant.0.in_list in
    let h : c.args.count ≤ c.loop-u.u-index = omega arith in
    let rest = back_end _ _ _ _ _ _ _ _ _ c.loop-u.invariant.0 h in
    omega (arith, c.loop-u.invariant.1, none-flagged _ _ _ c.loop-u.flags _ _ rest)
