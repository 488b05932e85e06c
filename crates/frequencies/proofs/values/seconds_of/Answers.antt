-- Where one of the three numbers is none, the sum is no value (`time-said`). Assumes nothing.
use Prim.Native.Nat.{◌+◌, ◌-◌, ◌*◌}
use native.Mathlib.Omega.{arith}
use mathlib.Core.Bool.{cond}
use mathlib.Core.Path.{refl, ap, sym, ◌∙◌}
use lib.IntN.{pos}
use lib.ListN.{length}
use Rattle.paper.specs.Formula.{blank}
use Rattle.frequencies.proofs.Times.{time-short, no-hours, no-minutes, no-seconds, time-said}
use Rattle.frequencies.proofs.values.seconds_of.Goals as goal

pub returns-then-size-lt7-clause-value : goal.returns-then-size-lt7-clause-value
returns-then-size-lt7-clause-value c = sym (time-short c.args.bytes.now c.if-size-lt7.true)

pub returns-in_err-hours-clause-value : goal.returns-in_err-hours-clause-value
returns-in_err-hours-clause-value c =
    let bs = c.args.bytes.now in let k = length bs - 6 in
    rw c.from_residual.ensures
    (no-hours bs k (omega arith) refl _ _ _ c.hours_of.ensures refl refl c.in_err-hours.was)

pub returns-in_err-minutes-clause-value : goal.returns-in_err-minutes-clause-value
returns-in_err-minutes-clause-value c =
    let bs = c.args.bytes.now in let k = length bs - 6 in
    rw c.from_residual-in_err-minutes.ensures
    (no-minutes bs k (omega arith) refl _ _ _ c.hours_of.ensures c.pair_of.ensures refl c.in_err-minutes.was)

pub returns-in_err-seconds-clause-value : goal.returns-in_err-seconds-clause-value
returns-in_err-seconds-clause-value c =
    let bs = c.args.bytes.now in let k = length bs - 6 in
    rw c.from_residual-in_err-seconds.ensures
    (no-seconds bs k (omega arith) refl _ _ _ c.hours_of.ensures c.pair_of.ensures c.pair_of-2.ensures c.in_err-seconds.was)

pub returns-then-parted-time-clause-value : goal.returns-then-parted-time-clause-value
returns-then-parted-time-clause-value c =
    let bs = c.args.bytes.now in let k = length bs - 6 in
    time-said bs k (omega arith) refl _ _ _ c.hours_of.ensures c.pair_of.ensures c.pair_of-2.ensures
    ∙ rw (c.in_ok-hours.was, c.in_ok-minutes.was, c.in_ok-seconds.was)
    (ap (λ b. cond b (pos (3600 * c.in_ok-hours.hours + 60 * c.in_ok-minutes.minutes + c.in_ok-seconds.seconds)) blank) c.if-parted-time.true)

pub returns-else-parted-time-clause-value : goal.returns-else-parted-time-clause-value
returns-else-parted-time-clause-value c =
    let bs = c.args.bytes.now in let k = length bs - 6 in
    time-said bs k (omega arith) refl _ _ _ c.hours_of.ensures c.pair_of.ensures c.pair_of-2.ensures
    ∙ rw (c.in_ok-hours.was, c.in_ok-minutes.was, c.in_ok-seconds.was)
    (ap (λ b. cond b (pos (3600 * c.in_ok-hours.hours + 60 * c.in_ok-minutes.minutes + c.in_ok-seconds.seconds)) blank) c.if-parted-time.false)
