-- The move is worked out by route 1, with nothing asked, in a row of 4096 values, and what stands there is stored (`keep-filled`). Assumes nothing.
use native.Mathlib.Omega.{arith}
use Rattle.fills.proofs.Written.{held, count_fits, keep-filled}
use Rattle.fills.proofs.Ran.{begun, running, named}
use Rattle.fills.proofs.keep.fill_keep.Goals as goal

pub begin_route-requires : goal.begin_route-requires
begin_route-requires c =
    let k = c.requires.keep_accepted in
    record { in-stored = k.in-stored; in-trial = (held _ _ _ _ _ k).n-most; in-flags = k.in-flags; pairs = k.pairs }

pub run_route-requires-clause-running : goal.run_route-requires-clause-running
run_route-requires-clause-running c =
    let k = c.requires.keep_accepted in
    running _ _ _ _ _ k _ _ _ (held _ _ _ _ _ k).n-most c.begin_route.ensures.trial_after c.begin_route.ensures.flags_after

pub run_route-requires-clause-named : goal.run_route-requires-clause-named
run_route-requires-clause-named c =
    let k = c.requires.keep_accepted in
    named _ _ _ _ _ k _ _ _ (held _ _ _ _ _ k).n-most c.begin_route.ensures.trial_after c.begin_route.ensures.flags_after

pub run_route-requires-clause-begun : goal.run_route-requires-clause-begun
run_route-requires-clause-begun c =
    let k = c.requires.keep_accepted in
    begun _ _ _ _ _ k _ _ _ (held _ _ _ _ _ k).n-most c.begin_route.ensures.trial_after c.begin_route.ensures.flags_after

pub copy_values-requires : goal.copy_values-requires
copy_values-requires c =
    let room = (held _ _ _ _ _ c.requires.keep_accepted).n-most in
    (omega (arith, room, c.begin_route.auto.trial, c.run_route.auto.trial), c.requires.keep_accepted.in-stored)

pub overflow_cast-result : goal.overflow_cast-result
overflow_cast-result c = record { fits = count_fits _ c.args.tables.now.n _ (held _ _ _ _ _ c.requires.keep_accepted).n-most c.evaluations.ensures }

pub returns : goal.returns
returns c =
    let k = c.requires.keep_accepted in
    keep-filled _ _ _ _ _ k _ _ _ _ _ _ _ (held _ _ _ _ _ k).n-most c.begin_route.ensures.trial_after c.begin_route.ensures.flags_after
    c.run_route.ensures c.copy_values.ensures c.evaluations.ensures
