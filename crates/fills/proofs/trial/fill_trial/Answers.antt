-- The move is put into the trial row and worked out there by its route, and the asked values are read from it (`trial-filled`). Assumes nothing.
use native.Mathlib.Omega.{arith}
use Rattle.fills.proofs.Written.{held, count_fits, asked-within, trial-filled}
use Rattle.fills.proofs.Ran.{begun, running, named}
use Rattle.fills.proofs.trial.fill_trial.Goals as goal

pub run_route-requires-clause-running : goal.run_route-requires-clause-running
run_route-requires-clause-running c =
    let k = c.requires.trying in
    running _ _ _ _ _ k.keeping _ _ _ k.in-trial c.begin_route.ensures.trial_after c.begin_route.ensures.flags_after

pub run_route-requires-clause-named : goal.run_route-requires-clause-named
run_route-requires-clause-named c =
    let k = c.requires.trying in
    named _ _ _ _ _ k.keeping _ _ _ k.in-trial c.begin_route.ensures.trial_after c.begin_route.ensures.flags_after

pub run_route-requires-clause-begun : goal.run_route-requires-clause-begun
run_route-requires-clause-begun c =
    let k = c.requires.trying in
    begun _ _ _ _ _ k.keeping _ _ _ k.in-trial c.begin_route.ensures.trial_after c.begin_route.ensures.flags_after

pub copy_asked-requires-clause-known : goal.copy_asked-requires-clause-known
copy_asked-requires-clause-known c =
    let k = c.requires.trying in
    asked-within _ _ _ _ _ k _ (omega (arith, k.in-trial, c.begin_route.auto.trial, c.run_route.auto.trial))

pub overflow_cast-result : goal.overflow_cast-result
overflow_cast-result c =
    let k = c.requires.trying in
    record { fits = count_fits _ c.args.model.now.tables.n _ (held _ _ _ _ _ k.keeping).n-most c.evaluations.ensures }

pub returns : goal.returns
returns c =
    let k = c.requires.trying in
    trial-filled _ _ _ _ _ k _ _ _ _ _ _ c.begin_route.ensures.trial_after c.begin_route.ensures.flags_after c.run_route.ensures c.copy_asked.ensures c.evaluations.ensures
