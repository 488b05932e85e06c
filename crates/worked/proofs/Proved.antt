-- The (p) runs come out as the paper says, all by one computation. Assumes nothing.
use mathlib.Core.Bool.{true}
use mathlib.Core.Path.{◌≡◌, refl}
use Rattle.paper.specs.Lists.{every}
use Rattle.paper.specs.Formula.{formula, looked}
use Rattle.paper.specs.Net.{runs}
use Rattle.paper.specs.Tables.{row_of}
use Rattle.paper.specs.Chains.{group_number, determined}
use Rattle.paper.specs.Calls.{build_verdict, build, trial_verdict, trial}
use Rattle.worked.specs.Runs.{comes_out, proved, all_come_out}

pub all-come-out : all_come_out ≡ true
unfolding every formula looked runs row_of group_number determined build_verdict build trial_verdict trial comes_out proved
all-come-out = refl
