-- The bounds passed stand one behind the other, by their bits (`Lines`). Assumes nothing.
use Rattle.paper.specs.File.{bound_bytes}
use Rattle.fields.proofs.Runs.{Lines}
use Rattle.fields.proofs.limits.put_bounds.Given as goal

abbrev pub invariant-loop-v : goal.invariant-loop-v
invariant-loop-v l = Lines (bound_bytes l.bounds.lows.now l.bounds.highs.now) l.initial.bytes l.at l.count l.bytes l.v
