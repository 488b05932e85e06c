-- The start values passed stand one behind the other, by their bits (`Lines`). Assumes nothing.
use Rattle.paper.specs.File.{start_bytes}
use Rattle.fields.proofs.Runs.{Lines}
use Rattle.fields.proofs.lines.put_starts.Given as goal

abbrev pub invariant-loop-v : goal.invariant-loop-v
invariant-loop-v l = Lines (start_bytes l.starts) l.initial.bytes l.head l.n l.bytes l.v
