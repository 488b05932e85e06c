-- The full bounds passed stand one behind the other (`Lines`). Assumes nothing.
use Rattle.paper.specs.File.{full_bytes}
use Rattle.fields.proofs.Runs.{Lines}
use Rattle.files.proofs.conversions.convert.put_full.Given as goal

abbrev pub invariant-loop-v : goal.invariant-loop-v
invariant-loop-v l = Lines full_bytes l.initial.file l.at l.count l.file l.v
