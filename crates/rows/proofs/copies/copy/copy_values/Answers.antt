-- The first n values are the ones copied. Assumes nothing.
use mathlib.Core.List.{◌++◌}
use mathlib.Core.Path.{ap, sym, ◌∙◌}
use lib.IntN.{pos}
use lib.ListN.{drop}
use Rattle.paper.proofs.Buffers.{below-list}
use Rattle.rows.proofs.copies.copy.copy_values.Goals as goal

pub returns : goal.returns
returns c = ap (◌++ drop c.args.n c.args.to.now) (c.copy_from_slice.ensures.after ∙ sym (below-list c.args.from.now (pos 0) c.args.n c.requires.0))
