use Rattle.std.proofs.Common.{◌∙◌, ap, sym, ◌++◌, drop}
use Rattle.paper.proofs.Buffers.{below-list}
use Rattle.chains.proofs.numbering.copy_numbers.Goals as goal

pub returns : goal.returns
returns c =
    ap (◌++ drop c.args.n c.args.to.now) (c.copy_from_slice.ensures.after ∙ sym (below-list c.args.from.now 0 c.args.n c.requires.0))
