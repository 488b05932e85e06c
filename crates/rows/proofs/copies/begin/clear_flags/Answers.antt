-- The first n flags are all filled with 0. Assumes nothing.
use mathlib.Core.List.{◌++◌}
use mathlib.Core.Path.{ap, ◌∙◌}
use lib.ListN.{drop, replicate}
use lib.Seq.{length-take-le}
use Rattle.rows.proofs.Put.{below-one}
use Rattle.rows.proofs.copies.begin.clear_flags.Goals as goal

pub returns : goal.returns
returns c =
    let flags = c.args.flags.now in
    ap (◌++ drop c.args.n flags) (c.fill.ensures.after (λ y k. k) ∙ ap (λ k. replicate k 0) (length-take-le c.args.n flags c.requires) ∙ below-one 0 c.args.n)
