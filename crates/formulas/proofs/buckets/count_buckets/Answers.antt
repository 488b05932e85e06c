use native.Mathlib.Omega.{arith}
use mathlib.Core.Path.{ap, ◌∙◌}
use borrow.Author.Rules.{rules}
use lib.IntN.{pos}
use lib.ListN.{get_or}
use mir.Syntax.{w32}
use mir.Val.{SFits}
use mir.Facts.{to_z-of_z}
use Rattle.formulas.specs.Buckets.{bucket_of}
use Rattle.formulas.proofs.Counting.{one-most}
use Rattle.formulas.proofs.Bucketing.{counting-next, counting-most}
use Rattle.formulas.proofs.buckets.count_buckets.Goals as goal

pub overflow_add-counts : goal.overflow_add-counts
overflow_add-counts c = omega (arith, counting-most c.loop-x.invariant.1 c.bucket-k.result c.bucket-k.ensures.1, c.requires.held_len_bound)

pub loop-x-preserved : goal.loop-x-preserved
loop-x-preserved c =
    let l = c.loop-x in
    let fits : SFits w32 (get_or c.args.held.now l.x-index (pos 0)) = search rules in
    (omega (arith, one-most _ c.one_if-later.ensures), counting-next l.invariant.1 c.loop-x-test.true (c.bucket-k.ensures.0 ∙ ap bucket_of (to_z-of_z fits)) c.bucket-k.ensures.1)
