-- With fewer than two values in its bucket z stands at most once (`alone`). Assumes nothing.
use native.Mathlib.Omega.{arith}
use mathlib.Core.Path.{sym, ap, ◌∙◌}
use borrow.Author.Tests.{lt-leb}
use mir.Facts.{to_z-of_z}
use Rattle.formulas.specs.Buckets.{bucket_of}
use Rattle.formulas.proofs.Bucketing.{alone}
use Rattle.formulas.proofs.buckets.held_twice.Goals as goal

pub returns-else-counts-bucket-ge2 : goal.returns-else-counts-bucket-ge2
returns-else-counts-bucket-ge2 c = lt-leb 2 _ (omega arith) ∙ sym (alone c.requires.bucketed c.args.z (c.bucket.ensures.0 ∙ ap bucket_of (to_z-of_z c.ranges.z)) c.bucket.ensures.1 (omega arith))
