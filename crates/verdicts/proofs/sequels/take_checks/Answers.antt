-- A log as check 1 leaves it has a first size. Assumes nothing.
use Rattle.std.proofs.Common.{◌≤◌, length, arith}
use borrow.Author.Tests.{leb-true}
use Rattle.paper.proofs.Lists.{each}
use Rattle.verdicts.proofs.sequels.take_checks.Goals as goal

pub bounds-log-0 : goal.bounds-log-0
bounds-log-0 c = let long : 65 ≤ length c.args.log.now.sizes.now = leb-true 65 (length c.args.log.now.sizes.now) (each _ c.requires.log_values_value).0 in omega arith
