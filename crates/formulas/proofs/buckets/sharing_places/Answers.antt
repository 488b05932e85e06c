-- Before any is counted all counts are 0. Assumes nothing.
use Rattle.formulas.proofs.Bucketing.{counted_none}
use Rattle.formulas.proofs.buckets.sharing_places.Goals as goal

pub count_buckets-later-requires-clause-bucketed : goal.count_buckets-later-requires-clause-bucketed
count_buckets-later-requires-clause-bucketed c = counted_none
