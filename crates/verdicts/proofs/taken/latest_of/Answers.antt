-- The move is read from the log's rows where it stands (`latest-read`). Assumes nothing.
use Rattle.tables.specs.Lent.{lent_log}
use Rattle.verdicts.proofs.Latest.{latest-read}
use Rattle.verdicts.proofs.taken.latest_of.Goals as goal

pub returns : goal.returns
returns c = latest-read (lent_log c.args.log.now) _ _ c.latest_move-at.ensures c.wide.ensures.0
