-- The stored values are copied, the pairs put in over them (`put-over`), and the flags cleared. Assumes nothing.
use mathlib.Core.Path.{ap, ◌∙◌}
use lib.IntN.{pos}
use lib.ListN.{get_or}
use Rattle.paper.specs.Checks.{pairs_of_move}
use Rattle.tables.specs.Lent.{lent_move}
use Rattle.rows.specs.Put.{put_in}
use Rattle.rows.proofs.Put.{put-over}
use Rattle.rows.proofs.copies.begin.begin_route.Goals as goal

pub returns-clause-trial_after : goal.returns-clause-trial_after
returns-clause-trial_after c =
    let a = c.args in let lent = lent_move a.mv.now in
    c.put_move.ensures
    ∙ ap (put_in (pairs_of_move lent)) c.copy_values.ensures
    ∙ put-over a.n lent c.requires.pairs (λ v. get_or a.stored.now v (pos 0)) a.trial.now
