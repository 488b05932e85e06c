-- The makers of the variables describe the whole model (`Whole`); each visit begins its variable, and leaves what it does not make stand held (`swept_step`); so
-- after every visit the values and states are as said (`swept-followed`). Assumes nothing.
use Rattle.std.proofs.Common.{length, take}
use Rattle.routes.specs.Work.{rows_lent, work_net}
use Rattle.choices.specs.Swept.{Swept}
use Rattle.choices.proofs.follow_choices.Given as goal

abbrev pub invariant-loop-v : goal.invariant-loop-v
invariant-loop-v l =
    Swept (work_net (rows_lent l.tables) (take l.tables.n l.by)) (length (take l.tables.n l.by)) l.v l.initial.values l.values l.states
