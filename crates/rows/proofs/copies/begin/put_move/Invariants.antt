-- The pairs from this place on are in, an earlier one over a later (`Putting`). Assumes nothing.
use Rattle.tables.specs.Lent.{lent_move}
use Rattle.rows.proofs.Put.{Putting}
use Rattle.rows.proofs.copies.begin.put_move.Given as goal

abbrev pub invariant-loop-i : goal.invariant-loop-i
invariant-loop-i l = Putting (lent_move l.mv) l.initial.row l.row l.i
