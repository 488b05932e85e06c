-- So far as the answer is yes, the rows passed are good if the coefficients after the last LINEAR part are 1 too (`Sifted`). Assumes nothing.
use Prim.Native.Nat.{◌-◌}
use Rattle.tables.specs.Lent.{lent_tables}
use Rattle.tables.proofs.Sifting.{Sifted}
use Rattle.tables.proofs.number.others_one.Given as goal

abbrev pub invariant-loop-row : goal.invariant-loop-row
invariant-loop-row l = Sifted (lent_tables l.tables) l.row l.good l.from

abbrev pub decreases-loop-row : goal.decreases-loop-row
decreases-loop-row l = l.tables.m - l.row
