-- After all visits the least variable whose visit has not ended is the least that can have no number (`swept-found`). Assumes nothing.
use Rattle.order.proofs.Sweeps.{swept-start, swept-found}
use Rattle.order.proofs.visit.find_numbers.Goals as goal

pub visit_all-requires-clause-swept : goal.visit_all-requires-clause-swept
visit_all-requires-clause-swept c = rw c.end_search.ensures (swept-start _ c.requires.formed _ c.requires.makers _ c.requires.clean)

pub returns : goal.returns
returns c = swept-found _ c.requires.formed _ c.visit_all.ensures _ c.first_open.ensures
