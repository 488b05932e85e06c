-- The part that is named ends within the lent entries (`within`), and it is cut out where it lies (`very`). Assumes nothing.
use mathlib.Core.Path.{ap}
use borrow.Author.Rules.{rules}
use Rattle.tables.specs.declared.parts.Part.{Part}
use Rattle.tables.proofs.Asked.{within, very}
use Rattle.tables.proofs.parts.inputs_of_row.Goals as goal

pub overflow_add-result : goal.overflow_add-result
overflow_add-result c = let t = c.args in let h = within t.m t.e t.firsts.now t.counts.now t.vars.now t.row _ c.part_of_row-part.ensures in search rules

pub offset_bounds-vars-part : goal.offset_bounds-vars-part
offset_bounds-vars-part c = let t = c.args in let h = within t.m t.e t.firsts.now t.counts.now t.vars.now t.row _ c.part_of_row-part.ensures in search rules

pub slice_bounds-result-end : goal.slice_bounds-result-end
slice_bounds-result-end c = let t = c.args in within t.m t.e t.firsts.now t.counts.now t.vars.now t.row _ c.part_of_row-part.ensures

pub returns : goal.returns
returns c = let r = c.part_of_row-part in very c.args.vars r.result.first r.result.count _ (ap (λ (p : Part). (p.first, p.count)) r.ensures)
