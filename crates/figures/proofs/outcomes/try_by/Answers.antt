-- What the move is given is read off: its number, its evaluations and the one result. Assumes nothing.
use Rattle.std.proofs.Common.{pos, ap, arith, rules, get_or}
use mir.Syntax.{w32}
use mir.Val.{SFits}
use mir.Facts.{to_z-of_z}
use Rattle.integers.proofs.Ranges.{fits-away}
use Rattle.tables.specs.Lent.{lent_model, lent_move}
use Rattle.records.specs.Left.{record_in}
use Rattle.figures.specs.declared.outcomes.Tried.{Tried}
use Rattle.figures.proofs.Trying.{tried-low, tried-is}
use Rattle.figures.proofs.outcomes.try_by.Goals as goal

pub returns : goal.returns
returns c =
    let a = c.args in
    let s = record_in a.session in let w = lent_model a.model.now in let mv = lent_move a.mv.now in
    let fits : SFits w32 (get_or c.try_given-answer.new.results 0 (pos 0)) = search rules in
    let is = tried-is s w a.asked a.route mv _ _ _ _ c.try_given-answer.ensures c.number_of.ensures c.evaluations_of.ensures (to_z-of_z fits) in
    let low = tried-low s w a.asked a.route mv in
    (is, omega (arith, low.0, ap (λ (x : Tried). x.number) is), omega (arith, low.1, ap (λ (x : Tried). x.evaluations) is), simp (to_z-of_z fits) (fits-away w32 _ fits))
