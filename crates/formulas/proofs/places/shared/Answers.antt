-- The part of the row that the inputs were copied to is the inputs: whether one is blank is seen there, and the places that share their value are counted there, at most all.
-- Assumes nothing.
use native.Mathlib.Omega.{arith}
use mathlib.Core.Path.{◌≡◌, sym, ap, ◌∙◌}
use borrow.Author.Rules.{sfits_of}
use borrow.Author.Tests.{lt-ltb, le-ltb}
use Prim.Native.Nat.{◌<◌}
use lib.Dec.{leb, ltb}
use lib.IntN.{pos}
use mir.Syntax.{w32}
use mir.Facts.{to_z_pos}
use Rattle.paper.specs.Formula.{some_blank, places, sharing}
use Rattle.formulas.specs.Given.{inputs_of}
use Rattle.formulas.proofs.Reading.{inputs-length}
use Rattle.formulas.proofs.Counting.{tally-most, blank-copied}
use Rattle.formulas.proofs.places.shared.Goals as goal

pub returns-then-blanks_among-ne0 : goal.returns-then-blanks_among-ne0
returns-then-blanks_among-ne0 c =
    let row = c.args.row in
    let test : some_blank (inputs_of row) ≡ ltb 0 c.blanks_among.result =
    blank-copied _ _ c.len-n.result (inputs-length row.vars.now row.values.now ∙ sym c.len-n.ensures) (rw c.len-n.ensures c.copy_to.ensures) ∙ ap (ltb 0) (sym c.blanks_among.ensures) in
    simp (test ∙ lt-ltb 0 c.blanks_among.result (omega arith))

number : (c : goal.After-sharing_places) → c.sharing_places.result ≡ sharing (inputs_of c.args.row)
number c = (rw c.len-n.ensures at c.sharing_places.ensures) ∙ ap sharing c.copy_to.ensures

few : (c : goal.After-sharing_places) → c.sharing_places.result < 2147483648
few c =
    let row = c.args.row in
    omega (arith, number c, tally-most (λ x. leb 2 (places x (inputs_of row))) row.vars.now row.values.now)

pub overflow_cast-result : goal.overflow_cast-result
overflow_cast-result c = sfits_of (few c)

pub returns : goal.returns
returns c =
    let row = c.args.row in
    let test : some_blank (inputs_of row) ≡ ltb 0 c.blanks_among.result =
    blank-copied _ _ c.len-n.result (inputs-length row.vars.now row.values.now ∙ sym c.len-n.ensures) (rw c.len-n.ensures c.copy_to.ensures) ∙ ap (ltb 0) (sym c.blanks_among.ensures) in
    simp (test ∙ le-ltb 0 c.blanks_among.result (omega arith)) (to_z_pos w32 (few c) ∙ ap pos (number c))
