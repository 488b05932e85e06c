-- Build of the model of one window leaves DEPARTURES in variable 3 (`departures-stored`). Assumes nothing.
use mathlib.Core.Path.{subst⁻¹}
use Rattle.std.proofs.Common.{ℤ, pos, get_or, ap, ◌∙◌, rules}
use mir.Syntax.{w32}
use mir.Val.{SFits, to_z, of_z}
use mir.Facts.{to_z-of_z}
use Rattle.paper.specs.Calls.{BuildLeft}
use Rattle.boards.proofs.Window.{departures-stored}
use Rattle.boards.proofs.trips.departures_of.Goals as goal

-- a number that was carried as its bits
again : {z : ℤ} → SFits w32 z → SFits w32 (to_z w32 (of_z w32 z))
again f = subst⁻¹ (SFits w32) (to_z-of_z f) f

pub returns : goal.returns
returns c =
    let a = c.args in
    let r = c.ranges in
    let fits : SFits w32 (get_or c.build_new.new.stored 3 (pos 0)) = search rules in
    to_z-of_z fits ∙ ap (λ (x : BuildLeft). get_or x.stored 3 (pos 0)) c.build_new.ensures
    ∙ departures-stored (to_z w32 (of_z w32 a.start)) (to_z w32 (of_z w32 a.end)) (to_z w32 (of_z w32 a.headway)) (again r.start) (again r.end) (again r.headway)
    ∙ simp (to_z-of_z r.start, to_z-of_z r.end, to_z-of_z r.headway)
