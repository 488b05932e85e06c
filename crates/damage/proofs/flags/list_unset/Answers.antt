-- The second list is stored where the first ends, and both together are one run from the front on. Assumes nothing.
use native.Mathlib.Omega.{arith}
use mathlib.Core.Bool.{false}
use mathlib.Core.List.{◌++◌}
use mathlib.Core.Path.{refl, ap, ◌∙◌}
use lib.ListN.{length, length-append}
use lib.Seq.{length-sets}
use Rattle.paper.proofs.Bytes.{go_on, sets-front}
use Rattle.damage.specs.Flags.{flagged}
use Rattle.damage.proofs.flags.list_unset.Goals as goal

pub list_flagged-end-requires : goal.list_flagged-end-requires
list_flagged-end-requires c =
    let s = c.before.before.before.before.before in let a = s.args in
    let long = length-append (flagged false a.row.now a.m) (flagged false a.taken.now a.n) in
    (s.requires.there.0, omega (arith, s.requires.there), omega (arith, s.requires.room))

pub list_flagged-requires : goal.list_flagged-requires
list_flagged-requires c =
    let s = c.before.before.before.before.before.before.before.before.before in let a = s.args in
    let first = c.list_flagged-end.ensures in
    let same = ap length first.1 ∙ length-sets a.list.now 0 (flagged false a.row.now a.m) in
    let long = length-append (flagged false a.row.now a.m) (flagged false a.taken.now a.n) in
    (s.requires.there.1, omega (arith, s.requires.there), omega (arith, s.requires.room, same))

pub returns : goal.returns
returns c =
    let s = c.before.before.before.before.before.before.before.before.before.before.before.before in let a = s.args in
    let first = c.list_flagged-end.ensures in
    let F = flagged false a.row.now a.m in let G = flagged false a.taken.now a.n in
    go_on a.list.now 0 F G _ first.1 first.0 c.list_flagged.ensures.1 ∙ sets-front (F ++ G) a.list.now (length (F ++ G)) refl s.requires.room
