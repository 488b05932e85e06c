use Rattle.std.proofs.Common.{arith}
use Rattle.std.proofs.Math.ListN.{replicate}
use Rattle.tables.specs.Lent.{lent_tables}
use Rattle.paper.proofs.Sizes.{sized-facts}
use Rattle.paper.proofs.Accept.{sound-row}
use Rattle.tables.proofs.Made.{makers-filled}
use Rattle.order.proofs.Bare.{formed-of}
use Rattle.order.proofs.Sweeps.{clean-new}
use Rattle.chains.proofs.Kinded.{formed-kinded}
use Rattle.choices.proofs.Working.{closes-told, open-along, followed-worth}
use Rattle.choices.proofs.worths.work_all.Goals as goal

pub some_closes-requires-clause-kinded : goal.some_closes-requires-clause-kinded
some_closes-requires-clause-kinded c =
    let t = lent_tables c.args.tables.now in let w = c.requires in
    record { formed = formed-kinded t (formed-of t w.sound); kinds = (sized-facts t w.sound.sized).kinds }

pub makers-requires-clause-m_in_bounds : goal.makers-requires-clause-m_in_bounds
makers-requires-clause-m_in_bounds c =
    let t = lent_tables c.args.tables.now in
    let w = c.requires in
    let held = sized-facts t w.sound.sized in
    let m = held.m-most in let n = held.n-most in (held.makes, n, omega arith)

pub makers-requires-clause-all_below : goal.makers-requires-clause-all_below
makers-requires-clause-all_below c =
    let t = lent_tables c.args.tables.now in
    let w = c.requires in
    let held = sized-facts t w.sound.sized in
    record { at = λ r h. (sound-row t w.sound r h).makes }

pub follow_choices-requires-clause-makers : goal.follow_choices-requires-clause-makers
follow_choices-requires-clause-makers c =
    let t = lent_tables c.args.tables.now in
    let w = c.requires in
    let held = sized-facts t w.sound.sized in
    makers-filled t (replicate 4096 0) _ held.n-most c.makers.ensures

pub follow_choices-requires-clause-clean : goal.follow_choices-requires-clause-clean
follow_choices-requires-clause-clean c =
    let t = lent_tables c.args.tables.now in
    let w = c.requires in
    let held = sized-facts t w.sound.sized in
    clean-new _ 4096 held.n-most

pub returns-then-some_closes : goal.returns-then-some_closes
returns-then-some_closes c =
    let t = lent_tables c.args.tables.now in
    let w = c.requires in
    let held = sized-facts t w.sound.sized in
    followed-worth t c.args.numbers.now c.args.order.now c.args.values.now w c.follow_choices.ensures

pub work_out-requires : goal.work_out-requires
work_out-requires c =
    let t = lent_tables c.args.tables.now in
    let w = c.requires in
    let held = sized-facts t w.sound.sized in
    let a = open-along t c.args.numbers.now c.args.order.now c.args.values.now w (closes-told t c.some_closes.ensures c.if-some_closes.false) in
    record { along = a; room = w.in-values }
