-- The rows listed are those flagged, so a flag is left where the row's variable has a number among them (`dropped`). Assumes nothing.
use mathlib.Core.Bool.{true, false}
use mathlib.Core.Path.{◌≡◌, ap, ◌∙◌}
use lib.ListN.{replicate, get_or, take}
use Rattle.order.proofs.Sweeps.{clean-new}
use Rattle.damage.specs.Flags.{flag_wanted, flagged}
use Rattle.salvage.specs.Packing.{shape_of}
use Rattle.salvage.proofs.Copied.{front_of, known_same, those-below, dropped}
use Rattle.salvage.proofs.packing.number.drop_rows.Goals as goal

pub number_rows-requires-clause-packable : goal.number_rows-requires-clause-packable
number_rows-requires-clause-packable c =
    let k = c.list_flagged-k in
    rw (front_of _ (replicate 4096 0) k.result c.requires.packable.few k.ensures.1 k.ensures.0) c.requires.packable

pub number_rows-requires-clause-made : goal.number_rows-requires-clause-made
number_rows-requires-clause-made c =
    let k = c.list_flagged-k in
    rw (front_of _ (replicate 4096 0) k.result c.requires.packable.few k.ensures.1 k.ensures.0) (those-below (λ i. flag_wanted true (get_or c.args.row.now i false)) c.args.tables.now.m _ c.requires.made)

pub number_rows-requires-clause-formed : goal.number_rows-requires-clause-formed
number_rows-requires-clause-formed c =
    let k = c.list_flagged-k in
    rw (front_of _ (replicate 4096 0) k.result c.requires.packable.few k.ensures.1 k.ensures.0) c.requires.formed

pub number_rows-requires-clause-clean : goal.number_rows-requires-clause-clean
number_rows-requires-clause-clean c =
    clean-new c.args.tables.now.n 4096 c.requires.formed.few

pub returns : goal.returns
returns c =
    let a = c.args in let k = c.list_flagged-k in
    let listed : take k.result k.new.list ≡ flagged true a.row.now a.tables.now.m = front_of _ (replicate 4096 0) k.result c.requires.packable.few k.ensures.1 k.ensures.0 in
    c.clear_rows.ensures ∙ dropped _ _ a.tables.now.m a.tables.now.makes.now a.row.now (known_same (ap (shape_of a.tables.now) listed) c.number_rows.ensures) c.requires.variable
