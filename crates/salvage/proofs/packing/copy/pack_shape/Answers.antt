-- Each column is packed by one call, and the packed counts give the first entries and how many entries there are. Assumes nothing.
use native.Mathlib.Omega.{arith}
use mathlib.Core.List.{map}
use mathlib.Core.Path.{◌≡◌, ap, ◌∙◌}
use lib.ListN.{length, take, length-map}
use Rattle.paper.specs.Lists.{nat, total}
use Rattle.salvage.proofs.Copied.{over-map, firsts-front, parts-front}
use Rattle.salvage.proofs.packing.copy.pack_shape.Goals as goal

pub pack_firsts-requires : goal.pack_firsts-requires
pack_firsts-requires c =
    let a = c.args in let rows = a.rows.now in let few = c.requires.packable.few in
    let counts : take (length rows) c.pack-2.new.out ≡ map (nat a.tables.now.counts.now) rows = over-map (nat a.tables.now.counts.now) 0 rows a.counts.now (c.pack-2.ensures 0) in
    let long = length-map rows (nat a.tables.now.counts.now) in
    rw counts (omega (arith, c.requires.room), c.requires.packable.small)

pub returns : goal.returns
returns c =
    let a = c.args in let rows = a.rows.now in let firsts = c.pack_firsts in
    let counts : take (length rows) c.pack-2.new.out ≡ map (nat a.tables.now.counts.now) rows = over-map (nat a.tables.now.counts.now) 0 rows a.counts.now (c.pack-2.ensures 0) in
    let e = firsts.ensures.0 ∙ ap total counts in
    record {
      made = over-map (nat a.tables.now.makes.now) 0 rows a.makes.now (c.pack.ensures 0);
      first = firsts-front _ _ a.firsts.now (length rows) counts (length-map rows (nat a.tables.now.counts.now)) firsts.ensures.1;
      count = over-map (nat a.tables.now.counts.now) 0 rows a.counts.now (c.pack-2.ensures 0);
      read = rw e (parts-front _ _ _ _ c.requires.packable a.vars.now c.requires.room.3 c.pack_parts.ensures);
      entries = e;
    }
