-- The part lies among the entries, and there is room for all parts (`parts-room`). Assumes nothing.
use Rattle.std.proofs.Common.{◌≤◌, ◌+◌, length, ap, ◌∙◌, arith, rules}
use Rattle.fields.proofs.Copies.{put_mid-sets}
use Rattle.damage.proofs.Stored.{placed-room, placed-next}
use Rattle.salvage.proofs.Copied.{parts-room}
use Rattle.salvage.proofs.packing.copy.pack_parts.Goals as goal

pub overflow_add-end : goal.overflow_add-end
overflow_add-end g c =
    let room = parts-room _ _ _ c.args.entries.now c.requires.packable c.args.out.now c.requires.room in
    let fits = placed-room c.loop-row.invariant (length c.args.rows.now) c.loop-row-test.true room in
    let same = ap length c.part_of-part.ensures in
    omega arith

pub slice_bounds-copy_from_slice-end : goal.slice_bounds-copy_from_slice-end
slice_bounds-copy_from_slice-end g c =
    let room = parts-room _ _ _ c.args.entries.now c.requires.packable c.args.out.now c.requires.room in
    let fits = placed-room c.loop-row.invariant (length c.args.rows.now) c.loop-row-test.true room in
    let same = ap length c.part_of-part.ensures in
    omega arith

pub offset_bounds-out-at : goal.offset_bounds-out-at
offset_bounds-out-at g c =
    let room = parts-room _ _ _ c.args.entries.now c.requires.packable c.args.out.now c.requires.room in
    let fits = placed-room c.loop-row.invariant (length c.args.rows.now) c.loop-row-test.true room in
    let low : c.loop-row.at ≤ length c.loop-row.out = omega arith in
    search rules

pub loop-row-preserved : goal.loop-row-preserved
loop-row-preserved g c =
    let room = parts-room _ _ _ c.args.entries.now c.requires.packable c.args.out.now c.requires.room in
    let fits = placed-room c.loop-row.invariant (length c.args.rows.now) c.loop-row-test.true room in
    let same = ap length c.part_of-part.ensures in
    placed-next c.loop-row.invariant (ap (c.loop-row.at +◌) same)
    (put_mid-sets c.loop-row.out c.loop-row.at _ _ _ (c.copy_from_slice.ensures.after ∙ c.part_of-part.ensures) (omega arith) (omega arith))
