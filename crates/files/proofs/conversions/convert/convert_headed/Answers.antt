-- Bounds that would be lost are refused, then a short buffer; else the three parts are stored one behind the other (`all_moved`). Assumes nothing.
use Rattle.std.proofs.Common.{refl, arith}
use Rattle.paper.specs.File.{head_of, bounded}
use Rattle.fields.specs.Places.{version_in}
use Rattle.fields.proofs.Copies.{put_mid-sets, part-length}
use Rattle.files.proofs.Early.{left_early}
use Rattle.files.proofs.Moving.{facts, refused-at, passed-at, lost-bounds, short-file, all_moved}
use Rattle.files.proofs.conversions.convert.convert_headed.Goals as goal

pub first_narrow-requires : goal.first_narrow-requires
first_narrow-requires c =
    let a = c.args in
    let h = facts (version_in a.from) a.bytes.now c.requires in
    omega (arith, c.bounded_count.ensures, c.bounds_at-behind.ensures, c.head_length-head.ensures)

pub returns-in_err-none_fails : goal.returns-in_err-none_fails
returns-in_err-none_fails c =
    let a = c.args in
    let at = (rw (c.bounds_at-behind.ensures, c.head_length-head.ensures.0, c.bounded_count.ensures.0) at c.first_narrow.ensures) in
    let h = refused-at 18 (bounded (version_in a.from) a.size.n) _ at c.in_err-none_fails.ensures in
    rw (left_early _ c.from_residual.ensures.1, h.1) (lost-bounds (version_in a.from) (version_in a.to) a.bytes.now c.requires a.file.now _ refl h.0)

pub returns-then-file-length : goal.returns-then-file-length
returns-then-file-length c =
    let a = c.args in
    let at = (rw (c.bounds_at-behind.ensures, c.head_length-head.ensures.0, c.bounded_count.ensures.0) at c.first_narrow.ensures) in
    let h = passed-at 18 (bounded (version_in a.from) a.size.n) _ at c.in_ok-none_fails.ensures in
    rw c.refused.ensures (short-file (version_in a.from) (version_in a.to) a.bytes.now c.requires a.file.now _ refl h (rw c.ends_at-length.ensures at c.if-file-length.true))

pub slice_bounds-copy_from_slice-end-2 : goal.slice_bounds-copy_from_slice-end-2
slice_bounds-copy_from_slice-end-2 c =
    let a = c.args in
    let h = facts (version_in a.from) a.bytes.now c.requires in
    omega (arith, c.bounds_at-behind.ensures, c.head_length-head.ensures)

pub returns : goal.returns
returns c =
    let a = c.args in
    let at = (rw (c.bounds_at-behind.ensures, c.head_length-head.ensures.0, c.bounded_count.ensures.0) at c.first_narrow.ensures) in
    let h = passed-at 18 (bounded (version_in a.from) a.size.n) _ at c.in_ok-none_fails.ensures in
    let f = facts (version_in a.from) a.bytes.now c.requires in
    let whole = rw c.ends_at-length.ensures at c.if-file-length.false in
    let part = rw (c.bounds_at-behind.ensures, c.head_length-head.ensures.0) at c.copy_from_slice.ensures.after in
    rw c.ends_at-length.ensures
    (all_moved (version_in a.from) (version_in a.to) a.bytes.now c.requires a.file.now _ refl h
    (rw c.ends_at-length.ensures at c.if-file-length.false)
    c.put_header.ensures
    (put_mid-sets _ (head_of (version_in a.to)) _ _ _ part (part-length a.bytes.now (head_of (version_in a.from)) _ _ (omega arith) (omega arith)) (omega (arith, c.put_header.auto.bytes)))
    (rw (c.bounds_at-end.ensures, c.head_length-start.ensures.0, c.bounded_count-2.ensures.0) at c.put_full.ensures))
