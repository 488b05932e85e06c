-- Short rows are refused, and few bytes, before anything is stored; else the parts are stored one behind the other (`write_done`). Assumes nothing.
use native.Mathlib.Omega.{arith}
use Rattle.fields.specs.Places.{version_in}
use Rattle.files.specs.Lent.{lent_contents}
use Rattle.paper.proofs.Sizes.{held-facts}
use Rattle.paper.proofs.Written.{write-short, write-narrow, write_done}
use Rattle.files.proofs.store.write_as.Goals as goal

pub returns-then-not-rows_held : goal.returns-then-not-rows_held
returns-then-not-rows_held c =
    let a = c.args in rw c.refused.ensures (write-short (version_in a.version) (lent_contents a.tables.now a.starts.now a.bounds.now) a.bytes.now (rw (← c.rows_held.ensures) c.if-not-rows_held.true))

pub ends_at-requires : goal.ends_at-requires
ends_at-requires c =
    let a = c.args in
    let h = held-facts (version_in a.version) (lent_contents a.tables.now a.starts.now a.bounds.now) (rw (← c.rows_held.ensures) c.if-not-rows_held.false) in
    omega arith

pub returns-then-bytes-ends_at : goal.returns-then-bytes-ends_at
returns-then-bytes-ends_at c =
    let a = c.args in
    rw c.refused-then-bytes-ends_at.ensures (write-narrow (version_in a.version) (lent_contents a.tables.now a.starts.now a.bounds.now) a.bytes.now (rw (← c.rows_held.ensures) c.if-not-rows_held.false) (rw c.ends_at.ensures at c.if-bytes-ends_at.true))

pub bounds_at-at-requires : goal.bounds_at-at-requires
bounds_at-at-requires c =
    let a = c.args in
    let h = held-facts (version_in a.version) (lent_contents a.tables.now a.starts.now a.bounds.now) (rw (← c.rows_held.ensures) c.if-not-rows_held.false) in
    omega (arith, c.head_length-head.ensures)

pub put_header-requires : goal.put_header-requires
put_header-requires c =
    let a = c.args in
    let h = held-facts (version_in a.version) (lent_contents a.tables.now a.starts.now a.bounds.now) (rw (← c.rows_held.ensures) c.if-not-rows_held.false) in
    let l = rw c.ends_at.ensures at c.if-bytes-ends_at.false in
    omega arith

pub put_rows-requires-clause-sized : goal.put_rows-requires-clause-sized
put_rows-requires-clause-sized c =
    let a = c.args in
    let h = held-facts (version_in a.version) (lent_contents a.tables.now a.starts.now a.bounds.now) (rw (← c.rows_held.ensures) c.if-not-rows_held.false) in
    omega arith

pub put_rows-requires-clause-head_bound : goal.put_rows-requires-clause-head_bound
put_rows-requires-clause-head_bound c =
    let a = c.args in
    let h = held-facts (version_in a.version) (lent_contents a.tables.now a.starts.now a.bounds.now) (rw (← c.rows_held.ensures) c.if-not-rows_held.false) in
    let l = rw c.ends_at.ensures at c.if-bytes-ends_at.false in
    omega (arith, c.head_length-head.ensures, c.put_header.auto.bytes, c.put_starts.auto.bytes)

pub put_entries-requires-clause-sized : goal.put_entries-requires-clause-sized
put_entries-requires-clause-sized c =
    let a = c.args in
    let h = held-facts (version_in a.version) (lent_contents a.tables.now a.starts.now a.bounds.now) (rw (← c.rows_held.ensures) c.if-not-rows_held.false) in
    omega arith

pub put_entries-requires-clause-head_bound : goal.put_entries-requires-clause-head_bound
put_entries-requires-clause-head_bound c =
    let a = c.args in
    let h = held-facts (version_in a.version) (lent_contents a.tables.now a.starts.now a.bounds.now) (rw (← c.rows_held.ensures) c.if-not-rows_held.false) in
    let l = rw c.ends_at.ensures at c.if-bytes-ends_at.false in
    omega (arith, c.head_length-head.ensures, c.put_header.auto.bytes, c.put_starts.auto.bytes, c.put_rows.auto.bytes)

pub returns : goal.returns
returns c =
    let a = c.args in
    let head = c.head_length-head.ensures.0 in
    write_done (version_in a.version) (lent_contents a.tables.now a.starts.now a.bounds.now) a.bytes.now (rw (← c.rows_held.ensures) c.if-not-rows_held.false) (rw c.ends_at.ensures at c.if-bytes-ends_at.false)
    c.put_header.ensures
    (rw head at c.put_starts.ensures)
    (rw head at c.put_rows.ensures)
    (rw head at c.put_entries.ensures)
    (rw (c.bounds_at-at.ensures, head, c.bounded_count-count.ensures.0) at c.put_bounds.ensures)
