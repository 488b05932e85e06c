-- What is refused changes nothing (`nothing_read`); else each column is laid over its row, and the file is long enough for all (`all_read`). Assumes nothing.
use Prim.Native.Nat.{ℕ}
use native.Mathlib.Omega.{arith}
use mathlib.Core.List.{List}
use mathlib.Core.Path.{◌≡◌}
use lib.ListN.{length}
use Rattle.paper.specs.Tables.{lent}
use Rattle.paper.specs.File.{Version, ends_at, Contents, contents, counted, read_verdict}
use Rattle.paper.proofs.Sizes.{Held, held-facts}
use Rattle.files.specs.HeaderAnswers.{answer}
use Rattle.std.specs.Prelude.{Ok}
use Rattle.fields.specs.declared.places.Size.{Size}
use Rattle.fields.specs.Places.{version_in}
use Rattle.files.proofs.Answered.{roomy, all_read}
use Rattle.files.proofs.lay.read_as.Goals as goal

-- what later answers look back to, under the counts that the file states
says : (v : Version) (bytes : List ℕ) (c : Contents) {size : Size} → Ok size ≡ answer bytes (read_verdict v bytes c)
    → Held v (counted size.n size.m size.e c) × (length bytes ≡ ends_at v size.n size.m size.e)
says v bytes c {size} q = let r = roomy v bytes c q in (held-facts v (counted size.n size.m size.e c) r.0, r.1)

pub lay_starts-requires : goal.lay_starts-requires
lay_starts-requires c =
    let a = c.args in
    let h = says (version_in a.version) a.bytes.now (contents (lent 0 0 0 a.kinds.now a.makes.now a.params.now a.firsts.now a.counts.now a.vars.now a.coefs.now) a.starts.now a.lows.now a.highs.now)
    c.in_ok-size.ensures in
    omega (arith, c.head_length-head.ensures)

pub lay_rows-requires-clause-m_in_bounds : goal.lay_rows-requires-clause-m_in_bounds
lay_rows-requires-clause-m_in_bounds c =
    let a = c.args in
    let h = says (version_in a.version) a.bytes.now (contents (lent 0 0 0 a.kinds.now a.makes.now a.params.now a.firsts.now a.counts.now a.vars.now a.coefs.now) a.starts.now a.lows.now a.highs.now)
    c.in_ok-size.ensures in
    omega arith

pub lay_rows-requires-clause-head_bound : goal.lay_rows-requires-clause-head_bound
lay_rows-requires-clause-head_bound c =
    let a = c.args in
    let h = says (version_in a.version) a.bytes.now (contents (lent 0 0 0 a.kinds.now a.makes.now a.params.now a.firsts.now a.counts.now a.vars.now a.coefs.now) a.starts.now a.lows.now a.highs.now)
    c.in_ok-size.ensures in
    omega (arith, c.head_length-head.ensures)

pub lay_entries-requires-clause-e_in_bounds : goal.lay_entries-requires-clause-e_in_bounds
lay_entries-requires-clause-e_in_bounds c =
    let a = c.args in
    let h = says (version_in a.version) a.bytes.now (contents (lent 0 0 0 a.kinds.now a.makes.now a.params.now a.firsts.now a.counts.now a.vars.now a.coefs.now) a.starts.now a.lows.now a.highs.now)
    c.in_ok-size.ensures in
    omega arith

pub lay_entries-requires-clause-head_bound : goal.lay_entries-requires-clause-head_bound
lay_entries-requires-clause-head_bound c =
    let a = c.args in
    let h = says (version_in a.version) a.bytes.now (contents (lent 0 0 0 a.kinds.now a.makes.now a.params.now a.firsts.now a.counts.now a.vars.now a.coefs.now) a.starts.now a.lows.now a.highs.now)
    c.in_ok-size.ensures in
    omega (arith, c.head_length-head.ensures)

pub lay_bounds-requires-clause-count_in_bounds : goal.lay_bounds-requires-clause-count_in_bounds
lay_bounds-requires-clause-count_in_bounds c =
    let a = c.args in
    let h = says (version_in a.version) a.bytes.now (contents (lent 0 0 0 a.kinds.now a.makes.now a.params.now a.firsts.now a.counts.now a.vars.now a.coefs.now) a.starts.now a.lows.now a.highs.now)
    c.in_ok-size.ensures in
    omega (arith, c.bounded_count-count.ensures)

pub lay_bounds-requires-clause-at_bound : goal.lay_bounds-requires-clause-at_bound
lay_bounds-requires-clause-at_bound c =
    let a = c.args in
    let h = says (version_in a.version) a.bytes.now (contents (lent 0 0 0 a.kinds.now a.makes.now a.params.now a.firsts.now a.counts.now a.vars.now a.coefs.now) a.starts.now a.lows.now a.highs.now)
    c.in_ok-size.ensures in
    omega (arith, c.head_length-head.ensures, c.bounds_at-at.ensures, c.bounded_count-count.ensures)

pub returns : goal.returns
returns c =
    let a = c.args in
    let rows = c.lay_rows.ensures in
    let entries = c.lay_entries.ensures in
    let bounds = c.lay_bounds.ensures in
    all_read (version_in a.version) a.bytes.now (contents (lent 0 0 0 a.kinds.now a.makes.now a.params.now a.firsts.now a.counts.now a.vars.now a.coefs.now) a.starts.now a.lows.now a.highs.now)
    c.in_ok-size.ensures
    c.head_length-head.ensures.0 c.bounds_at-at.ensures c.bounded_count-count.ensures.0
    c.lay_starts.ensures rows.kinds_after rows.makes_after rows.params_after rows.firsts_after rows.counts_after entries.vars_after entries.coefs_after bounds.lows_after bounds.highs_after
