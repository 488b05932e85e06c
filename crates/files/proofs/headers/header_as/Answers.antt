-- Wrong counts are refused; else the first field behind them that is wrong decides. Assumes nothing.
use Rattle.std.proofs.Common.{◌≡◌, sym, ap, ◌∙◌, arith}
use Rattle.paper.specs.Checks.{accepted}
use Rattle.paper.specs.File.{header}
use Rattle.fields.specs.Places.{version_in}
use Rattle.files.specs.HeaderAnswers.{answer}
use Rattle.files.proofs.Counted.{counted_next}
use Rattle.files.proofs.Early.{left_early}
use Rattle.files.proofs.HeaderAnswered.{refused-counts, given-counts}
use Rattle.files.proofs.headers.header_as.Goals as goal

pub returns-in_err-size : goal.returns-in_err-size
returns-in_err-size c = rw (left_early _ c.from_residual.ensures.1) (refused-counts _ _ c.in_err-size.ensures)

pub returns-in_err-right : goal.returns-in_err-right
unfolding header
returns-in_err-right c =
    let h = given-counts (version_in c.args.version) c.args.bytes.now c.in_ok-size.ensures in
    let bad = simp (c.read-starts.ensures, c.head_length-head.ensures.0) at c.in_err-right.ensures.err.0 in
    rw (left_early _ c.from_residual-in_err-right.ensures.1, c.in_err-right.ensures.err.1)
    (simp (counted_next (version_in c.args.version) c.args.bytes.now h.0.good, bad))

pub returns-in_err-right-2 : goal.returns-in_err-right-2
unfolding header
returns-in_err-right-2 c =
    let h = given-counts (version_in c.args.version) c.args.bytes.now c.in_ok-size.ensures in
    let good0 = simp (c.read-starts.ensures, c.head_length-head.ensures.0) at c.in_ok-right.ensures.ok in
    let bad = simp (c.read-rows.ensures, c.rows_at.ensures, h.0.n-is, c.head_length-head.ensures.0) at c.in_err-right-2.ensures.err.0 in
    rw (left_early _ c.from_residual-in_err-right-2.ensures.1, c.in_err-right-2.ensures.err.1)
    (simp (counted_next (version_in c.args.version) c.args.bytes.now h.0.good, good0, bad))

pub returns-in_err-right-3 : goal.returns-in_err-right-3
unfolding header
returns-in_err-right-3 c =
    let h = given-counts (version_in c.args.version) c.args.bytes.now c.in_ok-size.ensures in
    let good0 = simp (c.read-starts.ensures, c.head_length-head.ensures.0) at c.in_ok-right.ensures.ok in
    let good1 = simp (c.read-rows.ensures, c.rows_at.ensures, h.0.n-is, c.head_length-head.ensures.0) at c.in_ok-right-2.ensures.ok in
    let bad = simp (c.read-entries.ensures, c.entries_at.ensures, h.0.n-is, h.0.m-is, c.head_length-head.ensures.0) at c.in_err-right-3.ensures.err.0 in
    rw (left_early _ c.from_residual-in_err-right-3.ensures.1, c.in_err-right-3.ensures.err.1)
    (simp (counted_next (version_in c.args.version) c.args.bytes.now h.0.good, good0, good1, bad))

pub returns-in_err-right-4 : goal.returns-in_err-right-4
unfolding header
returns-in_err-right-4 c =
    let h = given-counts (version_in c.args.version) c.args.bytes.now c.in_ok-size.ensures in
    let good0 = simp (c.read-starts.ensures, c.head_length-head.ensures.0) at c.in_ok-right.ensures.ok in
    let good1 = simp (c.read-rows.ensures, c.rows_at.ensures, h.0.n-is, c.head_length-head.ensures.0) at c.in_ok-right-2.ensures.ok in
    let good2 = simp (c.read-entries.ensures, c.entries_at.ensures, h.0.n-is, h.0.m-is, c.head_length-head.ensures.0) at c.in_ok-right-3.ensures.ok in
    let bad = simp (c.read-end.ensures, c.ends_at-whole.ensures, h.0.n-is, h.0.m-is, h.0.e-is) at c.in_err-right-4.ensures.err.0 in
    rw (left_early _ c.from_residual-in_err-right-4.ensures.1, c.in_err-right-4.ensures.err.1)
    (simp (counted_next (version_in c.args.version) c.args.bytes.now h.0.good, good0, good1, good2, bad))

pub bounds_right-requires-clause-within : goal.bounds_right-requires-clause-within
bounds_right-requires-clause-within c =
    let h = given-counts (version_in c.args.version) c.args.bytes.now c.in_ok-size.ensures in
    ((omega arith, omega arith, omega arith), h.1.long)

pub returns-in_err-right-5 : goal.returns-in_err-right-5
unfolding header
returns-in_err-right-5 c =
    let h = given-counts (version_in c.args.version) c.args.bytes.now c.in_ok-size.ensures in
    let good0 = simp (c.read-starts.ensures, c.head_length-head.ensures.0) at c.in_ok-right.ensures.ok in
    let good1 = simp (c.read-rows.ensures, c.rows_at.ensures, h.0.n-is, c.head_length-head.ensures.0) at c.in_ok-right-2.ensures.ok in
    let good2 = simp (c.read-entries.ensures, c.entries_at.ensures, h.0.n-is, h.0.m-is, c.head_length-head.ensures.0) at c.in_ok-right-3.ensures.ok in
    let good3 = simp (c.read-end.ensures, c.ends_at-whole.ensures, h.0.n-is, h.0.m-is, h.0.e-is) at c.in_ok-right-4.ensures.ok in
    let bad = simp (c.bounds_right.ensures) at c.in_err-right-5.ensures.err.0 in
    rw (left_early _ c.from_residual-in_err-right-5.ensures.1, c.in_err-right-5.ensures.err.1)
    (simp (counted_next (version_in c.args.version) c.args.bytes.now h.0.good, good0, good1, good2, good3, bad))

pub returns : goal.returns
unfolding header
returns c =
    let h = given-counts (version_in c.args.version) c.args.bytes.now c.in_ok-size.ensures in
    let good0 = simp (c.read-starts.ensures, c.head_length-head.ensures.0) at c.in_ok-right.ensures.ok in
    let good1 = simp (c.read-rows.ensures, c.rows_at.ensures, h.0.n-is, c.head_length-head.ensures.0) at c.in_ok-right-2.ensures.ok in
    let good2 = simp (c.read-entries.ensures, c.entries_at.ensures, h.0.n-is, h.0.m-is, c.head_length-head.ensures.0) at c.in_ok-right-3.ensures.ok in
    let good3 = simp (c.read-end.ensures, c.ends_at-whole.ensures, h.0.n-is, h.0.m-is, h.0.e-is) at c.in_ok-right-4.ensures.ok in
    let good4 = simp (c.bounds_right.ensures) at c.in_ok-right-5.ensures.ok in
    let all : header (version_in c.args.version) c.args.bytes.now ≡ accepted = simp (counted_next (version_in c.args.version) c.args.bytes.now h.0.good, good0, good1, good2, good3, good4) in
    c.in_ok-size.ensures ∙ ap (answer c.args.bytes.now) (h.0.good ∙ sym all)
