-- The buffer holds what the file holds, as far as the counts reach, and each column is laid from it (`laid-padded`). Assumes nothing.
use native.Mathlib.Omega.{arith}
use mathlib.Core.Path.{refl}
use Rattle.paper.specs.Tables.{lent}
use Rattle.paper.specs.File.{version1}
use Rattle.paper.proofs.Reading.{same-contents}
use Rattle.files.proofs.Counted.{counted-facts}
use Rattle.damage.proofs.Padded.{laid-padded}
use Rattle.damage.proofs.kept.lay.lay_given.Goals as goal

pub returns : goal.returns
returns c =
    let a = c.args in
    let rows = c.lay_rows.ensures in let entries = c.lay_entries.ensures in
    let h = counted-facts version1 a.bytes.now c.requires.accepted_value in
    laid-padded a.bytes.now c.fill.ensures a.size.n a.size.m a.size.e (omega arith) c.requires.accepted_value c.requires.n_value
    (lent 0 0 0 a.kinds.now a.makes.now a.params.now a.firsts.now a.counts.now a.vars.now a.coefs.now) a.starts.now
    (same-contents (simp (c.head_length-head.ensures.0) at c.lay_starts.ensures) (simp (c.head_length-head.ensures.0) at rows.kinds_after) (simp (c.head_length-head.ensures.0) at rows.makes_after) (simp (c.head_length-head.ensures.0) at rows.params_after) (simp (c.head_length-head.ensures.0) at rows.firsts_after) (simp (c.head_length-head.ensures.0) at rows.counts_after) (simp (c.head_length-head.ensures.0) at entries.vars_after) (simp (c.head_length-head.ensures.0) at entries.coefs_after) refl refl)
