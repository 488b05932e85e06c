-- The row ends where the next one would begin. Assumes nothing.
use mathlib.Core.Path.{◌∙◌, ap}
use native.Mathlib.Numerals.{add-one}
use lib.Dec.{leb}
use lib.ListN.{length}
use Rattle.damage.proofs.kept.keep.row_whole.Goals as goal

pub returns : goal.returns
returns c =
    let a = c.args in
    ap (λ k. leb k (length a.bytes.now)) (c.entries_at.ensures ∙ rw (c.head_length.ensures.0, c.requires.0, add-one a.row))
