use Prim.Native.Nat.{◌+◌, ◌*◌}
use native.Mathlib.Numerals.{add-one}
use native.Mathlib.Omega.{arith}
use mathlib.Core.Bool.{not}
use mathlib.Core.Path.{ap₂, sym, ◌∙◌}
use lib.Dec.{eqb, leb}
use lib.IntN.{pos}
use lib.ListN.{get_or}
use borrow.Author.Rules.{rules}
use mir.Syntax.{w32}
use mir.Val.{SFits}
use mir.Facts.{to_z-of_z}
use Rattle.paper.specs.Lists.{nat}
use Rattle.paper.proofs.Buffers.{filled_next}
use Rattle.damage.specs.Starts.{start_test}
use Rattle.salvage.specs.Saving.{start_taken}
use Rattle.salvage.proofs.Copied.{filled-here, value-cleared, value-kept}
use Rattle.salvage.proofs.start.keep_starts.Goals.{then-not-kept, else-not-kept}
use Rattle.salvage.proofs.start.keep_starts.Goals as goal

pub loop-v-preserved : goal.loop-v-preserved
loop-v-preserved c =
    let l = c.loop-v in let a = c.args in
    let fits : SFits w32 (get_or l.starts l.v (pos 0)) = search rules in
    let here = to_z-of_z fits ∙ filled-here _ _ _ l.v (pos 0) l.invariant.1 in
    let test = start_taken a.size a.by.now a.starts.now in
    let kept = (simp (c.rows_at.ensures, c.head_length.ensures.0) at c.start_good-kept.ensures) ∙ ap₂ (λ k x. start_test (leb (24 + 4 * k) a.size) (not (eqb (nat a.by.now l.v) 0)) x) (add-one l.v) here in (
      filled_next _ _ _ _ l.invariant.0 (omega arith) kept,
      elim c.if-not-kept.branch [
        | then-not-kept w ↦ rw w.starts-is (value-cleared test l.invariant.1 (omega arith) (sym w.if-not-kept.true ∙ kept))
        | else-not-kept w ↦ rw w.starts-is (value-kept test l.invariant.1 (omega arith) (sym w.if-not-kept.false ∙ kept))
      ],
    )
