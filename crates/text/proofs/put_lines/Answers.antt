use Prim.Native.Nat.{min}
use native.Mathlib.Numerals.{add-one}
use native.Mathlib.Omega.{arith}
use mathlib.Core.Path.{◌≡◌}
use mir.Facts.{to_z-of_z}
use borrow.Author.Rules.{rules, sfits_of}
use lib.ListN.{length}
use Rattle.text.specs.Lines.{lines}
use Rattle.text.proofs.Laid.{put-nothing, put_then}
use Rattle.text.proofs.put_lines.Goals as goal

pub loop-v-init : goal.loop-v-init
loop-v-init c = (search rules, search rules, search rules, put-nothing _ _)

pub loop-v-preserved : goal.loop-v-preserved
loop-v-preserved c = (
  search rules,
  search rules,
  search rules,
  rw (add-one c.loop-v.v) (put_then c.loop-v.invariant.3 (simp (c.reason_at.ensures, to_z-of_z, sfits_of, c.put_line-arg-in-loop-v-1.given) at c.put_line-at.ensures)),
)

pub returns : goal.returns
unfolding lines
returns c =
    let a = c.args in
    let z : c.loop-v.v ≡ min a.n (min (length a.numbers.now) (length a.values.now)) = omega arith in
    rw (← z) c.loop-v.invariant.3
