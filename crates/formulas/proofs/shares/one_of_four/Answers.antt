-- Each comparison of bits is the test of the definition. Assumes nothing.
use mathlib.Core.Bool.{cond, ◌||◌}
use mathlib.Core.Path.{ap, ap₂, ◌∙◌}
use mir.Syntax.{w32}
use Rattle.integers.proofs.Bits.{eqb-bits}
use Rattle.formulas.proofs.shares.one_of_four.Goals as goal

pub returns : goal.returns
returns c =
    let s = c.args in let f = c.ranges in
    let ea = eqb-bits w32 s.a s.z f.a f.z in let eb = eqb-bits w32 s.b s.z f.b f.z in let ec = eqb-bits w32 s.c s.z f.c f.z in
    c.one_if.ensures ∙ ap (λ t. cond (t || s.later) 1 0) (ap₂ ◌||◌ (ap₂ ◌||◌ (ap (s.earlier ||◌) ea) eb) ec)
