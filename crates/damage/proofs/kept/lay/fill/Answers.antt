-- The bytes stand in front, and 0 behind them (`padded`). Assumes nothing.
use Rattle.std.proofs.Common.{ℕ, replicate, ap, ◌∙◌, arith}
use lib.ListN.{length-take, length-drop}
use Rattle.damage.proofs.Padded.{padded}
use Rattle.damage.proofs.kept.lay.fill.Goals as goal

pub returns : goal.returns
returns c = padded c.args.bytes.now c.args.out.now c.min-len.result c.min-len.ensures c.copy_from_slice.ensures.after (c.fill.ensures.after (λ y h. h) ∙ ap (λ n. replicate n 0) (omega (arith, length-take {A = ℕ}, length-drop {A = ℕ})))
