-- A test adds 1 where it is passed. Assumes nothing.
use Rattle.std.proofs.Common.{Bool, true, false, ◌≡◌, ◌&&◌, refl, ◌∙◌, rules}
use lib.Dec.{eqb}
use mir.Val.{bool_byte}
use Rattle.std.specs.Prelude.{cond}
use Rattle.figures.proofs.add.add.Goals as goal

byte-is : (b : Bool) → bool_byte b ≡ cond b 1 0
byte-is true = refl
byte-is false = refl

pub returns : goal.returns
returns c = let blank = c.from.ensures ∙ byte-is (eqb c.args.outcome.number 0 && c.is_blank.result) in search rules
