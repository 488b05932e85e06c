use Rattle.std.proofs.Common.{false, get_or, arith}
use Rattle.damage.specs.Flags.{flag_wanted}
use Rattle.damage.proofs.Stored.{those-most}
use Rattle.damage.proofs.flags.count_flagged.Goals as goal

pub overflow_add-k : goal.overflow_add-k
overflow_add-k c = let a = c.args in omega (arith, those-most (λ v. flag_wanted a.wanted (get_or a.flags.now v false)) c.loop-flag.flag-index)
