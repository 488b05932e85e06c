-- The variables passed have their flags, the others what they had (`Filled`). Assumes nothing.
use mathlib.Core.Bool.{cond}
use Rattle.paper.specs.Lists.{any}
use Rattle.paper.specs.Net.{differs}
use Rattle.paper.proofs.Buffers.{Filled}
use Rattle.routes.specs.Rows.{values_of}
use Rattle.closed_routes.specs.Whole.{whole_lent}
use Rattle.closed_routes.proofs.changes.flag_changed.Given as goal

abbrev pub invariant-loop-v : goal.invariant-loop-v
invariant-loop-v l =
    Filled (λ v. cond (any (differs (values_of l.values) (values_of l.stored)) ((whole_lent l.tables l.by).ins v)) 1 0) l.initial.flags l.flags l.v
