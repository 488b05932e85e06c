-- The moves from this place on are left, and each passes its change on (`pass-next`). Assumes nothing.
use Rattle.std.proofs.Common.{◌≡◌, length, drop}
use Rattle.routes.specs.Routed.{pass_each}
use Rattle.routes.proofs.sweep.flag_moved.Given as goal

abbrev pub invariant-loop-m : goal.invariant-loop-m
invariant-loop-m l =
    (length l.flags ≡ length l.initial.flags)
    × (pass_each l.makes l.index.starts.now l.index.places.now l.stored l.trial (drop l.m-index l.moves) l.flags ≡ pass_each l.makes l.index.starts.now l.index.places.now l.stored l.trial l.moves l.initial.flags)
