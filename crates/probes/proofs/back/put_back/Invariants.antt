-- Those before this one rest, and the flags taken and left are as many as there were (`Astray`, `taken`). Assumes nothing.
use Rattle.std.proofs.Common.{◌≡◌, ◌+◌, eqb}
use Rattle.paper.specs.Lists.{nat, size}
use Rattle.probes.specs.Rest.{Astray}
use Rattle.probes.proofs.back.put_back.Given as goal

abbrev pub invariant-loop-u : goal.invariant-loop-u
invariant-loop-u l =
    Astray l.n l.stored l.trial l.flags l.marks l.work l.touched l.u-index l.count
    × (l.evaluated + size (λ v. eqb (nat l.flags v) 1) l.n ≡ size (λ v. eqb (nat l.initial.flags v) 1) l.n)
