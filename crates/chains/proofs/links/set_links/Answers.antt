use Rattle.std.proofs.Common.{arith, ◌≡◌}
use Rattle.paper.proofs.Buffers.{filled-end}
use Rattle.chains.specs.Links.{every}
use Rattle.chains.proofs.Linked.{links-of}
use Rattle.chains.proofs.links.set_links.Goals as goal

pub returns : goal.returns
returns c =
    let done : c.loop-v.v ≡ c.args.tables.now.n = omega arith in
    links-of _ c.requires.kinded.formed _ c.requires.makers (every c.args.which) c.requires.clean.0 c.requires.clean.1
    (filled-end _ _ _ _ _ c.loop-v.invariant.0 done) (filled-end _ _ _ _ _ c.loop-v.invariant.1 done)
