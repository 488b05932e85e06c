-- Both rows are filled from the front with what the makers' rows say (`links-of`). Assumes nothing.
use Rattle.paper.specs.Lists.{nat}
use Rattle.paper.proofs.Buffers.{Filled}
use Rattle.order.specs.Numbering.{of_maker}
use Rattle.chains.specs.Links.{every, link_stop}
use Rattle.chains.proofs.links.set_links.Given as goal

abbrev pub invariant-loop-v : goal.invariant-loop-v
invariant-loop-v l =
    let t = l.tables in
    Filled (λ u. of_maker (nat l.by u) t.firsts.now) l.initial.begins l.begins l.v
    × Filled (λ u. link_stop (every l.which) t.kinds.now t.firsts.now t.counts.now (nat l.by u)) l.initial.stops l.stops l.v
