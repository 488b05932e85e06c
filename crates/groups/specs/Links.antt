-- The links that a walk is lent: each variable's, and what the rows must hold. Assumes nothing.
use Rattle.std.specs.Prelude.{ℕ, List}
use Rattle.order.specs.Numbering.{part_at, Parted}
use Rattle.groups.specs.declared.links.Links.{Links}

abbrev pub links_of : Links → ℕ → List ℕ
links_of l = part_at l.begins.now l.stops.now l.vars.now

abbrev pub Laid : Links → Type 0
Laid l = Parted l.n l.begins.now l.stops.now l.vars.now
