-- All demands, each from the page that proves it, and the wrong calls that they shut out. Assumes nothing.
use Rattle.worked.proofs.Files.{files-come-out}
use Rattle.feeds.proofs.Right.{feed-right}
use Rattle.demands.specs.All.{AllDemands}
use Rattle.demands.proofs.NotAllowed.{NotAllowed}
use Rattle.demands.proofs.One.{demand1}
use Rattle.demands.proofs.Two.{demand2}
use Rattle.demands.proofs.Three.{demand3}
use Rattle.demands.proofs.Planners.{two-planners}
use Rattle.demands.proofs.OneOutcome.{one-for-c, one_product}
use Rattle.demands.proofs.Buffers.{buffers-right}
use Rattle.demands.proofs.Refuted.{not-allowed}

all : AllDemands
all = record { first = demand1; second = demand2; third = demand3; planners = two-planners; one-for-c = one-for-c; one_product = one_product; buffers = buffers-right; feed = feed-right; files = files-come-out }

pub all-demands : AllDemands × NotAllowed
all-demands = (all, not-allowed)
