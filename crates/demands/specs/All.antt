-- All that is demanded of the public calls, in one record. `all-demands` of `proofs/All` proves it, and with it that the wrong calls of `proofs/NotAllowed` are no
-- outcomes. Assumes nothing.
use Rattle.worked.specs.Files.{FilesComeOut}
use Rattle.feeds.specs.Feeds.{FeedRight}
use Rattle.demands.specs.Demands.{Demand1, Demand2, Demand3}
use Rattle.demands.specs.Planners.{TwoPlanners}
use Rattle.demands.specs.Products.{OneForC, OneProduct, BuffersRight}

pub record AllDemands : Type 0 where
  -- a call works, or refuses with the paper's number and place exactly where the table gives them, and then changes nothing
  pub first : Demand1
  -- every value is the one its formula gives, circular exactly if a closed chain is not permitted, and files go there and back
  pub second : Demand2
  -- over any run of trials, kept moves and takings back what stands is worked out afresh, and so is what the next call gives
  pub third : Demand3
  -- it does not matter which of two planners keeps first
  pub planners : TwoPlanners
  -- any two outcomes that a statement allows are equal, and what the calls above the engine leave in their buffers
  pub one-for-c : OneForC
  pub one_product : OneProduct
  pub buffers : BuffersRight
  -- frequencies.txt goes there and back, and from its bytes to the departures of a trip
  pub feed : FeedRight
  -- a small file byte by byte, in both versions
  pub files : FilesComeOut
