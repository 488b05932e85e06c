-- The checks that come next, as chains. Assumes nothing.
use Prim.Native.Nat.{ℕ}
use mathlib.Core.Bool.{Bool}
use lib.Dec.{ltb}
use Rattle.paper.specs.Lists.{nat, between}
use Rattle.paper.specs.Tables.{Tables}
use Rattle.paper.specs.Checks.{Bounds, check, require, Move}
use Rattle.paper.specs.Log.{Log, logged, log_good}
use Rattle.paper.specs.Calls.{TrialLent}
use Rattle.paper.proofs.Verdicts.{Chain, chain-after, check-then, require-then}
use Rattle.checks.specs.Moves.{pair_checks}
use Rattle.checks.proofs.MovesJudged.{pair_then}
use Rattle.verdicts.specs.Chains.{ask_checks, log_checks, keep_checks, take_checks}

-- ── from each chain a caller may go on with any check that comes next ──
module _ (bs : Bounds) (t : Tables) where
  pub ask-then : (c : TrialLent) → Chain (ask_checks c t bs)
  ask-then c =
      let asked : ℕ → Bool = λ i. ltb (nat c.asked_vars i) t.n in
      chain-after (require 9 0 (between 1 c.route 3)) (λ next. pair_checks c.move bs t (check 13 c.asked asked next)) (require-then 9 0 (between 1 c.route 3))
      (chain-after (pair_checks c.move bs t) (check 13 c.asked asked) (pair_then c.move bs t) (check-then 13 c.asked asked))

  pub keep-then : (l : Log) (mv : Move) (kept : ℕ) → Chain (keep_checks l mv kept t bs)
  keep-then l mv kept = chain-after (pair_checks mv bs t) (log_checks l t bs kept) (pair_then mv bs t) (require-then 16 0 (log_good l t bs kept))

  pub take-then : (l : Log) (kept : ℕ) → Chain (take_checks l kept t bs)
  take-then l kept =
      chain-after (log_checks l t bs kept) (require 15 0 (ltb 0 (logged l))) (require-then 16 0 (log_good l t bs kept)) (require-then 15 0 (ltb 0 (logged l)))
