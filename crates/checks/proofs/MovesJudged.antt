-- The chain of checks 10, 11, 12 and 17, from which a caller may go on with any check that comes next. Assumes nothing.
use mathlib.Core.Path.{◌≡◌}
use Rattle.paper.specs.Tables.{Tables}
use Rattle.paper.specs.Checks.{Verdict, accepted, check, Bounds, Move, movable, named_once, has_value, pair_within}
use Rattle.paper.proofs.Verdicts.{chain-after, and_then, check-then}
use Rattle.checks.specs.Moves.{pair_checks}

module _ (mv : Move) (bs : Bounds) where
  abbrev pub from_seventeen : Verdict → Verdict
  from_seventeen = check 17 mv.pairs (pair_within mv bs)

  abbrev pub from_twelve : Verdict → Verdict
  from_twelve next = check 12 mv.pairs (has_value mv) (from_seventeen next)

  abbrev pub from_eleven : Verdict → Verdict
  from_eleven next = check 11 mv.pairs (named_once mv) (from_twelve next)

  pub pair_then : (t : Tables) (next : Verdict) → pair_checks mv bs t next ≡ and_then (pair_checks mv bs t accepted) next
  pair_then t =
      chain-after (check 10 mv.pairs (movable mv t)) from_eleven (check-then 10 mv.pairs (movable mv t))
      (chain-after (check 11 mv.pairs (named_once mv)) from_twelve (check-then 11 mv.pairs (named_once mv))
      (chain-after (check 12 mv.pairs (has_value mv)) from_seventeen (check-then 12 mv.pairs (has_value mv)) (check-then 17 mv.pairs (pair_within mv bs))))
