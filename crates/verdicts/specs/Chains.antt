-- The checks behind those of the model, in the paper's words. Assumes nothing.
use Rattle.std.specs.Prelude.{ℕ, ltb}
use Rattle.paper.specs.Lists.{nat, between}
use Rattle.paper.specs.Tables.{Tables}
use Rattle.paper.specs.Checks.{Verdict, check, require, Bounds, Move}
use Rattle.paper.specs.Log.{Log, logged, log_good}
use Rattle.paper.specs.Calls.{TrialLent}
use Rattle.checks.specs.Moves.{pair_checks}

-- checks 9 to 13 of a trial, 17 behind 12, and then what is next
abbrev pub ask_checks : TrialLent → Tables → Bounds → Verdict → Verdict
ask_checks c t bs next = require 9 0 (between 1 c.route 3) (pair_checks c.move bs t (check 13 c.asked (λ i. ltb (nat c.asked_vars i) t.n) next))

-- check 16 of a log, and then what is next
abbrev pub log_checks : Log → Tables → Bounds → ℕ → Verdict → Verdict
log_checks l t bs kept = require 16 0 (log_good l t bs kept)

-- checks 10 to 12, 17 and 16 of keeping, and 16 and 15 of taking back, and then what is next
abbrev pub keep_checks : Log → Move → ℕ → Tables → Bounds → Verdict → Verdict
keep_checks l mv kept t bs next = pair_checks mv bs t (log_checks l t bs kept next)

abbrev pub take_checks : Log → ℕ → Tables → Bounds → Verdict → Verdict
take_checks l kept t bs next = log_checks l t bs kept (require 15 0 (ltb 0 (logged l)) next)
