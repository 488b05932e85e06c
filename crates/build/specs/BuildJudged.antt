-- What the code knows once build is judged. Assumes nothing.
use Rattle.std.specs.Prelude.{◌≡◌, List, ℕ, ◌≤◌, length, Result}
use Rattle.paper.specs.Checks.{accepted}
use Rattle.paper.specs.Calls.{BuildLent, build_verdict}
use Rattle.tables.specs.Answers.{answer_of}
use Rattle.tables.specs.declared.Refusal.{Refusal}
use Rattle.order.specs.Numbering.{Clean}
use Rattle.chains.specs.Links.{kinded, Shared}

-- two rows that are as long as any model of n variables asks, the second of zeros
pub record Scratch (n : ℕ) (by state : List ℕ) : Type 0 where
  pub makers : n ≤ 4096 → n ≤ length by
  pub numbers : n ≤ 4096 → Clean n state

-- the answer is build's verdict, and if that is acceptance the row holds the numbers
pub record BuildJudged (l : BuildLent) (state : List ℕ) (r : Result Unit Refusal) : Type 0 where
  pub verdict : r ≡ answer_of tt (build_verdict l)
  pub shared : build_verdict l ≡ accepted → let t = l.tables in Shared (kinded t.n t.m t.kinds t.makes t.firsts t.counts t.vars) state
