-- The marks are route 3's (`marks-are`), so what the asked come to over the row of work that they give is what it evaluates (`looked-flagged`).
-- Assumes nothing.
use Rattle.std.proofs.Common.{true, cond, eqb, ltb, ◌≡◌, ◌+◌, ℕ, ℤ, List, length, take, refl, sym, subst}
use lib.ListN.{replicate}
use lib.Seq.{length-take-le}
use Rattle.paper.specs.Lists.{all, nat, over}
use Rattle.paper.specs.Net.{mark-guided}
use Rattle.tables.specs.Lent.{lent_tables}
use Rattle.paper.specs.Tables.{Tables}
use Rattle.paper.specs.Checks.{Sound}
use Rattle.paper.proofs.Sizes.{sized-facts}
use Rattle.tables.specs.Makers.{Makers}
use Rattle.index.specs.Index.{Indexed}
use Rattle.order.specs.Numbering.{Clean}
use Rattle.order.proofs.Sweeps.{clean-new}
use Rattle.routes.specs.Reach.{Closed, Reaching}
use Rattle.routes.specs.Work.{works_out}
use Rattle.routes.specs.Plan.{work_of}
use Rattle.routes.specs.Sections.{made_from}
use Rattle.routes.specs.Readers.{Moved, none}
use Rattle.routes.specs.Routed.{Begun, Named}
use Rattle.routes.proofs.Planned.{over-fits, front-is}
use Rattle.routes.proofs.Marked.{clean-markable, marks-long}
use Rattle.closed_routes.specs.Looking.{shapes, looks_at, Lookable, AllLooked}
use Rattle.closed_routes.specs.Following.{Renewed, Flagged}
use Rattle.closed_routes.proofs.Plans.{plan-marked, laid}
use Rattle.closed_routes.proofs.Flags.{clear-closed, looked-flagged}
use Rattle.closed_routes.proofs.Marks.{upward, marks-work}
use Rattle.closed_routes.proofs.flagged.flag_marked.Goals as goal

-- no mark is set in the new row
clean : (t : Tables) → Sound t → Clean t.n (replicate 4096 0)
clean t d = clean-new t.n 4096 (sized-facts t d.sized).n-most

-- the row that was planned by the marks
abbrev Planned : Tables → List ℕ → List ℕ → List ℕ → Type 0
Planned t by marks row = row ≡ over t.n (λ v. cond (eqb (nat marks v) 1) (nat by v) 0) (replicate 4096 0)

abbrev shaped : Tables → Tables
shaped t = shapes t.kinds t.firsts t.counts t.vars

module _ (t : Tables) (stored trial values : List ℤ) (R : Renewed t stored trial values) (asked flags : List ℕ) (B : Begun t stored trial flags)
    (within : all (λ v. ltb v t.n) asked ≡ true) (by : List ℕ) (M : Makers t by) (marks row : List ℕ) (e : Planned t by marks row) where
  front : take t.n row ≡ work_of t.n t.m t.makes marks
  front = front-is t by M marks (replicate 4096 0) row e

  ready-laid : Lookable (shaped t) (take t.n row) values
  ready-laid =
      subst (λ (l : List ℕ). Lookable (shaped t) l values) (sym front) (laid t R.steady.sound _ _ (plan-marked t marks) values R.in-values)

  ready-there : all (λ v. ltb v (length (take t.n row))) asked ≡ true
  ready-there =
      subst (λ (l : List ℕ). all (λ v. ltb v (length l)) asked ≡ true) (sym front)
      (subst (λ k. all (λ v. ltb v k) asked ≡ true) (sym (plan-marked t marks).long) within)

  ready-closed : Closed (works_out (shaped t) (take t.n row)) (looks_at (shaped t) (take t.n row) values) flags
  ready-closed =
      subst (λ (l : List ℕ). Closed (works_out (shaped t) l) (looks_at (shaped t) l values) flags) (sym front)
      (clear-closed t stored trial R.steady values R mark-guided asked flags B.clear B.in-flags _ _ (plan-marked t marks))

  flagged-over : (starts places : List ℕ) (x : Indexed t starts places) (moves : List ℕ) → Named t stored trial moves
      → Reaching (λ u. true) (made_from t.makes (take (t.n + 1) starts) places) (Moved moves stored trial) none (replicate 4096 0) marks
      → (flags' : List ℕ) → AllLooked (shaped t) (take t.n row) values asked flags flags' → Flagged t stored trial mark-guided asked flags flags'
  flagged-over starts places x moves N r flags' a =
      looked-flagged t stored trial R.steady values R mark-guided asked flags B.clear B.in-flags _ _ (plan-marked t marks) within
      (marks-work t R.steady.sound starts places x stored trial flags moves B N _ marks (clean t R.steady.sound) r) (λ v. refl) flags'
      (subst (λ (l : List ℕ). AllLooked (shaped t) l values asked flags flags') front a)

pub spread_moved-requires-clause-upward : goal.spread_moved-requires-clause-upward
spread_moved-requires-clause-upward c =
    let t = lent_tables c.args.tables.now in
    upward t c.requires.renewed.steady.sound _ _ c.requires.index

pub spread_moved-requires-clause-markable : goal.spread_moved-requires-clause-markable
spread_moved-requires-clause-markable c =
    let t = lent_tables c.args.tables.now in
    let d = c.requires.renewed.steady.sound in clean-markable t d _ _ c.requires.index (replicate 4096 0) (clean t d)

pub plan_work-requires : goal.plan_work-requires
plan_work-requires c =
    let t = lent_tables c.args.tables.now in
    let d = c.requires.renewed.steady.sound in
    let long = marks-long t d c.args.index.now.starts.now c.args.index.now.places.now c.requires.index c.args.stored.now c.args.trial.now c.args.flags.now c.args.moves.now
    c.requires.begun c.requires.named _ _ (clean t d) c.spread_moved.ensures in
    (c.requires.makers.long, long, (sized-facts t d.sized).n-most)

pub slice_bounds-work-end : goal.slice_bounds-work-end
slice_bounds-work-end c =
    let t = lent_tables c.args.tables.now in
    over-fits c.args.tables.now.n _ _ _ c.plan_work.ensures (sized-facts t c.requires.renewed.steady.sound.sized).n-most

pub slice_bounds-look_all-end : goal.slice_bounds-look_all-end
slice_bounds-look_all-end c =
    let t = lent_tables c.args.tables.now in
    sym (length-take-le c.args.tables.now.n _ (over-fits c.args.tables.now.n _ _ _ c.plan_work.ensures (sized-facts t c.requires.renewed.steady.sound.sized).n-most))

pub look_all-requires-clause-laid : goal.look_all-requires-clause-laid
look_all-requires-clause-laid c =
    let t = lent_tables c.args.tables.now in
    ready-laid t c.args.stored.now c.args.trial.now c.args.values.now c.requires.renewed c.args.asked.now c.args.flags.now c.requires.begun c.requires.asked c.args.by.now c.requires.makers
    _ _ c.plan_work.ensures

pub look_all-requires-clause-there : goal.look_all-requires-clause-there
look_all-requires-clause-there c =
    let t = lent_tables c.args.tables.now in
    ready-there t c.args.stored.now c.args.trial.now c.args.values.now c.requires.renewed c.args.asked.now c.args.flags.now c.requires.begun c.requires.asked c.args.by.now c.requires.makers
    _ _ c.plan_work.ensures

pub look_all-requires-clause-closed : goal.look_all-requires-clause-closed
look_all-requires-clause-closed c =
    let t = lent_tables c.args.tables.now in
    ready-closed t c.args.stored.now c.args.trial.now c.args.values.now c.requires.renewed c.args.asked.now c.args.flags.now c.requires.begun c.requires.asked c.args.by.now c.requires.makers
    _ _ c.plan_work.ensures

pub returns : goal.returns
returns c =
    let t = lent_tables c.args.tables.now in
    flagged-over t c.args.stored.now c.args.trial.now c.args.values.now c.requires.renewed c.args.asked.now c.args.flags.now c.requires.begun c.requires.asked c.args.by.now c.requires.makers
    _ _ c.plan_work.ensures c.args.index.now.starts.now c.args.index.now.places.now c.requires.index c.args.moves.now c.requires.named c.spread_moved.ensures _ c.look_all.ensures
