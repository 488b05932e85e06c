-- What a caller has at exit of each public call. A record below is one outcome that the call's contract allows: its field `stated` is the
-- contract's equation, and nothing else is known of the code. `left` is all that the caller has, in the paper's records. Assumes nothing.
use Rattle.std.specs.Prelude.{List, ◌≡◌, ℕ, ℤ}
use Rattle.paper.specs.Tables.{Index}
use Rattle.paper.specs.Log.{Log}
use Rattle.paper.specs.Calls as call
use Rattle.paper.specs.Calls.{Session, BuildLent, BuildLeft, Model, TrialLent, TrialLeft, KeepLent, KeepLeft, TakeLent}
use Rattle.records.specs.Left.{left_by_build, left_by_trial, left_by_keep}
use Rattle.records.specs.declared.Done.{Done}

-- ── build ──
pub record BuildOutcome (l : BuildLent) : Type 0 where
  pub done : Done
  pub numbers : List ℕ
  pub order : List ℕ
  pub stored : List ℤ
  pub index : Index
  pub reasons : List ℕ
  pub log_sizes : List ℕ
  pub stated : left_by_build done numbers order stored index.starts index.places reasons log_sizes ≡ call.build l

abbrev pub left_built : {l : BuildLent} → BuildOutcome l → BuildLeft
left_built o = left_by_build o.done o.numbers o.order o.stored o.index.starts o.index.places o.reasons o.log_sizes

-- ── trial: the stored values and reasons are lent to read only ──
pub record TrialOutcome (s : Session) (w : Model) (c : TrialLent) : Type 0 where
  pub done : Done
  pub results : List ℤ
  pub trial : List ℤ
  pub flags : List ℕ
  pub why : List ℕ
  pub stated : left_by_trial done results trial flags why ≡ call.trial s w c

abbrev pub left_tried : {s : Session} {w : Model} {c : TrialLent} → TrialOutcome s w c → TrialLeft
left_tried o = left_by_trial o.done o.results o.trial o.flags o.why

-- ── keep ──
pub record KeepOutcome (s : Session) (g : Log) (w : Model) (c : KeepLent) : Type 0 where
  pub done : Done
  pub stored : List ℤ
  pub reasons : List ℕ
  pub flags : List ℕ
  pub log : Log
  pub stated : left_by_keep done stored reasons flags log.sizes log.vars log.values ≡ call.keep s g w c

abbrev pub left_kept : {s : Session} {g : Log} {w : Model} {c : KeepLent} → KeepOutcome s g w c → KeepLeft
left_kept o = left_by_keep o.done o.stored o.reasons o.flags o.log.sizes o.log.vars o.log.values

-- ── taking back: of the log, the pairs are lent to read only ──
pub record TakeOutcome (s : Session) (g : Log) (w : Model) (c : TakeLent) : Type 0 where
  pub done : Done
  pub stored : List ℤ
  pub reasons : List ℕ
  pub flags : List ℕ
  pub log_sizes : List ℕ
  pub stated : left_by_keep done stored reasons flags log_sizes g.vars g.values ≡ call.take_back s g w c

abbrev pub left_taken : {s : Session} {g : Log} {w : Model} {c : TakeLent} → TakeOutcome s g w c → KeepLeft
left_taken {s} {g} o = left_by_keep o.done o.stored o.reasons o.flags o.log_sizes g.vars g.values
