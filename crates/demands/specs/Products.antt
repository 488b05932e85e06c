-- The calls for C, those above the engine and the programs. Any two outcomes that the statement of one allows are equal, part by part: its answer, the record, and
-- every row to its end; the four calls and those over files have this in demand 1. And what salvage, the departure board and a batch leave in the buffers that they
-- are lent, over every outcome that their contracts allow; each crate's own pages say what that is. Assumes nothing.
use Rattle.std.specs.Prelude.{ℕ, ◌<◌, ◌≤◌, Bool, true, List, ◌++◌, ◌≡◌, ℤ, pos, length, drop, replicate, Option, Result, Ok}
use Rattle.std.specs.Int.Signed.{lt_z}
use Rattle.std.specs.Borrow.{Bor}
use Rattle.paper.specs.Lists.{nat}
use Rattle.paper.specs.Checks.{Verdict, Move}
use Rattle.paper.specs.Moves.{Moves}
use Rattle.paper.specs.Calls.{Session, Answer, number_of, BuildLent, BuildLeft, Model, TrialLeft, KeepLeft}
use Rattle.paper.specs.File.{Contents, counted}
use Rattle.records.specs.declared.Session as code-session
use Rattle.records.specs.declared.answers.Outcome.{Outcome}
use Rattle.records.specs.Stated.{BuildOutcome, left_built}
use Rattle.salvage.specs.Salvage as salvage
use Rattle.salvage.specs.Salvage.{SalvageLent, SalvageLeft, SalvageHad}
use Rattle.salvage.specs.Promises.{SavedRight, ComesBack}
use Rattle.times.specs.Windows.{Board}
use Rattle.times.specs.Order.{WindowGives}
use Rattle.boards.specs.Board.{BoardLeft, BoardHad}
use Rattle.boards.specs.Outcome.{ListedRight}
use Rattle.trials.specs.Batch.{Batch}
use Rattle.trials.specs.Trials.{Question, Rows, trials}
use Rattle.trials.specs.Laws.{EachAlone, OrderPermutes}
use Rattle.merging.specs.Merge.{merge}
use Rattle.merging.specs.Laws.{JoinedIsMerged}
use Rattle.figures.specs.Figures.{figures}
use Rattle.figures.specs.Outcomes.{tried_once}
use Rattle.figures.specs.Laws.{Rearranged, as_batch, FoldOfTrials, BatchHad}
use Rattle.figures.specs.declared.Totals.{Totals}
use Rattle.tables.specs.Given.{part_named, VeryPart}
use Rattle.tables.specs.declared.parts.Part.{Part}
use Rattle.tables.specs.Entries.{went_on}
use Rattle.tables.specs.declared.Refusal.{Refusal}
use Rattle.tables.specs.declared.walker.Walker.{Walker}
use Rattle.tables.specs.declared.walker.Entry.{Entry}
use Rattle.report.specs.Printed.{printed}
use Rattle.capi.specs.Outcomes.{had_by_build, built_out, had_by_trial, tried_out, had_by_keep, kept_out, left_by_read, read_out, written_out, moved_out, salvaged_out}
use Rattle.frequencies.specs.Reading.{Windows, ReadLeft}
use Rattle.frequencies.specs.Writing.{WriteLeft}
use Rattle.capi.specs.Products.{figures_out, feed_read, feed_written, merged_out, listed_out, trials_out}
use Rattle.capi.specs.declared.ReadOutcome.{ReadOutcome}
use Rattle.capi.specs.declared.MoveOutcome.{MoveOutcome}
use Rattle.capi.specs.declared.SalvageOutcome.{SalvageOutcome}
use Rattle.capi.specs.declared.FiguresOutcome.{FiguresOutcome}
use Rattle.capi.specs.declared.ListOutcome.{ListOutcome}
use Rattle.demands.specs.Runs.{State, Mine, Run}
use Rattle.demands.specs.Demands.{renewed}

-- ── across the C boundary: what each call leaves, whatever it is, is met by one answer, one record and one of each row ──
-- `had` of all that a caller has is the contract's side, and x is the other
abbrev pub One : {Had Out : Type 0} → (Had → Out) → Out → Type 0
One {Had} had x = (a a' : Had) → had a ≡ x → had a' ≡ x → a ≡ a'

pub record OneForC : Type 0 where
  pub build : (x : BuildLeft) → One (λ (a : Outcome × code-session.Session × List ℕ × List ℕ × List ℤ × List ℕ × List ℕ × List ℕ × List ℕ).
      had_by_build a.0 a.1 a.2 a.3 a.4 a.5 a.6 a.7 a.8) (built_out x)
  pub trial : (x : TrialLeft) → One (λ (a : Outcome × code-session.Session × List ℤ × List ℤ × List ℕ × List ℕ). had_by_trial a.0 a.1 a.2 a.3 a.4 a.5) (tried_out x)
  -- keep and taking back
  pub keep : (x : KeepLeft) → One (λ (a : Outcome × code-session.Session × List ℤ × List ℕ × List ℕ × List ℕ × List ℕ × List ℤ).
      had_by_keep a.0 a.1 a.2 a.3 a.4 a.5 a.6 a.7) (kept_out x)
  -- files of either version; lent rows have no counts, the answer gives them
  pub read : (x : Verdict × Contents) (r r' : ReadOutcome) (c c' : Contents)
      → left_by_read r c ≡ read_out x → left_by_read r' c' ≡ read_out x → (r ≡ r') × (counted 0 0 0 c ≡ counted 0 0 0 c')
  pub write : (x : Verdict × List ℕ) → One (λ (a : Outcome × List ℕ). a) (written_out x)
  -- from one version to the other
  pub move : (x : Verdict × (ℕ × List ℕ)) → One (λ (a : MoveOutcome × List ℕ). a) (moved_out x)
  pub salvages : (x : SalvageLeft) → One (λ (a : SalvageOutcome × (List ℕ × List ℕ)). a) (salvaged_out x)
  pub lists : (x : BoardLeft) → One (λ (a : ListOutcome × List ℤ). a) (listed_out x)
  -- frequencies.txt, read and written
  pub feed-read : (x : ReadLeft) → One (λ (a : ListOutcome × Windows). a) (feed_read x)
  pub feed-written : (x : WriteLeft) → One (λ (a : ListOutcome × List ℕ). a) (feed_written x)
  pub batch : (x : Result Totals Refusal × List ℕ) → One (λ (a : FiguresOutcome × List ℕ). a) (figures_out x)
  pub merged : (first second : FiguresOutcome) (xs ys lent : List ℕ) → One (λ (a : FiguresOutcome × List ℕ). a) (merged_out first second xs ys lent)
  pub many : (x : Answer × Rows) → One (λ (a : Outcome × Rows). a) (trials_out x)
  pub inputs-of-row : (part : ℕ × ℕ) → One (λ (r : Part). r) (part_named part)

-- ── the calls above the engine, in Rattle ──
pub record OneProduct : Type 0 where
  pub salvages : (l : SalvageLent) (o o' : SalvageHad l) → (o.answer ≡ o'.answer) × (o.file ≡ o'.file) × (o.list ≡ o'.list)
  pub lists : (b : Board) (o o' : BoardHad b) → (o.answer ≡ o'.answer) × (o.row ≡ o'.row)
  pub batch : (s : Session) (w : Model) (asked : ℕ) (b : Batch) (lent : List ℕ) (o o' : BatchHad s w asked b lent) → (o.answer ≡ o'.answer) × (o.row ≡ o'.row)
  -- many moves in one call, and the figures of two batches merged
  pub many : (s : Session) (w : Model) (b : Batch) (q : Question) (lent : Rows) (r r' : Answer) (rows rows' : Rows)
      → (r, rows) ≡ trials s w b q lent → (r', rows') ≡ trials s w b q lent → (r ≡ r') × (rows ≡ rows')
  pub merged : (a b : Totals) (xs ys lent : List ℕ) (r r' : Result Totals Refusal) (row row' : List ℕ) → (r, row) ≡ merge a b xs ys lent → (r', row') ≡ merge a b xs ys lent → (r ≡ r') × (row ≡ row')
  -- the part that is given back: what it holds, and where it lies
  pub inputs-of-row : (row : Bor (List ℕ)) (part : ℕ × ℕ) (r r' : Bor (List ℕ)) → VeryPart row part r → VeryPart row part r' → (r.now ≡ r'.now) × (r.ref_ptr ≡ r'.ref_ptr)
  pub walker : (w w₁ w₂ : Walker) (r₁ r₂ : Option Entry) → went_on w w₁ r₁ → went_on w w₂ r₂ → (r₁ ≡ r₂) × (w₁ ≡ w₂)
  -- what `values` and `reasons` print, and the buffer beyond it
  pub prints : (reasons : Bool) (file before after after' : List ℕ) (r r' : ℕ)
      → r ≡ length (printed reasons file) → after ≡ printed reasons file ++ drop r before → r' ≡ length (printed reasons file) → after' ≡ printed reasons file ++ drop r' before
      → (r ≡ r') × (after ≡ after')

-- ── two batches for C: an outcome of both that is not refused is the outcome of their moves as one batch ──
abbrev pub batch_for_c : Session → Model → ℕ → List (List (ℕ × ℤ)) → List ℕ → FiguresOutcome × List ℕ
batch_for_c s w asked moves lent = figures_out (figures s w asked (as_batch moves) lent)

abbrev pub JoinedForC : Type 0
JoinedForC =
    (s : Session) (w : Model) (asked : ℕ) (moves moves' : List (List (ℕ × ℤ))) → length (moves ++ moves') ≤ 1000 → (row row' both : List ℕ)
    → let a = batch_for_c s w asked moves row in let a' = batch_for_c s w asked moves' row' in let merged = merged_out a.0 a'.0 a.1 a'.1 both in
    merged.0.number ≡ 0 → merged ≡ batch_for_c s w asked (moves ++ moves') both

-- ── what they leave in their buffers ──
pub record BuffersRight : Type 0 where
  -- the file that salvage saves is read and built, and an undamaged one comes back
  pub saved : (l : SalvageLent) → ((i : ℕ) → nat l.bytes i < 256) → (o : SalvageHad l) (size rows values : ℕ) → o.answer ≡ Ok (salvage.saved size rows values) → SavedRight o size
  pub undamaged : (l : SalvageLent) → ((i : ℕ) → nat l.bytes i < 256) → ComesBack l
  -- a board's row begins with the departures in time order
  pub board : (b : Board) (o : BoardHad b) (size : ℕ) → o.answer ≡ Ok size → ListedRight o size
  pub window : (start end headway : ℤ) → lt_z (pos 0) headway ≡ true → WindowGives start end headway
  -- the order of a batch changes nothing
  pub batch : (s : Session) (w : Model) (asked : ℕ) (moves moves' : List (List (ℕ × ℤ))) → Rearranged moves moves' → (lent : List ℕ)
      → (o : BatchHad s w asked (as_batch moves) lent) (o' : BatchHad s w asked (as_batch moves') lent) → (o.answer ≡ o'.answer) × (o.row ≡ o'.row)
  -- after any run a move of a batch that is accepted gives by each route the fresh value of the variable asked; a batch has rows of its own for reasons
  pub results : {b : BuildLent} (start : BuildOutcome b) (room : List ℕ × List ℤ) → number_of (left_built start).answer ≡ 0
      → (calls : ℕ) (moves : Moves) (now : State) → Run start room calls moves now → (asked : ℕ) (mv : Move) (route : ℕ)
      → (w : Model) → Mine start (record { session = now.session; stored = now.stored; reasons = replicate 4096 0; log = now.log }) w
      → (tried_once now.session w asked route mv).number ≡ 0 → (tried_once now.session w asked route mv).result ≡ renewed b moves mv asked
  -- many moves in one call: each by itself, in any order; the figures of a batch are read off them, and those of two batches joined are merged
  pub each-alone : EachAlone
  pub permutes : OrderPermutes
  pub fold : FoldOfTrials
  pub joined : JoinedIsMerged
  pub joined-for-c : JoinedForC
