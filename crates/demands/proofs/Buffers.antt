-- What stands in the buffers is what the definitions give, by each contract's equation, so the theorems over the definitions are theorems about what the
-- caller has. Assumes nothing.
use Prim.Native.Nat.{ℕ, ◌+◌, ◌≤◌, ◌<◌}
use native.Mathlib.Omega.{arith}
use mathlib.Core.Bool.{Bool, true, false, ◌&&◌}
use mathlib.Core.List.{List, ◌++◌}
use mathlib.Core.Path.{◌≡◌, refl, ap, sym, ◌∙◌}
use lib.Dec.{leb}
use lib.IntN.{ℤ, pos}
use lib.ListN.{length, get_or, take, drop, replicate, length-append, length-replicate}
use lib.Seq.{take_at, drop_at}
use Rattle.std.specs.Prelude.{Ok, Err}
use Rattle.paper.specs.Lists.{nat}
use Rattle.paper.specs.Checks.{Verdict, accepted, refused, Move, by_lines}
use Rattle.paper.specs.Moves.{Moves}
use Rattle.paper.specs.Calls.{number_of, BuildLent, BuildLeft, Model, TrialLeft}
use Rattle.paper.specs.File.{version1, unbounded_contents, counted, head_lines, read, cut}
use Rattle.paper.proofs.Sizes.{sized-facts}
use Rattle.paper.proofs.Outcomes.{build-judged}
use Rattle.paper.proofs.UpTo.{trial-up-to}
use Rattle.damage.specs.Saved.{saved_file, saved_list, dropped_rows, reset_values}
use Rattle.tables.specs.Answers.{refusal}
use Rattle.salvage.specs.Salvage as outcome
use Rattle.salvage.specs.Salvage.{SalvageLent, SalvageLeft, salvage, left_by_salvage, SalvageHad}
use Rattle.salvage.specs.Promises.{SavedRight, ComesBack}
use Rattle.salvage.specs.declared.Saved as numbers
use Rattle.salvage.proofs.Outcome.{salvage-headed, salvage-short, salvage-done}
use Rattle.salvage.proofs.Builds.{salvage-builds}
use Rattle.salvage.proofs.Same.{undamaged-same}
use Rattle.times.proofs.Listing.{as_many, none-at-end, none-later, last-there}
use Rattle.boards.proofs.Outcome.{listed-right}
use Rattle.figures.specs.Outcomes.{as_one_trial, tried_once}
use Rattle.trials.proofs.Order.{each-alone, order-permutes}
use Rattle.figures.proofs.Order.{order-changes-nothing}
use Rattle.figures.proofs.Read.{fold-of-trials}
use Rattle.merging.proofs.Joined.{joined-is-merged}
use Rattle.figures.proofs.Routes.{reasons_as, any-reasons}
use Rattle.records.specs.Stated.{BuildOutcome, left_built}
use Rattle.files.specs.Stated.{left_read}
use Rattle.demands.specs.Runs.{State, mine, Mine, Run}
use Rattle.demands.specs.Demands.{renewed}
use Rattle.demands.proofs.Standing.{known}
use Rattle.demands.proofs.Merged.{joined-for-c}
use Rattle.demands.proofs.Three.{built-ok, own-trial-fresh, reasons-long}
use Rattle.demands.specs.Products.{BuffersRight}

-- ── salvage: an accepted one has the saved file, and how many rows and values are listed ──
record Saved {l : SalvageLent} (o : SalvageHad l) (size rows values : ℕ) : Type 0 where
  head : by_lines (head_lines version1 l.bytes) accepted ≡ accepted
  file : o.file ≡ saved_file l.bytes ++ drop (length (saved_file l.bytes)) l.file
  sizes : outcome.saved (length (saved_file l.bytes)) (length (dropped_rows l.bytes)) (length (reset_values l.bytes)) ≡ outcome.saved size rows values

saved-is : (l : SalvageLent) (o : SalvageHad l) (size rows values : ℕ) → o.answer ≡ Ok (outcome.saved size rows values) → Saved o size rows values
saved-is l o size rows values e = go (by_lines (head_lines version1 l.bytes) accepted) refl
  where
    -- a refusal is none
    wrong : (number place : ℕ) (file list : List ℕ) → left_by_salvage (Err (refusal number place)) file list ≡ salvage l → Saved o size rows values
    wrong number place file list q =
        let a : o.answer ≡ Err (refusal number place) = ap (λ (x : SalvageLeft). x.answer) (o.stated ∙ sym q) in cc

    go : (v : Verdict) → by_lines (head_lines version1 l.bytes) accepted ≡ v → Saved o size rows values
    go (refused number place) h = wrong number place l.file l.list (salvage-headed l.bytes l.file l.list h)
    go accepted h = fit (leb (length (saved_file l.bytes)) (length l.file) && leb (length (saved_list l.bytes)) (length l.list)) refl
      where
        fit : (b : Bool) → (leb (length (saved_file l.bytes)) (length l.file) && leb (length (saved_list l.bytes)) (length l.list)) ≡ b → Saved o size rows values
        fit false q = wrong 1 0 l.file l.list (salvage-short l.bytes l.file l.list h q)
        fit true q = let is = o.stated ∙ sym (salvage-done l.bytes l.file l.list h q) in record {
          head = h;
          file = ap (λ (x : SalvageLeft). x.file) is;
          sizes = let a = sym (ap (λ (x : SalvageLeft). x.answer) is) ∙ e in cc;
        }

module _ (l : SalvageLent) (small : (i : ℕ) → nat l.bytes i < 256) (o : SalvageHad l) (size rows values : ℕ) (e : o.answer ≡ Ok (outcome.saved size rows values)) where
  saved : Saved o size rows values
  saved = saved-is l o size rows values e

  front : take size o.file ≡ saved_file l.bytes
  front = ap (take size) saved.file ∙ take_at (saved_file l.bytes) (drop (length (saved_file l.bytes)) l.file) size (ap (λ (x : numbers.Saved). x.length) saved.sizes)

  saved-right : SavedRight o size
  saved-right = record {
    reads = λ c room r.
        let promise = salvage-builds l.bytes (record { small = small; head = saved.head }) in
        let is : left_read r ≡ read version1 (saved_file l.bytes) (counted 0 0 0 c) = r.stated ∙ ap (λ f. read version1 f (counted 0 0 0 c)) front in
        let has = promise.reads (counted 0 0 0 c) room in (
          ap (λ x. x.0) is ∙ has.0,
          λ b q same full fits. ap (λ (x : BuildLeft). number_of x.answer) q.stated ∙ (build-judged b).zero (promise.builds b (same ∙ ap (λ x. cut version1 x.1) is ∙ has.1) full fits),
        );
    rest = ap (drop size) saved.file ∙ drop_at (saved_file l.bytes) (drop (length (saved_file l.bytes)) l.file) size (ap (λ (x : numbers.Saved). x.length) saved.sizes)
        ∙ ap (λ k. drop k l.file) (ap (λ (x : numbers.Saved). x.length) saved.sizes);
  }

undamaged : (l : SalvageLent) → ((i : ℕ) → nat l.bytes i < 256) → ComesBack l
unfolding saved_list
undamaged l small t starts r ok b q is unclosed zero o size rows values e =
    let has = saved-is l o size rows values e in
    let good = (build-judged b).good (sym (ap (λ (x : BuildLeft). number_of x.answer) q.stated) ∙ zero) in
    let same = undamaged-same l.bytes small (counted 0 0 0 (unbounded_contents t starts)).tables starts (sym (ap (λ x. x.0) r.stated) ∙ ok) b (is ∙ ap (λ x. x.1) r.stated) unclosed good in
    let none : length (dropped_rows l.bytes) + length (reset_values l.bytes) ≡ 0 = sym (length-append (dropped_rows l.bytes) (reset_values l.bytes)) ∙ ap length same.none in
    let dropped = ap (λ (x : numbers.Saved). x.rows) has.sizes in let reset = ap (λ (x : numbers.Saved). x.values) has.sizes in
    (front l small o size rows values e ∙ same.file, omega arith, omega arith)

-- ── a batch after a run: its own row of reasons changes neither the answer nor the results ──
batch-results : {b : BuildLent} (start : BuildOutcome b) (room : List ℕ × List ℤ) → number_of (left_built start).answer ≡ 0
    → (calls : ℕ) (moves : Moves) (now : State) → Run start room calls moves now → (asked : ℕ) (mv : Move) (route : ℕ)
    → (w : Model) → Mine start (record { session = now.session; stored = now.stored; reasons = replicate 4096 0; log = now.log }) w
    → (tried_once now.session w asked route mv).number ≡ 0 → (tried_once now.session w asked route mv).result ≡ renewed b moves mv asked
unfolding tried_once
batch-results {b} start room ok calls moves now r asked mv route w like z =
    let own = mine start now in let c = as_one_trial now.session own asked route mv in
    let long : b.tables.n ≤ 4096 = (sized-facts b.tables (known b (built-ok start room ok)).sound.sized).n-most in
    let same = any-reasons now.session own c (replicate 4096 0) (rw (length-replicate {A = ℕ} 4096 0) long) (reasons-long start room ok calls moves now r) in
    let up = (trial-up-to now.session w (reasons_as own (replicate 4096 0)) like c).1 in
    ap (λ (x : TrialLeft). get_or x.results 0 (pos 0)) up
    ∙ ap (λ (l : List ℤ). get_or l 0 (pos 0)) (same.1 ∙ (own-trial-fresh start room ok calls moves now r c (sym (ap number_of same.0) ∙ sym (ap (λ (x : TrialLeft). number_of x.answer) up) ∙ z)).results)

pub buffers-right : BuffersRight
buffers-right = record {
  saved = saved-right;
  undamaged = undamaged;
  board = listed-right;
  window = λ start end headway above. record {
    as_many = as_many start end headway above;
    none-at-end = none-at-end start end headway above;
    last = λ some. (last-there start end headway above some, none-later start end headway above some);
  };
  batch = λ s w asked moves moves' r lent o o'.
      let e = o.stated ∙ order-changes-nothing s w asked moves moves' r lent ∙ sym o'.stated in (ap (λ x. x.0) e, ap (λ x. x.1) e);
  results = batch-results;
  each-alone = each-alone;
  permutes = order-permutes;
  fold = fold-of-trials;
  joined = joined-is-merged;
  joined-for-c = joined-for-c;
}
