-- What `build_core` leaves, with a log that held no move before and holds none after, accepted or refused. Assumes nothing.
use Prim.Native.Nat.{ℕ}
use mathlib.Core.List.{List}
use mathlib.Core.Path.{◌≡◌, refl, sym, ap, ◌∙◌}
use lib.ListN.{replicate, set}
use Rattle.paper.specs.Checks.{Verdict, accepted, refused, leaves, bounds_in, lowest, highest}
use Rattle.paper.specs.Calls.{BuildLent, BuildLeft, build_verdict, build}
use Rattle.verdicts.specs.Lent.{no_record, lent_to_build}
use Rattle.build.proofs.building.build_new.Goals as goal

abbrev none : List ℕ
none = replicate 65 0

stay : (v : Verdict) → leaves v (set none 0 0) none ≡ none
stay accepted = refl
stay (refused number place) = refl

left : (l : BuildLent) (x : BuildLeft) → l.log_sizes ≡ none → x ≡ build l
    → record { answer = x.answer; session = x.session; numbers = x.numbers; order = x.order; stored = x.stored; index = x.index; reasons = x.reasons; log_sizes = none } ≡ build l
unfolding build
left l x new e =
    let sizes : x.log_sizes ≡ none = ap (λ (y : BuildLeft). y.log_sizes) e ∙ ap (λ s. leaves (build_verdict l) (set s 0 0) s) new ∙ stay (build_verdict l) in
    (λ i. record { answer = x.answer; session = x.session; numbers = x.numbers; order = x.order; stored = x.stored; index = x.index; reasons = x.reasons; log_sizes = sym sizes i }) ∙ e

pub returns : goal.returns
returns c =
    let a = c.args in
    left (lent_to_build no_record a.tables.now (bounds_in (replicate 4096 lowest) (replicate 4096 highest)) a.starts.now a.numbers.now a.order.now a.stored.now a.reader_starts.now a.reader_places.now a.reasons.now none)
    _ refl c.build_core.ensures
