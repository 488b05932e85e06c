-- A refusal has written nothing; an acceptance is what `put_file` leaves where there is room. Assumes nothing.
use Prim.Native.Nat.{ℕ}
use mathlib.Core.List.{List}
use mathlib.Core.Path.{refl, sym, ap, ◌∙◌}
use lib.ListN.{length}
use Rattle.std.specs.Prelude.{Ok, Err}
use Rattle.paper.specs.Checks.{accepted, refused}
use Rattle.tables.proofs.Answered.{accepted-is, accepted-as, refused-is}
use Rattle.frequencies.specs.Lent.{lent_windows}
use Rattle.frequencies.specs.declared.Windows.{Windows}
use Rattle.tables.proofs.Answered.{err-said}
use Rattle.frequencies.proofs.Judging.{Lent, lent, file, verdict, passed, writing-meets, file-stands}
use Rattle.frequencies.proofs.write.write_frequencies.Goals as goal

abbrev lends : List ℕ → Windows → List ℕ → Lent
lends text w bytes = lent w.count text (lent_windows w) bytes

pub returns-in_err-size : goal.returns-in_err-size
returns-in_err-size c =
    let b = lends c.args.text.now c.args.windows.now c.args.bytes.now in let r = c.in_err-size.field-0.0 in
    let e = sym c.judge.ensures ∙ c.in_err-size.was in
    rw (err-said _ _ c.from_residual.ensures.1) (writing-meets b (Err r) _ (refused r.number r.place) (refused-is (length (file b)) r (verdict b) e) refl refl)

pub put_file-requires-clause-lent : goal.put_file-requires-clause-lent
put_file-requires-clause-lent c =
    let b = lends c.args.text.now c.args.windows.now c.args.bytes.now in
    let r = (passed b (accepted-is (length (file b)) _ (verdict b) (sym c.judge.ensures ∙ c.in_ok-size.was))).rows in
    record { places = r.places; lengths = r.lengths; doubled = r.doubled; starts = r.starts; ends = r.ends; headways = r.headways; exacts = r.exacts }

pub put_file-requires-clause-all_sayable : goal.put_file-requires-clause-all_sayable
put_file-requires-clause-all_sayable c =
    let b = lends c.args.text.now c.args.windows.now c.args.bytes.now in
    (passed b (accepted-is (length (file b)) _ (verdict b) (sym c.judge.ensures ∙ c.in_ok-size.was))).said

pub put_file-requires-clause-all_exact : goal.put_file-requires-clause-all_exact
put_file-requires-clause-all_exact c =
    let b = lends c.args.text.now c.args.windows.now c.args.bytes.now in
    (passed b (accepted-is (length (file b)) _ (verdict b) (sym c.judge.ensures ∙ c.in_ok-size.was))).exacts

pub returns : goal.returns
returns c =
    let b = lends c.args.text.now c.args.windows.now c.args.bytes.now in
    let e = sym c.judge.ensures ∙ c.in_ok-size.was in let good = accepted-is (length (file b)) _ (verdict b) e in
    writing-meets b (Ok c.in_ok-size.size) _ accepted good (ap Ok (sym (accepted-as (length (file b)) _ (verdict b) e)))
    (file-stands b c.put_file.ensures (passed b good).fits)
