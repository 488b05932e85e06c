-- A refusal has written nothing; an acceptance is what `fill_rows` leaves, once the file is judged (`read-accepted`). Assumes nothing.
use Rattle.frequencies.specs.Reading.{windows_in}
use mathlib.Core.Path.{sym}
use lib.Seq.{length-take-le}
use Rattle.tables.proofs.Answered.{err-said}
use Rattle.frequencies.proofs.Leaving.{read-refused, read-room, read-accepted}
use Rattle.frequencies.proofs.read.read_frequencies.Goals as goal

pub returns-in_err-judged : goal.returns-in_err-judged
returns-in_err-judged c = rw (err-said _ _ c.from_residual.ensures.1) (read-refused c.args.bytes.now (windows_in c.args.name_places.now c.args.name_lengths.now c.args.name_doubled.now c.args.starts.now c.args.ends.now c.args.headways.now c.args.exacts.now c.args.lines.now) c.least_room-room.ensures c.judge_file.result c.judge_file.ensures c.in_err-judged.was)

pub fill_rows-requires-clause-room : goal.fill_rows-requires-clause-room
fill_rows-requires-clause-room c = read-room c.args.bytes.now (windows_in c.args.name_places.now c.args.name_lengths.now c.args.name_doubled.now c.args.starts.now c.args.ends.now c.args.headways.now c.args.exacts.now c.args.lines.now) c.least_room-room.ensures c.judge_file.result c.judge_file.ensures c.in_ok-judged.was

pub returns : goal.returns
returns c = read-accepted c.args.bytes.now (windows_in c.args.name_places.now c.args.name_lengths.now c.args.name_doubled.now c.args.starts.now c.args.ends.now c.args.headways.now c.args.exacts.now c.args.lines.now) c.least_room-room.ensures c.judge_file.result c.judge_file.ensures c.in_ok-judged.was c.fill_rows.ensures

pub fill_rows-requires-clause-here : goal.fill_rows-requires-clause-here
fill_rows-requires-clause-here c = (c.judge_file.ensures.read c.in_ok-judged.judged c.in_ok-judged.was).here

pub slice_bounds-fill_rows-end : goal.slice_bounds-fill_rows-end
slice_bounds-fill_rows-end c = sym (length-take-le _ _ (c.judge_file.ensures.read c.in_ok-judged.judged c.in_ok-judged.was).end)
