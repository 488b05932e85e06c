-- The least of eight numbers holds what each of them holds (`least-is`). Assumes nothing.
use Rattle.frequencies.proofs.Deciding.{least-is}
use Rattle.frequencies.proofs.verdict.least_room.Goals as goal

pub returns : goal.returns
returns c =
    let a = c.args in
    rw (c.min-7.ensures, c.min-6.ensures, c.min-5.ensures, c.min-4.ensures, c.min-3.ensures, c.min-2.ensures, c.min.ensures)
    (least-is a.a a.b a.c a.d a.e a.f a.g a.h)
