-- The answers of the calls as the paper numbers them. Assumes nothing.
use Rattle.std.specs.Prelude.{Result, Ok, Err}
use Rattle.paper.specs.Checks.{Verdict, accepted, refused}
use Rattle.paper.specs.File.{Contents, counted}
use Rattle.tables.specs.declared.Refusal.{Refusal}
use Rattle.fields.specs.declared.places.Size.{Size}

-- what a call that writes says
abbrev pub verdict : Result Unit Refusal → Verdict
verdict (Ok done) = accepted
verdict (Err r) = refused r.number r.place

-- what a caller has once a call has read: the verdict, and the rows under the counts that the answer gives (0 if refused)
abbrev pub has_read : Result Size Refusal → Contents → Verdict × Contents
has_read (Ok size) c = (accepted, counted size.n size.m size.e c)
has_read (Err r) c = (refused r.number r.place, counted 0 0 0 c)
