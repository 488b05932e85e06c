-- The small files come out byte by byte, and each refusal with its number and place, by computation. Assumes nothing.
use mathlib.Core.Path.{refl}
use Rattle.paper.specs.Lists.{every}
use Rattle.paper.specs.File.{file_bytes, write_verdict, header, read_verdict, converted, convert_verdict}
use Rattle.worked.specs.Files.{FilesComeOut}

pub files-come-out : FilesComeOut
unfolding write_verdict file_bytes every read_verdict header convert_verdict converted
files-come-out = record {
  file-written = refl;
  write-refusals = refl;
  file-read = refl;
  short-refusals = refl;
  file-refused = refl;
  head-refusals = refl;
  bounded-written = refl;
  bounded-write-refusals = refl;
  bounded-read = refl;
  bounded-refused = refl;
  head2-refusals = refl;
  head2-not-1 = refl;
  moved_up = refl;
  moved_back = refl;
  moved-refusals = refl;
}
