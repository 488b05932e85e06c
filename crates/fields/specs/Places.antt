-- The versions and the size of a file, in the paper's terms. Assumes nothing.
use Rattle.std.specs.Prelude.{◌<◌}
use Rattle.paper.specs.File as file
use Rattle.fields.specs.declared.places.Size.{Size}
use Rattle.fields.specs.declared.places.Version.{Version}
use Rattle.fields.specs.declared.places.Version.TheVariants.{One, Two}

abbrev pub version_in : Version → file.Version
version_in One = file.version1
version_in Two = file.version2

-- each number fits its field in the header
abbrev pub Small : Size → Type 0
Small size = (size.n < 65536) × (size.m < 65536) × (size.e < 65536)
