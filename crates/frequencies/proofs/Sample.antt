-- A file of four windows, byte by byte: a plain name, one with a comma, one with quotes, and one whose quotes stand double in the text; times past
-- midnight, past 99 hours and the last that is a value. Assumes nothing.
use Prim.Native.Nat.{ℕ}
use mathlib.Core.List.{List, [], ◌∷◌, ◌++◌}
use mathlib.Core.Path.{◌≡◌, refl}
use lib.IntN.{pos}
use Rattle.frequencies.specs.Reading.{Windows, windows_in}
use Rattle.frequencies.specs.Writing.{head_bytes, file_bytes}

-- `AWE1a,bsay "x"say ""x""`
abbrev text : List ℕ
text = 65 ∷ 87 ∷ 69 ∷ 49 ∷ 97 ∷ 44 ∷ 98 ∷ 115 ∷ 97 ∷ 121 ∷ 32 ∷ 34 ∷ 120 ∷ 34 ∷ 115 ∷ 97 ∷ 121 ∷ 32 ∷ 34 ∷ 34 ∷ 120 ∷ 34 ∷ 34 ∷ []

abbrev windows : Windows
windows =
    windows_in (0 ∷ 4 ∷ 7 ∷ 14 ∷ []) (4 ∷ 3 ∷ 7 ∷ 9 ∷ []) (0 ∷ 0 ∷ 0 ∷ 1 ∷ [])
    (pos 21600 ∷ pos 0 ∷ pos 86399 ∷ pos 360000 ∷ []) (pos 36000 ∷ pos 90061 ∷ pos 2147483647 ∷ pos 359999 ∷ []) (pos 600 ∷ pos 1 ∷ pos 2147483647 ∷ pos 90 ∷ []) (0 ∷ 1 ∷ 0 ∷ 1 ∷ []) []

-- the first line
head-written : head_bytes ≡ 116 ∷ 114 ∷ 105 ∷ 112 ∷ 95 ∷ 105 ∷ 100 ∷ 44 ∷ 115 ∷ 116 ∷ 97 ∷ 114 ∷ 116 ∷ 95 ∷ 116 ∷ 105 ∷ 109 ∷ 101 ∷ 44 ∷ 101 ∷ 110 ∷ 100 ∷ 95 ∷ 116 ∷ 105 ∷ 109 ∷ 101 ∷ 44 ∷ 104 ∷ 101 ∷ 97 ∷ 100 ∷ 119 ∷ 97 ∷ 121 ∷ 95 ∷ 115 ∷ 101 ∷ 99 ∷ 115 ∷ 44 ∷ 101 ∷ 120 ∷ 97 ∷ 99 ∷ 116 ∷ 95 ∷ 116 ∷ 105 ∷ 109 ∷ 101 ∷ 115 ∷ 10 ∷ []
head-written = refl

-- `AWE1,06:00:00,10:00:00,600,0`,
-- `"a,b",00:00:00,25:01:01,1,1`,
-- `"say ""x""",23:59:59,596523:14:07,2147483647,0`,
-- `"say ""x""",100:00:00,99:59:59,90,1`
file-written : file_bytes 4 text windows ≡ head_bytes ++ (65 ∷ 87 ∷ 69 ∷ 49 ∷ 44 ∷ 48 ∷ 54 ∷ 58 ∷ 48 ∷ 48 ∷ 58 ∷ 48 ∷ 48 ∷ 44 ∷ 49 ∷ 48 ∷ 58 ∷ 48 ∷ 48 ∷ 58 ∷ 48 ∷ 48 ∷ 44 ∷ 54 ∷ 48 ∷ 48 ∷ 44 ∷ 48 ∷ 10 ∷ 34 ∷ 97 ∷ 44 ∷ 98 ∷ 34 ∷ 44 ∷ 48 ∷ 48 ∷ 58 ∷ 48 ∷ 48 ∷ 58 ∷ 48 ∷ 48 ∷ 44 ∷ 50 ∷ 53 ∷ 58 ∷ 48 ∷ 49 ∷ 58 ∷ 48 ∷ 49 ∷ 44 ∷ 49 ∷ 44 ∷ 49 ∷ 10 ∷ 34 ∷ 115 ∷ 97 ∷ 121 ∷ 32 ∷ 34 ∷ 34 ∷ 120 ∷ 34 ∷ 34 ∷ 34 ∷ 44 ∷ 50 ∷ 51 ∷ 58 ∷ 53 ∷ 57 ∷ 58 ∷ 53 ∷ 57 ∷ 44 ∷ 53 ∷ 57 ∷ 54 ∷ 53 ∷ 50 ∷ 51 ∷ 58 ∷ 49 ∷ 52 ∷ 58 ∷ 48 ∷ 55 ∷ 44 ∷ 50 ∷ 49 ∷ 52 ∷ 55 ∷ 52 ∷ 56 ∷ 51 ∷ 54 ∷ 52 ∷ 55 ∷ 44 ∷ 48 ∷ 10 ∷ 34 ∷ 115 ∷ 97 ∷ 121 ∷ 32 ∷ 34 ∷ 34 ∷ 120 ∷ 34 ∷ 34 ∷ 34 ∷ 44 ∷ 49 ∷ 48 ∷ 48 ∷ 58 ∷ 48 ∷ 48 ∷ 58 ∷ 48 ∷ 48 ∷ 44 ∷ 57 ∷ 57 ∷ 58 ∷ 53 ∷ 57 ∷ 58 ∷ 53 ∷ 57 ∷ 44 ∷ 57 ∷ 48 ∷ 44 ∷ 49 ∷ 10 ∷ [])
unfolding file_bytes
file-written = refl
