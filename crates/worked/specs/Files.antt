-- A small file byte by byte, in both versions, and each refusal of the calls over files. Assumes nothing.
use Rattle.std.specs.Prelude.{ℕ, ◌+◌, cond, List, [], ◌∷◌, ◌++◌, map, ◌≡◌, ℤ, pos, negsuc, eqb, take, drop, replicate}
use Rattle.paper.specs.Lists.{below}
use Rattle.paper.specs.Tables.{Tables, lent}
use Rattle.paper.specs.Checks.{accepted, refused, lowest, highest}
use Rattle.paper.specs.File.{version1, version2, Contents, contents, unbounded_contents, counted, write, header, read, convert}

-- variable 1 is LINEAR of variable 0 with coefficient -2 and parameter 7; variable 0 starts at -2
abbrev model : Tables
model = lent 2 1 1 (1 ∷ []) (1 ∷ []) (pos 7 ∷ []) (0 ∷ []) (1 ∷ []) (0 ∷ []) (negsuc 1 ∷ [])

abbrev starts : List ℤ
starts = negsuc 1 ∷ pos 0 ∷ []

abbrev plain : Contents
plain = unbounded_contents model starts

abbrev head : List ℕ
head = 1 ∷ 0 ∷ 2 ∷ 0 ∷ 1 ∷ 0 ∷ 1 ∷ 0 ∷ 24 ∷ 0 ∷ 0 ∷ 0 ∷ 32 ∷ 0 ∷ 0 ∷ 0 ∷ 44 ∷ 0 ∷ 0 ∷ 0 ∷ 48 ∷ 0 ∷ 0 ∷ 0 ∷ []

abbrev body : List ℕ
body = 254 ∷ 255 ∷ 255 ∷ 255 ∷ 0 ∷ 0 ∷ 0 ∷ 0 ∷ 1 ∷ 0 ∷ 1 ∷ 0 ∷ 7 ∷ 0 ∷ 0 ∷ 0 ∷ 0 ∷ 0 ∷ 1 ∷ 0 ∷ 0 ∷ 0 ∷ 254 ∷ 255 ∷ []

-- ── reading ──
-- rows that are lent to a reader: the one of this number is a place too short for the file
abbrev long : ℕ → ℕ → ℕ
long short row = cond (eqb short row) 0 1

abbrev rows : ℕ → Tables
rows short =
    lent 5 5 5 (replicate (long short 0) 9) (replicate (long short 1) 9) (replicate (long short 2) (pos 9)) (replicate (long short 3) 9)
    (replicate (long short 4) 9) (replicate (long short 5) 9) (replicate (long short 6) (pos 9))

abbrev values : ℕ → List ℤ
values short = pos 9 ∷ replicate (long short 7) (pos 9)

-- the file with another byte at k
abbrev put : ℕ → ℕ → List ℕ
put k x = take k head ++ (x ∷ drop (k + 1) head) ++ body

-- a wrong file, and the place of its first wrong field
abbrev wrong : List (List ℕ × ℕ)
wrong =
    ([], 0) ∷ (take 23 head, 23) ∷ (put 0 2, 0) ∷ (put 1 1, 0) ∷ (put 2 0, 2) ∷ (put 3 16, 2) ∷ (put 4 3, 4) ∷ (put 7 64, 6)
    ∷ (put 8 25, 8) ∷ (put 12 31, 12) ∷ (put 3 15, 12) ∷ (put 16 45, 16) ∷ (put 4 2, 16) ∷ (put 20 49, 20) ∷ (put 7 63, 20)
    ∷ (head ++ body ++ (0 ∷ []), 20) ∷ (head ++ take 23 body, 20) ∷ []

-- ── version 2: the same model, variable 0 from -5 to 60 and variable 1 with full bounds ──
abbrev head2 : List ℕ
head2 = 2 ∷ 0 ∷ 2 ∷ 0 ∷ 1 ∷ 0 ∷ 1 ∷ 0 ∷ 28 ∷ 0 ∷ 0 ∷ 0 ∷ 36 ∷ 0 ∷ 0 ∷ 0 ∷ 48 ∷ 0 ∷ 0 ∷ 0 ∷ 68 ∷ 0 ∷ 0 ∷ 0 ∷ 52 ∷ 0 ∷ 0 ∷ 0 ∷ []

abbrev full : List ℕ
full = 1 ∷ 0 ∷ 0 ∷ 128 ∷ 255 ∷ 255 ∷ 255 ∷ 127 ∷ []

abbrev narrow : List ℕ
narrow = 251 ∷ 255 ∷ 255 ∷ 255 ∷ 60 ∷ 0 ∷ 0 ∷ 0 ∷ []

abbrev file2 : List ℕ
file2 = head2 ++ body ++ narrow ++ full

abbrev lows : List ℤ
lows = negsuc 4 ∷ lowest ∷ []

abbrev highs : List ℤ
highs = pos 60 ∷ highest ∷ []

abbrev put2 : ℕ → ℕ → List ℕ
put2 k x = take k file2 ++ (x ∷ drop (k + 1) file2)

-- 28 for 24; the field behind the total is the last to be judged
abbrev wrong2 : List (List ℕ × ℕ)
wrong2 =
    (head ++ body, 0) ∷ (take 27 head2, 27) ∷ (take 24 head, 24) ∷ (put2 0 1, 0) ∷ (put2 2 0, 2) ∷ (put2 4 3, 4) ∷ (put2 7 64, 6) ∷ (put2 8 24, 8) ∷ (put2 12 32, 12)
    ∷ (put2 16 44, 16) ∷ (put2 20 52, 20) ∷ (put2 24 68, 24) ∷ (file2 ++ (0 ∷ []), 20) ∷ (take 67 file2, 20) ∷ []

pub record FilesComeOut : Type 0 where
  -- ── writing ──
  pub file-written : write version1 plain (replicate 49 9) ≡ (accepted, head ++ body ++ (9 ∷ []))
  -- a byte too few, and a start value too few
  pub write-refusals : (write version1 plain (replicate 47 9)).0 ∷ (write version1 (unbounded_contents model (take 1 starts)) (replicate 48 9)).0 ∷ [] ≡ replicate 2 (refused 1 0)
  pub file-read : read version1 (head ++ body) (unbounded_contents (rows 8) (values 8 ++ (pos 9 ∷ []))) ≡ (accepted, unbounded_contents model (starts ++ (pos 9 ∷ [])))
  pub short-refusals : below (λ short. (read version1 (head ++ body) (unbounded_contents (rows short) (values short))).0) 9 ≡ replicate 8 (refused 1 0) ++ (accepted ∷ [])
  -- the head is judged first, and a refused call leaves the rows as they were
  pub file-refused : read version1 (take 20 head) (unbounded_contents (rows 0) []) ≡ (refused 14 20, counted 0 0 0 (unbounded_contents (rows 0) []))
  pub head-refusals : map (λ w. header version1 w.0) wrong ≡ map (λ w. refused 14 w.1) wrong
  pub bounded-written : write version2 (contents model starts lows highs) (replicate 69 9) ≡ (accepted, file2 ++ (9 ∷ []))
  -- a byte too few, and a bound too few of either kind
  pub bounded-write-refusals : (write version2 (contents model starts lows highs) (replicate 67 9)).0 ∷ (write version2 (contents model starts (take 1 lows) highs) (replicate 68 9)).0
      ∷ (write version2 (contents model starts lows (take 1 highs)) (replicate 68 9)).0 ∷ []
      ≡ replicate 3 (refused 1 0)
  -- a place more of the lowest, and one too few of the highest
  pub bounded-read : read version2 file2 (contents (rows 8) (values 8) (replicate 3 (pos 9)) (replicate 2 (pos 9))) ≡ (accepted, contents model starts (lows ++ (pos 9 ∷ [])) highs)
  pub bounded-refused : read version2 file2 (contents (rows 8) (values 8) (replicate 2 (pos 9)) (pos 9 ∷ []))
      ≡ (refused 1 0, counted 0 0 0 (contents (rows 8) (values 8) (replicate 2 (pos 9)) (pos 9 ∷ [])))
  pub head2-refusals : map (λ w. header version2 w.0) wrong2 ≡ map (λ w. refused 14 w.1) wrong2
  -- and a file of version 2 is none of version 1
  pub head2-not-1 : header version1 file2 ≡ refused 14 0
  -- ── from one version to the other ──
  pub moved_up : convert version1 version2 (head ++ body) (replicate 69 9) ≡ (accepted, (68, head2 ++ body ++ full ++ full ++ (9 ∷ [])))
  pub moved_back : convert version2 version1 (head2 ++ body ++ full ++ full) (replicate 48 9) ≡ (accepted, (48, head ++ body))
  -- bounds of variable 0 would be lost, even where the buffer is short too; a bound of variable 1; a short buffer; the header comes first
  pub moved-refusals : convert version2 version1 file2 [] ∷ convert version2 version1 (head2 ++ body ++ full ++ narrow) (replicate 48 9) ∷ convert version2 version1 (head2 ++ body ++ full ++ full) (replicate 47 9)
      ∷ convert version1 version2 (head ++ body) (replicate 67 9) ∷ convert version2 version1 (head ++ body) [] ∷ convert version1 version2 file2 [] ∷ []
      ≡ (refused 18 0, (0, [])) ∷ (refused 18 1, (0, replicate 48 9)) ∷ (refused 1 0, (0, replicate 47 9))
      ∷ (refused 1 0, (0, replicate 67 9)) ∷ (refused 14 0, (0, [])) ∷ (refused 14 0, (0, [])) ∷ []
