-- Where bytes stand in a file. The bytes of a number stand at a place exactly if the field there holds the number, for every width; so those
-- of a list of fields, and of a table of such lists, stand there exactly if each field holds its number. Assumes nothing.
use Prim.Native.Nat.{ℕ, zero, suc, ◌+◌, ◌*◌, ◌^◌, ◌/◌, ◌<◌}
use native.Mathlib.Nat.{not-suc-le-zero}
use native.Mathlib.Omega.{arith}
use mathlib.Core.Bool.{Bool, true, false}
use mathlib.Core.List.{List, [], ◌∷◌, ◌++◌}
use mathlib.Core.Path.{◌≡◌, refl, ap, ap₂, sym, ◌∙◌}
use lib.Dec.{ltb}
use lib.ListN.{length, take, drop, take-append-drop, drop_of_length-le}
use lib.Seq.{drop-cons}
use borrow.Author.Tests.{ltb-true, ltb-false}
use Rattle.paper.specs.Lists.{nat, joined}
use Rattle.paper.specs.File.{bytes_of, field}
use Rattle.paper.proofs.Bytes.{length-joined}

-- ── bytes at a place ──
-- b has the bytes xs from place k on
abbrev pub Stands : List ℕ → ℕ → List ℕ → Type 0
Stands b k [] = Unit {0}
Stands b k (x ∷ xs) = (nat b k ≡ x) × Stands b (suc k) xs

stands-behind : (a : ℕ) (b : List ℕ) (k : ℕ) (xs : List ℕ) → Stands b k xs → Stands (a ∷ b) (suc k) xs
stands-behind a b k [] h = tt
stands-behind a b k (x ∷ xs) h = (h.0, stands-behind a b (suc k) xs h.1)

pub stands_self : (b : List ℕ) → Stands b 0 b
stands_self [] = tt
stands_self (x ∷ b) = (refl, stands-behind x b 0 b (stands_self b))

-- what is left from a place on stands there
stands-drop : (b : List ℕ) (k : ℕ) → Stands b k (drop k b)
stands-drop b zero = stands_self b
stands-drop [] (suc k) = tt
stands-drop (x ∷ b) (suc k) = stands-behind x b k (drop k b) (stands-drop b k)

module _ (b : List ℕ) where
  -- bytes up to the end are all that is left
  pub stands-end : (k : ℕ) (xs : List ℕ) → length b ≡ k + length xs → Stands b k xs → xs ≡ drop k b
  stands-end k [] e h = sym (drop_of_length-le b {i = k} (omega arith))
  stands-end k (x ∷ xs) e h = ap₂ ◌∷◌ (sym h.0) (stands-end (suc k) xs (omega arith) h.1) ∙ sym (drop-cons b k 0 (omega arith))

  pub stands-join : (k j : ℕ) (xs ys : List ℕ) → j ≡ k + length xs → Stands b k xs → Stands b j ys → Stands b k (xs ++ ys)
  stands-join k j [] ys e h g = let z : k ≡ j = omega arith in rw z g
  stands-join k j (x ∷ xs) ys e h g = (h.0, stands-join (suc k) j xs ys (omega arith) h.1 g)

  pub stands-split : (k j : ℕ) (xs ys : List ℕ) → j ≡ k + length xs → Stands b k (xs ++ ys) → Stands b k xs × Stands b j ys
  stands-split k j [] ys e h = let z : j ≡ k = omega arith in (tt, rw z h)
  stands-split k j (x ∷ xs) ys e h = let s = stands-split (suc k) j xs ys (omega arith) h.1 in ((h.0, s.0), s.1)

  -- and so does a part of it
  pub stands-part : (k n : ℕ) → Stands b k (take n (drop k b))
  stands-part k n =
      (stands-split k (k + length (take n (drop k b))) (take n (drop k b)) (drop n (drop k b)) refl
      (rw (take-append-drop n (drop k b)) (stands-drop b k))).0

  -- ── a number ──
  stands-field : (w k x : ℕ) → x < 256 ^ w → Stands b k (bytes_of w x) → field w k b ≡ x
  stands-field zero k x l h = omega arith
  stands-field (suc w) k x l h = let low = h.0 in let high = stands-field w (suc k) (x / 256) (omega arith) h.1 in omega arith

  module _ (small : (i : ℕ) → nat b i < 256) where
    pub field-small : (w k : ℕ) → field w k b < 256 ^ w
    field-small zero k = omega arith
    field-small (suc w) k = let low = small k in let high = field-small w (suc k) in omega arith

    field-stands : (w k x : ℕ) → field w k b ≡ x → Stands b k (bytes_of w x)
    field-stands zero k x e = tt
    field-stands (suc w) k x e = let low = small k in (omega arith, field-stands w (suc k) (x / 256) (omega arith))

-- ── fields one behind the other: the place, the width and the number of each ──
abbrev pub Field : Type 0
Field = ℕ × ℕ × ℕ

abbrev pub packed : List Field → List ℕ
packed [] = []
packed ((k, w, x) ∷ fs) = bytes_of w x ++ packed fs

-- they follow one another from a place on
abbrev pub Follow : ℕ → List Field → Type 0
Follow at [] = Unit {0}
Follow at ((k, w, x) ∷ fs) = (k ≡ at) × Follow (at + w) fs

-- each number is one of its width
abbrev pub Fit : List Field → Type 0
Fit [] = Unit {0}
Fit ((k, w, x) ∷ fs) = (x < 256 ^ w) × Fit fs

-- b holds each number in its field
abbrev pub Holds : List ℕ → List Field → Type 0
Holds b [] = Unit {0}
Holds b ((k, w, x) ∷ fs) = (field w k b ≡ x) × Holds b fs

pub width-length : (w x : ℕ) → length (bytes_of w x) ≡ w
width-length zero x = refl
width-length (suc w) x = ap suc (width-length w (x / 256))

module _ (b : List ℕ) where
  pub stands-holds : (at : ℕ) (fs : List Field) → Follow at fs → Fit fs → Stands b at (packed fs) → Holds b fs
  stands-holds at [] follow fit h = tt
  stands-holds at ((k, w, x) ∷ fs) follow fit h =
      let s = stands-split b at (at + w) (bytes_of w x) (packed fs) (ap (at +◌) (sym (width-length w x))) h in
      (rw follow.0 (stands-field b w at x fit.0 s.0), stands-holds (at + w) fs follow.1 fit.1 s.1)

  pub holds-stands : ((i : ℕ) → nat b i < 256) → (at : ℕ) (fs : List Field) → Follow at fs → Holds b fs → Stands b at (packed fs)
  holds-stands small at [] follow h = tt
  holds-stands small at ((k, w, x) ∷ fs) follow h =
      stands-join b at (at + w) (bytes_of w x) (packed fs) (ap (at +◌) (sym (width-length w x)))
      (field-stands b small w at x (rw (← follow.0) h.0)) (holds-stands small (at + w) fs follow.1 h.1)

  -- ── a table: its i-th fields from place at + step * i on ──
  module _ (step at : ℕ) (fields : ℕ → List Field) (same : (i : ℕ) → length (packed (fields i)) ≡ step) (follow : (i : ℕ) → Follow (at + step * i) (fields i)) where
    abbrev table : ℕ → List ℕ
    table = joined (λ i. packed (fields i))

    behind : (n : ℕ) → at + step * n ≡ at + length (table n)
    behind n = ap (at +◌) (sym (length-joined (λ i. packed (fields i)) step same n))

    pub stands-table : (n : ℕ) → ((i : ℕ) → i < n → Fit (fields i)) → Stands b at (table n) → (i : ℕ) → i < n → Holds b (fields i)
    stands-table zero fit h i l = absurd (not-suc-le-zero l)
    stands-table (suc n) fit h i l =
        let both = stands-split b at (at + step * n) (table n) (packed (fields n)) (behind n) h in
        go (ltb i n) refl (stands-table n (λ j k. fit j (omega arith)) both.0 i) (stands-holds (at + step * n) (fields n) (follow n) (fit n (omega arith)) both.1)
      where
        go : (c : Bool) → ltb i n ≡ c → (i < n → Holds b (fields i)) → Holds b (fields n) → Holds b (fields i)
        go true e before last = before (ltb-true i n e)
        go false e before last = let low = ltb-false i n e in let z : i ≡ n = omega arith in rw z last

    pub table-stands : ((i : ℕ) → nat b i < 256) → (n : ℕ) → ((i : ℕ) → i < n → Holds b (fields i)) → Stands b at (table n)
    table-stands small zero h = tt
    table-stands small (suc n) h =
        stands-join b at (at + step * n) (table n) (packed (fields n)) (behind n)
        (table-stands small n (λ i l. h i (omega arith))) (holds-stands small (at + step * n) (fields n) (follow n) (h n (omega arith)))
