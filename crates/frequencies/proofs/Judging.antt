-- The verdict on windows to write: which check stops it, what is known once all are passed, and what the call leaves. Assumes nothing.
use Prim.Native.Nat.{ℕ, ◌+◌, ◌≤◌, ◌<◌, min}
use native.Mathlib.Omega.{arith}
use mathlib.Core.Bool.{Bool, true, false}
use mathlib.Core.List.{List, ◌++◌}
use mathlib.Core.Path.{◌≡◌, refl, ap, ap₂, sym, ◌∙◌}
use borrow.Author.Tests.{leb-true, le-leb, lt-leb}
use lib.Dec.{leb, ltb}
use lib.IntN.{pos}
use lib.ListN.{length, drop}
use lib.Signed.{le_z}
use Rattle.integers.proofs.Order.{lt_yes, le_yes, no_lt}
use Rattle.paper.specs.Lists.{nat}
use Rattle.paper.specs.Checks.{Verdict, accepted, refused, check, require, leaves}
use Rattle.paper.proofs.Bytes.{sets-front}
use Rattle.paper.proofs.Lists.{each, and_left, and_right}
use Rattle.paper.proofs.Verdicts.{check-rest, check-held, require-next, require-stops, require-rest, require-held}
use Rattle.frequencies.specs.Puts.{Puts, Sayable, AllSayable, AllExact}
use Rattle.frequencies.specs.Reading.{Windows, carried_by}
use Rattle.frequencies.specs.Writing.{start_at, end_at, headway_given, file_bytes, rows_lent, doubled_at, times_at, headway_good_at, exact_good_at, named_at, room_in, write_verdict, left_by_writing, write_frequencies}
use Rattle.std.specs.Prelude.{Result}
use Rattle.tables.specs.declared.Refusal.{Refusal}

-- ── what the call is lent ──
pub record Lent : Type 0 where
  pub count : ℕ
  pub text : List ℕ
  pub windows : Windows
  pub buffer : List ℕ

abbrev pub lent : ℕ → List ℕ → Windows → List ℕ → Lent
lent count text windows buffer = record { count = count; text = text; windows = windows; buffer = buffer }

abbrev pub file : Lent → List ℕ
file b = file_bytes b.count b.text b.windows

abbrev pub verdict : Lent → Verdict
verdict b = write_verdict b.count b.text b.windows b.buffer

-- ── what check 1 leaves ──
pub record Rows (b : Lent) : Type 0 where
  pub few : b.count ≤ 2147483647
  pub places : b.count ≤ length b.windows.name_places
  pub lengths : b.count ≤ length b.windows.name_lengths
  pub doubled : b.count ≤ length b.windows.name_doubled
  pub starts : b.count ≤ length b.windows.starts
  pub ends : b.count ≤ length b.windows.ends
  pub headways : b.count ≤ length b.windows.headways
  pub exacts : b.count ≤ length b.windows.exacts

pub rows_of : (b : Lent) → rows_lent b.count b.text b.windows ≡ true → Rows b
rows_of b e = let f = each _ e in record {
  few = leb-true _ _ f.0;
  places = leb-true _ _ f.1.0;
  lengths = leb-true _ _ f.1.1.0;
  doubled = leb-true _ _ f.1.1.1.0;
  starts = leb-true _ _ f.1.1.1.1.0;
  ends = leb-true _ _ f.1.1.1.1.1.0;
  headways = leb-true _ _ f.1.1.1.1.1.1.0;
  exacts = leb-true _ _ f.1.1.1.1.1.1.1.0;
}

-- ── the checks ──
module _ (b : Lent) where
  abbrev pub fit : Bool
  fit = rows_lent b.count b.text b.windows

  abbrev pub double : ℕ → Bool
  double = doubled_at b.count b.text b.windows

  abbrev pub times : ℕ → Bool
  times = times_at b.count b.text b.windows

  abbrev pub headway : ℕ → Bool
  headway = headway_good_at b.count b.text b.windows

  abbrev pub exact : ℕ → Bool
  exact = exact_good_at b.count b.text b.windows

  abbrev pub name : ℕ → Bool
  name = named_at b.count b.text b.windows

  abbrev pub room : Bool
  room = room_in b.count b.text b.windows b.buffer

  -- the chain from each check on
  abbrev pub from_nine : Verdict
  from_nine = require 9 0 room accepted

  abbrev pub from_eight : Verdict
  from_eight = check 8 b.count name from_nine

  abbrev pub from_seven : Verdict
  from_seven = check 7 b.count exact from_eight

  abbrev pub from_six : Verdict
  from_six = check 6 b.count headway from_seven

  abbrev pub from_five : Verdict
  from_five = check 5 b.count times from_six

  abbrev from_four : Verdict
  from_four = check 4 b.count double from_five

  pub stops-1 : fit ≡ false → verdict b ≡ refused 1 0
  unfolding write_verdict
  stops-1 = require-stops 1 0 fit from_four

  pub past-1 : fit ≡ true → verdict b ≡ from_four
  unfolding write_verdict
  past-1 = require-next 1 0 fit from_four

  -- ── windows that passed checks 4 to 6 and 8 can be said ──
  pub sayable : ((i : ℕ) → i < b.count → double i ≡ true) → ((i : ℕ) → i < b.count → times i ≡ true) → ((i : ℕ) → i < b.count → headway i ≡ true)
      → ((i : ℕ) → i < b.count → name i ≡ true) → AllSayable b.count b.text b.windows
  sayable d t h n = record { each = one }
    where
      one : (i : ℕ) → i < b.count
          → Sayable b.text (nat b.windows.name_places i) (nat b.windows.name_lengths i) (nat b.windows.name_doubled i) (start_at b.windows i) (end_at b.windows i) (headway_given b.windows i)
      one i l = let place = nat b.windows.name_places i in let size = nat b.windows.name_lengths i in let s = start_at b.windows i in let e = end_at b.windows i in let w = headway_given b.windows i in record {
        within = leb-true (place + size) (length b.text) (and_right (ltb 0 size) (leb (place + size) (length b.text)) (n i l));
        stands = record { right = d i l };
        starts = no_lt s (pos 0) (le_yes (pos 0) s (and_left (le_z (pos 0) s) (le_z (pos 0) e) (t i l)));
        ends = no_lt e (pos 0) (le_yes (pos 0) e (and_right (le_z (pos 0) s) (le_z (pos 0) e) (t i l)));
        headways = no_lt w (pos 0) (let k = lt_yes (pos 0) w (h i l) in omega (arith, k));
      }

  -- accepted: all are passed
  pub record Passed : Type 0 where
    pub rows : Rows b
    pub said : AllSayable b.count b.text b.windows
    pub exacts : AllExact b.count b.windows
    pub fits : length (file b) ≤ length b.buffer

  pub passed : verdict b ≡ accepted → Passed
  unfolding write_verdict
  passed e =
      let e₄ = require-rest 1 0 fit from_four e in
      let e₅ = check-rest 4 b.count double from_five e₄ in
      let e₆ = check-rest 5 b.count times from_six e₅ in
      let e₇ = check-rest 6 b.count headway from_seven e₆ in
      let e₈ = check-rest 7 b.count exact from_eight e₇ in
      let e₉ = check-rest 8 b.count name from_nine e₈ in
      let r = leb-true (length (file b)) (min (length b.buffer) 2147483647) (require-held 9 0 room accepted e₉) in
      record {
        rows = rows_of b (require-held 1 0 fit from_four e);
        said = sayable (check-held 4 b.count double from_five e₄) (check-held 5 b.count times from_six e₅) (check-held 6 b.count headway from_seven e₆) (check-held 8 b.count name from_nine e₈);
        exacts = record { each = λ i l. leb-true _ _ (check-held 7 b.count exact from_eight e₇ i l) };
        fits = omega (arith, r);
      }

  -- ── check 9 by a size that was counted up to a bound ──
  module _ (size most : ℕ) (e : size ≡ min (length (file b)) 2147483648) (m : most ≡ min (length b.buffer) 2147483647) where
    pub no_room : most < size → room ≡ false
    no_room l = lt-leb (length (file b)) (min (length b.buffer) 2147483647) (omega (arith, e, m, l))

    pub has_room : size ≤ most → room ≡ true
    has_room l = le-leb (length (file b)) (min (length b.buffer) 2147483647) (omega (arith, e, m, l))

    pub all-counted : size ≤ most → size ≡ length (file b)
    all-counted l = omega (arith, e, m, l)

  -- ── the answer, and what is left, by the verdict ──
  pub answers : (r : Result ℕ Refusal) (v : Verdict) → verdict b ≡ v → r ≡ carried_by v (length (file b)) → r ≡ carried_by (verdict b) (length (file b))
  answers r v e p = p ∙ ap (λ x. carried_by x (length (file b))) (sym e)

  pub writing-meets : (r : Result ℕ Refusal) (after : List ℕ) (v : Verdict) → verdict b ≡ v → r ≡ carried_by v (length (file b))
      → after ≡ leaves v (file b ++ drop (length (file b)) b.buffer) b.buffer → left_by_writing r after ≡ write_frequencies b.count b.text b.windows b.buffer
  unfolding write_frequencies
  writing-meets r after v e p q =
      ap₂ left_by_writing p q ∙ ap (λ x. left_by_writing (carried_by x (length (file b))) (leaves x (file b ++ drop (length (file b)) b.buffer) b.buffer)) (sym e)

  -- what was put where there is room
  pub file-stands : {after : List ℕ} {next : ℕ} → Puts (file b) b.buffer 0 after next → length (file b) ≤ length b.buffer → after ≡ file b ++ drop (length (file b)) b.buffer
  file-stands p h = (p.put (omega (arith, h))).0 ∙ sets-front (file b) b.buffer (length (file b)) refl h
