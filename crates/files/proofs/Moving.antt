-- What a file with these counts is moved to, by what each step leaves. Assumes nothing.
use Prim.Native.Nat.{ℕ, ◌+◌, ◌-◌, ◌*◌, ◌≤◌, ◌<◌}
use native.Mathlib.Omega.{arith}
use mathlib.Core.List.{List}
use mathlib.Core.Path.{◌≡◌, refl, ap, ◌∙◌}
use lib.ListN.{length, take, drop}
use lib.Seq.{sets}
use Rattle.paper.specs.Lists.{joined, first_fail}
use Rattle.paper.specs.Checks.{Verdict, accepted, refused}
use Rattle.paper.specs.File.{Version, head_of, bounded, bounds_from, ends_at, head_bytes, n_in, header, full_bytes, full_in, convert}
use Rattle.paper.proofs.Verdicts.{Past}
use Rattle.paper.proofs.Reading.{headed}
use Rattle.paper.proofs.Converted.{convert-headless, convert-lost, convert-narrow, convert-done}
use Rattle.files.specs.HeaderAnswers.{answer, Stated}
use mathlib.Core.Bool.{Bool, true, false, cond}
use lib.Dec.{ltb}
use borrow.Author.Tests.{ltb-true, ltb-false}
use Rattle.std.specs.Prelude.{Option, Ok, Err, Some, None}
use Rattle.integers.specs.Below.{if_below}
use Rattle.tables.specs.Answers.{refusal, unless_at}
use Rattle.tables.specs.declared.Refusal.{Refusal}
use Rattle.files.proofs.HeaderAnswered.{turned}
use Rattle.files.specs.Moving.{full_at}

-- ── a file with a wrong header ──
pub refused-move : (v : Version) (bytes : List ℕ) {r : Refusal} → Err r ≡ answer bytes (header v bytes) → (to : Version) (file : List ℕ)
    → ◌≡◌ {A = Verdict × (ℕ × List ℕ)} (refused r.number r.place, (0, file)) (convert v to bytes file)
refused-move v bytes {r} q to file = convert-headless v to bytes file r.number r.place (turned bytes (header v bytes) q)

-- ── a file with a right header and these counts ──
pub record Facts (from : Version) (bytes : List ℕ) (n m e : ℕ) : Type 0 where
  pub n-most : n ≤ 4096
  pub m-most : m ≤ 4096
  pub e-most : e ≤ 16384
  pub whole : length bytes ≡ bounds_from (head_of from) n m e + 8 * bounded from n

pub facts : (from : Version) (bytes : List ℕ) {n m e : ℕ} → Stated bytes (header from bytes) n m e → Facts from bytes n m e
facts from bytes {n} {m} {e} s =
    let h = headed from bytes s.good in let a = s.n-is in let b = s.m-is in let c = s.e-is in
    record {
      n-most = omega arith;
      m-most = omega arith;
      e-most = omega arith;
      whole = rw (s.n-is, s.m-is, s.e-is) h.whole;
    }

-- ── a place that is refused if there is one ──
pub refused-at : (number m k : ℕ) {at : Option ℕ} {r : Refusal} → at ≡ if_below m k → Err r ≡ unless_at number at → (k < m) × (r ≡ refusal number k)
refused-at number m k {at} {r} p q = go (ltb k m) refl (q ∙ ap (unless_at number) p)
  where
    go : (b : Bool) → ltb k m ≡ b → Err r ≡ unless_at number (cond b (Some k) None) → (k < m) × (r ≡ refusal number k)
    go true e q = (ltb-true k m e, cc)
    go false e q = let z : ◌≡◌ {A = ℕ} 0 1 = cc in absurd (omega arith)

pub passed-at : (number m k : ℕ) {at : Option ℕ} {done : Unit {0}} → at ≡ if_below m k → Ok done ≡ unless_at number at → m ≤ k
passed-at number m k {at} {done} p q = go (ltb k m) refl (q ∙ ap (unless_at number) p)
  where
    go : (b : Bool) → ltb k m ≡ b → Ok done ≡ unless_at number (cond b (Some k) None) → m ≤ k
    go true e q = let z : ◌≡◌ {A = ℕ} 0 1 = cc in absurd (omega arith)
    go false e q = ltb-false k m e

module _ (from to : Version) (bytes : List ℕ) {n m e : ℕ} (s : Stated bytes (header from bytes) n m e) (file : List ℕ) (k : ℕ)
    (f : k ≡ first_fail (full_at bytes (bounds_from (head_of from) n m e)) (bounded from n)) where
  first : k ≡ first_fail (full_in from bytes) (bounded from (n_in bytes))
  first = rw (s.n-is, s.m-is, s.e-is) at f

  pub lost-bounds : k < bounded from n → ◌≡◌ {A = Verdict × (ℕ × List ℕ)} (refused 18 k, (0, file)) (convert from to bytes file)
  lost-bounds l = convert-lost from to bytes file s.good k first (rw s.n-is at l)

  module _ (past : bounded from n ≤ k) where
    all-full : Past (full_in from bytes) (bounded from (n_in bytes)) k
    all-full = (first, rw s.n-is at past)

    pub short-file : length file < ends_at to n m e → ◌≡◌ {A = Verdict × (ℕ × List ℕ)} (refused 1 0, (0, file)) (convert from to bytes file)
    short-file l = convert-narrow from to bytes file s.good k all-full (rw (s.n-is, s.m-is, s.e-is) at l)

    -- three calls, each of which stores a part
    pub all_moved : {a b d : List ℕ} → ends_at to n m e ≤ length file → a ≡ sets file 0 (head_bytes to n m e)
        → b ≡ sets a (head_of to) (take (bounds_from (head_of from) n m e - head_of from) (drop (head_of from) bytes)) → d ≡ sets b (bounds_from (head_of to) n m e) (joined full_bytes (bounded to n))
        → ◌≡◌ {A = Verdict × (ℕ × List ℕ)} (accepted, (ends_at to n m e, d)) (convert from to bytes file)
    all_moved l p q r =
        let z : bounds_from (head_of from) n m e - head_of from ≡ bounds_from 0 n m e = omega arith in
        let q₁ = rw z at q in
        rw (s.n-is, s.m-is, s.e-is)
        (convert-done from to bytes file s.good k all-full (rw (s.n-is, s.m-is, s.e-is) at l) (rw (s.n-is, s.m-is, s.e-is) at p) (rw (s.n-is, s.m-is, s.e-is) at q₁) (rw (s.n-is, s.m-is, s.e-is) at r))
