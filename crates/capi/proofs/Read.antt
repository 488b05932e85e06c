-- What `read` and `read_bounded` answer, in numbers: they say the same, and the counts of a file that is accepted are small. Assumes nothing.
use mathlib.Core.Path.{◌≡◌, refl, ap, sym, ◌∙◌}
use mathlib.Core.List.{List}
use Prim.Native.Nat.{ℕ}
use native.Mathlib.Omega.{arith}
use Rattle.paper.specs.Tables.{Tables}
use Rattle.paper.specs.Checks.{Verdict, accepted, leaves}
use Rattle.paper.specs.File.{Version, Contents, n_in, m_in, e_in, counted, laid, read_verdict, read}
use Rattle.paper.proofs.Reading.{headed, read-headed}
use Rattle.files.specs.Answers.{has_read}
use Rattle.std.specs.Prelude.{Result, Ok, Err}
use Rattle.tables.specs.declared.Refusal.{Refusal}
use Rattle.fields.specs.declared.places.Size.{Size}
use Rattle.capi.specs.declared.ReadOutcome.{ReadOutcome}
use Rattle.capi.specs.Outcomes.{read_in_numbers, Small, left_by_read}
use Rattle.capi.specs.Outcomes as outcomes

-- ── small counts ──
small-counts : (v : Version) (bytes : List ℕ) (c : Contents) (size : Size) → read_verdict v bytes c ≡ accepted → let t = (read v bytes c).1.tables in size.n ≡ t.n → size.m ≡ t.m → size.e ≡ t.e
    → Small (Ok size)
small-counts v bytes c size ok p q r =
    let head = headed v bytes (read-headed v bytes c ok) in
    let same = ap (λ w. (leaves w (laid v bytes (n_in bytes) (m_in bytes) (e_in bytes) c) (counted 0 0 0 c)).tables) ok in
    let n-is = p ∙ ap (λ (z : Tables). z.n) same in let m-is = q ∙ ap (λ (z : Tables). z.m) same in let e-is = r ∙ ap (λ (z : Tables). z.e) same in
    let a = head.n-most in let b = head.m-most in let d = head.e-most in
    record { n-most = omega arith; m-most = omega arith; e-most = omega arith }

-- ── what a call leaves ──
module _ (c : Contents) where
  pub read_out : {r : ReadOutcome} (told : Result Size Refusal) {left : Verdict × Contents} → r ≡ read_in_numbers told → has_read told c ≡ left → left_by_read r c ≡ outcomes.read_out left
  read_out told e f = ap (λ (x : ReadOutcome). left_by_read x c) e ∙ same told ∙ ap outcomes.read_out f
    where
      same : (told : Result Size Refusal) → left_by_read (read_in_numbers told) c ≡ outcomes.read_out (has_read told c)
      same (Ok size) = refl
      same (Err r) = refl

  pub small-read : (v : Version) (told : Result Size Refusal) (bytes : List ℕ) (before : Contents) → has_read told c ≡ read v bytes before → Small told
  small-read v (Ok size) bytes before eq =
      small-counts v bytes before size (sym (ap (λ (z : Verdict × Contents). z.0) eq))
      (ap (λ (z : Verdict × Contents). z.1.tables.n) eq) (ap (λ (z : Verdict × Contents). z.1.tables.m) eq) (ap (λ (z : Verdict × Contents). z.1.tables.e) eq)
  small-read v (Err r) bytes before eq = record { n-most = omega arith; m-most = omega arith; e-most = omega arith }
