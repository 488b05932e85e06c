-- The lines of a table, stored one behind the other, are one run of bytes. Assumes nothing.
use Prim.Native.Nat.{ℕ, ◌+◌, ◌*◌, ◌≤◌, ◌<◌}
use native.Mathlib.Omega.{arith}
use mathlib.Core.List.{List}
use mathlib.Core.Path.{◌≡◌, refl, ap, ◌∙◌}
use lib.ListN.{length}
use lib.Seq.{sets, length-sets}
use Rattle.paper.specs.Lists.{joined}
use Rattle.paper.proofs.Bytes.{turn}

-- ── a loop over n lines has come to line i: those before it stand one behind the other ──
pub record Lines (f : ℕ → List ℕ) (before : List ℕ) (at n : ℕ) (l : List ℕ) (i : ℕ) : Type 0 where
  pub come : i ≤ n
  pub long : length l ≡ length before
  pub run : l ≡ sets before at (joined f i)

module _ {f : ℕ → List ℕ} {before l : List ℕ} {at n i : ℕ} (s : Lines f before at n l i) where
  pub lines_next : (w : ℕ) → ((j : ℕ) → length (f j) ≡ w) → i < n → {next : List ℕ} → next ≡ sets l (at + w * i) (f i) → Lines f before at n next (i + 1)
  lines_next w same h e = record {
    come = omega arith;
    long = ap length e ∙ length-sets l (at + w * i) (f i) ∙ s.long;
    run = turn f w same before at i s.run refl e;
  }

  pub lines_end : n ≤ i → l ≡ sets before at (joined f n)
  lines_end h = let z : i ≡ n = omega arith in s.run ∙ ap (λ k. sets before at (joined f k)) z
