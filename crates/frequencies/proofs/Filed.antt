-- The file grows by one line for each window, and so does its size; a size cut at a bound tells all that is asked below it. Assumes nothing.
use Prim.Native.Nat.{ℕ, suc, ◌+◌, min}
use native.Mathlib.Numerals.{add-one}
use native.Mathlib.Omega.{arith}
use mathlib.Core.List.{List, ◌++◌}
use mathlib.Core.Path.{◌≡◌, refl}
use lib.ListN.{length, length-append}
use Rattle.paper.specs.Lists.{joined}
use Rattle.frequencies.specs.Puts.{Puts}
use Rattle.frequencies.specs.Reading.{Windows}
use Rattle.frequencies.specs.Writing.{window_bytes, head_bytes, file_bytes}
use Rattle.frequencies.proofs.Putting.{puts_then}

module _ (text : List ℕ) (w : Windows) where
  pub file-starts : length (file_bytes 0 text w) ≡ 53
  unfolding file_bytes
  file-starts = refl

  pub file-grows : (i : ℕ) → length (file_bytes (suc i) text w) ≡ length (file_bytes i text w) + length (window_bytes text w i)
  unfolding file_bytes
  file-grows i =
      let f = window_bytes text w in
      let a = length-append head_bytes (joined f i ++ f i) in let b = length-append (joined f i) (f i) in let c = length-append head_bytes (joined f i) in
      omega (arith, a, b, c)

  -- one turn of a loop that counts the bytes up to a bound
  pub size-next : (i k s most : ℕ) → k ≡ min (length (file_bytes i text w)) most → s ≡ length (window_bytes text w i) → min (k + s) most ≡ min (length (file_bytes (i + 1) text w)) most
  size-next i k s most e h = rw (add-one i) (omega (arith, e, h, file-grows i))

  -- one turn of a loop that puts the lines
  pub lines_next : {l l₁ l₂ : List ℕ} {at k next : ℕ} (i : ℕ) → Puts (joined (window_bytes text w) i) l at l₁ k → Puts (window_bytes text w i) l₁ k l₂ next
      → Puts (joined (window_bytes text w) (i + 1)) l at l₂ next
  lines_next i p q = rw (add-one i) (puts_then p q)

  -- the lines behind the first one
  pub file-put : {l l₁ l₂ : List ℕ} {k next : ℕ} (count : ℕ) → Puts head_bytes l 0 l₁ k → Puts (joined (window_bytes text w) count) l₁ k l₂ next → Puts (file_bytes count text w) l 0 l₂ next
  unfolding file_bytes
  file-put count p q = puts_then p q
