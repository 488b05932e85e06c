-- Bytes copied into a part of a row are stored there one behind the other. Assumes nothing.
use Prim.Native.Nat.{ℕ, ◌+◌, ◌≤◌}
use native.Mathlib.Omega.{arith}
use mathlib.Core.List.{List}
use mathlib.Core.Path.{◌≡◌, ap, sym, ◌∙◌}
use lib.ListN.{length, take, drop, length-drop}
use lib.Seq.{sets, sets-eq, drop-drop}
use Rattle.std.proofs.Common.{append_assoc, length-take-le}
use borrow.Rule.Slice.PartMut.{put_mid}

-- k places from `at` on were lent, and now hold ys
pub put_mid-sets : {A : Type 0} (l : List A) (at k : ℕ) (ys here : List A) → here ≡ ys → k ≡ length ys → at + k ≤ length l → put_mid at k l here ≡ sets l at ys
put_mid-sets l at k ys here e n h =
    let behind : drop k (drop at l) ≡ drop (at + length ys) l = drop-drop k at l ∙ ap (λ j. drop (at + j) l) n in
    rw (e, behind) (sym (append_assoc (take at l) ys (drop (at + length ys) l)) ∙ sym (sets-eq ys l at (omega arith)))

-- n bytes of l from place k on are as many
pub part-length : {A : Type 0} (l : List A) (k n j : ℕ) → j ≡ n → k + n ≤ length l → j ≡ length (take n (drop k l))
part-length l k n j e h = let left = length-drop k l in e ∙ sym (length-take-le n (drop k l) (omega arith))
