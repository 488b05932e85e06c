-- With room for all, the bytes stand in their places. Assumes nothing.
use native.Mathlib.Omega.{arith}
use mathlib.Core.Path.{◌≡◌, refl, sym, ap, ◌∙◌}
use mathlib.Core.List.{◌++◌, append_assoc}
use Prim.Native.Nat.{◌+◌, ◌-◌}
use lib.ListN.{length, take}
use lib.Seq.{drop-drop}
use borrow.Author.Tests.{leb-true}
use Rattle.std.proofs.lemmas.List.Edits.{sets-eq}
use Rattle.frequencies.proofs.puts.put_all.Goals as goal

pub returns : goal.returns
returns c =
    let a = c.args in let at = a.at in let l = a.out.now in let bs = a.bytes.now in
    let room = leb-true (at + length bs) (length l) (sym c.if-not-has_room.ensures) in
    let z : (at + length bs) - at ≡ length bs = omega arith in
    record {
      put = λ r. (
        rw (z, c.copy_from_slice.ensures.after) (ap (λ t. take at l ++ (bs ++ t)) (drop-drop (length bs) at l) ∙ sym (append_assoc (take at l) bs _) ∙ sym (sets-eq bs l at room)),
        refl,
      );
    }
