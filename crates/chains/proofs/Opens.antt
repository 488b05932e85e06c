-- Where every chain of inputs ends, every variable is permitted and the numbers found are those that groups share. Assumes nothing.
use Prim.Native.Nat.{ℕ, ◌≤◌}
use native.Mathlib.Omega.{arith}
use mathlib.Core.Bool.{true, false, false≢true}
use Rattle.std.specs.Prelude.{Option, Some, None}
use Rattle.std.specs.Option.{is_some}
use Rattle.integers.specs.Below.{if_below}
use Rattle.integers.proofs.Below.{none-below}
use mathlib.Core.List.{List}
use mathlib.Core.Path.{◌≡◌, refl, ap, sym, ◌∙◌}
use lib.ListN.{length}
use Rattle.paper.specs.Lists.{nat, first_fail, over}
use Rattle.paper.specs.Net.{able}
use Rattle.paper.proofs.Straight.{number}
use Rattle.paper.specs.Tables.{Tables, net, inputs_of, ends}
use Rattle.paper.specs.Chains.{permitted}
use Rattle.paper.proofs.Least.{first_fail-before, first_fail-none}
use Rattle.paper.proofs.Buffers.{over-length, over-at}
use Rattle.paper.proofs.Lawful.{lawful}
use Rattle.paper.proofs.Circle.{ends-everywhere}
use Rattle.paper.proofs.Open.{open-permitted, open-number}
use Rattle.order.specs.Formed.{Formed}
use Rattle.order.proofs.Bare.{bare_of, ends-bare, number-bare}
use Rattle.chains.specs.Links.{Shared}

-- no place is found
pub not_some : (r : Option ℕ) → is_some r ≡ false → r ≡ None
not_some None e = refl
not_some (Some x) e = absurd (false≢true (sym e))

module _ (t : Tables) (F : Formed t) (found : None ≡ if_below t.n (first_fail (ends (bare_of t)) t.n)) where
  none : t.n ≤ first_fail (ends (bare_of t)) t.n
  none = none-below t.n (first_fail (ends (bare_of t)) t.n) found

  chains : (v : ℕ) → able (inputs_of t) t.n v ≡ true
  chains =
      ends-everywhere (net t) (lawful t) t.n F.inputs-below F.made-below F.some
      (λ v l. let h = none in let same = ap (λ f. first_fail f t.n) (ends-bare t) in first_fail-before (ends t) t.n v (omega arith))

  pub open-least : t.n ≡ first_fail (permitted t) t.n
  open-least = first_fail-none (permitted t) t.n (λ v l. open-permitted t F.inputs-below chains v)

  pub open_shared : (before : List ℕ) {now : List ℕ} → t.n ≤ length before → now ≡ over t.n (number (net (bare_of t)) t.n) before → Shared t now
  open_shared before {now} h e =
      let is : now ≡ over t.n (number (net t) t.n) before = e ∙ ap (λ f. over t.n f before) (number-bare t) in
      record {
        long = let same = ap length is ∙ over-length (number (net t) t.n) t.n before h in omega arith;
        at = λ v l. ap (λ (row : List ℕ). nat row v) is ∙ over-at (number (net t) t.n) t.n before v 0 l ∙ sym (open-number t F.inputs-below chains F.made-below v);
      }
