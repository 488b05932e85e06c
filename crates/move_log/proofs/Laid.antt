-- A loop that writes f into a row from a place on: what stands before the place stays, and the rest is filled from its front (`Filled`).
-- Assumes nothing.
use Prim.Native.Nat.{ℕ, ◌+◌, ◌<◌}
use native.Mathlib.Omega.{arith}
use mathlib.Core.List.{List, ◌++◌}
use mathlib.Core.Path.{◌≡◌, refl, ap, ap₂, sym, ◌∙◌}
use lib.ListN.{length, take, drop, set, length-take, length-drop, take-append-drop}
use lib.Seq.{take-set-le, drop-set-add}
use Rattle.paper.specs.Log.{laid_at}
use Rattle.paper.proofs.Buffers.{Filled, filled-start, filled_next, filled-end}

module _ {A : Type 0} (f : ℕ → A) (place : ℕ) (before : List A) where
  pub record Laid (l : List A) (i : ℕ) : Type 0 where
    pub front : take place l ≡ take place before
    pub rest : Filled f (drop place before) (drop place l) i

  pub laid-start : Laid before 0
  laid-start = record { front = refl; rest = filled-start f (drop place before) }

  pub laid_next : (l : List A) (i : ℕ) {x : A} → Laid l i → place + i < length before → x ≡ f i → Laid (set l (place + i) x) (i + 1)
  laid_next l i {x} s h e = record {
    front = take-set-le place l (place + i) x (omega arith) ∙ s.front;
    rest = rw (drop-set-add place l i x) (filled_next f (drop place before) (drop place l) i s.rest (let d = length-drop place before in omega arith) e);
  }

  pub laid-long : (l : List A) (i : ℕ) → Laid l i → length l ≡ length before
  laid-long l i s =
      let a = length-take place l in let b = length-take place before in let same = ap length s.front in
      let c = length-drop place l in let d = length-drop place before in let long = s.rest.long in omega arith

  pub laid_end : (l : List A) (i n : ℕ) → Laid l i → i ≡ n → l ≡ laid_at place n f before
  laid_end l i n s e = sym (take-append-drop place l) ∙ ap₂ ◌++◌ s.front (filled-end f (drop place before) (drop place l) i n s.rest e)
