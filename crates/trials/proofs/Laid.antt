-- A row that is filled piece by piece from the front: what stands there and what is still to come make all. Assumes nothing.
use Prim.Native.Nat.{ℕ, ◌+◌, ◌≤◌, ◌<◌}
use native.Mathlib.Numerals.{add-one}
use native.Mathlib.Omega.{arith}
use mathlib.Core.List.{List, [], ◌∷◌, ◌++◌, append_assoc, append-nil}
use mathlib.Core.Path.{◌≡◌, refl, sym, ap, ap₂, ◌∙◌}
use lib.ListN.{length, take, drop, set, length-append, length-drop, length-set, take-append-drop}
use lib.Seq.{length-take-le, take_at, drop_at, drop-drop, set_split}

pub record Laid {A : Type 0} (all rest before row : List A) (at : ℕ) : Type 0 where
  pub front : take at row ++ rest ≡ all
  pub back : drop at row ≡ drop at before
  pub long : length row ≡ length before

module _ {A : Type 0} where
  pub laid-start : (all before : List A) → Laid all all before before 0
  laid-start all before = record { front = refl; back = refl; long = refl }

  -- the next piece is put in
  pub laid_next : (all rest before row row' piece : List A) (at k : ℕ) → Laid all (piece ++ rest) before row at → length piece ≡ k → at ≤ length before
      → row' ≡ take at row ++ (piece ++ drop k (drop at row)) → length row' ≡ length before → Laid all rest before row' (at + k)
  laid_next all rest before row row' piece at k l h room e same =
      let is : row' ≡ (take at row ++ piece) ++ drop k (drop at row) = e ∙ sym (append_assoc (take at row) piece (drop k (drop at row))) in
      let long : length (take at row ++ piece) ≡ at + k = length-append (take at row) piece ∙ ap₂ ◌+◌ (length-take-le at row (let w = l.long in omega arith)) h in
      record {
        front = ap (λ r. take (at + k) r ++ rest) is ∙ ap (◌++ rest) (take_at (take at row ++ piece) (drop k (drop at row)) (at + k) long)
            ∙ append_assoc (take at row) piece rest ∙ l.front;
        back = ap (drop (at + k)) is ∙ drop_at (take at row ++ piece) (drop k (drop at row)) (at + k) long ∙ ap (drop k) l.back ∙ drop-drop k at before;
        long = same;
      }

  -- one place is put in
  pub laid-set : (all rest before row row' : List A) (x y : A) (at : ℕ) → Laid all (x ∷ rest) before row at → at < length before → y ≡ x → row' ≡ set row at y → Laid all rest before row' (at + 1)
  laid-set all rest before row row' x y at l room same e =
      let is : row' ≡ set row at x = e ∙ ap (set row at) same in
      laid_next all rest before row row' (x ∷ []) at 1 l refl (omega arith)
      (is ∙ set_split row at x (let w = l.long in omega arith) ∙ ap (λ r. take at row ++ (x ∷ r)) (ap (λ k. drop k row) (sym (add-one at)) ∙ sym (drop-drop 1 at row)))
      (ap length is ∙ length-set row at x ∙ l.long)

  -- nothing is left to come
  pub laid_end : (all before row : List A) (at k : ℕ) → Laid all [] before row at → at ≡ k → row ≡ all ++ drop k before
  laid_end all before row at k l e =
      sym (take-append-drop at row) ∙ ap₂ ◌++◌ (sym (append-nil (take at row)) ∙ l.front) l.back ∙ ap (λ j. all ++ drop j before) e

  -- how long a piece was, by the row that it was put into
  pub piece-long : (row row' piece : List A) (at k : ℕ) → at + k ≤ length row → row' ≡ take at row ++ (piece ++ drop k (drop at row)) → length row' ≡ length row → length piece ≡ k
  piece-long row row' piece at k room e same =
      let a = length-take-le at row (omega arith) in let b = length-drop at row in let c = length-drop k (drop at row) in
      let d = length-append (take at row) (piece ++ drop k (drop at row)) in let f = length-append piece (drop k (drop at row)) in let g = ap length e in omega arith
