-- With the tables saved and their row of makers, the start values kept are those that the paper keeps, so what is saved is ready. Assumes nothing.
use Prim.Native.Nat.{ℕ, suc, ◌<◌}
use native.Mathlib.Omega.{arith}
use mathlib.Core.Bool.{Bool, true, false, cond, not}
use mathlib.Core.List.{List}
use mathlib.Core.Path.{◌≡◌, refl, ap, ap₂, sym, ◌∙◌, subst}
use lib.Dec.{eqb, leb}
use lib.IntN.{ℤ, pos}
use lib.ListN.{length, get_or, take}
use lib.Seq.{get_or-take}
use Rattle.paper.specs.Checks.{Sound}
use Rattle.paper.specs.File.{rows_from, n_in}
use Rattle.paper.specs.Lists.{nat, below, over}
use Rattle.paper.specs.Tables.{Tables, is_made}
use Rattle.paper.proofs.Buffers.{below-same, over-front, over-at}
use Rattle.paper.proofs.Sizes.{Sized}
use Rattle.tables.specs.Makers.{Makers}
use Rattle.tables.proofs.Made.{maker-zero}
use Rattle.damage.specs.Saved.{start_given, start_kept, saved_tables}
use Rattle.damage.specs.Starts.{start_test}
use Rattle.salvage.specs.Saving.{start_taken, Packed, SavedReady}
use Rattle.salvage.proofs.Outcome.{saved-sized, saved-sound}

not-not : (b : Bool) → not (not b) ≡ b
not-not true = refl
not-not false = refl

module _ (bytes : List ℕ) (m : ℕ) (t : Tables) (starts : List ℤ) (row : List Bool) (P : Packed bytes m t starts row) where
  pub packed-sized : Sized t
  packed-sized = subst Sized (sym P.tables) (saved-sized bytes P.head)

  pub packed-sound : Sound t
  packed-sound = subst Sound (sym P.tables) (saved-sound bytes P.head)

  n-is : t.n ≡ n_in bytes
  n-is = ap (λ (s : Tables). s.n) P.tables

  value-is : (v : ℕ) → v < t.n → get_or starts v (pos 0) ≡ get_or (start_given bytes) v (pos 0)
  value-is v l = sym (get_or-take t.n starts v (pos 0) l) ∙ ap (λ s. get_or s v (pos 0)) P.values

  module _ (by : List ℕ) (M : Makers t by) where
    taken_is : (v : ℕ) → v < t.n → start_taken (length bytes) by starts v ≡ start_kept bytes v
    taken_is v l =
        let made : not (eqb (nat by v) 0) ≡ is_made (saved_tables bytes) v = ap not (maker-zero t by M v l) ∙ not-not (is_made t v) ∙ ap (λ (s : Tables). is_made s v) P.tables in
        ap₂ (start_test (leb (rows_from 24 (suc v)) (length bytes))) made (value-is v l ∙ sym (get_or-take (n_in bytes) (start_given bytes) v (pos 0) (let e = n-is in omega arith)))

    pub starts-ready : (taken : List Bool) {said : List Bool} {put : List ℤ} → said ≡ over t.n (start_taken (length bytes) by starts) taken
        → put ≡ over t.n (λ v. cond (start_taken (length bytes) by starts v) (get_or starts v (pos 0)) (pos 0)) starts
        → SavedReady bytes m t (take t.n put) row said
    starts-ready taken {said} {put} p q = record {
      head = P.head;
      rows = P.rows;
      tables = P.tables;
      values =
          let old : ℕ → ℤ = λ v. cond (start_taken (length bytes) by starts v) (get_or starts v (pos 0)) (pos 0) in
          let new : ℕ → ℤ = λ v. cond (start_kept bytes v) (get_or (start_given bytes) v (pos 0)) (pos 0) in
          ap (take t.n) q ∙ over-front old t.n starts
          ∙ below-same old new t.n (λ v l. ap₂ (λ b x. cond b x (pos 0)) (taken_is v l) (value-is v l)) ∙ ap (below new) n-is;
      standing = P.standing;
      kept = λ v l. ap (λ k. get_or k v false) p ∙ over-at (start_taken (length bytes) by starts) t.n taken v false l ∙ taken_is v l;
    }
