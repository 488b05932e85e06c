-- The demands on the model file, over what the calls state, once over the version: what was written is read back to the same model, what was
-- read is written back to the same bytes, and a refused call changes nothing. Assumes nothing.
use Prim.Native.Nat.{ℕ, ◌≤◌, ◌<◌}
use native.Mathlib.Omega.{arith}
use mathlib.Core.Bool.{Bool, true, false, ◌&&◌}
use mathlib.Core.List.{List, ◌++◌}
use mathlib.Core.Path.{◌≡◌, refl, ap₂, sym, subst, ◌∙◌}
use lib.Dec.{leb}
use lib.ListN.{length, take, drop}
use lib.Seq.{take_at}
use Rattle.paper.specs.Lists.{nat}
use Rattle.paper.specs.Checks.{Verdict, accepted, refused, require, leaves}
use Rattle.paper.specs.File.{Version, ends_at, Contents, counted, file_bytes, held, write_verdict, write, read_verdict, read, Fitting, cut}
use Rattle.paper.proofs.Lists.{and_left}
use Rattle.paper.proofs.Verdicts.{require-held}
use Rattle.paper.proofs.Written.{file-length, write-whole}
use Rattle.paper.proofs.Reading.{headed, read-headed}
use Rattle.paper.proofs.Rewritten.{held-again, rewritten}
use Rattle.paper.proofs.Reread.{reread, cut-back}

-- ── a refused call ──
pub as-was : {A : Type 0} (w : Verdict) (after before : A) → (w ≡ accepted → ⊥) → leaves w after before ≡ before
as-was accepted after before no_Ok = absurd (no_Ok refl)
as-was (refused number place) after before no_Ok = refl

one-refusal : (code place : ℕ) (good : Bool) → (require code place good accepted ≡ accepted → ⊥) → require code place good accepted ≡ refused code place
one-refusal code place true no_Ok = absurd (no_Ok refl)
one-refusal code place false no_Ok = refl

module _ (v : Version) where
  -- the one check of a call that writes
  abbrev asked : Contents → List ℕ → Bool
  asked c bytes = let t = c.tables in held v c && leb (ends_at v t.n t.m t.e) (length bytes)

  pub write-refused : (c : Contents) (bytes : List ℕ) → ((write v c bytes).0 ≡ accepted → ⊥) → write v c bytes ≡ (refused 1 0, bytes)
  unfolding write_verdict
  write-refused c bytes no_Ok = ap₂ (λ w l. (w, l)) (one-refusal 1 0 (asked c bytes) no_Ok) (as-was (write_verdict v c bytes) _ bytes no_Ok)

  pub read-refused : (bytes : List ℕ) (c : Contents) → ((read v bytes c).0 ≡ accepted → ⊥) → (read v bytes c).1 ≡ counted 0 0 0 c
  read-refused bytes c = as-was (read_verdict v bytes c) _ (counted 0 0 0 c)

  -- ── an accepted call that writes: the rows were lent, and the file stands in front ──
  module _ (c : Contents) (bytes : List ℕ) (ok : (write v c bytes).0 ≡ accepted) where
    open c use {tables}
    open tables use {n, m, e}

    was-held : held v c ≡ true
    unfolding write_verdict
    was-held = and_left (held v c) (leb (ends_at v n m e) (length bytes)) (require-held 1 0 (asked c bytes) accepted ok)

    file-front : take (ends_at v n m e) (write v c bytes).1 ≡ file_bytes v c
    file-front = rw ok (take_at (file_bytes v c) (drop (ends_at v n m e) bytes) (ends_at v n m e) (file-length v c))

  -- ── there and back ──
  pub read_back : (c : Contents) (bytes : List ℕ) → Fitting v c → (write v c bytes).0 ≡ accepted
      → let t = c.tables in (c₀ : Contents) → held v (counted t.n t.m t.e c₀) ≡ true
      → let file = take (ends_at v t.n t.m t.e) (write v c bytes).1 in
      ((read v file c₀).0 ≡ accepted) × (cut v (read v file c₀).1 ≡ cut v c)
  read_back c bytes fit ok c₀ h =
      let own = was-held c bytes ok in
      rw (file-front c bytes ok)
      (subst (λ left. (left.0 ≡ accepted) × (cut v left.1 ≡ cut v c)) (reread v c own fit c₀ h) (refl, cut-back v c own fit c₀))

  pub written_back : (bytes : List ℕ) → ((i : ℕ) → nat bytes i < 256) → (c₀ : Contents) → (read v bytes c₀).0 ≡ accepted
      → (buffer : List ℕ) → length bytes ≤ length buffer
      → write v (read v bytes c₀).1 buffer ≡ (accepted, bytes ++ drop (length bytes) buffer)
  written_back bytes small c₀ ok buffer l =
      let good = read-headed v bytes c₀ ok in let whole = (headed v bytes good).whole in
      rw ok (sym (write-whole v _ buffer (held-again v bytes good c₀) (omega arith))
      ∙ ap₂ (λ file k. (accepted, file ++ drop k buffer)) (rewritten v bytes good c₀ small) (sym whole))
