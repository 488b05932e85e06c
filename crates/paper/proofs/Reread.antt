-- What was written is read back, whatever the version: the file of a model shows the model, so its header is accepted and its columns are the
-- model's rows. Assumes nothing.
use Prim.Native.Nat.{ℕ, ◌≤◌, ◌<◌}
use mathlib.Core.Bool.{true}
use mathlib.Core.List.{List}
use mathlib.Core.Path.{◌≡◌, ap, sym, ◌∙◌}
use lib.IntN.{pos}
use lib.ListN.{length, get_or, take}
use mir.Syntax.{w16, w32}
use mir.Val.{to_z}
use mir.Facts.{to_z-of_z}
use Rattle.paper.specs.Lists.{over}
use Rattle.paper.specs.Checks.{Verdict, accepted}
use Rattle.paper.specs.File.{Version, Contents, file_bytes, held, header, n_in, m_in, e_in, counted, laid, read, Fitting, cut}
use Rattle.paper.proofs.Buffers.{below-same, below-list, over-front}
use Rattle.paper.proofs.Sizes.{Held, held-facts}
use Rattle.paper.proofs.Written.{file-length}
use Rattle.paper.proofs.Heads.{Within, head-accepted}
use Rattle.paper.proofs.Shown.{Shows, file-shows}
use Rattle.paper.proofs.Reading.{same-contents, read_done}

-- as far as a column was laid over a row, it is the row that the column was written from
column-back : {A : Type 0} (n : ℕ) (f : ℕ → A) (before row : List A) (d : A) → n ≤ length row → ((i : ℕ) → i < n → f i ≡ get_or row i d)
    → take n (over n f before) ≡ take n row
column-back n f before row d l h = over-front f n before ∙ below-same f (λ i. get_or row i d) n h ∙ below-list row d n l

module _ (v : Version) (c : Contents) (ok : held v c ≡ true) (fit : Fitting v c) where
  open c use {tables}
  open tables use {n, m, e}

  abbrev file : List ℕ
  file = file_bytes v c

  own : Held v c
  own = held-facts v c ok

  within : Within n m e
  within = let s = own.sized in record { n-some = s.n-some; n-most = s.n-most; m-most = s.m-most; e-most = s.e-most }

  shows : Shows v c file
  shows = file-shows v c within fit

  -- the counts in the file are the model's
  counts-in : {A : Type 0} (f : ℕ → ℕ → ℕ → A) → f (n_in file) (m_in file) (e_in file) ≡ f n m e
  counts-in f = let h = shows.head in rw (h.1.0, h.1.1.0, h.1.1.1.0)

  file-accepted : header v file ≡ accepted
  file-accepted = head-accepted file n m e v within (file-length v c) shows.head

  module _ (c₀ : Contents) where
    pub reread : held v (counted n m e c₀) ≡ true → ◌≡◌ {A = Verdict × Contents} (accepted, laid v file n m e c₀) (read v file c₀)
    reread h =
        read_done v file c₀ file-accepted
        (counts-in (λ n m e. held v (counted n m e c₀)) ∙ h) (sym (counts-in (λ n m e. laid v file n m e c₀)))

    pub cut-back : cut v (laid v file n m e c₀) ≡ cut v c
    cut-back =
        let s = own.sized in
        same-contents
        (column-back _ _ _ _ (pos 0) own.starts (λ i l. ap (to_z w32) (shows.start i l).0 ∙ to_z-of_z (fit.starts i l)))
        (column-back _ _ _ _ 0 s.kinds (λ r l. (shows.row r l).0))
        (column-back _ _ _ _ 0 s.makes (λ r l. (shows.row r l).1.0))
        (column-back _ _ _ _ (pos 0) s.params (λ r l. ap (to_z w32) (shows.row r l).1.1.0 ∙ to_z-of_z (fit.rows r l).2))
        (column-back _ _ _ _ 0 s.firsts (λ r l. (shows.row r l).1.1.1.0))
        (column-back _ _ _ _ 0 s.counts (λ r l. (shows.row r l).1.1.1.1.0))
        (column-back _ _ _ _ 0 s.vars (λ i l. (shows.entry i l).0))
        (column-back _ _ _ _ (pos 0) s.coefs (λ i l. ap (to_z w16) (shows.entry i l).1.0 ∙ to_z-of_z (fit.entries i l).1))
        (column-back _ _ _ _ (pos 0) own.lows (λ i l. ap (to_z w32) (shows.bound i l).0 ∙ to_z-of_z (fit.bounds i l).0))
        (column-back _ _ _ _ (pos 0) own.highs (λ i l. ap (to_z w32) (shows.bound i l).1.0 ∙ to_z-of_z (fit.bounds i l).1))
