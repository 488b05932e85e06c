-- What was read is written back, whatever the version: an accepted file shows the model that a reader lays over lent rows, so it is that
-- model's file. Assumes nothing.
use Prim.Native.Nat.{ℕ, ◌^◌, ◌≤◌, ◌<◌}
use native.Mathlib.Omega.{arith}
use mathlib.Core.Bool.{true}
use mathlib.Core.List.{List}
use mathlib.Core.Path.{◌≡◌, refl}
use lib.ListN.{length, drop, length-append}
use mir.Syntax.{Width, w16, w32}
use mir.Val.{to_z, of_z, bits}
use mir.Facts.{of_z-to_z}
use Rattle.paper.specs.Lists.{nat, below, over}
use Rattle.paper.specs.Checks.{accepted}
use Rattle.paper.specs.File.{field, Version, Contents, file_bytes, held, header, n_in, m_in, e_in, laid}
use Rattle.paper.proofs.Buffers.{length-below, over-at}
use Rattle.paper.proofs.Sizes.{held_of}
use Rattle.paper.proofs.Fields.{field-small}
use Rattle.paper.proofs.Heads.{accepted-holds}
use Rattle.paper.proofs.Shown.{shown-file}
use Rattle.paper.proofs.Reading.{headed}

-- a row is as long as what was laid over it
over-long : {A : Type 0} (n : ℕ) (f : ℕ → A) (before : List A) → n ≤ length (over n f before)
over-long n f before = let own = length-below f n in omega (arith, length-append (below f n) (drop n before))

module _ (v : Version) (b : List ℕ) (ok : header v b ≡ accepted) (c : Contents) where
  abbrev back : Contents
  back = laid v b (n_in b) (m_in b) (e_in b) c

  pub held-again : held v back ≡ true
  held-again = let h = headed v b ok in held_of v back (record { sized = search over-long; starts = search over-long; lows = search over-long; highs = search over-long })

  module _ (small : (i : ℕ) → nat b i < 256) where
    -- the bits of a signed number are the field that it was read from
    bits_back : (width : Width) (w : ℕ) → 256 ^ w ≡ 2 ^ bits width → (k : ℕ) → of_z width (to_z width (field w k b)) ≡ field w k b
    bits_back width w same k = let f = field-small b small w k in of_z-to_z {w = width} (record { fits = rw same at f })

    pub rewritten : file_bytes v back ≡ b
    rewritten =
        let h = headed v b ok in
        shown-file v back b small h.whole (record {
          head = accepted-holds b v ok;
          start = λ i l. simp (over-at, bits_back w32 4 refl) (omega arith);
          row = λ r l. simp (over-at, bits_back w32 4 refl) (omega arith);
          entry = λ i l. simp (over-at, bits_back w16 2 refl) (omega arith);
          bound = λ i l. simp (over-at, bits_back w32 4 refl) (omega arith);
        })
