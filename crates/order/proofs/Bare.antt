-- Tables that passed checks 1 to 5 are formed, and the bare ones have the same makers, chains, numbers and order as the whole. Assumes nothing.
use native.Mathlib.Omega.{arith}
use mathlib.Core.List.{List}
use mathlib.Core.Path.{◌≡◌, refl}
use Prim.Native.Nat.{ℕ}
use Rattle.paper.specs.Tables.{Tables, net, row_of, ends}
use Rattle.paper.specs.Checks.{Sound}
use Rattle.paper.proofs.Straight.{number, numbered}
use Rattle.paper.proofs.Sizes.{sized-facts}
use Rattle.paper.proofs.Accept.{sound-row, row-of, made_by, made-below, inputs-below}
use Rattle.tables.specs.Makers.{Makers}
use Rattle.order.specs.Formed.{bare, Formed}

abbrev pub bare_of : Tables → Tables
bare_of t = bare t.n t.m t.makes t.firsts t.counts t.vars

pub formed-of : (t : Tables) → Sound t → Formed (bare_of t)
unfolding row_of
formed-of t s =
    let z = sized-facts t s.sized in
    record {
      some = z.n-some;
      few = z.n-most;
      rows = z.m-most;
      makes = z.makes;
      firsts = z.firsts;
      counts = z.counts;
      row_makes = λ r l. (sound-row t s r l).makes;
      row_reads = λ r l. (sound-row t s r l).some;
      row_inside = λ r l. let h = (sound-row t s r l).inside in omega arith;
      row_small = λ r l. let h = (sound-row t s r l).inside in omega arith;
      row-of = row-of t s;
      made_by = made_by t s;
      made-below = made-below t s;
      inputs-below = inputs-below t s;
    }

pub makers-bare : (t : Tables) (by : List ℕ) → Makers t by → Makers (bare_of t) by
makers-bare t by M = record { long = M.long; at = M.at }

pub ends-bare : (t : Tables) → ends (bare_of t) ≡ ends t
unfolding row_of
ends-bare t = refl

pub number-bare : (t : Tables) → number (net (bare_of t)) t.n ≡ number (net t) t.n
unfolding row_of
number-bare t = refl

pub numbered-bare : (t : Tables) (nums ord : List ℕ) → numbered (bare_of t) nums ord ≡ numbered t nums ord
unfolding row_of
numbered-bare t nums ord = refl
