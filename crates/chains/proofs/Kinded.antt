-- The tables that groups depend on have the makers, chains, groups and numbers of the whole: kinds apart, groups read only what makes which variable from
-- which. Assumes nothing.
use mathlib.Core.List.{List, []}
use mathlib.Core.Path.{◌≡◌, refl}
use Prim.Native.Nat.{ℕ}
use lib.IntN.{ℤ}
use Rattle.paper.specs.Tables.{Tables, lent, row_of}
use Rattle.paper.specs.Chains.{permitted, group_number, group_order, closes, groups_numbered}
use Rattle.tables.specs.Makers.{Makers}
use Rattle.order.specs.Formed.{Formed}
use Rattle.order.proofs.Bare.{bare_of}
use Rattle.chains.specs.Links.{kinded, Grouped}

abbrev pub kinded_of : Tables → Tables
kinded_of t = kinded t.n t.m t.kinds t.makes t.firsts t.counts t.vars

-- whatever the kinds, parameters and coefficients
formed_like : (t : Tables) (e : ℕ) (kinds : List ℕ) (params coefs : List ℤ) → Formed t → Formed (lent t.n t.m e kinds t.makes params t.firsts t.counts t.vars coefs)
unfolding row_of
formed_like t e kinds params coefs F = record {
  some = F.some;
  few = F.few;
  rows = F.rows;
  makes = F.makes;
  firsts = F.firsts;
  counts = F.counts;
  row_makes = F.row_makes;
  row_reads = F.row_reads;
  row_inside = F.row_inside;
  row_small = F.row_small;
  row-of = F.row-of;
  made_by = F.made_by;
  made-below = F.made-below;
  inputs-below = F.inputs-below;
}

pub formed-kinded : (t : Tables) → Formed (bare_of t) → Formed (kinded_of t)
formed-kinded t F = formed_like (bare_of t) 0 t.kinds [] [] F

pub formed_bare : (t : Tables) → Formed t → Formed (bare_of t)
formed_bare t F = formed_like t 0 [] [] [] F

pub makers-kinded : (t : Tables) (by : List ℕ) → Makers t by → Makers (kinded_of t) by
makers-kinded t by M = record { long = M.long; at = M.at }

pub permitted-kinded : (t : Tables) → permitted (kinded_of t) ≡ permitted t
unfolding row_of
permitted-kinded t = refl

pub number-kinded : (t : Tables) → group_number (kinded_of t) ≡ group_number t
unfolding row_of group_number
number-kinded t = refl

pub order-kinded : (t : Tables) → group_order (kinded_of t) ≡ group_order t
unfolding row_of group_number
order-kinded t = refl

pub closes-kinded : (t : Tables) → closes (kinded_of t) ≡ closes t
unfolding row_of
closes-kinded t = refl

pub eight-kinded : (t : Tables) (numbers ord : List ℕ) → groups_numbered (kinded_of t) numbers ord ≡ groups_numbered t numbers ord
unfolding row_of group_number
eight-kinded t numbers ord = refl

pub grouped-kinded : (t : Tables) (numbers : List ℕ) → Grouped t numbers → Grouped (kinded_of t) numbers
unfolding row_of group_number
grouped-kinded t numbers G = record { permitted = G.permitted; shared = record { long = G.shared.long; at = G.shared.at } }
