-- Each figure is that of the definition, and the test leaves room for the sums. Assumes nothing.
use Rattle.std.proofs.Common.{◌+◌, ap₂, ◌∙◌, rules, ◌+ℤ◌}
use mir.Syntax.{w32, w64}
use mir.Val.{SFits}
use mir.Facts.{to_z-of_z}
use Rattle.paper.specs.Formula.{lesser, greater}
use Rattle.figures.specs.Figures.{one_of}
use Rattle.merging.proofs.Fits.{totals-known}
use Rattle.merging.proofs.add_totals.Goals as goal

pub add_sums-requires : goal.add_sums-requires
add_sums-requires c =
    let a = c.args in
    let one : SFits w64 a.first.sum = search rules in
    let two : SFits w64 a.second.sum = search rules in
    simp (to_z-of_z one, to_z-of_z two) (totals-known a.first a.second c.requires).sums

pub overflow_add-result-2 : goal.overflow_add-result-2
overflow_add-result-2 c = let k = (totals-known c.args.first c.args.second c.requires).first in search rules

pub overflow_add-result-3 : goal.overflow_add-result-3
overflow_add-result-3 c = let k = (totals-known c.args.first c.args.second c.requires).second in search rules

pub overflow_add-result-4 : goal.overflow_add-result-4
overflow_add-result-4 c = let k = (totals-known c.args.first c.args.second c.requires).third in search rules

pub returns : goal.returns
returns c =
    let t = c.args.first in
    let o = c.args.second in
    let l1 : SFits w32 t.least = search rules in
    let l2 : SFits w32 o.least = search rules in
    let g1 : SFits w32 t.greatest = search rules in
    let g2 : SFits w32 o.greatest = search rules in
    let s1 : SFits w64 t.sum = search rules in
    let s2 : SFits w64 o.sum = search rules in
    let l : SFits w32 c.least_of.result = search rules in
    let g : SFits w32 c.greatest_of.result = search rules in
    let s : SFits w64 c.add_sums.result = search rules in
    let least_is = to_z-of_z l ∙ c.least_of.ensures ∙ ap₂ (one_of lesser) (to_z-of_z l1) (to_z-of_z l2) in
    let greatest_is = to_z-of_z g ∙ c.greatest_of.ensures ∙ ap₂ (one_of greater) (to_z-of_z g1) (to_z-of_z g2) in
    let sum_is = to_z-of_z s ∙ c.add_sums.ensures ∙ ap₂ ◌+ℤ◌ (to_z-of_z s1) (to_z-of_z s2) in
    λ i. record {
      blank = t.blank + o.blank;
      least = least_is i;
      greatest = greatest_is i;
      sum = sum_is i;
      first = t.first + o.first;
      second = t.second + o.second;
      third = t.third + o.third;
    }
