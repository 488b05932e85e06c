-- Of the rows passed none is ELEMENT exactly if nothing is found. Assumes nothing.
use Rattle.std.proofs.Common.{rules, ◌≡◌, refl, ap, sym, ◌∙◌, ℕ, Bool, eqb, not, ◌||◌, take}
use Rattle.std.proofs.lemmas.Fn.{fronts, fold_over}
use Rattle.std.proofs.lemmas.Iterator.{YieldsList-from_slice}
use Rattle.paper.specs.Lists.{all}
use Rattle.tables.proofs.Whole.{fold_push, all-first}
use Rattle.chains.proofs.Elements.{not-or, not-not}
use Rattle.chains.proofs.closed.some_element.Goals as goal

pub returns : goal.returns
returns c =
    let t = c.args.tables.now in let p : ℕ → Bool = λ k. not (eqb k 4) in let front = take t.m t.kinds.now in
    let none = fold_over fronts _ _ (λ ys b. not b ≡ all p ys) _ (λ ys a x b f j k.
    let e : b ≡ (a || eqb x.now 4) = search rules in (fold_push p ys x.now j (ap not e ∙ not-or a (eqb x.now 4)), search rules)) c.iter.result front _ _ (YieldsList-from_slice {s = c.iter.result} front cc).runs refl c.fold.ensures.ran in
    sym (not-not _) ∙ ap not (none ∙ all-first p 0 t.m t.kinds.now c.requires)
