use Prim.Native.Nat.{ℕ}
use mathlib.Core.Bool.{Bool}
use mathlib.Core.Path.{◌≡◌, refl, ◌∙◌}
use lib.ListN.{take}
use borrow.Author.Rules.{rules}
use Rattle.std.proofs.lemmas.Fn.{fronts, fold_over}
use Rattle.std.proofs.lemmas.Iterator.{YieldsList-from_slice}
use Rattle.paper.specs.Lists.{between, all}
use Rattle.tables.proofs.Whole.{fold_push, all-first}
use Rattle.tables.proofs.kind.kinds_good.Goals as goal

pub returns : goal.returns
returns c =
    let p : ℕ → Bool = λ k. between 1 k 9 in let t = c.args.tables.now in
    fold_over fronts _ _ (λ ys b. b ≡ all p ys) _ (λ ys a x b f j k. (fold_push p ys x.now j (search rules), search rules)) c.iter.result (take t.m t.kinds.now) _ _ (YieldsList-from_slice {s = c.iter.result} (take t.m t.kinds.now) cc).runs refl c.fold.ensures.ran
    ∙ all-first p 0 t.m t.kinds.now c.requires
