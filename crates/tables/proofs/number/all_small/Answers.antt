use mathlib.Core.Bool.{Bool}
use mathlib.Core.Path.{◌≡◌, refl}
use lib.Dec.{leb}
use lib.IntN.{ℤ, nat_abs}
use borrow.Author.Rules.{rules}
use Rattle.std.proofs.lemmas.Fn.{fronts, fold_over}
use Rattle.std.proofs.lemmas.Iterator.{YieldsList-from_slice}
use Rattle.paper.specs.Lists.{all}
use Rattle.tables.proofs.Whole.{fold_push}
use Rattle.tables.proofs.number.all_small.Goals as goal

pub returns : goal.returns
returns c =
    let p : ℤ → Bool = λ z. leb (nat_abs z) 1000 in
    fold_over fronts _ _ (λ ys b. b ≡ all p ys) _ (λ ys a x b f j k. (fold_push p ys x.now j (search rules), search rules)) c.iter.result c.args.part.now _ _ (YieldsList-from_slice {s = c.iter.result} c.args.part.now cc).runs refl c.fold.ensures.ran
