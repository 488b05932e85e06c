use mathlib.Core.Bool.{Bool}
use mathlib.Core.Path.{◌≡◌, refl}
use lib.IntN.{ℤ, pos}
use borrow.Author.Rules.{rules}
use Rattle.std.proofs.lemmas.Fn.{fronts, fold_over}
use Rattle.std.proofs.lemmas.Iterator.{YieldsList-from_slice}
use Rattle.integers.specs.Integers.{eq_z}
use Rattle.paper.specs.Lists.{all}
use Rattle.tables.proofs.Whole.{fold_push}
use Rattle.tables.proofs.number.all_one.Goals as goal

pub returns : goal.returns
returns c =
    let p : ℤ → Bool = λ z. eq_z z (pos 1) in
    fold_over fronts _ _ (λ ys b. b ≡ all p ys) _ (λ ys a x b f j k. (fold_push p ys x.now j (search rules), search rules)) c.iter.result c.args.part.now _ _ (YieldsList-from_slice {s = c.iter.result} c.args.part.now cc).runs refl c.fold.ensures.ran
