use Prim.Native.Nat.{ℕ, max}
use mathlib.Core.List.{List, [], ◌∷◌, ◌++◌}
use mathlib.Core.Path.{◌≡◌, refl}
use native.Mathlib.Omega.{arith}
use borrow.Author.Rules.{rules}
use Rattle.std.proofs.lemmas.Fn.{fronts, fold_over}
use Rattle.std.proofs.lemmas.Iterator.{YieldsList-from_slice}
use Rattle.paper.specs.Lists.{greatest}
use Rattle.tables.proofs.shape.greatest_of.Goals as goal

-- the greatest of what was passed, and the next
push : (xs : List ℕ) {a b : ℕ} (x : ℕ) → a ≡ greatest xs → b ≡ max a x → b ≡ greatest (xs ++ (x ∷ []))
push [] x h e = omega arith
push (y ∷ ys) x h e = let rest : max (greatest ys) x ≡ greatest (ys ++ (x ∷ [])) = push ys x refl refl in omega arith

pub returns : goal.returns
returns c =
    fold_over fronts _ _ (λ ys b. b ≡ greatest ys) _ (λ ys a x b f j k. (push ys x.now j (search rules), search rules)) c.iter.result c.args.vars.now _ _ (YieldsList-from_slice {s = c.iter.result} c.args.vars.now cc).runs refl c.fold.ensures.ran
