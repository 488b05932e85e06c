-- What the exit of a `?` answers. Assumes nothing.
use Rattle.std.proofs.Common.{◌≡◌, ap, Result, Ok, Err, IsErrAnd}

pub left_early : {T E : Type 0} (r : Result T E) {e : E} → IsErrAnd r (λ y. y ≡ e) → r ≡ Err e
left_early (Ok x) h = absurd h
left_early (Err y) h = ap Err h
