use Rattle.std.proofs.Common.{ℕ, ◌<◌, Bool, false, get_or, length-take-le, arith}
use Rattle.damage.specs.Flags.{flag_wanted}
use Rattle.damage.proofs.Stored.{those-joined, placed-fits, placed-taken, placed-passed, placed_end, wanted-of}
use Rattle.damage.proofs.flags.list_flagged.Goals.{then-flag-wanted, else-flag-wanted}
use Rattle.damage.proofs.flags.list_flagged.Goals as goal

pub bounds-list-to : goal.bounds-list-to
bounds-list-to c =
    let p : ℕ → Bool = λ v. flag_wanted c.args.wanted (get_or c.args.flags.now v false) in
    let low : c.loop-i.i < c.args.n = omega (arith, length-take-le c.args.n c.args.flags.now c.requires.0) in
    placed-fits p c.loop-i.invariant.1 (wanted-of c.args.flags.now c.args.wanted _ c.args.n low c.if-flag-wanted.true) c.args.n low c.requires.2

pub overflow_add-to : goal.overflow_add-to
overflow_add-to c =
    let p : ℕ → Bool = λ v. flag_wanted c.args.wanted (get_or c.args.flags.now v false) in
    let low : c.loop-i.i < c.args.n = omega (arith, length-take-le c.args.n c.args.flags.now c.requires.0) in
    let fits = placed-fits p c.loop-i.invariant.1 (wanted-of c.args.flags.now c.args.wanted _ c.args.n low c.if-flag-wanted.true) c.args.n low c.requires.2 in omega arith

pub offset_bounds-list-to : goal.offset_bounds-list-to
offset_bounds-list-to c =
    let p : ℕ → Bool = λ v. flag_wanted c.args.wanted (get_or c.args.flags.now v false) in
    let low : c.loop-i.i < c.args.n = omega (arith, length-take-le c.args.n c.args.flags.now c.requires.0) in
    let fits = placed-fits p c.loop-i.invariant.1 (wanted-of c.args.flags.now c.args.wanted _ c.args.n low c.if-flag-wanted.true) c.args.n low c.requires.2 in omega arith

pub loop-i-preserved : goal.loop-i-preserved
loop-i-preserved c =
    let p : ℕ → Bool = λ v. flag_wanted c.args.wanted (get_or c.args.flags.now v false) in
    let low : c.loop-i.i < c.args.n = omega (arith, length-take-le c.args.n c.args.flags.now c.requires.0) in (
      omega arith,
      elim c.if-flag-wanted.branch [
        | then-flag-wanted w ↦ rw (w.list-is, w.to-is) (placed-taken p c.loop-i.invariant.1 (wanted-of c.args.flags.now c.args.wanted _ c.args.n low w.if-flag-wanted.true))
        | else-flag-wanted w ↦ rw (w.list-is, w.to-is) (placed-passed p c.loop-i.invariant.1 (wanted-of c.args.flags.now c.args.wanted _ c.args.n low w.if-flag-wanted.false))
      ],
    )

pub returns : goal.returns
returns c =
    rw (those-joined (λ v. flag_wanted c.args.wanted (get_or c.args.flags.now v false)) c.args.n)
    (placed_end c.loop-i.invariant.1 c.args.n (omega (arith, length-take-le c.args.n c.args.flags.now c.requires.0)))
