-- Over rows at rest the move is begun once it is put in, `guide` runs route 3, and the asked values are read from the row (`trial-filled`). Assumes nothing.
use Rattle.std.proofs.Common.{refl}
use Rattle.fills.proofs.Written.{asked-within, trial-filled}
use Rattle.fills.proofs.Ran.{begun, named}
use Rattle.probes.proofs.Filling.{ended, unmarked, put_is, flags-clear, by-route}
use Rattle.probes.proofs.fill.fill_guided.Goals as goal

pub guide-count-requires-clause-ended : goal.guide-count-requires-clause-ended
guide-count-requires-clause-ended c = ended _ c.requires.trying.keeping.sound c.requires.ended

pub guide-count-requires-clause-named : goal.guide-count-requires-clause-named
guide-count-requires-clause-named c =
    let k = c.requires.trying in
    named _ _ _ _ _ k.keeping _ _ _ k.in-trial (put_is _ _ _ _ _ k _ _ c.requires.rest _ c.put_move.ensures) (flags-clear _ _ _ _ _ k _ _ c.requires.rest)

pub guide-count-requires-clause-begun : goal.guide-count-requires-clause-begun
guide-count-requires-clause-begun c =
    let k = c.requires.trying in
    begun _ _ _ _ _ k.keeping _ _ _ k.in-trial (put_is _ _ _ _ _ k _ _ c.requires.rest _ c.put_move.ensures) (flags-clear _ _ _ _ _ k _ _ c.requires.rest)

pub guide-count-requires-clause-unmarked : goal.guide-count-requires-clause-unmarked
guide-count-requires-clause-unmarked c = unmarked _ _ _ _ _ _ c.requires.rest

pub copy_asked-requires-clause-known : goal.copy_asked-requires-clause-known
copy_asked-requires-clause-known c = asked-within _ _ _ _ _ c.requires.trying _ c.guide-count.ensures.astray.roomy.in-trial

pub returns-clause-filled : goal.returns-clause-filled
returns-clause-filled c =
    let k = c.requires.trying in
    trial-filled _ _ _ _ _ k _ _ _ _ _ _ (put_is _ _ _ _ _ k _ _ c.requires.rest _ c.put_move.ensures) (flags-clear _ _ _ _ _ k _ _ c.requires.rest)
    (by-route c.requires.third c.guide-count.ensures.routed) c.copy_asked.ensures refl
