-- It is told whether a chain closes: if one does the choices are followed (`steady`), and else each route goes along the order (`along`).
-- Route 1 asks for nothing, so what is asked plays no part in it. Assumes nothing.
use mathlib.Core.List.{List}
use mathlib.Core.Path.{sym, ◌∙◌}
use Prim.Native.Nat.{ℕ}
use Rattle.paper.specs.Tables.{Tables}
use Rattle.routes.specs.Rows.{Along, Ended}
use Rattle.fills.proofs.Runs.{along, steady}
use Rattle.fills.proofs.running.run_route.Goals as goal

-- what a route that asks needs of the order
ended : {t : Tables} {ord : List ℕ} → Along t ord → Ended t
ended a = record { sound = a.sound; chains = a.chains }

pub follow_route-requires-clause-steady : goal.follow_route-requires-clause-steady
follow_route-requires-clause-steady c = steady _ _ _ _ c.requires.running (sym c.requires.closing ∙ c.if-closed.true)

pub input_to_output-requires-clause-along : goal.input_to_output-requires-clause-along
input_to_output-requires-clause-along c = along _ _ _ _ c.requires.running (sym c.requires.closing ∙ c.if-closed.false)

pub output_to_input-requires-clause-ended : goal.output_to_input-requires-clause-ended
output_to_input-requires-clause-ended c = ended (along _ _ _ _ c.requires.running (sym c.requires.closing ∙ c.if-closed.false))

pub mark_guided-requires-clause-ended : goal.mark_guided-requires-clause-ended
mark_guided-requires-clause-ended c = ended (along _ _ _ _ c.requires.running (sym c.requires.closing ∙ c.if-closed.false))

pub returns-in-InputToOutput : goal.returns-in-InputToOutput
returns-in-InputToOutput c = rw (sym c.of_number.ensures, c.in-InputToOutput.is) (record { values = c.input_to_output.ensures.values; flagged = c.input_to_output.ensures.flagged })
