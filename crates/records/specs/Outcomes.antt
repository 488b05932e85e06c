-- An answer as C takes it. Assumes nothing.
use Rattle.paper.specs.Calls.{Answer, number_of, place_of, evaluations_of}
use Rattle.records.specs.declared.answers.Outcome.{Outcome}

-- the paper's number, place and evaluations
abbrev pub in_numbers : Answer → Outcome
in_numbers a = record { number = number_of a; place = place_of a; evaluations = evaluations_of a }
