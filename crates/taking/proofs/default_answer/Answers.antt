-- `default-answer` meets its contract, a case for each outcome. Assumes nothing.
use mathlib.Core.Path.{ap, sym}
use Rattle.rules.specs.Taking.{outcome_answer}
use Rattle.taking.specs.Takes.{outcome_of}
use Rattle.taking.proofs.default_answer.Goals as goal

pub returns-in-Ignores : goal.returns-in-Ignores
unfolding outcome_answer outcome_of
returns-in-Ignores c = ap (λ o. outcome_answer (outcome_of o) c.args.signal) (sym c.in-Ignores.is)

pub returns-in-Stops : goal.returns-in-Stops
unfolding outcome_answer outcome_of
returns-in-Stops c = ap (λ o. outcome_answer (outcome_of o) c.args.signal) (sym c.in-Stops.is)

pub returns-in-Continues : goal.returns-in-Continues
unfolding outcome_answer outcome_of
returns-in-Continues c = ap (λ o. outcome_answer (outcome_of o) c.args.signal) (sym c.in-Continues.is)

pub returns-in-Ends : goal.returns-in-Ends
unfolding outcome_answer outcome_of
returns-in-Ends c = ap (λ o. outcome_answer (outcome_of o) c.args.signal) (sym c.in-Ends.is)
