-- `sent` meets its contract, a case for each generation. Assumes nothing.
use mathlib.Core.Path.{sym, ap}
use Rattle.rules.specs.Sending.{send_answer}
use Rattle.sending.specs.Generations.{generation_of}
use Rattle.sending.proofs.sent.Goals as goal

pub returns-in-Testing : goal.returns-in-Testing
unfolding send_answer generation_of
returns-in-Testing c = ap (λ f. send_answer (generation_of f)) (sym c.in-Testing.is)

pub returns-in-Killing : goal.returns-in-Killing
unfolding send_answer generation_of
returns-in-Killing c = ap (λ f. send_answer (generation_of f)) (sym c.in-Killing.is)

pub returns-in-Stopping : goal.returns-in-Stopping
unfolding send_answer generation_of
returns-in-Stopping c = ap (λ f. send_answer (generation_of f)) (sym c.in-Stopping.is)

pub returns-in-Dropping : goal.returns-in-Dropping
unfolding send_answer generation_of
returns-in-Dropping c = ap (λ f. send_answer (generation_of f)) (sym c.in-Dropping.is)

pub returns-in-Absorbing : goal.returns-in-Absorbing
unfolding send_answer generation_of
returns-in-Absorbing c = ap (λ f. send_answer (generation_of f)) (sym c.in-Absorbing.is)

pub returns-in-Marking : goal.returns-in-Marking
unfolding send_answer generation_of
returns-in-Marking c = ap (λ f. send_answer (generation_of f)) (sym c.in-Marking.is)

pub returns-in-Keeping : goal.returns-in-Keeping
unfolding send_answer generation_of
returns-in-Keeping c = ap (λ f. send_answer (generation_of f)) (sym c.in-Keeping.is)
