-- The invariant: every hint is a place.
use Rattle.hints.proofs.Table.{Filling}
use Rattle.hints.proofs.Indexed.of.Given as goal

abbrev pub invariant-loop-place : goal.invariant-loop-place
invariant-loop-place g l = Filling g.row.PLACES l.hints
