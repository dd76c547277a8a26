-- `change_threads_marks` meets its contract. The invariant: the threads below i have their marks changed.
-- Assumes nothing.
use Rattle.effects.specs.Effects.{with_marking_of}
use Rattle.effects.proofs.Marks.{Passing}
use Rattle.effects.proofs.change_threads_marks.Given as goal

abbrev pub invariant-loop-i : goal.invariant-loop-i
invariant-loop-i l = Passing (with_marking_of l.process l.how) l.initial.ts l.ts l.i
