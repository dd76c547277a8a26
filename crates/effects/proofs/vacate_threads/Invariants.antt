-- `vacate_threads` meets its contract. The invariant: the places below i are free where they were the process's.
-- Assumes nothing.
use Rattle.effects.proofs.Marks.{Passing, vacated_of}
use Rattle.effects.proofs.vacate_threads.Given as goal

abbrev pub invariant-loop-i : goal.invariant-loop-i
invariant-loop-i l = Passing (vacated_of l.process) l.initial.ts l.ts l.i
