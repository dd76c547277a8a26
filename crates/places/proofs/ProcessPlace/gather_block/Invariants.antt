use Prim.Native.Nat.{◌+◌}
use Rattle.tables.specs.Tables.{process_at}
use Rattle.places.specs.Notes.{Gathers}
use Rattle.places.proofs.ProcessPlace.gather_block.Given as goal

abbrev pub invariant-loop-i : goal.invariant-loop-i
invariant-loop-i l = Gathers (process_at l.self.table.words.now l.self.place).holds (l.done + l.i) l.h
