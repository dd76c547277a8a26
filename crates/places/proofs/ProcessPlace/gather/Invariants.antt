use Prim.Native.Nat.{◌*◌}
use Rattle.tables.specs.Tables.{process_at}
use Rattle.places.specs.Notes.{block, Gathers}
use Rattle.places.proofs.ProcessPlace.gather.Given as goal

abbrev pub invariant-loop-n : goal.invariant-loop-n
invariant-loop-n l = Gathers (process_at l.self.table.words.now l.self.place).holds (l.n * block) l.g
