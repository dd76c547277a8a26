use Rattle.queue.specs.Queue.{records_of}
use Rattle.records.proofs.Loops.{After}
use Rattle.records.proofs.counted.Given as goal

abbrev pub invariant-loop-slot : goal.invariant-loop-slot
invariant-loop-slot g l = After (g.Q.Queues.pass l.queues) (records_of l.buffer) l.pending.counts l.pending.seen l.slot
