-- `first_of` meets its contract. The invariant: none of the records before i is of the queue and the signal.
-- Assumes nothing.
use mathlib.Core.Path.{◌≡◌}
use Prim.Native.Nat.{◌+◌, ◌≤◌}
use lib.ListN.{drop}
use Rattle.limits.specs.Limits.{buffer_records}
use Rattle.lists.specs.Lists.{find}
use Rattle.rules.specs.View.{in_queue, target_queue}
use Rattle.queue.specs.Queue.{records_of}
use Rattle.queue.proofs.first_of.Given as goal

abbrev pub invariant-loop-i : goal.invariant-loop-i
invariant-loop-i l =
    (l.i-end ≤ buffer_records)
    × (l.i ≤ l.i-end)
    × (find (in_queue (target_queue l.process l.thread) l.signal) (records_of l.b)
    ≡ l.i + find (in_queue (target_queue l.process l.thread) l.signal) (drop l.i (records_of l.b)))
