-- `signals_of` meets its contract. The invariant: the set has the signals of the queue's records before i.
-- Assumes nothing.
use mathlib.Core.Path.{◌≡◌}
use Prim.Native.Nat.{◌≤◌}
use lib.ListN.{take}
use Rattle.limits.specs.Limits.{buffer_records}
use Rattle.rules.specs.View.{target_queue}
use Rattle.queue.specs.Queue.{records_of, signals_in}
use Rattle.queue.proofs.signals_of.Given as goal

abbrev pub invariant-loop-i : goal.invariant-loop-i
invariant-loop-i l =
    (l.n ≤ buffer_records) × (l.i ≤ l.n)
    × (l.set ≡ signals_in (target_queue l.process l.thread) (take l.i (records_of l.b)))
