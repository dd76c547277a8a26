-- `discard` meets its contract. Its loop keeps `Sparing`. Assumes nothing.
use Prim.Native.Nat.{◌≤◌}
use Rattle.limits.specs.Limits.{buffer_records}
use Rattle.queue.specs.Queue.{is_left}
use Rattle.queue.proofs.Changes.{Sparing}
use Rattle.queue.proofs.discard.Given as goal

abbrev pub invariant-loop-i : goal.invariant-loop-i
invariant-loop-i l = (l.n ≤ buffer_records) × (l.i ≤ l.n) × Sparing (is_left l.discarded) l.initial.b l.b l.i l.j
