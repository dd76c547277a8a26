-- `remove` meets its contract. Its loop keeps `Moving`. Assumes nothing.
use Prim.Native.Nat.{◌≤◌, ◌<◌}
use Rattle.limits.specs.Limits.{buffer_records}
use Rattle.queue.proofs.Changes.{Moving}
use Rattle.queue.proofs.remove.Given as goal

abbrev pub invariant-loop-i : goal.invariant-loop-i
invariant-loop-i l = (l.n ≤ buffer_records) × (l.i < l.n) × Moving l.k l.initial.b l.b l.i
