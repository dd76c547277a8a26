-- `count_of` meets its contract. The invariant: k of the records before i are of the process. Assumes nothing.
use mathlib.Core.Path.{◌≡◌}
use Prim.Native.Nat.{◌+◌, ◌≤◌}
use lib.ListN.{drop}
use Rattle.limits.specs.Limits.{buffer_records}
use Rattle.lists.specs.Lists.{count}
use Rattle.rules.specs.Store.{of_process}
use Rattle.queue.specs.Queue.{records_of}
use Rattle.queue.proofs.count_of.Given as goal

abbrev pub invariant-loop-i : goal.invariant-loop-i
invariant-loop-i l =
    (l.n ≤ buffer_records) × (l.i ≤ l.n) × (l.k ≤ l.i)
    × (l.k + count (of_process l.process) (drop l.i (records_of l.b)) ≡ count (of_process l.process) (records_of l.b))
