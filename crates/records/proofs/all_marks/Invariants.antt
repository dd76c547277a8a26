use Prim.Native.Nat.{ℕ, ◌<◌}
use mathlib.Core.Path.{◌≡◌}
use mathlib.Core.List.{[]}
use lib.ListN.{length, get_or}
use Rattle.records.proofs.all_marks.Given as goal

abbrev pub invariant-loop-queue : goal.invariant-loop-queue
invariant-loop-queue g l =
    (length l.seen ≡ g.row.N)
    × ((i : ℕ) → i < l.queue → get_or l.seen i 0 ≡ get_or ((g.Q.Queues.pass l.queues).seen []) i 0)
