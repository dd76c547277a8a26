-- `taker_place` meets its contract. The invariant: what is left to search is the table from a place on. Assumes
-- nothing.
use mathlib.Core.Path.{◌≡◌}
use Prim.Native.Nat.{◌+◌}
use lib.ListN.{drop}
use Rattle.lists.specs.Lists.{find}
use Rattle.rules.specs.Taking.{can_take_some}
use Rattle.tables.specs.Tables.{held_threads}
use Rattle.sound.specs.Lent.{lent, view_of}
use Rattle.looking.proofs.taker_place.Given as goal

abbrev pub invariant-loop-place : goal.invariant-loop-place
invariant-loop-place l =
    find (can_take_some (view_of (lent l.ps l.ts l.tb l.pb)) l.process) (held_threads l.ts)
    ≡ l.place + find (can_take_some (view_of (lent l.ps l.ts l.tb l.pb)) l.process) (drop l.place (held_threads l.ts))
