-- `has_other` meets its contract: none before a place is another thread of the process. Assumes nothing.
use mathlib.Core.Path.{◌≡◌}
use mathlib.Core.Bool.{false}
use lib.ListN.{take}
use Rattle.lists.specs.Lists.{any}
use Rattle.tables.specs.Tables.{held_threads}
use Rattle.ending.specs.Others.{is_other}
use Rattle.ending.proofs.has_other.Given as goal

abbrev pub invariant-loop-place : goal.invariant-loop-place
invariant-loop-place l = any (is_other l.process l.thread) (take l.place (held_threads l.ts)) ≡ false
