use mathlib.Core.Path.{◌≡◌}
use mathlib.Core.Bool.{true}
use lib.ListN.{length}
use Rattle.limits.specs.Limits.{process_places}
use Rattle.lists.specs.Lists.{all, range}
use Rattle.tables.specs.Tables.{processes_of}
use Rattle.soundness.specs.Check.{process_ok_at, process_by}
use Rattle.places.specs.Notes.{IgnoredNoted}
use Rattle.places.proofs.processes_ok.Given as goal

abbrev pub invariant-loop-place : goal.invariant-loop-place
invariant-loop-place l =
    let ws = l.ps.words.now in
    (length l.ignored ≡ process_places)
    × ((all (process_ok_at (process_by l.ps.hints.now ws) (processes_of ws)) (range 0 l.place) ≡ true)
    × IgnoredNoted (processes_of ws) l.place l.ignored)
