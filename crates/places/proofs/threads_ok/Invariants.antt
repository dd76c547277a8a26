use mathlib.Core.Path.{◌≡◌}
use mathlib.Core.Bool.{true}
use lib.ListN.{length}
use Rattle.limits.specs.Limits.{process_places, thread_places}
use Rattle.lists.specs.Lists.{all, range}
use Rattle.tables.specs.Tables.{processes_of, threads_of}
use Rattle.soundness.specs.Check.{thread_ok_at, thread_by}
use Rattle.places.specs.Notes.{OwnersNoted, ThreadedNoted}
use Rattle.places.proofs.threads_ok.Given as goal

abbrev pub invariant-loop-place : goal.invariant-loop-place
invariant-loop-place l =
    let xs = processes_of l.ps.words.now in
    let ys = threads_of l.ts.words.now in
    record {
      owners_long : length l.places ≡ thread_places;
      threaded_long : length l.threaded ≡ process_places;
      sound : all (thread_ok_at (thread_by l.ts.hints.now l.ts.words.now) xs ys) (range 0 l.place) ≡ true;
      owners : OwnersNoted xs ys l.place l.places;
      threaded : ThreadedNoted xs ys l.place l.threaded;
    }
