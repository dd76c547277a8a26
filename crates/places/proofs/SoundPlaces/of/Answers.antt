use mathlib.Core.Path.{sym, ◌∙◌}
use Rattle.lists.proofs.Bools.{and_left, and_right, and_both}
use Rattle.tables.specs.Tables.{processes_of, threads_of}
use Rattle.tables.proofs.Words.{length-processes_of, length-threads_of}
use Rattle.soundness.specs.Check.{process_by, thread_by, processes_ok, threads_ok, places_ok}
use Rattle.soundness.proofs.Regrouped.{processes-one}
use Rattle.places.proofs.Notes.{threaded-all}
use Rattle.places.proofs.SoundPlaces.of.Goals as goal

pub returns-in_err-ignored : goal.returns-in_err-ignored
unfolding places_ok
returns-in_err-ignored c = rw c.from_residual.ensures (and_left _ c.in_err-ignored.ensures)

pub threads_ok-requires-clause-one_place : goal.threads_ok-requires-clause-one_place
threads_ok-requires-clause-one_place c =
    let ps = c.args.processes.now in
    processes-one (process_by ps.hints.now ps.words.now) (processes_of ps.words.now) (length-processes_of ps.words.now)
    c.in_ok-ignored.ensures.0

pub returns-in_err-owners : goal.returns-in_err-owners
unfolding places_ok
returns-in_err-owners c =
    let ps = c.args.processes.now in
    rw c.from_residual-in_err-owners.ensures
    (and_right (processes_ok (process_by ps.hints.now ps.words.now) (processes_of ps.words.now))
    (and_left _ c.in_err-owners.ensures))

pub returns-then-not-all_have_threads : goal.returns-then-not-all_have_threads
unfolding places_ok
returns-then-not-all_have_threads c =
    let ps = c.args.processes.now in
    let ts = c.args.threads.now in
    let xs = processes_of ps.words.now in
    let ys = threads_of ts.words.now in
    let all = threaded-all xs ys (length-threads_of ts.words.now) c.in_ok-owners.owners.threaded
    c.in_ok-owners.ensures.1.1 in
    and_right (processes_ok (process_by ps.hints.now ps.words.now) xs)
    (and_right (threads_ok (thread_by ts.hints.now ts.words.now) xs ys)
    (sym all ∙ sym c.if-not-all_have_threads.ensures))

pub invariant_of-result : goal.invariant_of-result
unfolding places_ok
invariant_of-result c =
    let ts = c.args.threads.now in
    let xs = processes_of c.args.processes.now.words.now in
    let ys = threads_of ts.words.now in
    let all = threaded-all xs ys (length-threads_of ts.words.now) c.in_ok-owners.owners.threaded
    c.in_ok-owners.ensures.1.1 in
    record {
      sound =
          and_both c.in_ok-ignored.ensures.0
          (and_both c.in_ok-owners.ensures.0 (sym all ∙ sym c.if-not-all_have_threads.ensures));
      ignored_noted = c.in_ok-ignored.ensures.1;
      owners_noted = c.in_ok-owners.ensures.1.0;
    }
