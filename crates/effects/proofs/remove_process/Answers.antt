-- `remove_process` meets its contract: its place, those of its threads and both buffers. Assumes nothing.
use borrow.Author.Rules.{rules}
use Rattle.sound.specs.Lent.{lent, view_of}
use Rattle.sound.proofs.Facts.{processes-long, threads-long, thread-buffer-laid, process-buffer-laid, process-present}
use Rattle.effects.proofs.Makes.{fits_one, makes}
use Rattle.effects.proofs.Fitted.{ended-live}
use Rattle.effects.proofs.Removed.{process-removed}
use Rattle.effects.proofs.remove_process.Goals as goal

pub live_process-place-requires : goal.live_process-place-requires
live_process-place-requires c =
    let l = lent c.args.ps.now c.args.ts.now c.args.tb.now c.args.pb.now in
    let n = c.args.process in
    process-present l c.requires.sound n (ended-live (view_of l) n (fits_one c.requires))

pub clear_process-requires : goal.clear_process-requires
clear_process-requires c =
    let l = lent c.args.ps.now c.args.ts.now c.args.tb.now c.args.pb.now in
    let n = c.args.process in
    let live = ended-live (view_of l) n (fits_one c.requires) in (
      processes-long l c.requires.sound,
      c.live_process-place.ensures.inside,
    )

pub vacate_threads-requires : goal.vacate_threads-requires
vacate_threads-requires c =
    threads-long (lent c.args.ps.now c.args.ts.now c.args.tb.now c.args.pb.now) c.requires.sound

pub discard-requires : goal.discard-requires
discard-requires c =
    thread-buffer-laid (lent c.args.ps.now c.args.ts.now c.args.tb.now c.args.pb.now) c.requires.sound

pub discard-requires-2 : goal.discard-requires-2
discard-requires-2 c =
    process-buffer-laid (lent c.args.ps.now c.args.ts.now c.args.tb.now c.args.pb.now) c.requires.sound

pub returns : goal.returns
returns c =
    let l = lent c.args.ps.now c.args.ts.now c.args.tb.now c.args.pb.now in
    let n = c.args.process in
    let ps' = c.clear_process.new.ps in
    let ts' = c.vacate_threads.new.ts in
    let tb' = c.discard.new.b in
    let pb' = c.discard-2.new.b in
    makes c.requires (search rules) (search rules) (search rules) (search rules)
    (process-removed l c.requires.sound n c.live_process-place.result (lent ps' ts' tb' pb') (fits_one c.requires)
    c.live_process-place.ensures.place
    c.clear_process.ensures c.vacate_threads.ensures c.discard.ensures c.discard-2.ensures)
