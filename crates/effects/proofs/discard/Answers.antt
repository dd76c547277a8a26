-- `discard` meets its contract: both buffers, the marks of the process and those of its threads. Assumes nothing.
use borrow.Author.Rules.{rules}
use Rattle.sound.specs.Lent.{view_of, lent}
use Rattle.sound.proofs.Facts.{threads-long, thread-buffer-laid, process-buffer-laid, process-present}
use Rattle.effects.proofs.Makes.{fits_one, makes}
use Rattle.effects.proofs.Fitted.{discard-live}
use Rattle.effects.proofs.Queues.{discard-store}
use Rattle.effects.proofs.discard.Goals as goal

pub discard-requires : goal.discard-requires
discard-requires c =
    thread-buffer-laid (lent c.args.ps.now c.args.ts.now c.args.tb.now c.args.pb.now) c.requires.sound

pub discard-requires-2 : goal.discard-requires-2
discard-requires-2 c =
    process-buffer-laid (lent c.args.ps.now c.args.ts.now c.args.tb.now c.args.pb.now) c.requires.sound

pub change_process_marks-requires : goal.change_process_marks-requires
change_process_marks-requires c =
    let l = lent c.args.ps.now c.args.ts.now c.args.tb.now c.args.pb.now in
    let live = discard-live (view_of l) c.args.process c.args.signals (fits_one c.requires) in
    process-present l c.requires.sound c.args.process live

pub change_threads_marks-requires : goal.change_threads_marks-requires
change_threads_marks-requires c =
    threads-long (lent c.args.ps.now c.args.ts.now c.args.tb.now c.args.pb.now) c.requires.sound

pub returns : goal.returns
returns c =
    let l = lent c.args.ps.now c.args.ts.now c.args.tb.now c.args.pb.now in
    let n = c.args.process in
    let signals = c.args.signals in
    let ps' = c.change_process_marks.new.ps in
    let ts' = c.change_threads_marks.new.ts in
    let tb' = c.discard.new.b in
    let pb' = c.discard-2.new.b in
    makes c.requires (search rules) (search rules) (search rules) (search rules)
    (discard-store l c.requires.sound n signals (fits_one c.requires) ps' ts' tb' pb'
    c.change_process_marks.ensures c.change_threads_marks.ensures c.discard.ensures c.discard-2.ensures)
