-- `change_marks` meets its contract: in a process's queue, or in a thread's. Assumes nothing.
use borrow.Author.Tests.{ne_eqb}
use Rattle.rules.proofs.Queues.{target-process, target-thread, queue-target}
use Rattle.sound.specs.Lent.{view_of, lent}
use Rattle.sound.proofs.Facts.{process-present, thread-present}
use Rattle.effects.proofs.Queues.{process-store, thread-store}
use Rattle.effects.proofs.change_marks.Goals as goal

pub change_process_marks-requires : goal.change_process_marks-requires
change_process_marks-requires c =
    let l = lent c.args.ps.now c.args.ts.now c.args.tb.now c.args.pb.now in
    let n = c.args.process in
    let t = c.args.thread in
    let v = view_of l in
    process-present l c.requires.sound n (target-process v n t (queue-target v n t c.requires.live))

pub change_thread_marks-requires : goal.change_thread_marks-requires
change_thread_marks-requires c =
    let l = lent c.args.ps.now c.args.ts.now c.args.tb.now c.args.pb.now in
    let n = c.args.process in
    let t = c.args.thread in
    let v = view_of l in
    thread-present l c.requires.sound t
    (target-thread v n t (queue-target v n t c.requires.live) (ne_eqb t 0 c.if-thread-eq0.false))

pub returns-then-thread-eq0 : goal.returns-then-thread-eq0
returns-then-thread-eq0 c =
    let l = lent c.args.ps.now c.args.ts.now c.args.tb.now c.args.pb.now in
    process-store l c.requires.sound c.args.process c.args.thread c.requires.live c.args.how
    c.if-thread-eq0.true c.change_process_marks.new.ps c.change_process_marks.ensures

pub returns-else-thread-eq0 : goal.returns-else-thread-eq0
returns-else-thread-eq0 c =
    let l = lent c.args.ps.now c.args.ts.now c.args.tb.now c.args.pb.now in
    thread-store l c.requires.sound c.args.process c.args.thread c.requires.live c.args.how
    (ne_eqb c.args.thread 0 c.if-thread-eq0.false) c.change_thread_marks.new.ts c.change_thread_marks.ensures
