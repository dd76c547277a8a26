-- `remove` meets its contract: the thread goes, or its process with it. Assumes nothing.
use Rattle.sound.specs.Lent.{lent}
use Rattle.view.proofs.Live.{owner-known}
use Rattle.ending.proofs.Ended.{thread-ready, process-ready, thread-removed, process-removed}
use Rattle.ending.proofs.remove.Goals as goal

pub process_of-process-requires : goal.process_of-process-requires
process_of-process-requires c =
    let both = owner-known (lent c.args.ps.now c.args.ts.now c.args.tb.now c.args.pb.now) c.requires.sound
    c.args.thread c.requires.live in
    record { live = both.0; good = both.1 }

pub has_other-requires : goal.has_other-requires
has_other-requires c =
    (owner-known (lent c.args.ps.now c.args.ts.now c.args.tb.now c.args.pb.now) c.requires.sound c.args.thread
    c.requires.live).0.0

pub remove_thread-requires : goal.remove_thread-requires
remove_thread-requires c =
    thread-ready (lent c.args.ps.now c.args.ts.now c.args.tb.now c.args.pb.now) c.requires.sound
    c.args.thread c.requires.live
    c.process_of-process.result c.process_of-process.ensures c.has_other.result
    c.has_other.ensures c.if-has_other.true

pub remove_process-requires : goal.remove_process-requires
remove_process-requires c =
    process-ready (lent c.args.ps.now c.args.ts.now c.args.tb.now c.args.pb.now) c.requires.sound
    c.args.thread c.requires.live
    c.process_of-process.result c.process_of-process.ensures c.has_other.result
    c.has_other.ensures c.if-has_other.false

pub returns-then-has_other : goal.returns-then-has_other
returns-then-has_other c =
    thread-removed (lent c.args.ps.now c.args.ts.now c.args.tb.now c.args.pb.now) c.requires.sound
    c.args.thread c.requires.live
    c.process_of-process.result c.process_of-process.ensures c.has_other.result
    c.has_other.ensures c.if-has_other.true
    c.remove_thread.ensures

pub returns-else-has_other : goal.returns-else-has_other
returns-else-has_other c =
    process-removed (lent c.args.ps.now c.args.ts.now c.args.tb.now c.args.pb.now) c.requires.sound
    c.args.thread c.requires.live
    c.process_of-process.result c.process_of-process.ensures c.has_other.result
    c.has_other.ensures c.if-has_other.false
    c.remove_process.ensures
