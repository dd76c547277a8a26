-- `forget` meets its contract: every place and every slot is cleared. Assumes nothing.
use Rattle.sound.specs.Lent.{lent}
use Rattle.sound.proofs.Facts.{right-processes, right-threads, right-thread-buffer, right-process-buffer}
use Rattle.effects.proofs.Removed.{all-forgotten}
use Rattle.effects.proofs.forget.Goals as goal

pub clear_processes-requires : goal.clear_processes-requires
clear_processes-requires c =
    right-processes (lent c.args.ps.now c.args.ts.now c.args.tb.now c.args.pb.now) c.requires

pub clear_threads-requires : goal.clear_threads-requires
clear_threads-requires c =
    right-threads (lent c.args.ps.now c.args.ts.now c.args.tb.now c.args.pb.now) c.requires

pub empty-requires : goal.empty-requires
empty-requires c =
    right-thread-buffer (lent c.args.ps.now c.args.ts.now c.args.tb.now c.args.pb.now) c.requires

pub empty-requires-2 : goal.empty-requires-2
empty-requires-2 c =
    right-process-buffer (lent c.args.ps.now c.args.ts.now c.args.tb.now c.args.pb.now) c.requires

pub returns : goal.returns
returns c =
    all-forgotten (lent c.args.ps.now c.args.ts.now c.args.tb.now c.args.pb.now)
    (lent c.clear_processes.new.ps c.clear_threads.new.ts c.empty.new.b c.empty-2.new.b)
    c.clear_processes.ensures c.clear_threads.ensures c.empty.ensures c.empty-2.ensures
