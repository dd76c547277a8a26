use Rattle.sound.specs.Lent.{lent}
use mathlib.Core.Path.{◌∙◌}
use Rattle.sound.proofs.Facts.{thread-buffer-long, process-buffer-long}
use Rattle.view.proofs.Pending.{pending-read}
use Rattle.rules.specs.View.{target_queue}
use Rattle.view.proofs.pending_of.Goals as goal

pub queued_of-queued-requires : goal.queued_of-queued-requires
queued_of-queued-requires c = (
  thread-buffer-long (lent c.args.ps.now c.args.ts.now c.args.tb.now c.args.pb.now) c.requires.sound,
  process-buffer-long (lent c.args.ps.now c.args.ts.now c.args.tb.now c.args.pb.now) c.requires.sound,
)

pub returns : goal.returns
returns c = c.union.ensures ∙ pending-read (lent c.args.ps.now c.args.ts.now c.args.tb.now c.args.pb.now)
    (target_queue c.args.process c.args.thread) c.queued_of-queued.result
    c.marks_of-marks.result c.queued_of-queued.ensures c.marks_of-marks.ensures
