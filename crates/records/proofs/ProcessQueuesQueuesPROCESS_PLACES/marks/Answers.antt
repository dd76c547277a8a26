use native.Mathlib.Omega.{arith}
use Rattle.rules.specs.Store.{free_process}
use Rattle.tables.specs.Tables.{processes_of, head_to}
use Rattle.tables.proofs.Words.{length-processes_of}
use Rattle.soundness.specs.Check.{own_queue}
use Rattle.records.proofs.Marks.{marks-at}
use Rattle.records.proofs.ProcessQueuesQueuesPROCESS_PLACES.marks.Goals as goal

pub returns : goal.returns
unfolding head_to
returns c =
    let ws = c.args.self.now.0.now.processes.words.now in
    marks-at own_queue (processes_of ws) free_process c.args.queue c.field_at.result
    (rw (length-processes_of ws) (omega arith)) c.field_at.ensures (omega arith)
