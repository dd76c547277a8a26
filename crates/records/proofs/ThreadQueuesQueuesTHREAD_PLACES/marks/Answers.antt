use native.Mathlib.Omega.{arith}
use Rattle.rules.specs.View.{thread_queue}
use Rattle.rules.specs.Store.{free_thread}
use Rattle.tables.specs.Tables.{threads_of, thread_to}
use Rattle.tables.proofs.Words.{length-threads_of}
use Rattle.records.proofs.Marks.{marks-at}
use Rattle.records.proofs.ThreadQueuesQueuesTHREAD_PLACES.marks.Goals as goal

pub returns : goal.returns
unfolding thread_to
returns c =
    let vs = c.args.self.now.0.now.threads.words.now in
    marks-at thread_queue (threads_of vs) free_thread c.args.queue c.thread_field_at.result
    (rw (length-threads_of vs) (omega arith)) c.thread_field_at.ensures (omega arith)
