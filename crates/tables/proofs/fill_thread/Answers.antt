-- `fill_thread` meets its contract: each promise of `put_thread_field` on what the one before left. Assumes nothing.
use Rattle.tables.specs.Tables.{threads_of}
use Rattle.tables.proofs.Words.{length-threads_of}
use Rattle.tables.proofs.Places.{thread-filled}
use Rattle.tables.proofs.fill_thread.Goals as goal

pub returns : goal.returns
returns c =
    thread-filled (threads_of c.args.ts.now) _ _ _ _ c.args.place c.args.id c.args.process
    c.args.mask
    (rw length-threads_of c.requires.1)
    c.clear_thread.ensures c.put_thread_field.ensures c.put_thread_field-2.ensures
    c.put_thread_field-3.ensures
