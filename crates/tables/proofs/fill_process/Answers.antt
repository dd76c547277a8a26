-- `fill_process` meets its contract: each promise of `put_field` on what the one before left. Assumes nothing.
use Rattle.tables.specs.Tables.{processes_of}
use Rattle.tables.proofs.Words.{length-processes_of}
use Rattle.tables.proofs.Places.{process-filled}
use Rattle.tables.proofs.fill_process.Goals as goal

pub returns : goal.returns
returns c =
    process-filled (processes_of c.args.ps.now) _ _ _ _ _ _ c.args.place c.args.new
    (rw length-processes_of c.requires.1)
    c.clear_process.ensures c.put_field.ensures c.put_field-2.ensures c.put_field-3.ensures
    c.put_field-4.ensures c.put_field-5.ensures
