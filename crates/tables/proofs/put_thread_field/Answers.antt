-- `put_thread_field` meets its contract. Assumes nothing.
use Rattle.tables.proofs.Places.{thread-field-put}
use Rattle.tables.proofs.put_thread_field.Goals as goal

pub returns : goal.returns
returns c =
    thread-field-put c.args.ts.now c.requires.0 c.args.place c.requires.1.0 c.args.field c.args.value
    c.requires.1.1
