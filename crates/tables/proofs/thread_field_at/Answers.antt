-- `thread_field_at` meets its contract. Assumes nothing.
use mathlib.Core.Path.{sym}
use Rattle.tables.proofs.Places.{thread-field-word}
use Rattle.tables.proofs.thread_field_at.Goals as goal

pub returns : goal.returns
returns c =
    sym (thread-field-word c.args.ts.now c.requires.0 c.args.place
    c.requires.1.0 c.args.field c.requires.1.1)
