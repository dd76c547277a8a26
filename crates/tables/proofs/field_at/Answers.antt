-- `field_at` meets its contract. Assumes nothing.
use mathlib.Core.Path.{sym}
use Rattle.tables.proofs.Places.{field-word}
use Rattle.tables.proofs.field_at.Goals as goal

pub returns : goal.returns
returns c =
    sym (field-word c.args.ps.now c.requires.0 c.args.place c.requires.1.0
    c.args.field c.requires.1.1)
