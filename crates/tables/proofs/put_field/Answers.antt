-- `put_field` meets its contract. Assumes nothing.
use Rattle.tables.proofs.Places.{field_put}
use Rattle.tables.proofs.put_field.Goals as goal

pub returns : goal.returns
returns c =
    field_put c.args.ps.now c.requires.0 c.args.place c.requires.1.0 c.args.field c.args.value
    c.requires.1.1
