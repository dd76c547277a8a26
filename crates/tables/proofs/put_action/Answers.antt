-- `put_action` meets its contract. Assumes nothing.
use Rattle.tables.specs.Tables.{action_to}
use Rattle.tables.proofs.Places.{action-put}
use Rattle.tables.proofs.put_action.Goals as goal

pub returns : goal.returns
unfolding action_to
returns c =
    action-put c.args.ps.now c.requires.0 c.args.place c.requires.1.0 c.args.signal c.action_base-to.result
    c.args.a c.requires.1.1.0 c.requires.1.1.1 c.action_base-to.ensures
