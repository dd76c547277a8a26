-- `action_at` meets its contract. Assumes nothing.
use mathlib.Core.Path.{sym}
use Rattle.tables.specs.Tables.{action_from}
use Rattle.tables.proofs.Places.{action-words}
use Rattle.tables.proofs.action_at.Goals as goal

pub returns : goal.returns
unfolding action_from
returns c =
    sym (action-words c.args.ps.now c.requires.0 c.args.place c.requires.1.0 c.args.signal
    c.action_base-from.result c.requires.1.1.0 c.requires.1.1.1 c.action_base-from.ensures)
