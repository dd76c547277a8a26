-- `action_of` meets its contract. Assumes nothing.
use Rattle.view.proofs.Fields.{action-read}
use Rattle.view.proofs.action_of.Goals as goal

pub returns : goal.returns
returns c =
    action-read c.args.ps.now c.args.process c.live_process-place.result
    c.live_process-place.ensures.place c.args.signal c.action_at.result c.action_at.ensures
