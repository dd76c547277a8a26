-- `find_process` meets its contract. Assumes nothing.
use Rattle.std.proofs.Common.{◌∙◌, refl}
use Rattle.rules.specs.View.{is_process}
use Rattle.tables.specs.Tables.{has_live_id}
use Rattle.tables.proofs.Places.{process-ids}
use Rattle.tables.proofs.find_process.Goals as goal

pub returns : goal.returns
unfolding is_process
returns c =
    c.live_place.ensures
    ∙ process-ids (is_process c.args.process) (has_live_id c.args.process) (λ _. refl) c.args.ps.now
