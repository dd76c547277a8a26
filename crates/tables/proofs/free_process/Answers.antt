-- `free_process` meets its contract. Assumes nothing.
use Rattle.std.proofs.Common.{◌∙◌, refl}
use Rattle.rules.specs.Store.{is_free_process}
use Rattle.tables.specs.Tables.{has_id}
use Rattle.tables.proofs.Places.{process-ids}
use Rattle.tables.proofs.free_process.Goals as goal

pub returns : goal.returns
returns c = c.place_of.ensures ∙ process-ids is_free_process (has_id 0) (λ _. refl) c.args.ps.now
