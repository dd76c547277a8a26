-- `is_process` meets its contract. Assumes nothing.
use Rattle.std.proofs.Common.{◌∙◌, ap}
use Rattle.std.specs.Prelude.{is_some}
use Rattle.lists.proofs.Finds.{is-some}
use Rattle.rules.specs.View.{is_process}
use Rattle.tables.specs.Tables.{held_processes}
use Rattle.view.proofs.is_process.Goals as goal

pub returns : goal.returns
returns c =
    let a = c.args in
    c.is_some.ensures ∙ ap is_some c.find_process.ensures ∙ is-some (is_process a.id) (held_processes a.ps.now)
