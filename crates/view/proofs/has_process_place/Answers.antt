-- `has_process_place` meets its contract. Assumes nothing.
use Rattle.std.proofs.Common.{◌∙◌, ap}
use Rattle.std.specs.Prelude.{is_some}
use Rattle.lists.proofs.Finds.{is-some}
use Rattle.rules.specs.Store.{is_free_process}
use Rattle.tables.specs.Tables.{held_processes}
use Rattle.view.proofs.has_process_place.Goals as goal

pub returns : goal.returns
returns c =
    let a = c.args in
    c.is_some.ensures ∙ ap is_some c.free_process.ensures ∙ is-some is_free_process (held_processes a.ps.now)
