-- `is_thread` meets its contract. Assumes nothing.
use Rattle.std.proofs.Common.{◌∙◌, ap}
use Rattle.std.specs.Prelude.{is_some}
use Rattle.lists.proofs.Finds.{is-some}
use Rattle.rules.specs.View.{is_thread}
use Rattle.tables.specs.Tables.{held_threads}
use Rattle.view.proofs.is_thread.Goals as goal

pub returns : goal.returns
returns c =
    let a = c.args in
    c.is_some.ensures ∙ ap is_some c.find_thread.ensures ∙ is-some (is_thread a.id) (held_threads a.ts.now)
