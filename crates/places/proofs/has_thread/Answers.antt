use Rattle.tables.specs.Tables.{processes_of, head_to}
use Rattle.places.proofs.Endings.{threaded-end}
use Rattle.places.proofs.has_thread.Goals as goal

pub returns : goal.returns
unfolding head_to
returns c =
    let a = c.args in
    threaded-end (processes_of a.ps.now.words.now) a.threaded.now a.place c.field_at.result
    c.field_at.ensures
