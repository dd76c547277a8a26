use Rattle.tables.specs.Tables.{thread_at, thread_to}
use Rattle.places.proofs.Endings.{free-thread-end}
use Rattle.places.proofs.ThreadPlace.free_ok.Goals as goal

pub returns : goal.returns
unfolding thread_to
returns c =
    let s = c.args.self.now in
    free-thread-end (thread_at s.table.words.now s.place) c.field-owner.ensures
    c.field-mask.ensures c.field-marks.ensures
