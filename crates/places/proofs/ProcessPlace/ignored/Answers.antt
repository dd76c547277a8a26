use mathlib.Core.Path.{ap, ◌∙◌}
use Rattle.sigset.specs.Set.{union}
use Rattle.tables.specs.Tables.{process_at}
use Rattle.places.proofs.Sets.{ignored-is}
use Rattle.places.proofs.ProcessPlace.ignored.Goals as goal

pub returns : goal.returns
returns c =
    let s = c.args.self.now in
    ignored-is (process_at s.table.words.now s.place).holds c.args.chosen c.union-first.result
    c.union-second.result c.union.result c.requires
    (c.union-first.ensures ∙ ap (union c.args.chosen) c.if_default.ensures)
    (c.union-second.ensures ∙ ap (union c.union-first.result) c.if_default-2.ensures)
    (c.union.ensures ∙ ap (union c.union-second.result) c.if_default-3.ensures)
