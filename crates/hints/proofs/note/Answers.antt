-- `note` meets its contract. Assumes nothing.
use Rattle.hints.proofs.Table.{noted-first, noted-second}
use Rattle.hints.proofs.note.Goals as goal

pub returns-then-hints-slot-eq0 : goal.returns-then-hints-slot-eq0
returns-then-hints-slot-eq0 c =
    let a = c.args in
    noted-first a.hints.now a.id a.place c.first_slot-slot.result
    c.first_slot-slot.ensures.0 c.if-hints-slot-eq0.true

pub returns-else-hints-slot-eq0 : goal.returns-else-hints-slot-eq0
returns-else-hints-slot-eq0 c =
    let a = c.args in
    let f = c.first_slot-slot in
    noted-second a.hints.now a.id a.place f.result c.second_slot.result f.ensures.0
    c.second_slot.ensures.0 c.if-hints-slot-eq0.false
