use mathlib.Core.Path.{ap, ◌∙◌}
use lib.Dec.{eqb}
use Rattle.limits.specs.Limits.{thread_places}
use Rattle.sigset.specs.Set.{bits}
use Rattle.rules.specs.Sound.{good_id, unmasked}
use Rattle.tables.specs.Tables.{thread_at, thread_to}
use Rattle.soundness.specs.Check.{thread_by, disjoint}
use Rattle.places.proofs.Endings.{live-thread, found-here}
use Rattle.places.proofs.ThreadPlace.live_ok.Goals as goal

pub returns : goal.returns
unfolding thread_to
returns c =
    let id = c.field-id.ensures in
    let marks = c.field-2.ensures in
    let a = c.args in
    let s = a.self.now in
    let find = thread_by s.table.hints.now s.table.words.now in
    live-thread find a.ignores s.place
    (thread_at s.table.words.now s.place)
    (c.is_id.ensures ∙ ap good_id id)
    (c.is_unmasked-mask.ensures ∙ ap (λ w. unmasked (bits w)) c.field.ensures)
    (c.is_unmasked.ensures ∙ ap (λ w. unmasked (bits w)) marks)
    (c.eq-found.ensures ∙ found-here c.place_of.result thread_places (find c.field-id.result) s.place s.inside
    c.place_of.ensures ∙ ap (λ id. eqb (find id) s.place) id)
    (c.are_disjoint-delivered.ensures ∙ ap (λ w. disjoint (bits w) a.ignores) marks)
