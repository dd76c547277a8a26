use mathlib.Core.Path.{ap, ap₂, ◌∙◌}
use mathlib.Core.Bool.{◌&&◌}
use lib.Dec.{eqb}
use Rattle.limits.specs.Limits.{process_places}
use Rattle.sigset.specs.Set.{bits}
use Rattle.tables.specs.Tables.{process_at, head_to}
use Rattle.tables.proofs.Words.{length-actions}
use Rattle.soundness.specs.Check.{process_by, disjoint}
use Rattle.places.proofs.Sets.{gathered-ok}
use Rattle.places.proofs.Endings.{live-process, found-here}
use Rattle.places.proofs.ProcessPlace.live_ok.Goals as goal

pub returns : goal.returns
unfolding head_to
returns c =
    let s = c.args.self.now in
    let ws = s.table.words.now in
    let x = process_at ws s.place in
    let find = process_by s.table.hints.now ws in
    live-process find s.place x c.head_ok.ensures
    (c.eq-found.ensures ∙ found-here c.place_of.result process_places (find c.field-2.result) s.place s.inside
    c.place_of.ensures ∙ ap (λ id. eqb (find id) s.place) c.field-2.ensures)
    c.kill_stop_default-unmaskable.ensures
    (ap₂ (λ m k. m && k) c.is_unmasked.ensures c.are_flags_known.ensures
    ∙ gathered-ok x.holds (length-actions ws s.place s.inside) c.args.g c.requires.0)
    (c.are_disjoint-delivered.ensures
    ∙ ap₂ (λ w i. disjoint (bits w) i) c.field.ensures c.requires.1)
