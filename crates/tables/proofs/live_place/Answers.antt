-- `live_place` meets its contract. Assumes nothing.
use Rattle.std.proofs.Common.{sym, ap, ◌∙◌}
use Rattle.std.specs.Prelude.{position}
use Rattle.tables.specs.Tables.{ids_of, has_live_id}
use Rattle.tables.proofs.Places.{no-id}
use Rattle.tables.proofs.live_place.Goals as goal

pub returns-then-id-eq0 : goal.returns-then-id-eq0
returns-then-id-eq0 c =
    let a = c.args in
    let ids = ids_of a.width a.places a.ws.now in
    sym (ap (λ n. position (has_live_id n) ids) c.if-id-eq0.true ∙ no-id ids)
