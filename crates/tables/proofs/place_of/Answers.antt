-- `place_of` meets its contract. Assumes nothing.
use Rattle.std.proofs.Common.{ℕ, ◌*◌, ◌∙◌, eqb, get_or, refl, arith, rules, tests}
use Rattle.std.proofs.lemmas.Iterator.{YieldsList-from_range}
use Rattle.std.proofs.lemmas.Iterator.Search.{position_from_yields_List}
use Rattle.tables.proofs.Places.{position-ids}
use Rattle.tables.proofs.place_of.Goals as goal

pub returns : goal.returns
returns c =
    let a = c.args in
    position_from_yields_List (λ (i : ℕ). eqb (get_or a.ws.now (i * a.width) 0) a.id) _ _ c.position.result
    c.position.ensures.ran
    (YieldsList-from_range 0 a.places a.places refl (omega arith))
    (λ x b q k. search (rules, tests))
    ∙ position-ids a.width a.ws.now c.requires.1 a.places a.id
