use mathlib.Core.Path.{sym, ◌∙◌}
use native.Mathlib.Omega.{arith}
use borrow.Author.Tests.{eq-eqb, ne_eqb}
use Rattle.lists.proofs.Loops.{find_none, find-more, find-here, find-done}
use Rattle.hints.specs.Hints.{ids_of, is_id}
use Rattle.hints.proofs.Table.{length-ids_of, id-test}
use Rattle.hints.proofs.Indexed.search.Goals as goal

pub loop-place-init : goal.loop-place-init
loop-place-init g c =
    let a = c.args in
    find_none (is_id a.id) 0 (ids_of g.row.WIDTH g.row.PLACES a.self.now.words.now)

pub loop-place-preserved : goal.loop-place-preserved
loop-place-preserved g c =
    let a = c.args in
    let w = g.row.WIDTH in
    let n = g.row.PLACES in
    let ws = a.self.now.words.now in
    let long = length-ids_of w n ws in
    find-more (is_id a.id) 0 (ids_of w n ws) c.loop-place.place (omega arith) c.loop-place.invariant
    (id-test w n ws c.loop-place.place (omega arith) (omega arith) a.id (omega arith)
    ∙ ne_eqb _ _ c.if-self-place.false)

pub returns-then-self-place : goal.returns-then-self-place
returns-then-self-place g c =
    let a = c.args in
    let w = g.row.WIDTH in
    let n = g.row.PLACES in
    let ws = a.self.now.words.now in
    let long = length-ids_of w n ws in (
      omega arith,
      sym (find-here (is_id a.id) 0 (ids_of w n ws) c.loop-place.place (omega arith) c.loop-place.invariant
          (id-test w n ws c.loop-place.place (omega arith) (omega arith) a.id (omega arith)
          ∙ eq-eqb _ _ c.if-self-place.true)),
    )

pub returns : goal.returns
returns g c =
    let a = c.args in
    let ids = ids_of g.row.WIDTH g.row.PLACES a.self.now.words.now in
    let long = length-ids_of g.row.WIDTH g.row.PLACES a.self.now.words.now in
    find-done (is_id a.id) 0 ids c.loop-place.place (omega arith) c.loop-place.invariant
    ∙ omega arith
