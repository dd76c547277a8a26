use mathlib.Core.Path.{refl, sym}
use native.Mathlib.Omega.{arith}
use Rattle.lists.specs.Lists.{find}
use Rattle.hints.specs.Hints.{ids_of, is_id}
use Rattle.hints.proofs.Table.{seek-zero, seek-near, seek-far, seek-rest}
use Rattle.hints.proofs.Indexed.place_of.Goals as goal

pub returns-then-id-eq0 : goal.returns-then-id-eq0
returns-then-id-eq0 g c =
    let s = c.args.self.now in
    sym (seek-zero s.hints.now s.words.now g.row.WIDTH g.row.PLACES s.hinted s.wide c.args.id c.if-id-eq0.true)

pub returns-then-self-near : goal.returns-then-self-near
returns-then-self-near g c =
    let s = c.args.self.now in
    let near = c.first_slot in (
      s.hinted near.result near.ensures.1,
      seek-near s.hints.now s.words.now g.row.WIDTH g.row.PLACES s.hinted s.wide c.args.id near.result near.ensures.0
          (omega arith) c.if-self-near.true,
    )

pub returns-then-self-far : goal.returns-then-self-far
returns-then-self-far g c =
    let s = c.args.self.now in
    let near = c.first_slot in
    let far = c.second_slot in (
      s.hinted far.result far.ensures.1,
      seek-far s.hints.now s.words.now g.row.WIDTH g.row.PLACES s.hinted s.wide c.args.id near.result near.ensures.0
          (omega arith) c.if-self-near.false far.result far.ensures.0 c.if-self-far.true,
    )

pub returns : goal.returns
returns g c =
    let s = c.args.self.now in
    let near = c.first_slot in
    let far = c.second_slot in
    rw (← seek-rest s.hints.now s.words.now g.row.WIDTH g.row.PLACES s.hinted s.wide c.args.id near.result
    near.ensures.0 (omega arith) c.if-self-near.false far.result far.ensures.0 c.if-self-far.false
    (find (is_id c.args.id) (ids_of g.row.WIDTH g.row.PLACES s.words.now)) refl)
    c.search.ensures
