use Prim.Native.Nat.{◌+◌}
use mathlib.Core.Path.{◌≡◌, subst}
use native.Mathlib.Omega.{arith}
use Rattle.tables.specs.Tables.{process_at}
use Rattle.tables.proofs.Words.{length-actions}
use Rattle.places.specs.Notes.{block, Gathers}
use Rattle.places.proofs.Sets.{gathers-more}
use Rattle.places.proofs.ProcessPlace.gather_block.Goals as goal

pub loop-i-init : goal.loop-i-init
loop-i-init c =
    let a = c.args in
    let s = a.self.now in
    let e : a.done ≡ a.done + 0 = omega arith in
    subst (λ n. Gathers (process_at s.table.words.now s.place).holds n a.g) e c.requires.1

pub loop-i-preserved : goal.loop-i-preserved
loop-i-preserved c =
    let a = c.args in
    let s = a.self.now in
    let p = (process_at s.table.words.now s.place).holds in
    let long = length-actions s.table.words.now s.place s.inside in
    let e : a.done + c.loop-i.i + 1 ≡ a.done + (c.loop-i.i + 1) = omega arith in
    subst (λ n. Gathers p n c.with-h.result) e
    (gathers-more p (a.done + c.loop-i.i) c.loop-i.h c.with-h.result c.action.result
    (omega arith) c.action.ensures c.loop-i.invariant c.with-h.ensures)

pub returns : goal.returns
returns c =
    let l = c.loop-i in
    let s = c.args.self.now in
    let e : l.i ≡ block = omega arith in
    subst (λ i. Gathers (process_at s.table.words.now s.place).holds (c.args.done + i) l.h) e l.invariant
