use Prim.Native.Nat.{◌+◌, ◌*◌}
use mathlib.Core.Path.{◌≡◌, subst}
use native.Mathlib.Omega.{arith}
use Rattle.limits.specs.Limits.{signals}
use Rattle.tables.specs.Tables.{process_at}
use Rattle.places.specs.Notes.{block, Gathers}
use Rattle.places.proofs.Sets.{gathers-none}
use Rattle.places.proofs.ProcessPlace.gather.Goals as goal

pub loop-n-init : goal.loop-n-init
loop-n-init c =
    let s = c.args.self.now in gathers-none (process_at s.table.words.now s.place).holds

pub loop-n-preserved : goal.loop-n-preserved
loop-n-preserved c =
    let l = c.loop-n in
    let s = c.args.self.now in
    let e : l.n * block + block ≡ (l.n + 1) * block = omega arith in
    subst (λ n. Gathers (process_at s.table.words.now s.place).holds n c.gather_block-g.result) e
    c.gather_block-g.ensures

pub returns : goal.returns
returns c =
    let l = c.loop-n in
    let s = c.args.self.now in
    let e : l.n * block ≡ signals = omega arith in
    subst (λ n. Gathers (process_at s.table.words.now s.place).holds n l.g) e l.invariant
