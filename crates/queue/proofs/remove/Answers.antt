-- `remove` meets its contract. Its loop keeps `Moving`. Assumes nothing.
use mathlib.Core.Path.{◌∙◌}
use Prim.Native.Nat.{◌+◌, ◌-◌, ◌<◌}
use native.Mathlib.Omega.{arith}
use lib.ListN.{length}
use Rattle.siginfo.specs.Bytes.{Fits}
use Rattle.rules.specs.Store.{on_slots}
use Rattle.queue.specs.Queue.{records_of}
use Rattle.queue.proofs.Buffer.{length-laid, length-records_of}
use Rattle.queue.proofs.Changes.{moving-start, moving-more, moving-done}
use Rattle.queue.proofs.remove.Goals as goal

pub used-n-requires : goal.used-n-requires
used-n-requires c = length-laid c.args.b.now c.requires.b_value

pub loop-i-init : goal.loop-i-init
loop-i-init c =
    let b = c.args.b.now in
    (omega (arith, length-records_of b), omega arith, moving-start c.args.k b c.requires.b_value c.requires.k_in_bounds)

pub loop-i-preserved : goal.loop-i-preserved
loop-i-preserved c =
    let b₀ = c.args.b.now in
    let i = c.loop-i.i in
    let r = c.read-r.result in
    let h : i + 1 < length (records_of b₀) =
    omega (arith, c.loop-i-test.true, c.used-n.ensures) in
    let fits : Fits r = omega (arith, c.read-r.type_inv) in (
      omega arith,
      omega arith,
      moving-more c.args.k b₀ c.loop-i.b i r c.loop-i.invariant.2 h c.read-r.ensures fits c.write.ensures,
    )

pub shape_of-b : goal.shape_of-b
shape_of-b c =
    omega (arith, length-laid c.args.b.now c.requires.b_value)

pub returns : goal.returns
unfolding on_slots records_of
returns c =
    let i = c.loop-i.i in
    let n = c.used-n.result in
    c.clear.ensures
    ∙ moving-done c.args.k c.args.b.now c.loop-i.b i (n - 1) n c.requires.b_value c.used-n.ensures
    (omega (arith, c.loop-i.invariant.1, c.loop-i-test.false))
    (omega (arith, c.loop-i.invariant.1, c.loop-i-test.false)) c.loop-i.invariant.2
