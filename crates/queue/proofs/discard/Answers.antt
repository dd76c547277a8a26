-- `discard` meets its contract. Its loop keeps `Sparing`. Assumes nothing.
use mathlib.Core.Path.{sym, ◌∙◌}
use Prim.Native.Nat.{◌<◌}
use native.Mathlib.Omega.{arith}
use lib.ListN.{length}
use Rattle.siginfo.specs.Bytes.{Fits}
use Rattle.rules.specs.Store.{on_slots}
use Rattle.queue.specs.Queue.{records_of, is_left}
use Rattle.queue.proofs.Buffer.{length-laid, length-records_of}
use Rattle.queue.proofs.Changes.{sparing-start, sparing-kept, sparing-passed, sparing-done}
use Rattle.queue.proofs.discard.Goals as goal
use Rattle.queue.proofs.discard.Goals.{then-is_left, else-is_left}

pub used-n-requires : goal.used-n-requires
used-n-requires c = length-laid c.args.b.now c.requires

pub loop-i-init : goal.loop-i-init
loop-i-init c =
    let b = c.args.b.now in
    (omega (arith, length-records_of b), omega arith, sparing-start (is_left c.args.discarded) b c.requires)

pub loop-i-preserved : goal.loop-i-preserved
loop-i-preserved c =
    let b₀ = c.args.b.now in
    let q = is_left c.args.discarded in
    let b = c.loop-i.b in
    let i = c.loop-i.i in
    let j = c.loop-i.j in
    let inv = c.loop-i.invariant.2 in
    let r = c.read-r.result in
    let e = c.read-r.ensures in
    let h : i < length (records_of b₀) =
    omega (arith, c.loop-i-test.true, c.used-n.ensures) in
    let fits : Fits r = omega (arith, c.read-r.type_inv) in (
      omega arith,
      omega arith,
      elim c.if-is_left.branch [
        | then-is_left w ↦
            sparing-kept q b₀ b i j r inv h e c.if-is_left.b c.if-is_left.j
            (sym c.is_left.ensures ∙ w.if-is_left.true) fits (w.b-is ∙ w.write.ensures) w.j-is
        | else-is_left w ↦
            sparing-passed q b₀ b i j r inv h e c.if-is_left.b c.if-is_left.j
            (sym c.is_left.ensures ∙ w.if-is_left.false) w.b-is w.j-is
      ],
    )

pub shape_of-b : goal.shape_of-b
shape_of-b c =
    omega (arith, length-laid c.args.b.now c.requires)

pub returns : goal.returns
unfolding on_slots records_of
returns c =
    let e = c.used-n.ensures in
    c.clear.ensures
    ∙ sparing-done (is_left c.args.discarded) c.args.b.now c.loop-i.b c.loop-i.i c.loop-i.j
    c.used-n.result c.requires e
    (omega (arith, c.loop-i.invariant.1, c.loop-i-test.false)) c.loop-i.invariant.2
