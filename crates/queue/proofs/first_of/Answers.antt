-- `first_of` meets its contract. The invariant: none of the records before i is of the queue and the signal.
-- Assumes nothing.
use mathlib.Core.Path.{◌≡◌, sym, ◌∙◌}
use Prim.Native.Nat.{◌<◌}
use native.Mathlib.Omega.{arith}
use lib.ListN.{length}
use Rattle.lists.proofs.Loops.{find_none, find-more}
use Rattle.lists.proofs.Finds.{position-here, position-nowhere}
use Rattle.types.specs.Values.{no_siginfo}
use Rattle.rules.specs.View.{in_queue, target_queue}
use Rattle.queue.specs.Queue.{records_of}
use Rattle.queue.proofs.Buffer.{length-records_of, record-tested}
use Rattle.queue.proofs.first_of.Goals as goal

pub loop-i-init : goal.loop-i-init
loop-i-init c =
    let b = c.args.b.now in (
      omega (arith, length-records_of b),
      omega arith,
      find_none (in_queue (target_queue c.args.process c.args.thread) c.args.signal) no_siginfo (records_of b),
    )

pub returns-then-in_queue : goal.returns-then-in_queue
returns-then-in_queue c =
    let b = c.args.b.now in
    let q = in_queue (target_queue c.args.process c.args.thread) c.args.signal in
    let i = c.loop-i.i in
    let h : i < length (records_of b) =
    omega (arith, c.loop-i-test.true, c.used-i-end.ensures) in
    sym
    (position-here q no_siginfo (records_of b) i h c.loop-i.invariant.2
    (record-tested q b i c.read.ensures c.in_queue.ensures h ∙ c.if-in_queue.true))

pub loop-i-preserved : goal.loop-i-preserved
loop-i-preserved c =
    let b = c.args.b.now in
    let q = in_queue (target_queue c.args.process c.args.thread) c.args.signal in
    let i = c.loop-i.i in
    let h : i < length (records_of b) =
    omega (arith, c.loop-i-test.true, c.used-i-end.ensures) in (
      omega arith,
      omega arith,
      find-more q no_siginfo (records_of b) i h c.loop-i.invariant.2
          (record-tested q b i c.read.ensures c.in_queue.ensures h ∙ c.if-in_queue.false),
    )

pub returns : goal.returns
returns c =
    sym
    (position-nowhere (in_queue (target_queue c.args.process c.args.thread) c.args.signal) no_siginfo
    (records_of c.args.b.now) c.loop-i.i
    (omega (arith, c.loop-i-test.false, c.used-i-end.ensures)) c.loop-i.invariant.2)
