-- `signals_of` meets its contract. The invariant: the set has the signals of the queue's records before i.
-- Assumes nothing.
use mathlib.Core.Path.{◌≡◌, sym, ap₂, ◌∙◌}
use Prim.Native.Nat.{◌<◌}
use native.Mathlib.Omega.{arith}
use lib.ListN.{length, get_or}
use Rattle.sigset.specs.Set.{union}
use Rattle.types.specs.Values.{no_siginfo}
use Rattle.rules.specs.View.{target_queue}
use Rattle.queue.specs.Queue.{records_of}
use Rattle.queue.proofs.Buffer.{length-records_of, record-read}
use Rattle.queue.proofs.Signals.{signals-none, signals-here, signals-other, signals-done}
use Rattle.queue.proofs.signals_of.Goals as goal
use Rattle.queue.proofs.signals_of.Goals.{then-is_of, else-is_of}

pub loop-i-init : goal.loop-i-init
loop-i-init c =
    let b = c.args.b.now in (
      omega (arith, length-records_of b),
      omega arith,
      sym (signals-none (target_queue c.args.process c.args.thread) (records_of b)),
    )

pub loop-i-preserved : goal.loop-i-preserved
loop-i-preserved c =
    let b = c.args.b.now in
    let q = target_queue c.args.process c.args.thread in
    let i = c.loop-i.i in
    let rs = records_of b in
    let r = c.read-r.result in
    let h : i < length rs = omega (arith, c.loop-i-test.true, c.used-n.ensures) in
    let e : r ≡ get_or rs i no_siginfo = c.read-r.ensures ∙ sym (record-read b i no_siginfo h) in (
      omega arith,
      omega arith,
      elim c.if-is_of.branch [
        | then-is_of w ↦
            w.set-is ∙ w.union-set.ensures ∙ ap₂ union c.loop-i.invariant.2 w.of_signal.ensures
            ∙ signals-here rs i h r e q (sym c.is_of.ensures ∙ w.if-is_of.true)
        | else-is_of w ↦
            w.set-is ∙ c.loop-i.invariant.2
            ∙ sym (signals-other rs i h r e q (sym c.is_of.ensures ∙ w.if-is_of.false))
      ],
    )

pub returns : goal.returns
returns c =
    let q = target_queue c.args.process c.args.thread in
    let rs = records_of c.args.b.now in
    c.loop-i.invariant.2 ∙ signals-done q rs c.loop-i.i (omega (arith, c.loop-i-test.false, c.used-n.ensures))
