-- `count_of` meets its contract. The invariant: k of the records before i are of the process. Assumes nothing.
use mathlib.Core.Path.{sym}
use Prim.Native.Nat.{◌<◌}
use native.Mathlib.Omega.{arith}
use borrow.Author.Tests.{eq-eqb, ne_eqb}
use lib.ListN.{length}
use Rattle.lists.specs.Lists.{count}
use Rattle.lists.proofs.Loops.{count-start, count-hit, count-miss, count-done}
use Rattle.types.specs.Values.{no_siginfo}
use Rattle.rules.specs.Store.{of_process}
use Rattle.queue.specs.Queue.{records_of}
use Rattle.queue.proofs.Buffer.{length-records_of, record-tested}
use Rattle.queue.proofs.count_of.Goals as goal
use Rattle.queue.proofs.count_of.Goals.{then-r-process, else-r-process}

pub loop-i-init : goal.loop-i-init
loop-i-init c =
    let b = c.args.b.now in (
      omega (arith, length-records_of b),
      omega arith,
      omega arith,
      count-start (of_process c.args.process) no_siginfo (records_of b),
    )

pub loop-i-preserved : goal.loop-i-preserved
loop-i-preserved c =
    let b = c.args.b.now in
    let p = c.args.process in
    let i = c.loop-i.i in
    let k = c.loop-i.k in
    let n = count (of_process p) (records_of b) in
    let r = c.read-r.result in
    let e = c.read-r.ensures in
    let h : i < length (records_of b) =
    omega (arith, c.loop-i-test.true, c.used-n.ensures) in
    elim c.if-r-process.branch [
      | then-r-process w ↦
          omega (
            arith,
            count-hit (of_process p) no_siginfo (records_of b) i k n h c.loop-i.invariant.3
                (record-tested (of_process p) b i e (sym (eq-eqb r.process p w.if-r-process.true)) h),
          )
      | else-r-process w ↦
          omega (
            arith,
            count-miss (of_process p) no_siginfo (records_of b) i k n h c.loop-i.invariant.3
                (record-tested (of_process p) b i e (sym (ne_eqb r.process p w.if-r-process.false)) h),
          )
    ]

pub returns : goal.returns
returns c =
    let rs = records_of c.args.b.now in
    count-done (of_process c.args.process) no_siginfo rs c.loop-i.i c.loop-i.k
    (count (of_process c.args.process) rs)
    (omega (arith, c.loop-i-test.false, c.used-n.ensures)) c.loop-i.invariant.3
