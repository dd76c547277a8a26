-- `vacate_threads` meets its contract. The invariant: the places below i are free where they were the process's.
-- Assumes nothing.
use mathlib.Core.Path.{◌∙◌, ap}
use native.Mathlib.Omega.{arith}
use borrow.Author.Rules.{rules}
use lib.ListN.{length}
use Rattle.rules.specs.Store.{free_thread}
use Rattle.tables.specs.Tables.{threads_of, thread_at}
use Rattle.effects.proofs.Marks.{passing-start, passing_step, passing-skip, passing-done, vacated_of}
use Rattle.effects.proofs.Marks.{vacated-all, vacated-here, vacated-not}
use Rattle.effects.proofs.vacate_threads.Goals as goal
use Rattle.effects.proofs.vacate_threads.Goals.{then-process-thread_field_at, else-process-thread_field_at}

pub loop-i-init : goal.loop-i-init
loop-i-init c = passing-start (vacated_of c.args.process) c.args.ts.now c.requires

pub loop-i-preserved : goal.loop-i-preserved
loop-i-preserved c =
    let p = c.args.process in
    let ts₀ = c.args.ts.now in
    let ts = c.loop-i.ts in
    let i = c.loop-i.i in
    let x = thread_at ts i in
    let h = c.loop-i-test.true in
    elim c.if-process-thread_field_at.branch [
      | then-process-thread_field_at w ↦
          passing_step (vacated_of p) ts₀ ts i c.loop-i.invariant h c.if-process-thread_field_at.ts free_thread
          (vacated-here p c.thread_field_at.result x c.thread_field_at.ensures w.if-process-thread_field_at.true)
          (ap length w.ts-is ∙ search rules) (ap threads_of w.ts-is ∙ w.clear_thread.ensures)
      | else-process-thread_field_at w ↦
          passing-skip (vacated_of p) ts₀ ts i c.loop-i.invariant h c.if-process-thread_field_at.ts
          (vacated-not p c.thread_field_at.result x c.thread_field_at.ensures w.if-process-thread_field_at.false)
          w.ts-is
    ]

pub returns : goal.returns
returns c =
    let p = c.args.process in
    let ts₀ = c.args.ts.now in
    passing-done (vacated_of p) ts₀ c.loop-i.ts c.loop-i.i (omega (arith, c.loop-i-test.false)) c.loop-i.invariant
    ∙ vacated-all p (threads_of ts₀)
