-- `change_threads_marks` meets its contract. The invariant: the threads below i have their marks changed.
-- Assumes nothing.
use mathlib.Core.Path.{◌∙◌, ap}
use native.Mathlib.Omega.{arith}
use borrow.Author.Rules.{rules}
use lib.ListN.{length}
use Rattle.tables.specs.Tables.{threads_of, thread_at}
use Rattle.effects.specs.Effects.{with_marking_of}
use Rattle.effects.proofs.Marks.{passing-start, passing_step, passing-skip, passing-done}
use Rattle.effects.proofs.Marks.{marks-changed-here, marks-changed-not}
use Rattle.effects.proofs.change_threads_marks.Goals as goal
use Rattle.effects.proofs.change_threads_marks.Goals.{then-thread_field_at-process, else-thread_field_at-process}

pub loop-i-init : goal.loop-i-init
loop-i-init c =
    passing-start (with_marking_of c.args.process c.args.how) c.args.ts.now c.requires

pub loop-i-preserved : goal.loop-i-preserved
loop-i-preserved c =
    let p = c.args.process in
    let how = c.args.how in
    let ts₀ = c.args.ts.now in
    let ts = c.loop-i.ts in
    let i = c.loop-i.i in
    let x = thread_at ts i in
    let h = c.loop-i-test.true in
    elim c.if-thread_field_at-process.branch [
      | then-thread_field_at-process w ↦
          passing_step (with_marking_of p how) ts₀ ts i c.loop-i.invariant h c.if-thread_field_at-process.ts _
          (marks-changed-here p c.thread_field_at.result x c.thread_field_at.ensures how
          w.thread_field_at-then-thread_field_at-process.result w.marked-m.result
          w.if-thread_field_at-process.true w.thread_field_at-then-thread_field_at-process.ensures
          w.marked-m.ensures)
          (ap length w.ts-is ∙ search rules) (ap threads_of w.ts-is ∙ w.put_thread_field.ensures)
      | else-thread_field_at-process w ↦
          passing-skip (with_marking_of p how) ts₀ ts i c.loop-i.invariant h c.if-thread_field_at-process.ts
          (marks-changed-not p c.thread_field_at.result x c.thread_field_at.ensures how
          w.if-thread_field_at-process.false) w.ts-is
    ]

pub returns : goal.returns
returns c =
    passing-done (with_marking_of c.args.process c.args.how) c.args.ts.now c.loop-i.ts c.loop-i.i
    (omega (arith, c.loop-i-test.false)) c.loop-i.invariant
