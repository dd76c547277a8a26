use mathlib.Core.Path.{sym, ap, ◌∙◌}
use Prim.Native.Nat.{ℕ}
use native.Mathlib.Omega.{arith}
use borrow.Author.Tests.{ne_eqb}
use Rattle.rules.proofs.Queues.{queue-target, target-process, target-thread, target-owner}
use Rattle.sound.specs.Lent.{view_of, lent}
use Rattle.sound.proofs.Facts.{processes-long, threads-long, process-present, thread-present}
use Rattle.view.proofs.Pending.{process-marks-read, thread-marks-read}
use Rattle.sigset.specs.Set.{set_of}
use Rattle.rules.specs.View.{target_queue}
use Rattle.view.proofs.marks_of.Goals as goal

pub live_process-place-requires : goal.live_process-place-requires
live_process-place-requires c =
    let l = lent c.args.ps.now c.args.ts.now c.args.tb.now c.args.pb.now in
    let v = view_of l in
    process-present l c.requires.sound c.args.process
    (target-process v c.args.process c.args.thread (queue-target v c.args.process c.args.thread c.requires.live))

pub field_at-requires : goal.field_at-requires
field_at-requires c = (
  processes-long (lent c.args.ps.now c.args.ts.now c.args.tb.now c.args.pb.now) c.requires.sound,
  (c.live_process-place.ensures.inside, omega arith),
)

pub returns-then-thread-eq0 : goal.returns-then-thread-eq0
returns-then-thread-eq0 c = let t = c.if-thread-eq0.true in
    process-marks-read (lent c.args.ps.now c.args.ts.now c.args.tb.now c.args.pb.now)
    c.requires.sound c.args.process c.live_process-place.result c.field_at.result
    (target-process (view_of (lent c.args.ps.now c.args.ts.now c.args.tb.now c.args.pb.now))
    c.args.process c.args.thread
    (queue-target (view_of (lent c.args.ps.now c.args.ts.now c.args.tb.now c.args.pb.now))
    c.args.process c.args.thread c.requires.live))
    c.live_process-place.ensures.place (omega (arith, c.field_at.type_inv)) c.field_at.ensures
    ∙ ap (λ (n : ℕ). set_of ((view_of (lent c.args.ps.now c.args.ts.now c.args.tb.now c.args.pb.now)).marks
    (target_queue c.args.process n))) (sym t)

pub live_thread-place-requires : goal.live_thread-place-requires
live_thread-place-requires c =
    let l = lent c.args.ps.now c.args.ts.now c.args.tb.now c.args.pb.now in
    let v = view_of l in
    thread-present l c.requires.sound c.args.thread
    (target-thread v c.args.process c.args.thread (queue-target v c.args.process c.args.thread c.requires.live)
    (ne_eqb c.args.thread 0 c.if-thread-eq0.false))

pub thread_field_at-requires : goal.thread_field_at-requires
thread_field_at-requires c = (
  threads-long (lent c.args.ps.now c.args.ts.now c.args.tb.now c.args.pb.now) c.requires.sound,
  (c.live_thread-place.ensures.inside, omega arith),
)

pub returns : goal.returns
returns c = let n = ne_eqb c.args.thread 0 c.if-thread-eq0.false in
    thread-marks-read (lent c.args.ps.now c.args.ts.now c.args.tb.now c.args.pb.now) c.requires.sound
    c.args.process c.args.thread c.live_thread-place.result c.thread_field_at.result
    (target-thread (view_of (lent c.args.ps.now c.args.ts.now c.args.tb.now c.args.pb.now))
    c.args.process c.args.thread
    (queue-target (view_of (lent c.args.ps.now c.args.ts.now c.args.tb.now c.args.pb.now))
    c.args.process c.args.thread c.requires.live) n)
    (target-owner (view_of (lent c.args.ps.now c.args.ts.now c.args.tb.now c.args.pb.now))
    c.args.process c.args.thread
    (queue-target (view_of (lent c.args.ps.now c.args.ts.now c.args.tb.now c.args.pb.now))
    c.args.process c.args.thread c.requires.live) n)
    c.live_thread-place.ensures.place (omega (arith, c.thread_field_at.type_inv)) c.thread_field_at.ensures
