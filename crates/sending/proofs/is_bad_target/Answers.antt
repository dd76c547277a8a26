-- `is_bad_target` meets its contract. Assumes nothing.
use mathlib.Core.Path.{sym, ◌∙◌}
use Rattle.rules.specs.View.{live_process, live_thread, the_thread}
use Rattle.rules.specs.Store.{view}
use Rattle.sound.specs.Lent.{decoded, view_of, lent}
use Rattle.sound.proofs.Facts.{processes-long, threads-long}
use Rattle.view.proofs.Live.{owner-known}
use Rattle.sending.proofs.Targets.{no-process, process-itself, no-thread, whose-thread}
use Rattle.sending.proofs.is_bad_target.Goals as goal

pub is_process-requires : goal.is_process-requires
is_process-requires c =
    processes-long (lent c.args.ps.now c.args.ts.now c.args.tb.now c.args.pb.now) c.requires

pub returns-then-not-is_process : goal.returns-then-not-is_process
unfolding live_process view decoded
returns-then-not-is_process c =
    no-process (view_of (lent c.args.ps.now c.args.ts.now c.args.tb.now c.args.pb.now)) c.args.to c.args.thread
    (sym c.is_process.ensures ∙ c.if-not-is_process.true)

pub returns-then-thread-eq0 : goal.returns-then-thread-eq0
unfolding live_process view decoded
returns-then-thread-eq0 c =
    process-itself (view_of (lent c.args.ps.now c.args.ts.now c.args.tb.now c.args.pb.now)) c.args.to
    c.args.thread
    (sym c.is_process.ensures ∙ c.if-not-is_process.false) c.if-thread-eq0.true

pub is_thread-requires : goal.is_thread-requires
is_thread-requires c =
    threads-long (lent c.args.ps.now c.args.ts.now c.args.tb.now c.args.pb.now) c.requires

pub returns-then-not-is_thread : goal.returns-then-not-is_thread
unfolding live_process live_thread view decoded
returns-then-not-is_thread c =
    no-thread (view_of (lent c.args.ps.now c.args.ts.now c.args.tb.now c.args.pb.now)) c.args.to c.args.thread
    (sym c.is_process.ensures ∙ c.if-not-is_process.false)
    c.if-thread-eq0.false
    (sym c.is_thread.ensures ∙ c.if-not-is_thread.true)

pub process_of-requires : goal.process_of-requires
unfolding live_thread view decoded
process_of-requires c =
    let l = lent c.args.ps.now c.args.ts.now c.args.tb.now c.args.pb.now in
    let live = sym c.is_thread.ensures ∙ c.if-not-is_thread.false in
    let both = owner-known l c.requires c.args.thread live in
    record { live = both.0; good = both.1 }

pub returns : goal.returns
unfolding live_process live_thread the_thread view decoded
returns c =
    whose-thread (view_of (lent c.args.ps.now c.args.ts.now c.args.tb.now c.args.pb.now)) c.args.to
    c.args.thread
    (sym c.is_process.ensures ∙ c.if-not-is_process.false)
    c.if-thread-eq0.false c.process_of.result
    (sym c.is_thread.ensures ∙ c.if-not-is_thread.false)
    c.process_of.ensures
