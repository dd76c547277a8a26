-- `check_kill` meets its contract, a return for each row. Assumes nothing.
use mathlib.Core.Path.{sym, ◌∙◌}
use mathlib.Core.Bool.{not}
use borrow.Author.Tests.{not-false}
use native.Mathlib.Omega.{arith}
use Rattle.lists.proofs.Bools.{or-fst-false, or-snd-false}
use Rattle.rules.specs.View.{live_process}
use Rattle.rules.specs.Store.{view}
use Rattle.rules.proofs.Queues.{target-process}
use Rattle.sound.specs.Lent.{decoded, view_of, lent}
use Rattle.sound.proofs.Facts.{processes-long, process-present}
use Rattle.sending.proofs.Refused.{nobody-read, may_read, kill-fault, kill-over, kill-nobody, kill-barred}
use Rattle.sending.proofs.Refused.{kill-passes}
use Rattle.sending.proofs.check_kill.Goals as goal

pub returns-then-not-sound : goal.returns-then-not-sound
returns-then-not-sound c =
    kill-fault (lent c.args.ps.now c.args.ts.now c.args.tb.now c.args.pb.now) c.args.s.by c.args.s.to
    c.args.s.thread c.args.s.signal
    (sym c.sound.ensures ∙ c.if-not-sound.true)

pub returns-then-s-gt-SIGNALS : goal.returns-then-s-gt-SIGNALS
returns-then-s-gt-SIGNALS c =
    kill-over (lent c.args.ps.now c.args.ts.now c.args.tb.now c.args.pb.now) c.args.s.by c.args.s.to
    c.args.s.thread c.args.s.signal
    (sym c.sound.ensures ∙ c.if-not-sound.false) (omega (arith, c.if-s-gt-SIGNALS.true))

pub is_process-requires : goal.is_process-requires
is_process-requires c =
    processes-long (lent c.args.ps.now c.args.ts.now c.args.tb.now c.args.pb.now)
    (sym c.sound.ensures ∙ c.if-not-sound.false)

pub is_bad_target-requires : goal.is_bad_target-requires
is_bad_target-requires c =
    sym c.sound.ensures ∙ c.if-not-sound.false

pub returns-then-is_process-is_bad_target : goal.returns-then-is_process-is_bad_target
returns-then-is_process-is_bad_target c =
    let i = c.is_process in
    let b = c.is_bad_target in
    let l = lent c.args.ps.now c.args.ts.now c.args.tb.now c.args.pb.now in
    let by = c.args.s.by in
    let to = c.args.s.to in
    let t = c.args.s.thread in
    let s = c.args.s.signal in
    kill-nobody l by to t s (sym c.sound.ensures ∙ c.if-not-sound.false)
    (omega (arith, c.if-s-gt-SIGNALS.false))
    (sym (nobody-read l by to t s i.result b.result i.ensures b.ensures) ∙ c.if-is_process-is_bad_target.true)

pub may_signal-requires : goal.may_signal-requires
unfolding live_process view decoded
may_signal-requires c =
    let i = c.is_process in
    let b = c.is_bad_target in
    let l = lent c.args.ps.now c.args.ts.now c.args.tb.now c.args.pb.now in
    let to = c.args.s.to in
    let t = c.args.s.thread in
    let sound = sym c.sound.ensures ∙ c.if-not-sound.false in
    record {
      sender = (
        processes-long l sound,
        sym i.ensures ∙ not-false i.result
            (or-fst-false (not i.result) b.result c.if-is_process-is_bad_target.false),
      );
      target = process-present l sound to
          (target-process (view_of l) to t
          (sym b.ensures ∙ or-snd-false (not i.result) b.result c.if-is_process-is_bad_target.false));
    }

pub returns-then-not-may_signal : goal.returns-then-not-may_signal
returns-then-not-may_signal c =
    let i = c.is_process in
    let b = c.is_bad_target in
    let m = c.may_signal in
    let l = lent c.args.ps.now c.args.ts.now c.args.tb.now c.args.pb.now in
    let by = c.args.s.by in
    let to = c.args.s.to in
    let t = c.args.s.thread in
    let s = c.args.s.signal in
    kill-barred l by to t s (sym c.sound.ensures ∙ c.if-not-sound.false)
    (omega (arith, c.if-s-gt-SIGNALS.false))
    (sym (nobody-read l by to t s i.result b.result i.ensures b.ensures) ∙ c.if-is_process-is_bad_target.false)
    (sym (may_read l by to t s m.result m.ensures) ∙ c.if-not-may_signal.true-raw)

pub returns : goal.returns
returns c =
    let i = c.is_process in
    let b = c.is_bad_target in
    let m = c.may_signal in
    let l = lent c.args.ps.now c.args.ts.now c.args.tb.now c.args.pb.now in
    let by = c.args.s.by in
    let to = c.args.s.to in
    let t = c.args.s.thread in
    let s = c.args.s.signal in
    kill-passes l by to t s (sym c.sound.ensures ∙ c.if-not-sound.false)
    (omega (arith, c.if-s-gt-SIGNALS.false))
    (sym (nobody-read l by to t s i.result b.result i.ensures b.ensures) ∙ c.if-is_process-is_bad_target.false)
    (sym (may_read l by to t s m.result m.ensures) ∙ c.if-not-may_signal.false-raw)
