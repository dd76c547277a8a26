-- `sigpending` meets its contract: refused, or the pending set. Assumes nothing.
use mathlib.Core.Path.{ap}
use Rattle.types.specs.Answers.{refused_by}
use Rattle.rules.specs.Types.{sigpending}
use Rattle.sound.specs.Lent.{lent}
use Rattle.answers.proofs.Endings.{answer-of, turned-away}
use Rattle.answers.proofs.Rows.{live-thread}
use Rattle.masks.proofs.Pending.{pending-refusal, pending-answered}
use Rattle.masks.proofs.sigpending.Goals as goal

pub returns-in_err-check_thread : goal.returns-in_err-check_thread
returns-in_err-check_thread c =
    let l = lent c.args.ps.now c.args.ts.now c.args.tb.now c.args.pb.now in
    let n = refused_by c.check_thread.result in
    answer-of
    (turned-away (sigpending c.args.thread) l c.check_thread.result
    (pending-refusal l c.args.thread n c.check_thread.ensures) c.from_residual.result
    c.in_err-check_thread.field-0.0 c.in_err-check_thread.was c.from_residual.ensures.1)

pub blocked-requires : goal.blocked-requires
blocked-requires c =
    let l = lent c.args.ps.now c.args.ts.now c.args.tb.now c.args.pb.now in
    live-thread l c.args.thread (refused_by c.check_thread.result) c.check_thread.ensures
    (ap refused_by c.in_ok-check_thread.was)

pub returns : goal.returns
returns c =
    let l = lent c.args.ps.now c.args.ts.now c.args.tb.now c.args.pb.now in
    pending-answered l c.args.thread (refused_by c.check_thread.result)
    c.check_thread.ensures (ap refused_by c.in_ok-check_thread.was) c.blocked.result c.blocked.ensures
