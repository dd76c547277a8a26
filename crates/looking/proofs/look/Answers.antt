-- `look` meets its contract. Assumes nothing.
use mathlib.Core.Path.{ap}
use Rattle.types.specs.Answers.{refused_by}
use Rattle.answers.proofs.Endings.{turned-away, answer-of}
use Rattle.rules.specs.Types.{look}
use Rattle.sound.specs.Lent.{lent}
use Rattle.looking.proofs.Looks.{look-refusal, look-with, look-answered}
use Rattle.looking.proofs.look.Goals as goal

pub returns-in_err-check_thread : goal.returns-in_err-check_thread
returns-in_err-check_thread c =
    let l = lent c.args.ps.now c.args.ts.now c.args.tb.now c.args.pb.now in
    answer-of
    (turned-away (look c.args.thread) l c.check_thread.result
    (look-refusal l c.args.thread (refused_by c.check_thread.result) c.check_thread.ensures) c.from_residual.result
    c.in_err-check_thread.field-0.0 c.in_err-check_thread.was c.from_residual.ensures.1)

pub next_of-requires : goal.next_of-requires
next_of-requires c =
    look-with (lent c.args.ps.now c.args.ts.now c.args.tb.now c.args.pb.now) c.args.thread
    (refused_by c.check_thread.result) c.check_thread.ensures (ap refused_by c.in_ok-check_thread.was)

pub returns : goal.returns
returns c =
    look-answered (lent c.args.ps.now c.args.ts.now c.args.tb.now c.args.pb.now) c.args.thread
    (refused_by c.check_thread.result) c.check_thread.ensures (ap refused_by c.in_ok-check_thread.was)
    c.next_of.result c.next_of.ensures
