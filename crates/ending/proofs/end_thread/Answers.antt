-- `end_thread` meets its contract: refused, or the thread is gone, and its process with it where it was the last one.
-- Assumes nothing.
use mathlib.Core.Path.{ap}
use Rattle.types.specs.Answers.{refused_by}
use Rattle.rules.specs.Types.{end_thread}
use Rattle.answers.proofs.Endings.{turned-away}
use native.Mathlib.Omega.{arith}
use Rattle.siginfo.proofs.Numbers.{bytes-each}
use Rattle.sound.specs.Lent.{lent}
use Rattle.ending.proofs.Ended.{thread-number, thread-can-end, thread-ended}
use borrow.Author.Rules.{rules}
use Rattle.ending.proofs.end_thread.Goals as goal

pub returns-in_err-check_thread : goal.returns-in_err-check_thread
returns-in_err-check_thread c =
    let l = lent c.args.ps.now c.args.ts.now c.args.tb.now c.args.pb.now in
    turned-away (end_thread c.args.id) l c.check_thread.result
    (thread-number l c.args.id (refused_by c.check_thread.result) c.check_thread.ensures) c.from_residual.result
    c.in_err-check_thread.field-0.0 c.in_err-check_thread.was c.from_residual.ensures.1

pub remove-requires : goal.remove-requires
remove-requires c =
    thread-can-end (lent c.args.ps.now c.args.ts.now c.args.tb.now c.args.pb.now) c.args.id
    (refused_by c.check_thread.result) c.check_thread.ensures (ap refused_by c.in_ok-check_thread.was)

pub returns : goal.returns
returns c =
    thread-ended (lent c.args.ps.now c.args.ts.now c.args.tb.now c.args.pb.now) c.args.id
    (refused_by c.check_thread.result) c.check_thread.ensures (ap refused_by c.in_ok-check_thread.was)
    (lent c.remove.new.ps c.remove.new.ts c.remove.new.tb c.remove.new.pb)
    (record {
      processes = search rules;
      threads = search rules;
      thread_buffer = search rules;
      process_buffer = search rules;
    })
    (bytes-each c.remove.new.tb (λ k. omega (arith, c.type_inv.tb k)))
    (bytes-each c.remove.new.pb (λ k. omega (arith, c.type_inv.pb k)))
    c.remove.ensures
