-- `end_process` meets its contract: refused, or the process is gone. Assumes nothing.
use mathlib.Core.Path.{ap}
use Rattle.types.specs.Answers.{refused_by}
use Rattle.rules.specs.Types.{end_process}
use Rattle.answers.proofs.Endings.{turned-away}
use native.Mathlib.Omega.{arith}
use Rattle.siginfo.proofs.Numbers.{bytes-each}
use Rattle.sound.specs.Lent.{lent}
use Rattle.ending.proofs.Ended.{process-number, process-can-end, process-ended}
use borrow.Author.Rules.{rules}
use Rattle.ending.proofs.end_process.Goals as goal

pub returns-in_err-check_process : goal.returns-in_err-check_process
returns-in_err-check_process c =
    let l = lent c.args.ps.now c.args.ts.now c.args.tb.now c.args.pb.now in
    turned-away (end_process c.args.id) l c.check_process.result
    (process-number l c.args.id (refused_by c.check_process.result) c.check_process.ensures) c.from_residual.result
    c.in_err-check_process.field-0.0 c.in_err-check_process.was c.from_residual.ensures.1

pub remove_process-requires : goal.remove_process-requires
remove_process-requires c =
    process-can-end (lent c.args.ps.now c.args.ts.now c.args.tb.now c.args.pb.now)
    c.args.id (refused_by c.check_process.result) c.check_process.ensures (ap refused_by c.in_ok-check_process.was)

pub returns : goal.returns
returns c =
    process-ended (lent c.args.ps.now c.args.ts.now c.args.tb.now c.args.pb.now)
    c.args.id (refused_by c.check_process.result) c.check_process.ensures (ap refused_by c.in_ok-check_process.was)
    (lent c.remove_process.new.ps c.remove_process.new.ts c.remove_process.new.tb
    c.remove_process.new.pb)
    (record {
      processes = search rules;
      threads = search rules;
      thread_buffer = search rules;
      process_buffer = search rules;
    })
    (bytes-each c.remove_process.new.tb (λ k. omega (arith, c.type_inv.tb k)))
    (bytes-each c.remove_process.new.pb (λ k. omega (arith, c.type_inv.pb k)))
    c.remove_process.ensures
