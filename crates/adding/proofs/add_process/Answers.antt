-- `add_process` meets its contract: refused, or the process and its first thread are in their places. Assumes nothing.
use mathlib.Core.Path.{ap}
use Rattle.types.specs.Answers.{refused_by}
use Rattle.rules.specs.Types.{add_process}
use Rattle.answers.proofs.Endings.{turned-away}
use native.Mathlib.Omega.{arith}
use Rattle.siginfo.proofs.Numbers.{bytes-each}
use Rattle.sound.specs.Lent.{lent}
use Rattle.adding.proofs.Added.{process-room, first-thread-room, process-added}
use borrow.Author.Rules.{rules}
use Rattle.adding.proofs.add_process.Goals as goal

pub returns-in_err-check_add_process : goal.returns-in_err-check_add_process
returns-in_err-check_add_process c =
    let l = lent c.args.ps.now c.args.ts.now c.args.tb.now c.args.pb.now in
    turned-away (add_process c.args.new) l c.check_add_process.result c.check_add_process.ensures c.from_residual.result
    c.in_err-check_add_process.field-0.0 c.in_err-check_add_process.was c.from_residual.ensures.1

pub new_process-requires : goal.new_process-requires
new_process-requires c =
    let both = process-room (lent c.args.ps.now c.args.ts.now c.args.tb.now c.args.pb.now)
    c.args.new (refused_by c.check_add_process.result) c.check_add_process.ensures
    (ap refused_by c.in_ok-check_add_process.was) in
    record { ps_len = both.0; ps_value = both.1 }

pub new_thread-requires : goal.new_thread-requires
new_thread-requires c =
    let both = first-thread-room (lent c.args.ps.now c.args.ts.now c.args.tb.now c.args.pb.now)
    c.args.new (refused_by c.check_add_process.result) c.check_add_process.ensures
    (ap refused_by c.in_ok-check_add_process.was) in
    record { ts_len = both.0; ts_value = both.1 }

pub returns : goal.returns
returns c =
    process-added (lent c.args.ps.now c.args.ts.now c.args.tb.now c.args.pb.now)
    c.args.new (refused_by c.check_add_process.result) c.check_add_process.ensures
    c.new_process.new.ps c.new_thread.new.ts c.maskable.result c.maskable.ensures
    c.new_process.ensures c.new_thread.ensures
    (ap refused_by c.in_ok-check_add_process.was) (search rules) (search rules)
    (bytes-each c.args.tb.now (λ k. omega (arith, c.slice_known-3-1.given k)))
    (bytes-each c.args.pb.now (λ k. omega (arith, c.slice_known-4-1.given k)))
