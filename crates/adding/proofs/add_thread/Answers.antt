-- `add_thread` meets its contract: refused, or the thread is in its place. Assumes nothing.
use mathlib.Core.Path.{ap}
use Rattle.types.specs.Answers.{refused_by}
use Rattle.rules.specs.Types.{add_thread}
use Rattle.answers.proofs.Endings.{turned-away}
use native.Mathlib.Omega.{arith}
use Rattle.siginfo.proofs.Numbers.{bytes-each}
use Rattle.sound.specs.Lent.{lent}
use Rattle.adding.proofs.Added.{creator-owned, creator-found, thread-room, thread-added}
use borrow.Author.Rules.{rules}
use Rattle.adding.proofs.add_thread.Goals as goal

pub returns-in_err-check_add_thread : goal.returns-in_err-check_add_thread
returns-in_err-check_add_thread c =
    let l = lent c.args.ps.now c.args.ts.now c.args.tb.now c.args.pb.now in
    turned-away (add_thread c.args.creator c.args.id) l c.check_add_thread.result c.check_add_thread.ensures
    c.from_residual.result
    c.in_err-check_add_thread.field-0.0 c.in_err-check_add_thread.was c.from_residual.ensures.1

pub process_of-process-requires : goal.process_of-process-requires
process_of-process-requires c =
    let both = creator-owned (lent c.args.ps.now c.args.ts.now c.args.tb.now c.args.pb.now)
    c.args.creator c.args.id (refused_by c.check_add_thread.result) c.check_add_thread.ensures
    (ap refused_by c.in_ok-check_add_thread.was) in
    record { live = both.0; good = both.1 }

pub mask_of-mask-requires : goal.mask_of-mask-requires
mask_of-mask-requires c =
    creator-found (lent c.args.ps.now c.args.ts.now c.args.tb.now c.args.pb.now)
    c.args.creator c.args.id (refused_by c.check_add_thread.result) c.check_add_thread.ensures
    (ap refused_by c.in_ok-check_add_thread.was)

pub new_thread-requires : goal.new_thread-requires
new_thread-requires c =
    let both = thread-room (lent c.args.ps.now c.args.ts.now c.args.tb.now c.args.pb.now)
    c.args.creator c.args.id (refused_by c.check_add_thread.result) c.check_add_thread.ensures
    (ap refused_by c.in_ok-check_add_thread.was) in
    record { ts_len = both.0; ts_value = both.1 }

pub returns : goal.returns
returns c =
    thread-added (lent c.args.ps.now c.args.ts.now c.args.tb.now c.args.pb.now)
    c.args.creator c.args.id (refused_by c.check_add_thread.result) c.check_add_thread.ensures
    (ap refused_by c.in_ok-check_add_thread.was)
    c.new_thread.new.ts c.process_of-process.result c.mask_of-mask.result c.process_of-process.ensures
    c.mask_of-mask.ensures
    c.new_thread.ensures (search rules)
    (bytes-each c.args.tb.now (λ k. omega (arith, c.slice_known-3-1.given k)))
    (bytes-each c.args.pb.now (λ k. omega (arith, c.slice_known-4-1.given k)))
