-- `take` meets its contract: refused, with nothing to take, or taken. Assumes nothing.
use mathlib.Core.Path.{sym, ap, ◌∙◌}
use native.Mathlib.Omega.{arith}
use Rattle.std.specs.Prelude.{Some}
use Rattle.types.specs.Answers.{refused_by}
use Rattle.rules.specs.Types.{take}
use Rattle.answers.specs.Answers.{next_of}
use Rattle.answers.proofs.Endings.{turned-away}
use borrow.Author.Rules.{rules}
use Rattle.siginfo.proofs.Numbers.{bytes-each}
use Rattle.sound.specs.Lent.{lent}
use Rattle.taking.proofs.Call.{refusal_is, take-made, take-nothing, taker-live, taker-sound}
use Rattle.taking.proofs.take.Goals as goal

pub returns-in_err-check_thread : goal.returns-in_err-check_thread
returns-in_err-check_thread c =
    let l = lent c.args.ps.now c.args.ts.now c.args.tb.now c.args.pb.now in
    turned-away (take c.args.thread) l c.check_thread.result
    (refusal_is l c.args.thread (refused_by c.check_thread.result) c.check_thread.ensures) c.from_residual.result
    c.in_err-check_thread.field-0.0 c.in_err-check_thread.was c.from_residual.ensures.1

pub next_of-requires : goal.next_of-requires
next_of-requires c =
    let l = lent c.args.ps.now c.args.ts.now c.args.tb.now c.args.pb.now in
    let t = c.args.thread in
    let n = c.check_thread in
    let z = (ap refused_by c.in_ok-check_thread.was) in
    record {
      sound = taker-sound l t (refused_by n.result) n.ensures z;
      live = taker-live l t (refused_by n.result)
          n.ensures z;
    }

pub returns-in_default : goal.returns-in_default
returns-in_default c =
    let l = lent c.args.ps.now c.args.ts.now c.args.tb.now c.args.pb.now in
    let t = c.args.thread in
    let n = c.check_thread in
    let x = c.next_of in
    take-nothing l t (refused_by n.result) n.ensures (ap refused_by c.in_ok-check_thread.was)
    x.result x.ensures c.in_default.is
    (bytes-each l.thread_buffer (λ k₀. omega (arith, c.slice_known-3-1.given k₀)))
    (bytes-each l.process_buffer (λ k₀. omega (arith, c.slice_known-4-1.given k₀)))

pub take_next-requires : goal.take_next-requires
unfolding next_of
take_next-requires c =
    let l = lent c.args.ps.now c.args.ts.now c.args.tb.now c.args.pb.now in
    let t = c.args.thread in
    let n = c.check_thread in
    let z = (ap refused_by c.in_ok-check_thread.was) in
    let x = c.next_of in
    record {
      sound = taker-sound l t (refused_by n.result) n.ensures z;
      live = taker-live l t (refused_by n.result) n.ensures z;
      next = ap next_of (sym c.in-Some.is) ∙ x.ensures;
    }

pub returns : goal.returns
unfolding next_of
returns c =
    let l = lent c.args.ps.now c.args.ts.now c.args.tb.now c.args.pb.now in
    let t = c.args.thread in
    let n = c.check_thread in
    let x = c.next_of in
    let w = c.take_next in
    take-made l t (refused_by n.result) n.ensures
    (ap refused_by c.in_ok-check_thread.was)
    (Some c.in-Some.next) (ap next_of (sym c.in-Some.is) ∙ x.ensures) (lent w.new.ps w.new.ts w.new.tb w.new.pb)
    (record {
      processes = search rules;
      threads = search rules;
      thread_buffer = search rules;
      process_buffer = search rules;
    })
    (bytes-each w.new.tb (λ k₀. omega (arith, c.slice_known-7-1.given k₀)))
    (bytes-each w.new.pb (λ k₀. omega (arith, c.slice_known-8-1.given k₀)))
    (Some w.result) w.ensures.answer w.ensures.tables.store
