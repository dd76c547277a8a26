-- `sigaction` meets its contract: refused, enquired, or stored. Assumes nothing.
use mathlib.Core.Path.{sym, ap, ◌∙◌}
use native.Mathlib.Omega.{arith}
use Rattle.siginfo.proofs.Numbers.{bytes-each}
use Rattle.rules.specs.Types.{sigaction}
use Rattle.sound.proofs.Facts.{process-present}
use Rattle.sound.specs.Lent.{lent}
use Rattle.answers.proofs.Endings.{turned-away}
use Rattle.types.specs.Answers.{given, refused_by}
use Rattle.types.proofs.Given.{given-none}
use Rattle.actions.proofs.Actions.{asked-signal, action-accepted, action-kept, action-ready, action-stored}
use borrow.Author.Rules.{rules}
use Rattle.actions.proofs.sigaction.Goals as goal

pub returns-in_err-check_action : goal.returns-in_err-check_action
returns-in_err-check_action c =
    let l = lent c.args.ps.now c.args.ts.now c.args.tb.now c.args.pb.now in
    let p = c.args.process in
    let s = c.args.signal in
    let new = given c.args.new in
    turned-away (sigaction p s new) l c.check_action.result c.check_action.ensures c.from_residual.result
    c.in_err-check_action.field-0.0 c.in_err-check_action.was c.from_residual.ensures.1

pub action_of-old-requires : goal.action_of-old-requires
action_of-old-requires c =
    let l = lent c.args.ps.now c.args.ts.now c.args.tb.now c.args.pb.now in
    let p = c.args.process in
    let s = c.args.signal in
    let new = given c.args.new in
    let e = sym c.check_action.ensures ∙ ap refused_by c.in_ok-check_action.was in
    let d = action-accepted l p s new e in
    record {
      live = process-present l d.sound p d.live;
      le_signal = asked-signal s new d.fine;
    }

pub store_action-requires : goal.store_action-requires
store_action-requires c =
    let l = lent c.args.ps.now c.args.ts.now c.args.tb.now c.args.pb.now in
    let p = c.args.process in
    let s = c.args.signal in
    let new = given c.args.new in
    let e =
    sym
    c.check_action.ensures
    ∙ ap refused_by c.in_ok-check_action.was in
    let d = action-accepted l p s new e in
    action-ready l p s new e c.in-Some.a
    c.stored_of.result (ap given c.in-Some.is)
    c.stored_of.ensures

pub returns-in_default : goal.returns-in_default
returns-in_default c =
    let a =
    c in
    let l = lent a.args.ps.now a.args.ts.now a.args.tb.now a.args.pb.now in
    let p = a.args.process in
    let s = a.args.signal in
    let new = given a.args.new in
    let e =
    sym c.check_action.ensures
    ∙ ap refused_by c.in_ok-check_action.was in
    action-kept l p s new e c.action_of-old.result c.action_of-old.ensures
    (given-none c.args.new c.in_default.not-Some)
    (bytes-each l.thread_buffer (λ k₀. omega (arith, c.slice_known-3-1.given k₀)))
    (bytes-each l.process_buffer (λ k₀. omega (arith, c.slice_known-4-1.given k₀)))

pub returns-in-Some : goal.returns-in-Some
returns-in-Some c =
    let l = lent c.args.ps.now c.args.ts.now c.args.tb.now c.args.pb.now in
    let p = c.args.process in
    let s = c.args.signal in
    let new = given c.args.new in
    let e = sym c.check_action.ensures
    ∙ ap refused_by c.in_ok-check_action.was in
    let ps' = c.store_action.new.ps in
    let ts' = c.store_action.new.ts in
    let tb' = c.store_action.new.tb in
    let pb' = c.store_action.new.pb in
    action-stored l p s new e
    c.in-Some.a
    c.stored_of.result
    (ap given c.in-Some.is)
    c.stored_of.ensures
    c.action_of-old.result
    c.action_of-old.ensures
    (lent ps' ts' tb' pb')
    (record {
      processes = search rules;
      threads = search rules;
      thread_buffer = search rules;
      process_buffer = search rules;
    })
    (bytes-each tb' (λ k₀. omega (arith, c.slice_known-in-Some-3-1.given k₀)))
    (bytes-each pb' (λ k₀. omega (arith, c.slice_known-in-Some-4-1.given k₀))) c.store_action.ensures
