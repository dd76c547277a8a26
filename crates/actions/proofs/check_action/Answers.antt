-- `check_action` meets its contract, a row for each return. Assumes nothing.
use mathlib.Core.Path.{sym, ◌∙◌}
use borrow.Author.Tests.{not-false}
use Rattle.sound.proofs.Facts.{processes-long}
use Rattle.sound.specs.Lent.{lent}
use Rattle.view.proofs.Live.{no-process}
use Rattle.types.specs.Answers.{given}
use Rattle.actions.proofs.Actions.{action-fault, action-bad, action-gone, action-none}
use Rattle.actions.proofs.check_action.Goals as goal

pub returns-then-not-sound : goal.returns-then-not-sound
returns-then-not-sound c =
    let l = lent c.args.ps.now c.args.ts.now c.args.tb.now c.args.pb.now in
    action-fault l c.args.process c.args.signal (given c.args.new)
    (sym c.sound.ensures ∙ c.if-not-sound.true)

pub returns-then-is_bad_action : goal.returns-then-is_bad_action
returns-then-is_bad_action c =
    let l = lent c.args.ps.now c.args.ts.now c.args.tb.now c.args.pb.now in
    let e =
    sym c.sound.ensures
    ∙ c.if-not-sound.false in
    action-bad l c.args.process c.args.signal (given c.args.new) e
    (sym c.is_bad_action.ensures ∙ c.if-is_bad_action.true)

pub is_process-requires : goal.is_process-requires
is_process-requires c =
    let l = lent c.args.ps.now c.args.ts.now c.args.tb.now c.args.pb.now in
    processes-long l
    (sym c.sound.ensures
    ∙ c.if-not-sound.false)

pub returns-then-not-is_process : goal.returns-then-not-is_process
returns-then-not-is_process c =
    let l = lent c.args.ps.now c.args.ts.now c.args.tb.now c.args.pb.now in
    let e =
    sym c.sound.ensures
    ∙ not-false c.sound.result
    c.if-not-sound.false-raw in
    let b = sym c.is_bad_action.ensures ∙ c.if-is_bad_action.false in
    let g = no-process l c.args.process c.is_process.result c.is_process.ensures in
    action-gone l c.args.process c.args.signal (given c.args.new) e b (g ∙ c.if-not-is_process.true-raw)

pub returns : goal.returns
returns c =
    let l = lent c.args.ps.now c.args.ts.now c.args.tb.now c.args.pb.now in
    let e =
    sym c.sound.ensures
    ∙ not-false c.sound.result
    c.if-not-sound.false-raw in
    let b = sym c.is_bad_action.ensures ∙ c.if-is_bad_action.false in
    let g = no-process l c.args.process c.is_process.result c.is_process.ensures in
    action-none l c.args.process c.args.signal (given c.args.new) e b (g ∙ c.if-not-is_process.false-raw)
