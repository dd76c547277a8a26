-- `check_mask` meets its contract, a row for each return. Assumes nothing.
use mathlib.Core.Path.{sym, ◌∙◌}
use borrow.Author.Tests.{not-false}
use Rattle.sound.proofs.Facts.{threads-long}
use Rattle.sound.specs.Lent.{lent}
use Rattle.view.proofs.Live.{no-thread}
use Rattle.types.specs.Answers.{given}
use Rattle.masks.proofs.Masks.{mask-fault, mask-bad, mask-gone, mask-none}
use Rattle.masks.proofs.check_mask.Goals as goal

pub returns-then-not-sound : goal.returns-then-not-sound
returns-then-not-sound c =
    let l = lent c.args.ps.now c.args.ts.now c.args.tb.now c.args.pb.now in
    mask-fault l c.args.thread c.args.way (given c.args.set)
    (sym c.sound.ensures ∙ c.if-not-sound.true)

pub returns-then-is_bad_way : goal.returns-then-is_bad_way
returns-then-is_bad_way c =
    let l = lent c.args.ps.now c.args.ts.now c.args.tb.now c.args.pb.now in
    let e =
    sym c.sound.ensures
    ∙ c.if-not-sound.false in
    mask-bad l c.args.thread c.args.way (given c.args.set) e
    (sym c.is_bad_way.ensures ∙ c.if-is_bad_way.true)

pub is_thread-requires : goal.is_thread-requires
is_thread-requires c =
    let l = lent c.args.ps.now c.args.ts.now c.args.tb.now c.args.pb.now in
    threads-long l
    (sym c.sound.ensures
    ∙ c.if-not-sound.false)

pub returns-then-not-is_thread : goal.returns-then-not-is_thread
returns-then-not-is_thread c =
    let l = lent c.args.ps.now c.args.ts.now c.args.tb.now c.args.pb.now in
    let e =
    sym c.sound.ensures
    ∙ not-false c.sound.result
    c.if-not-sound.false-raw in
    let b = sym c.is_bad_way.ensures ∙ c.if-is_bad_way.false in
    let g = no-thread l c.args.thread c.is_thread.result c.is_thread.ensures in
    mask-gone l c.args.thread c.args.way (given c.args.set) e b (g ∙ c.if-not-is_thread.true-raw)

pub returns : goal.returns
returns c =
    let l = lent c.args.ps.now c.args.ts.now c.args.tb.now c.args.pb.now in
    let e =
    sym c.sound.ensures
    ∙ not-false c.sound.result
    c.if-not-sound.false-raw in
    let b = sym c.is_bad_way.ensures ∙ c.if-is_bad_way.false in
    let g = no-thread l c.args.thread c.is_thread.result c.is_thread.ensures in
    mask-none l c.args.thread c.args.way (given c.args.set) e b (g ∙ c.if-not-is_thread.false-raw)
