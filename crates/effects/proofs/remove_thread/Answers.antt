-- `remove_thread` meets its contract: its place and both buffers. Assumes nothing.
use mathlib.Core.Path.{refl}
use borrow.Author.Rules.{rules}
use Rattle.sound.specs.Lent.{lent, view_of}
use Rattle.sound.proofs.Facts.{threads-long, thread-buffer-laid, process-buffer-laid, thread-present}
use Rattle.effects.proofs.Makes.{fits_one, makes}
use Rattle.effects.proofs.Fitted.{removed-live}
use Rattle.effects.proofs.Removed.{thread-removed}
use Rattle.effects.proofs.remove_thread.Goals as goal

pub live_thread-place-requires : goal.live_thread-place-requires
live_thread-place-requires c =
    let l = lent c.args.ps.now c.args.ts.now c.args.tb.now c.args.pb.now in
    let n = c.args.thread in
    thread-present l c.requires.sound n (removed-live (view_of l) n (fits_one c.requires))

pub clear_thread-requires : goal.clear_thread-requires
clear_thread-requires c =
    let l = lent c.args.ps.now c.args.ts.now c.args.tb.now c.args.pb.now in
    let n = c.args.thread in
    let live = removed-live (view_of l) n (fits_one c.requires) in
    (threads-long l c.requires.sound, c.live_thread-place.ensures.inside)

pub discard-requires : goal.discard-requires
discard-requires c =
    thread-buffer-laid (lent c.args.ps.now c.args.ts.now c.args.tb.now c.args.pb.now) c.requires.sound

pub discard-requires-2 : goal.discard-requires-2
discard-requires-2 c =
    process-buffer-laid (lent c.args.ps.now c.args.ts.now c.args.tb.now c.args.pb.now) c.requires.sound

pub returns : goal.returns
returns c =
    let l = lent c.args.ps.now c.args.ts.now c.args.tb.now c.args.pb.now in
    let n = c.args.thread in
    let ts' = c.clear_thread.new.ts in
    let tb' = c.discard.new.b in
    let pb' = c.discard-2.new.b in
    makes c.requires refl (search rules) (search rules) (search rules)
    (thread-removed l c.requires.sound n c.live_thread-place.result (lent l.processes ts' tb' pb') (fits_one c.requires)
    c.live_thread-place.ensures.place
    c.clear_thread.ensures c.discard.ensures c.discard-2.ensures)
