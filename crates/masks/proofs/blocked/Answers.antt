-- `blocked` meets its contract. Assumes nothing.
use mathlib.Core.Path.{◌∙◌}
use Rattle.sound.specs.Lent.{lent}
use Rattle.sound.proofs.Facts.{thread-present}
use Rattle.view.proofs.Live.{owner-known, own-queue, shared-queue}
use Rattle.masks.proofs.Pending.{blocked-read}
use Rattle.masks.proofs.blocked.Goals as goal

pub process_of-process-requires : goal.process_of-process-requires
process_of-process-requires c =
    let l = lent c.args.ps.now c.args.ts.now c.args.tb.now c.args.pb.now in
    let both = owner-known l c.requires.sound c.args.thread c.requires.live in
    record { live = both.0; good = both.1 }

pub pending_of-own-requires : goal.pending_of-own-requires
pending_of-own-requires c =
    let l = lent c.args.ps.now c.args.ts.now c.args.tb.now c.args.pb.now in
    record {
      sound = c.requires.sound;
      live =
          own-queue l c.requires.sound c.args.thread c.requires.live c.process_of-process.result
          c.process_of-process.ensures;
    }

pub pending_of-shared-requires : goal.pending_of-shared-requires
pending_of-shared-requires c =
    let l = lent c.args.ps.now c.args.ts.now c.args.tb.now c.args.pb.now in
    record {
      sound = c.requires.sound;
      live =
          shared-queue l c.requires.sound c.args.thread c.requires.live c.process_of-process.result
          c.process_of-process.ensures;
    }

pub mask_of-requires : goal.mask_of-requires
mask_of-requires c =
    let l = lent c.args.ps.now c.args.ts.now c.args.tb.now c.args.pb.now in
    thread-present l c.requires.sound c.args.thread c.requires.live

pub returns : goal.returns
returns c =
    let l = lent c.args.ps.now c.args.ts.now c.args.tb.now c.args.pb.now in
    c.intersect.ensures
    ∙ blocked-read l c.args.thread c.requires.live c.process_of-process.result
    c.process_of-process.ensures
    c.pending_of-own.result c.pending_of-shared.result
    c.union.result c.mask_of.result
    c.pending_of-own.ensures c.pending_of-shared.ensures
    c.union.ensures c.mask_of.ensures
