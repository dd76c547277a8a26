-- `next_signal` meets its contract. Assumes nothing.
use mathlib.Core.Path.{refl, ap, ◌∙◌}
use Rattle.sigset.specs.Set.{lowest, nonzero}
use Rattle.sound.specs.Lent.{lent}
use Rattle.sound.proofs.Facts.{thread-present}
use Rattle.view.proofs.Live.{owner-known, owner-present, own-queue, shared-queue}
use Rattle.next.proofs.Signals.{signal-stopped, signal-taken}
use Rattle.next.proofs.next_signal.Goals as goal

pub process_of-process-requires : goal.process_of-process-requires
process_of-process-requires c =
    let l = lent c.args.ps.now c.args.ts.now c.args.tb.now c.args.pb.now in
    let both = owner-known l c.requires.sound c.args.thread c.requires.live in
    record { live = both.0; good = both.1 }

pub is_stopped-requires : goal.is_stopped-requires
is_stopped-requires c =
    owner-present (lent c.args.ps.now c.args.ts.now c.args.tb.now c.args.pb.now) c.requires.sound c.args.thread
    c.requires.live c.process_of-process.result c.process_of-process.ensures

pub returns-then-is_stopped : goal.returns-then-is_stopped
returns-then-is_stopped c =
    ap nonzero
    (signal-stopped (lent c.args.ps.now c.args.ts.now c.args.tb.now c.args.pb.now) c.args.thread
    c.process_of-process.result c.process_of-process.ensures
    c.is_stopped.result c.is_stopped.ensures c.if-is_stopped.true)

pub pending_of-own-requires : goal.pending_of-own-requires
pending_of-own-requires c =
    record {
      sound = c.requires.sound;
      live =
          own-queue (lent c.args.ps.now c.args.ts.now c.args.tb.now c.args.pb.now) c.requires.sound c.args.thread
          c.requires.live c.process_of-process.result c.process_of-process.ensures;
    }

pub pending_of-shared-requires : goal.pending_of-shared-requires
pending_of-shared-requires c =
    record {
      sound = c.requires.sound;
      live =
          shared-queue (lent c.args.ps.now c.args.ts.now c.args.tb.now c.args.pb.now) c.requires.sound
          c.args.thread c.requires.live c.process_of-process.result
          c.process_of-process.ensures;
    }

pub mask_of-requires : goal.mask_of-requires
mask_of-requires c =
    thread-present (lent c.args.ps.now c.args.ts.now c.args.tb.now c.args.pb.now) c.requires.sound c.args.thread
    c.requires.live

pub returns : goal.returns
returns c =
    c.lowest.ensures
    ∙ ap nonzero
    (signal-taken (lent c.args.ps.now c.args.ts.now c.args.tb.now c.args.pb.now) c.args.thread
    c.process_of-process.result c.process_of-process.ensures
    c.is_stopped.result c.is_stopped.ensures c.requires.live c.if-is_stopped.false
    c.pending_of-own.result
    c.pending_of-shared.result c.union.result
    c.mask_of.result c.without.result
    (lowest c.without.result) c.pending_of-own.ensures
    c.pending_of-shared.ensures c.union.ensures
    c.mask_of.ensures c.without.ensures refl)
