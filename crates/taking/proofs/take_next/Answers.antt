-- `take_next` meets its contract: what is next leaves its queue, then it is delivered. Assumes nothing.
use Rattle.rules.specs.Taking.{deliver}
use Rattle.sound.proofs.Facts.{thread-present}
use Rattle.sound.specs.Lent.{lent}
use Rattle.effects.specs.Effects.{thread_of}
use Rattle.effects.proofs.Makes.{ready-part, ready-last, made-last}
use Rattle.view.proofs.Live.{owner-known, owner-present}
use Rattle.taking.proofs.Taken.{answered, signal-named, known}
use Rattle.taking.proofs.take_next.Goals as goal

pub process_of-process-requires : goal.process_of-process-requires
process_of-process-requires c =
    let l = lent c.args.ps.now c.args.ts.now c.args.tb.now c.args.pb.now in
    let t = c.args.thread in
    let both = owner-known l c.requires.sound t c.requires.live in
    record { live = both.0; good = both.1 }

pub mask_of-mask-requires : goal.mask_of-mask-requires
mask_of-mask-requires c =
    let l = lent c.args.ps.now c.args.ts.now c.args.tb.now c.args.pb.now in
    let t = c.args.thread in
    thread-present l c.requires.sound t c.requires.live

pub action_of-a-requires : goal.action_of-a-requires
action_of-a-requires c =
    let l = lent c.args.ps.now c.args.ts.now c.args.tb.now c.args.pb.now in
    let t = c.args.thread in
    let r = c.info_of-r in
    let p = c.process_of-process in
    record {
      live = owner-present l c.requires.sound t c.requires.live p.result p.ensures;
      le_signal = signal-named l c.requires.sound t c.requires.live c.args.next c.requires.next
          r.result
          r.ensures;
    }

pub dequeue-requires : goal.dequeue-requires
dequeue-requires c =
    let l = lent c.args.ps.now c.args.ts.now c.args.tb.now c.args.pb.now in
    let t = c.args.thread in
    let r = c.info_of-r in
    let p = c.process_of-process in
    let m = c.mask_of-mask in
    let b = c.action_of-a in
    let d =
    known l c.requires.sound t c.requires.live c.args.next c.requires.next r.result r.ensures
    p.result p.ensures m.result m.ensures b.result b.ensures in
    ready-part (deliver (thread_of t p.result m.result) b.result r.result.signal) d.ready d.parts

pub deliver-requires : goal.deliver-requires
deliver-requires c =
    let l = lent c.args.ps.now c.args.ts.now c.args.tb.now c.args.pb.now in
    let t = c.args.thread in
    let r = c.info_of-r in
    let p = c.process_of-process in
    let m = c.mask_of-mask in
    let b = c.action_of-a in
    let d =
    known l c.requires.sound t c.requires.live c.args.next c.requires.next r.result r.ensures
    p.result p.ensures m.result m.ensures b.result b.ensures in
    let w = c.dequeue in
    ready-last d.ready w.ensures d.parts

pub returns : goal.returns
returns c =
    let l = lent c.args.ps.now c.args.ts.now c.args.tb.now c.args.pb.now in
    let t = c.args.thread in
    let r = c.info_of-r in
    let p = c.process_of-process in
    let m = c.mask_of-mask in
    let b = c.action_of-a in
    let d =
    known l c.requires.sound t c.requires.live c.args.next c.requires.next r.result r.ensures
    p.result p.ensures m.result m.ensures b.result b.ensures in
    let w = c.dequeue in
    let z = c.deliver in
    record {
      answer = answered d c.delivered.result c.delivered.ensures;
      tables = made-last w.ensures z.ensures d.parts;
    }
