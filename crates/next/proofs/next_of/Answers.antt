-- `next_of` meets its contract. Assumes nothing.
use mathlib.Core.Path.{refl, sym, ap, ◌∙◌}
use Rattle.sigset.proofs.Nonzero.{nonzero-none, nonzero-some, some-pos}
use Rattle.rules.specs.View.{the_thread}
use Rattle.rules.specs.Taking.{next_signal}
use Rattle.answers.specs.Answers.{next_of}
use Rattle.sound.specs.Lent.{view_of, lent}
use Rattle.sound.proofs.Facts.{thread-buffer-long, process-buffer-long}
use Rattle.view.proofs.Live.{owner-known, own-queue}
use Rattle.next.proofs.Nexts.{nothing-next, own-next, shared-next}
use Rattle.next.proofs.next_of.Goals as goal

pub returns-in_err-s : goal.returns-in_err-s
returns-in_err-s c =
    let v = view_of (lent c.args.ps.now c.args.ts.now c.args.tb.now c.args.pb.now) in
    let th = the_thread v c.args.thread in
    ap next_of c.from_residual.ensures
    ∙ nothing-next v th (next_signal v th) refl
    (nonzero-none (next_signal v th) (sym c.next_signal.ensures ∙ c.in_err-s.was))

pub process_of-process-requires : goal.process_of-process-requires
process_of-process-requires c =
    let l = lent c.args.ps.now c.args.ts.now c.args.tb.now c.args.pb.now in
    let both = owner-known l c.requires.sound c.args.thread c.requires.live in
    record { live = both.0; good = both.1 }

pub pending_of-own-requires : goal.pending_of-own-requires
pending_of-own-requires c =
    record {
      sound = c.requires.sound;
      live =
          own-queue (lent c.args.ps.now c.args.ts.now c.args.tb.now c.args.pb.now) c.requires.sound c.args.thread
          c.requires.live c.process_of-process.result c.process_of-process.ensures;
    }

pub next_in-requires : goal.next_in-requires
next_in-requires c =
    thread-buffer-long (lent c.args.ps.now c.args.ts.now c.args.tb.now c.args.pb.now) c.requires.sound

pub returns-then-has : goal.returns-then-has
returns-then-has c =
    own-next (lent c.args.ps.now c.args.ts.now c.args.tb.now c.args.pb.now) c.args.thread
    c.process_of-process.result c.in_ok-s.s
    c.requires.live c.process_of-process.ensures (nonzero-some _ _ (sym c.next_signal.ensures ∙ c.in_ok-s.was))
    (some-pos _ _ (sym c.next_signal.ensures ∙ c.in_ok-s.was)) c.next_in.result
    c.pending_of-own.result c.has.result c.pending_of-own.ensures c.has.ensures
    c.if-has.true c.next_in.ensures

pub next_in-requires-2 : goal.next_in-requires-2
next_in-requires-2 c =
    process-buffer-long (lent c.args.ps.now c.args.ts.now c.args.tb.now c.args.pb.now) c.requires.sound

pub returns : goal.returns
returns c =
    shared-next (lent c.args.ps.now c.args.ts.now c.args.tb.now c.args.pb.now) c.args.thread
    c.process_of-process.result c.in_ok-s.s
    c.requires.live c.process_of-process.ensures (nonzero-some _ _ (sym c.next_signal.ensures ∙ c.in_ok-s.was))
    (some-pos _ _ (sym c.next_signal.ensures ∙ c.in_ok-s.was)) c.next_in-2.result
    c.pending_of-own.result c.has.result c.pending_of-own.ensures c.has.ensures
    c.if-has.false c.next_in-2.ensures
