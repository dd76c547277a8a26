-- `judge` meets its contract: refused as a plain send is, refused for want of room, or allowed. Assumes nothing.
use mathlib.Core.Path.{sym, ap, ◌∙◌}
use Rattle.std.specs.Prelude.{is_some}
use Rattle.types.specs.Answers.{number, refused_by}
use Rattle.answers.proofs.Endings.{number-some}
use Rattle.rules.proofs.Queues.{target-queue}
use Rattle.sound.specs.Lent.{view_of, lent}
use Rattle.sending.specs.Generations.{generation_of}
use Rattle.sending.specs.Decisions.{value_of, Decided}
use Rattle.sending.proofs.Refused.{kill-allowed, send-refused, send-full, send-passes}
use Rattle.sending.proofs.Carried.{refused-first}
use Rattle.sending.proofs.judge.Goals as goal

pub returns-in_err-check_kill : goal.returns-in_err-check_kill
returns-in_err-check_kill c =
    let l = lent c.args.ps.now c.args.ts.now c.args.tb.now c.args.pb.now in
    let x = c.args.s in
    let e = c.in_err-check_kill.field-0.0 in
    refused-first l x c.from_residual.result e c.from_residual.ensures.1
    (send-refused l x.by x.to x.thread x.signal (value_of x) (is_some x.value) (number e)
    (ap refused_by (sym c.in_err-check_kill.was) ∙ c.check_kill.ensures) (number-some e))

pub generation_of-f-requires : goal.generation_of-f-requires
generation_of-f-requires c =
    let k = c.check_kill in
    let l = lent c.args.ps.now c.args.ts.now c.args.tb.now c.args.pb.now in
    let x = c.args.s in
    let y = kill-allowed l x.by x.to x.thread x.signal (sym k.ensures ∙ ap refused_by c.in_ok-check_kill.was) in
    record {
      with_queue = record { sound = y.sound; live = target-queue (view_of l) x.to x.thread y.target };
      signal_le_signals = y.signal;
    }

pub has_no_room-requires : goal.has_no_room-requires
has_no_room-requires c =
    let k = c.check_kill in
    let l = lent c.args.ps.now c.args.ts.now c.args.tb.now c.args.pb.now in
    let x = c.args.s in
    (kill-allowed l x.by x.to x.thread x.signal (sym k.ensures ∙ ap refused_by c.in_ok-check_kill.was)).sound

pub returns-then-has_no_room : goal.returns-then-has_no_room
unfolding Decided
returns-then-has_no_room c =
    let h = c.has_no_room in
    let f = c.generation_of-f in
    let k = c.check_kill in
    let l = lent c.args.ps.now c.args.ts.now c.args.tb.now c.args.pb.now in
    let x = c.args.s in
    let e = sym k.ensures ∙ ap refused_by c.in_ok-check_kill.was in
    send-full l x.by x.to x.thread x.signal (value_of x) e (generation_of f.result) h.result
    h.ensures (is_some x.value) f.ensures c.if-has_no_room.true

pub info-requires : goal.info-requires
info-requires c =
    let k = c.check_kill in
    let l = lent c.args.ps.now c.args.ts.now c.args.tb.now c.args.pb.now in
    let x = c.args.s in
    let y = kill-allowed l x.by x.to x.thread x.signal (sym k.ensures ∙ ap refused_by c.in_ok-check_kill.was) in
    record { sound = y.sound; live = y.sender }

pub returns : goal.returns
unfolding Decided
returns c =
    let h = c.has_no_room in
    let f = c.generation_of-f in
    let k = c.check_kill in
    let l = lent c.args.ps.now c.args.ts.now c.args.tb.now c.args.pb.now in
    let x = c.args.s in
    let e = sym k.ensures ∙ ap refused_by c.in_ok-check_kill.was in (
      send-passes l x.by x.to x.thread x.signal (value_of x) e (generation_of f.result) h.result
          h.ensures (is_some x.value) f.ensures c.if-has_no_room.false,
      (f.ensures, c.info.ensures),
    )
