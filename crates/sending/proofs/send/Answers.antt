-- `send` meets its contract: refused, or carried out. Assumes nothing.
use mathlib.Core.Path.{ap, ◌∙◌}
use native.Mathlib.Omega.{arith}
use Rattle.std.specs.Prelude.{is_some}
use Rattle.siginfo.proofs.Numbers.{bytes-each}
use Rattle.types.specs.declared.Reply.TheVariants.{Sent}
use Rattle.sound.specs.Lent.{lent, view_of}
use Rattle.answers.proofs.Endings.{turned-away, accepted-ends}
use Rattle.effects.proofs.Makes.{made_as}
use Rattle.sending.specs.Generations.{generation_of}
use Rattle.sending.specs.Decisions.{value_of, call_of}
use Rattle.sending.proofs.Refused.{allowed-ready}
use Rattle.sending.proofs.Carried.{send-makes, send-answers, plain-nought, decided-number, when-allowed}
use Rattle.sending.proofs.send.Goals as goal

pub returns-in_err-f : goal.returns-in_err-f
returns-in_err-f c =
    let l = lent c.args.ps.now c.args.ts.now c.args.tb.now c.args.pb.now in
    turned-away (call_of c.args.s) l c.judge.result (decided-number l c.args.s c.judge.result c.judge.ensures)
    c.from_residual.result c.in_err-f.field-0.0 c.in_err-f.was c.from_residual.ensures.1

pub generate-requires : goal.generate-requires
generate-requires c =
    let l = lent c.args.ps.now c.args.ts.now c.args.tb.now c.args.pb.now in
    let x = c.args.s in
    let y = when-allowed l x c.judge.result c.judge.ensures (c.in_ok-f.f, c.in_ok-f.r) c.in_ok-f.was in
    allowed-ready l x.by x.to x.thread x.signal (value_of x) (is_some x.value) y.0
    (generation_of c.in_ok-f.f) c.in_ok-f.r y.1.0 y.1.1

pub returns : goal.returns
returns c =
    let l = lent c.args.ps.now c.args.ts.now c.args.tb.now c.args.pb.now in
    let x = c.args.s in
    let f = c.in_ok-f.f in
    let r = c.in_ok-f.r in
    let y = when-allowed l x c.judge.result c.judge.ensures (c.in_ok-f.f, c.in_ok-f.r) c.in_ok-f.was in
    let k = c.generate in
    let m = lent k.new.ps k.new.ts k.new.tb k.new.pb in
    let v = view_of l in
    accepted-ends (call_of x) l y.0 (Sent c.sent.result)
    (ap Sent c.sent.ensures
    ∙ send-answers v x.by x.to x.thread x.signal (value_of x) (is_some x.value) (generation_of f) y.1.0) m
    (record {
      processes = k.auto.ps;
      threads = k.auto.ts;
      thread_buffer = k.auto.tb;
      process_buffer = k.auto.pb;
    })
    (bytes-each m.thread_buffer (λ k₀. omega (arith, c.type_inv.tb k₀)))
    (bytes-each m.process_buffer (λ k₀. omega (arith, c.type_inv.pb k₀)))
    (made_as k.ensures
    (send-makes v x.by x.to x.thread x.signal (value_of x) (is_some x.value) (plain-nought x.value) (generation_of f) r
    y.1.0 y.1.1)).store
