-- `serve` meets its contract. Assumes nothing.
use mathlib.Core.Path.{sym, ◌∙◌}
use lib.ListN.{length}
use Rattle.sound.specs.Lent.{lent}
use Rattle.calls.specs.Calls.{call_of}
use Rattle.boundary.proofs.Served.{accepted-call, accepted-room, turned-away, step-refused, step-answered}
use Rattle.boundary.proofs.serve.Goals as goal

pub returns-then-not-is_accepted : goal.returns-then-not-is_accepted
returns-then-not-is_accepted c =
    turned-away c.args.number c.args.g
    (lent c.args.ps.now c.args.ts.now c.args.tb.now c.args.pb.now) c.args.out.now
    (sym c.is_accepted.ensures ∙ c.if-not-is_accepted.true) _ c.refusal.ensures

pub call_of-requires : goal.call_of-requires
call_of-requires c =
    accepted-call c.args.number (length c.args.out.now) (sym c.is_accepted.ensures ∙ c.if-not-is_accepted.false)

pub returns-in_err-reply : goal.returns-in_err-reply
returns-in_err-reply c =
    step-refused c.args.number c.args.g
    (lent c.args.ps.now c.args.ts.now c.args.tb.now c.args.pb.now) c.args.out.now
    (sym c.is_accepted.ensures ∙ c.if-not-is_accepted.false)
    (call_of c.call_of.result) c.call_of.ensures c.step.result
    (lent c.step.new.ps c.step.new.ts c.step.new.tb c.step.new.pb) c.step.ensures
    c.from_residual.result c.in_err-reply.field-0.0 c.in_err-reply.was c.from_residual.ensures.1

pub write-requires : goal.write-requires
write-requires c =
    accepted-room c.args.number (length c.args.out.now) (sym c.is_accepted.ensures ∙ c.if-not-is_accepted.false)

pub returns : goal.returns
returns c =
    step-answered c.args.number c.args.g
    (lent c.args.ps.now c.args.ts.now c.args.tb.now c.args.pb.now) c.args.out.now
    (sym c.is_accepted.ensures ∙ c.if-not-is_accepted.false)
    (call_of c.call_of.result) c.call_of.ensures c.step.result
    (lent c.step.new.ps c.step.new.ts c.step.new.tb c.step.new.pb) c.step.ensures
    c.in_ok-reply.reply c.in_ok-reply.was
    c.reply_words.result c.write.new.out c.reply_words.ensures c.write.ensures
