-- `send` meets its contract. Assumes nothing.
use Rattle.sound.specs.Lent.{lent}
use Rattle.calls.specs.Calls.{sending_of}
use Rattle.calls.proofs.Asked.{by-case}
use Rattle.calls.proofs.send.Goals as goal

pub returns-in-Kill : goal.returns-in-Kill
unfolding sending_of
returns-in-Kill c =
    let r = c.kill in
    by-case sending_of c.args.c _ c.in-Kill.is
    (lent c.args.ps.now c.args.ts.now c.args.tb.now c.args.pb.now) r.result
    (lent r.new.ps r.new.ts r.new.tb r.new.pb) r.ensures

pub returns-in-Sigqueue : goal.returns-in-Sigqueue
unfolding sending_of
returns-in-Sigqueue c =
    let r = c.sigqueue in
    by-case sending_of c.args.c _ c.in-Sigqueue.is
    (lent c.args.ps.now c.args.ts.now c.args.tb.now c.args.pb.now) r.result
    (lent r.new.ps r.new.ts r.new.tb r.new.pb) r.ensures
