-- `set` meets its contract. Assumes nothing.
use Rattle.sound.specs.Lent.{lent}
use Rattle.calls.specs.Calls.{setting_of}
use Rattle.calls.proofs.Asked.{by-case}
use Rattle.calls.proofs.set.Goals as goal

pub returns-in-Sigaction : goal.returns-in-Sigaction
unfolding setting_of
returns-in-Sigaction c =
    let r = c.sigaction in
    by-case setting_of c.args.c _ c.in-Sigaction.is
    (lent c.args.ps.now c.args.ts.now c.args.tb.now c.args.pb.now) r.result
    (lent r.new.ps r.new.ts r.new.tb r.new.pb) r.ensures

pub returns-in-Sigmask : goal.returns-in-Sigmask
unfolding setting_of
returns-in-Sigmask c =
    let r = c.sigmask in
    by-case setting_of c.args.c _ c.in-Sigmask.is
    (lent c.args.ps.now c.args.ts.now c.args.tb.now c.args.pb.now) r.result
    (lent r.new.ps r.new.ts r.new.tb r.new.pb) r.ensures

pub returns-in-Sigreturn : goal.returns-in-Sigreturn
unfolding setting_of
returns-in-Sigreturn c =
    let r = c.sigreturn in
    by-case setting_of c.args.c _ c.in-Sigreturn.is
    (lent c.args.ps.now c.args.ts.now c.args.tb.now c.args.pb.now) r.result
    (lent r.new.ps r.new.ts r.new.tb r.new.pb) r.ensures
