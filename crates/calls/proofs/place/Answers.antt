-- `place` meets its contract. Assumes nothing.
use Rattle.sound.specs.Lent.{lent}
use Rattle.calls.specs.Calls.{placing_of}
use Rattle.calls.proofs.Asked.{by-case}
use Rattle.calls.proofs.place.Goals as goal

pub returns-in-AddProcess : goal.returns-in-AddProcess
unfolding placing_of
returns-in-AddProcess c =
    let r = c.add_process in
    by-case placing_of c.args.c _ c.in-AddProcess.is
    (lent c.args.ps.now c.args.ts.now c.args.tb.now c.args.pb.now) r.result
    (lent r.new.ps r.new.ts r.new.tb r.new.pb) r.ensures

pub returns-in-AddThread : goal.returns-in-AddThread
unfolding placing_of
returns-in-AddThread c =
    let r = c.add_thread in
    by-case placing_of c.args.c _ c.in-AddThread.is
    (lent c.args.ps.now c.args.ts.now c.args.tb.now c.args.pb.now) r.result
    (lent r.new.ps r.new.ts r.new.tb r.new.pb) r.ensures

pub returns-in-EndProcess : goal.returns-in-EndProcess
unfolding placing_of
returns-in-EndProcess c =
    let r = c.end_process in
    by-case placing_of c.args.c _ c.in-EndProcess.is
    (lent c.args.ps.now c.args.ts.now c.args.tb.now c.args.pb.now) r.result
    (lent r.new.ps r.new.ts r.new.tb r.new.pb) r.ensures

pub returns-in-EndThread : goal.returns-in-EndThread
unfolding placing_of
returns-in-EndThread c =
    let r = c.end_thread in
    by-case placing_of c.args.c _ c.in-EndThread.is
    (lent c.args.ps.now c.args.ts.now c.args.tb.now c.args.pb.now) r.result
    (lent r.new.ps r.new.ts r.new.tb r.new.pb) r.ensures
