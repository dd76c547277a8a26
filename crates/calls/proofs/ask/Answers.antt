-- `ask` meets its contract. Assumes nothing.
use Rattle.sound.specs.Lent.{lent}
use Rattle.calls.specs.Calls.{asking_of}
use Rattle.calls.proofs.Asked.{answer-case}
use Rattle.calls.proofs.ask.Goals as goal

pub returns-in-Sigpending : goal.returns-in-Sigpending
unfolding asking_of
returns-in-Sigpending c =
    answer-case asking_of c.args.c _ c.in-Sigpending.is
    (lent c.args.ps.now c.args.ts.now c.args.tb.now c.args.pb.now) c.sigpending.result
    c.sigpending.ensures

pub returns-in-Look : goal.returns-in-Look
unfolding asking_of
returns-in-Look c =
    answer-case asking_of c.args.c _ c.in-Look.is
    (lent c.args.ps.now c.args.ts.now c.args.tb.now c.args.pb.now) c.look.result
    c.look.ensures

pub returns-in-Who : goal.returns-in-Who
unfolding asking_of
returns-in-Who c =
    answer-case asking_of c.args.c _ c.in-Who.is
    (lent c.args.ps.now c.args.ts.now c.args.tb.now c.args.pb.now) c.who.result
    c.who.ensures
