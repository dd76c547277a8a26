-- `is_usable` meets its contract. Assumes nothing.
use Rattle.sound.specs.Lent.{lent}
use Rattle.boundary.proofs.Served.{usable-clear, usable-other}
use Rattle.boundary.proofs.is_usable.Goals as goal

pub returns-then-number-eq-CALL_CLEAR : goal.returns-then-number-eq-CALL_CLEAR
returns-then-number-eq-CALL_CLEAR c =
    usable-clear c.args.number (lent c.args.ps.now c.args.ts.now c.args.tb.now c.args.pb.now)
    c.if-number-eq-CALL_CLEAR.true c.lengths_are.result c.lengths_are.ensures

pub returns : goal.returns
returns c =
    usable-other c.args.number (lent c.args.ps.now c.args.ts.now c.args.tb.now c.args.pb.now)
    c.if-number-eq-CALL_CLEAR.false c.sound.result c.sound.ensures
