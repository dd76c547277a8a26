-- `SigSet::without` meets its contract: `& !` is the difference. Assumes nothing.
use native.Mathlib.Omega.{arith}
use Rattle.sigset.proofs.Laws.{and-not-is}
use Rattle.sigset.proofs.SigSet.without.Goals as goal

pub returns : goal.returns
returns c = and-not-is c.args.self c.args.other (omega arith) (omega arith)
