-- `SigSet::union` meets its contract: `|` is the union. Assumes nothing.
use native.Mathlib.Omega.{arith}
use Rattle.sigset.proofs.Laws.{or_is}
use Rattle.sigset.proofs.SigSet.union.Goals as goal

pub returns : goal.returns
returns c = or_is c.args.self c.args.other (omega arith) (omega arith)
