-- `SigSet::intersect` meets its contract: `&` is the intersection. Assumes nothing.
use native.Mathlib.Omega.{arith}
use Rattle.sigset.proofs.Laws.{and_is}
use Rattle.sigset.proofs.SigSet.intersect.Goals as goal

pub returns : goal.returns
returns c = and_is c.args.self c.args.other (omega arith) (omega arith)
