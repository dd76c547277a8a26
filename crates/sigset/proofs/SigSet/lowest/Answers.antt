-- `SigSet::lowest` meets its contract. Assumes nothing.
use mathlib.Core.Path.{sym, ap, ◌∙◌}
use native.Mathlib.Omega.{arith}
use lib.Count.{trailing_le}
use Rattle.limits.specs.Limits.{signals}
use Rattle.sigset.specs.Set.{nonzero}
use Rattle.sigset.proofs.Nonzero.{nonzero-pos}
use Rattle.sigset.proofs.Trailing.{lowest-empty, lowest-trailing}
use Rattle.sigset.proofs.SigSet.lowest.Goals as goal

pub returns-then-self-eq0 : goal.returns-then-self-eq0
returns-then-self-eq0 c = ap nonzero (sym (lowest-empty c.args.self (omega arith)))

pub overflow_add-result : goal.overflow_add-result
overflow_add-result c = omega (arith, trailing_le signals c.args.self.0)

pub returns : goal.returns
returns c =
    sym (nonzero-pos _ (omega arith))
    ∙ ap nonzero (sym (lowest-trailing c.args.self (omega arith) (omega arith)))
