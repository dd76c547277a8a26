-- `SigSet::has` meets its contract. Assumes nothing.
use mathlib.Core.Path.{sym}
use native.Mathlib.Omega.{arith}
use Rattle.sigset.proofs.Laws.{has-beyond, has-at}
use Rattle.sigset.proofs.SigSet.has.Goals as goal
use Rattle.sigset.proofs.SigSet.has.Goals.{then-s-eq0-via-then-s-eq0, then-s-eq0-via-else-s-eq0+then-s-gt-SIGNALS}

pub returns-then-s-eq0 : goal.returns-then-s-eq0
returns-then-s-eq0 c =
    elim c.then-s-eq0.branch [
      | then-s-eq0-via-then-s-eq0 w ↦ sym (has-beyond c.args.self c.args.s (omega arith) (λ h. omega arith))
      | then-s-eq0-via-else-s-eq0+then-s-gt-SIGNALS w ↦
          sym (has-beyond c.args.self c.args.s (omega arith) (λ h. omega arith))
    ]

pub returns : goal.returns
returns c = sym (has-at c.args.self c.args.s (omega arith))
