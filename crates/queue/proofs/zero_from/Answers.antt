-- `zero_from` meets its contract. Assumes nothing.
use mathlib.Core.Path.{◌∙◌}
use native.Mathlib.Omega.{arith}
use Rattle.queue.proofs.Zeros.{slots-zero}
use Rattle.queue.proofs.zero_from.Goals as goal

pub returns : goal.returns
returns c =
    c.all_zero.ensures ∙ slots-zero c.args.b.now c.args.from (omega arith) (omega arith)
