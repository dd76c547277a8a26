-- `mark_info` meets its contract. Assumes nothing.
use mathlib.Core.Path.{refl}
use Rattle.rules.specs.Taking.{mark_info}
use Rattle.taking.proofs.mark_info.Goals as goal

pub returns : goal.returns
unfolding mark_info
returns c = refl
