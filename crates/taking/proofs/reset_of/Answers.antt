-- `reset_of` meets its contract. Assumes nothing.
use mathlib.Core.Path.{refl}
use Rattle.rules.specs.Taking.{reset}
use Rattle.taking.proofs.reset_of.Goals as goal

pub returns : goal.returns
unfolding reset
returns c = refl
