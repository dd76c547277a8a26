-- `is_reset` meets its contract. Assumes nothing.
use mathlib.Core.Path.{refl}
use Rattle.rules.specs.Actions.{has_flag}
use Rattle.rules.specs.Taking.{resets}
use Rattle.taking.proofs.is_reset.Goals as goal

pub returns : goal.returns
unfolding resets has_flag
returns c = refl
