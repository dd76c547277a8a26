use mathlib.Core.Path.{refl}
use Rattle.rules.specs.Sound.{good_id}
use Rattle.decide.proofs.is_id.Goals as goal

pub returns : goal.returns
unfolding good_id
returns c = refl
