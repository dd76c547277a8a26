use mathlib.Core.Path.{refl}
use Rattle.rules.specs.Sound.{good_user}
use Rattle.decide.proofs.is_user.Goals as goal

pub returns : goal.returns
unfolding good_user
returns c = refl
