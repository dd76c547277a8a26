use mathlib.Core.Path.{refl}
use Rattle.rules.specs.Signals.{ignoring}
use Rattle.decide.proofs.is_ignoring.Goals as goal

pub returns : goal.returns
unfolding ignoring
returns c = refl
