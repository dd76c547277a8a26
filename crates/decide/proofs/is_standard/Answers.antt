use mathlib.Core.Path.{refl}
use Rattle.rules.specs.Signals.{standard}
use Rattle.decide.proofs.is_standard.Goals as goal

pub returns : goal.returns
unfolding standard
returns c = refl
