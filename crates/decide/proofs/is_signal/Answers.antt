use mathlib.Core.Path.{refl}
use Rattle.rules.specs.Signals.{is_signal}
use Rattle.decide.proofs.is_signal.Goals as goal

pub returns : goal.returns
unfolding is_signal
returns c = refl
