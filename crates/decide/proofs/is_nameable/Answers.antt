use Rattle.rules.specs.Sound.{nameable}
use Rattle.decide.proofs.is_nameable.Goals as goal

pub returns : goal.returns
unfolding nameable
returns c = rw c.is_signal.ensures
