use Rattle.rules.specs.Signals.{ignored}
use Rattle.decide.proofs.is_ignored.Goals as goal

pub returns : goal.returns
unfolding ignored
returns c = rw c.is_ignoring.ensures
