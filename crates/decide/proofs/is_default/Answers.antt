-- `is_default` meets its contract: field by field. Assumes nothing.
use Rattle.rules.specs.Sound.{is_default}
use Rattle.decide.proofs.is_default.Goals as goal

pub returns : goal.returns
unfolding is_default
returns c = c.eq.ensures
