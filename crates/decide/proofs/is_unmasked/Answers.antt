use Rattle.rules.specs.Sound.{unmasked}
use Rattle.decide.proofs.is_unmasked.Goals as goal

pub returns : goal.returns
unfolding unmasked
returns c = rw (c.has-2.ensures, c.has.ensures)
