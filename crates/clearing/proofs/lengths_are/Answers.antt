-- `lengths_are` meets its contract. Assumes nothing.
use mathlib.Core.Path.{refl}
use Rattle.sound.specs.Lent.{lengths_are}
use Rattle.clearing.proofs.lengths_are.Goals as goal

pub returns : goal.returns
unfolding lengths_are
returns c = refl
