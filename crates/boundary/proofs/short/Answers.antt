-- `short` meets its contract. Assumes nothing.
use mathlib.Core.Path.{refl}
use Rattle.lists.specs.Lists.{padded}
use Rattle.boundary.proofs.short.Goals as goal

pub returns : goal.returns
unfolding padded
returns c = refl
