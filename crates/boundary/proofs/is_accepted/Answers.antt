-- `is_accepted` meets its contract. Assumes nothing.
use mathlib.Core.Path.{refl}
use Rattle.boundary.specs.Boundary.{is_call, accepted}
use Rattle.boundary.proofs.is_accepted.Goals as goal

pub returns : goal.returns
unfolding accepted is_call
returns c = refl
