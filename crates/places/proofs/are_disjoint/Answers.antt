use mathlib.Core.Path.{ap}
use lib.Dec.{eqb}
use Rattle.sigset.specs.declared.SigSet.{SigSet}
use Rattle.soundness.specs.Check.{disjoint}
use Rattle.places.proofs.are_disjoint.Goals as goal

pub returns : goal.returns
unfolding disjoint
returns c = ap (λ (a : SigSet). eqb a.0 0) c.intersect-both.ensures
