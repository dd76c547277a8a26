-- `in_queue` meets its contract. Assumes nothing.
use mathlib.Core.Path.{ap}
use mathlib.Core.Bool.{◌&&◌}
use lib.Dec.{eqb}
use Rattle.rules.specs.View.{in_queue}
use Rattle.queue.proofs.in_queue.Goals as goal

pub returns : goal.returns
unfolding in_queue
returns c = ap (λ b. b && eqb c.args.r.signal c.args.signal) c.is_of.ensures
