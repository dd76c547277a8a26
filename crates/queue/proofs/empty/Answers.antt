-- `empty` meets its contract. Assumes nothing.
use mathlib.Core.Path.{◌∙◌}
use Rattle.queue.proofs.Buffer.{all-cleared}
use Rattle.queue.proofs.empty.Goals as goal

pub returns : goal.returns
returns c = c.clear.ensures ∙ all-cleared c.args.b.now
