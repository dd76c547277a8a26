-- `set_mask` meets its contract. Assumes nothing.
use Rattle.std.proofs.Common.{rules}
use Rattle.threads.proofs.Search.{mask-kept}
use Rattle.threads.proofs.set_mask.Goals as goal

pub returns-else-ne : goal.returns-else-ne
returns-else-ne c = mask-kept c.args.ts.now c.args.i c.args.m (search rules)
