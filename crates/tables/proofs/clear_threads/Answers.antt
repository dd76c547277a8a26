-- `clear_threads` meets its contract: a free place is all zero. Assumes nothing.
use Rattle.std.proofs.Common.{rules}
use Rattle.tables.proofs.Places.{threads-cleared}
use Rattle.tables.proofs.clear_threads.Goals as goal

pub returns : goal.returns
returns c = threads-cleared c.args.ts.now c.fill.new.self c.requires (search rules)
