-- `clear_processes` meets its contract: a free place is all zero. Assumes nothing.
use Rattle.std.proofs.Common.{rules}
use Rattle.tables.proofs.Places.{processes-cleared}
use Rattle.tables.proofs.clear_processes.Goals as goal

pub returns : goal.returns
returns c = processes-cleared c.args.ps.now c.fill.new.self c.requires (search rules)
