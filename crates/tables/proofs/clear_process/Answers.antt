-- `clear_process` meets its contract: a free place is all zero. Assumes nothing.
use Rattle.tables.proofs.Places.{process-cleared}
use Rattle.tables.proofs.clear_process.Goals as goal

pub returns : goal.returns
returns c =
    process-cleared c.args.ps.now c.requires.0 c.args.place c.requires.1 c.clear.new.ws c.clear.ensures
