-- `clear_thread` meets its contract: a free place is all zero. Assumes nothing.
use Rattle.tables.proofs.Places.{thread-cleared}
use Rattle.tables.proofs.clear_thread.Goals as goal

pub returns : goal.returns
returns c =
    thread-cleared c.args.ts.now c.requires.0 c.args.place c.requires.1 c.clear.new.ws c.clear.ensures
