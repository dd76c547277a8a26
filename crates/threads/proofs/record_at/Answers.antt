-- `record_at` meets its contract. Assumes nothing.
use Rattle.threads.specs.Records.{record_from}
use Rattle.threads.proofs.Words.{record-at}
use Rattle.threads.proofs.record_at.Goals as goal

pub returns : goal.returns
unfolding record_from
returns c = record-at c.args.ws.now c.args.i c.requires.0 c.requires.1
