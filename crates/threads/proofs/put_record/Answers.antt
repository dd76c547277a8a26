-- `put_record` meets its contract. Assumes nothing.
use Rattle.threads.specs.Records.{record_to}
use Rattle.threads.proofs.Words.{record-put}
use Rattle.threads.proofs.put_record.Goals as goal

pub returns : goal.returns
unfolding record_to
returns c = record-put c.args.ws.now c.args.i c.args.t
