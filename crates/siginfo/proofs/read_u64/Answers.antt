-- `read_u64` meets its contract. Assumes nothing.
use Rattle.siginfo.proofs.Numbers.{number-read}
use Rattle.siginfo.proofs.read_u64.Goals as goal

pub returns : goal.returns
returns c = number-read 7 c.args.b.now c.args.at c.requires c.part.ensures c.from_le_bytes.ensures
