-- `read_u32` meets its contract. Assumes nothing.
use Rattle.siginfo.proofs.Numbers.{number-read}
use Rattle.siginfo.proofs.read_u32.Goals as goal

pub returns : goal.returns
returns c = number-read 3 c.args.b.now c.args.at c.requires c.part.ensures c.from_le_bytes.ensures
