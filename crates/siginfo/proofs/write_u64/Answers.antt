-- `write_u64` meets its contract. Assumes nothing.
use Rattle.siginfo.specs.Bytes.{u64_bytes}
use Rattle.siginfo.proofs.Numbers.{number-put}
use Rattle.siginfo.proofs.write_u64.Goals as goal

pub returns : goal.returns
returns c = number-put u64_bytes c.args.x c.args.b.now c.args.at c.to_le_bytes.ensures c.put.ensures
