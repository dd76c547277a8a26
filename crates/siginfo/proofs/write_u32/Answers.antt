-- `write_u32` meets its contract. Assumes nothing.
use Rattle.siginfo.specs.Bytes.{u32_bytes}
use Rattle.siginfo.proofs.Numbers.{number-put}
use Rattle.siginfo.proofs.write_u32.Goals as goal

pub returns : goal.returns
returns c = number-put u32_bytes c.args.x c.args.b.now c.args.at c.to_le_bytes.ensures c.put.ensures
