-- `read` meets its contract. Assumes nothing.
use Rattle.siginfo.proofs.Slots.{read-slot}
use Rattle.siginfo.proofs.read.Goals as goal

pub returns : goal.returns
returns c =
    read-slot c.args.b.now c.args.slot _ _ _ _ _ _ _ c.read_u32.ensures c.read_u32-2.ensures
    c.read_u32-3.ensures
    c.read_u32-4.ensures c.read_u32-5.ensures c.read_u32-6.ensures c.read_u64.ensures
