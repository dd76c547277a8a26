-- `write` meets its contract. Assumes nothing.
use Prim.Native.Nat.{◌*◌}
use Rattle.limits.specs.Limits.{record_bytes}
use Rattle.siginfo.proofs.Slots.{write-slot}
use Rattle.siginfo.proofs.write.Goals as goal

pub returns : goal.returns
returns c =
    write-slot c.args.b.now (c.args.slot * record_bytes) c.args.r c.write_u32.ensures
    c.write_u32-2.ensures
    c.write_u32-3.ensures c.write_u32-4.ensures c.write_u32-5.ensures c.write_u32-6.ensures
    c.write_u64.ensures
