-- `put` meets its contract. Assumes nothing.
use native.Mathlib.Omega.{arith}
use Rattle.siginfo.proofs.Numbers.{put-sets}
use Rattle.siginfo.proofs.put.Goals as goal

pub returns : goal.returns
returns g c =
    put-sets c.args.b.now c.args.bytes c.args.at _ c.copy_from_slice.ensures.after c.copy_from_slice.ensures.len
    (omega arith)
