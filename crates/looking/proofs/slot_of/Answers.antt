-- `slot_of` meets its contract. Assumes nothing.
use Prim.Native.Nat.{ℕ, ◌+◌, ◌-◌, ◌*◌}
use mathlib.Core.Path.{◌≡◌, ap}
use native.Mathlib.Omega.{arith}
use lib.ListN.{take, drop}
use Rattle.limits.specs.Limits.{record_bytes}
use Rattle.looking.proofs.slot_of.Goals as goal

pub returns : goal.returns
returns c =
    let w : c.args.k * record_bytes + record_bytes - c.args.k * record_bytes ≡ record_bytes = omega arith in
    ap (λ (n : ℕ). take n (drop (c.args.k * record_bytes) c.args.b.now)) w
