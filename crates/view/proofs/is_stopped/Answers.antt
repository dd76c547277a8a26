-- `is_stopped` meets its contract. Assumes nothing.
use mathlib.Core.Path.{ap}
use mathlib.Core.Bool.{not}
use Prim.Native.Nat.{ℕ}
use lib.Dec.{eqb}
use Rattle.view.proofs.Fields.{stopped-read}
use Rattle.view.proofs.is_stopped.Goals as goal

pub returns : goal.returns
returns c =
    ap (λ (n : ℕ). not (eqb n 0))
    (stopped-read c.args.ps.now c.args.process c.live_process-place.result
    c.live_process-place.ensures.place c.field_at.result c.field_at.ensures)
