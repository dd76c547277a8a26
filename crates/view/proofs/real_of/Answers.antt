-- `real_of` meets its contract. Assumes nothing.
use native.Mathlib.Omega.{arith}
use Rattle.view.proofs.Fields.{user-fits, real_read}
use Rattle.view.proofs.real_of.Goals as goal

pub overflow_cast-result : goal.overflow_cast-result
overflow_cast-result c = let h =
    user-fits c.field_at.result _
    (real_read c.args.ps.now c.args.process c.live_process-place.result
    c.live_process-place.ensures.place c.field_at.result c.field_at.ensures)
    c.requires.good in
    omega (arith, h)

pub returns : goal.returns
returns c =
    real_read c.args.ps.now c.args.process
    c.live_process-place.result c.live_process-place.ensures.place c.field_at.result c.field_at.ensures
