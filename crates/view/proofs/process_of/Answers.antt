-- `process_of` meets its contract. Assumes nothing.
use native.Mathlib.Omega.{arith}
use Rattle.view.proofs.Fields.{id-fits, owner-read}
use Rattle.view.proofs.process_of.Goals as goal

pub overflow_cast-result : goal.overflow_cast-result
overflow_cast-result c = let h =
    id-fits c.thread_field_at.result _
    (owner-read c.args.ts.now c.args.thread c.live_thread-place.result
    c.live_thread-place.ensures.place c.thread_field_at.result c.thread_field_at.ensures)
    c.requires.good in
    omega (arith, h)

pub returns : goal.returns
returns c =
    owner-read c.args.ts.now c.args.thread c.live_thread-place.result c.live_thread-place.ensures.place
    c.thread_field_at.result c.thread_field_at.ensures
