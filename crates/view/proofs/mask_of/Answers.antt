-- `mask_of` meets its contract. Assumes nothing.
use Rattle.view.proofs.Fields.{mask-read}
use Rattle.view.proofs.mask_of.Goals as goal

pub returns : goal.returns
returns c =
    mask-read c.args.ts.now c.args.thread c.live_thread-place.result
    c.live_thread-place.ensures.place c.thread_field_at.result c.thread_field_at.ensures
