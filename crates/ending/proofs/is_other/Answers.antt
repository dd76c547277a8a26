-- `is_other` meets its contract. Assumes nothing.
use Rattle.ending.proofs.Others.{other_test}
use Rattle.ending.proofs.is_other.Goals as goal

pub returns : goal.returns
returns c =
    other_test c.args.ts.now c.args.place c.args.process c.args.thread
    c.thread_field_at-owner.result c.thread_field_at-id.result
    c.thread_field_at-owner.ensures c.thread_field_at-id.ensures
