-- `change_thread_marks` meets its contract. Assumes nothing.
use Rattle.effects.proofs.Marks.{thread-marks-changed}
use Rattle.effects.proofs.change_thread_marks.Goals as goal

pub returns : goal.returns
returns c =
    thread-marks-changed c.args.how c.thread_field_at.result c.marked-m.result c.marked-m.ensures
    c.args.ts.now c.put_thread_field.new.ts c.args.thread
    c.live_thread-place.result c.live_thread-place.ensures.place c.thread_field_at.ensures c.put_thread_field.ensures
