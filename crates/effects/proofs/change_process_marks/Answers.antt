-- `change_process_marks` meets its contract. Assumes nothing.
use Rattle.effects.proofs.Marks.{process-marks-changed}
use Rattle.effects.proofs.change_process_marks.Goals as goal

pub returns : goal.returns
returns c =
    process-marks-changed c.args.how c.field_at.result c.marked-m.result c.marked-m.ensures
    c.args.ps.now c.put_field.new.ps c.args.process
    c.live_process-place.result c.live_process-place.ensures.place c.field_at.ensures c.put_field.ensures
