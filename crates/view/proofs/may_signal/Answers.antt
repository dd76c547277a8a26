-- `may_signal` meets its contract. Assumes nothing.
use Rattle.view.proofs.Fields.{may_read, real_read, effective-read, saved_read, session-read}
use Rattle.view.proofs.may_signal.Goals as goal

pub returns : goal.returns
returns c = may_read _ _ c.args.signal _ _ _ _ _ _
    (real_read c.args.ps.now c.args.by
    c.live_process-sender.result
    c.live_process-sender.ensures.place
    c.field_at-real.result
    c.field_at-real.ensures)
    (effective-read c.args.ps.now c.args.by
    c.live_process-sender.result
    c.live_process-sender.ensures.place
    c.field_at-effective.result c.field_at-effective.ensures)
    (real_read c.args.ps.now c.args.to
    c.live_process-target.result
    c.live_process-target.ensures.place
    c.field_at-target_real.result c.field_at-target_real.ensures)
    (saved_read c.args.ps.now c.args.to
    c.live_process-target.result
    c.live_process-target.ensures.place c.field_at-target_saved.result
    c.field_at-target_saved.ensures)
    (session-read c.args.ps.now c.args.by
    c.live_process-sender.result
    c.live_process-sender.ensures.place c.field_at-session.result
    c.field_at-session.ensures)
    (session-read c.args.ps.now c.args.to
    c.live_process-target.result
    c.live_process-target.ensures.place c.field_at-target_session.result
    c.field_at-target_session.ensures)
