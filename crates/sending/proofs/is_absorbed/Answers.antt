-- `is_absorbed` meets its contract. Assumes nothing.
use mathlib.Core.Path.{sym, ap, ◌∙◌}
use mathlib.Core.Bool.{Bool, not, ◌&&◌, ◌||◌, not-not}
use Rattle.std.specs.Prelude.{is_some}
use Rattle.rules.specs.View.{target_queue}
use Rattle.sound.specs.Lent.{view_of, lent}
use Rattle.sending.proofs.Decided.{absorbed}
use Rattle.sending.proofs.is_absorbed.Goals as goal

pub returns : goal.returns
returns c =
    let v = view_of (lent c.args.ps.now c.args.ts.now c.args.tb.now c.args.pb.now) in
    ap (λ (b : Bool). (c.is_standard.result && c.has.result) || (b && c.has-2.result))
    (sym (not-not c.is_none.result) ∙ ap not (sym c.is_none.ensures))
    ∙ absorbed v (is_some c.args.s.value) (target_queue c.args.s.to c.args.s.thread) c.args.s.signal
    (record { low = c.requires.le_signal.0; high = c.requires.le_signal.1 })
    c.pending_of-pending.result c.marks_of-marks.result c.is_standard.result c.has.result
    c.has-2.result
    c.pending_of-pending.ensures c.marks_of-marks.ensures c.is_standard.ensures c.has.ensures
    c.has-2.ensures
