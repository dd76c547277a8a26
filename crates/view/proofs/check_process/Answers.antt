-- `check_process` meets its contract: the one row. Assumes nothing.
use mathlib.Core.Path.{sym, ◌∙◌}
use mathlib.Core.List.{[], ◌∷◌}
use Rattle.rules.specs.Refusals.{esrch, no_process_live}
use Rattle.sound.proofs.Facts.{processes-long}
use Rattle.sound.specs.Lent.{view_of, lent}
use Rattle.answers.proofs.Endings.{rows-fault}
use Rattle.answers.proofs.Rows.{rows_at, rows_none}
use Rattle.view.proofs.Live.{no-process}
use Rattle.view.proofs.check_process.Goals as goal

pub returns-then-not-sound : goal.returns-then-not-sound
returns-then-not-sound c =
    let l = lent c.args.ps.now c.args.ts.now c.args.tb.now c.args.pb.now in
    rows-fault (esrch (no_process_live (view_of l) c.args.process) ∷ []) l
    (sym c.sound.ensures ∙ c.if-not-sound.true)

pub is_process-requires : goal.is_process-requires
is_process-requires c =
    processes-long (lent c.args.ps.now c.args.ts.now c.args.tb.now c.args.pb.now)
    (sym c.sound.ensures ∙ c.if-not-sound.false)

pub returns-then-not-is_process : goal.returns-then-not-is_process
returns-then-not-is_process c =
    let l = lent c.args.ps.now c.args.ts.now c.args.tb.now c.args.pb.now in
    rows_at l (sym c.sound.ensures ∙ c.if-not-sound.false) []
    (esrch (no_process_live (view_of l) c.args.process)) [] tt
    (no-process l c.args.process c.is_process.result c.is_process.ensures ∙ c.if-not-is_process.true-raw)

pub returns : goal.returns
returns c =
    let l = lent c.args.ps.now c.args.ts.now c.args.tb.now c.args.pb.now in
    rows_none l (sym c.sound.ensures ∙ c.if-not-sound.false)
    (esrch (no_process_live (view_of l) c.args.process) ∷ [])
    (no-process l c.args.process c.is_process.result c.is_process.ensures ∙ c.if-not-is_process.false-raw, tt)
