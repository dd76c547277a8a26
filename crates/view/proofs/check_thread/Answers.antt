-- `check_thread` meets its contract: the one row. Assumes nothing.
use mathlib.Core.Path.{sym, ◌∙◌}
use mathlib.Core.List.{[], ◌∷◌}
use Rattle.rules.specs.Refusals.{esrch, no_thread_live}
use Rattle.sound.proofs.Facts.{threads-long}
use Rattle.sound.specs.Lent.{view_of, lent}
use Rattle.answers.proofs.Endings.{rows-fault}
use Rattle.answers.proofs.Rows.{rows_at, rows_none}
use Rattle.view.proofs.Live.{no-thread}
use Rattle.view.proofs.check_thread.Goals as goal

pub returns-then-not-sound : goal.returns-then-not-sound
returns-then-not-sound c =
    let l = lent c.args.ps.now c.args.ts.now c.args.tb.now c.args.pb.now in
    rows-fault (esrch (no_thread_live (view_of l) c.args.thread) ∷ []) l
    (sym c.sound.ensures ∙ c.if-not-sound.true)

pub is_thread-requires : goal.is_thread-requires
is_thread-requires c =
    threads-long (lent c.args.ps.now c.args.ts.now c.args.tb.now c.args.pb.now)
    (sym c.sound.ensures ∙ c.if-not-sound.false)

pub returns-then-not-is_thread : goal.returns-then-not-is_thread
returns-then-not-is_thread c =
    let l = lent c.args.ps.now c.args.ts.now c.args.tb.now c.args.pb.now in
    rows_at l (sym c.sound.ensures ∙ c.if-not-sound.false) []
    (esrch (no_thread_live (view_of l) c.args.thread)) [] tt
    (no-thread l c.args.thread c.is_thread.result c.is_thread.ensures ∙ c.if-not-is_thread.true-raw)

pub returns : goal.returns
returns c =
    let l = lent c.args.ps.now c.args.ts.now c.args.tb.now c.args.pb.now in
    rows_none l (sym c.sound.ensures ∙ c.if-not-sound.false)
    (esrch (no_thread_live (view_of l) c.args.thread) ∷ [])
    (no-thread l c.args.thread c.is_thread.result c.is_thread.ensures ∙ c.if-not-is_thread.false-raw, tt)
