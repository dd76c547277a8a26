-- `is_left` meets its contract, a case for each kind of discard. Assumes nothing.
use mathlib.Core.Path.{sym, ap, ◌∙◌}
use mathlib.Core.Bool.{not, ◌&&◌}
use lib.Dec.{eqb}
use Rattle.queue.specs.Queue.{is_left}
use Rattle.queue.proofs.is_left.Goals as goal

pub returns-in-OfProcess : goal.returns-in-OfProcess
unfolding is_left
returns-in-OfProcess c =
    ap (λ d. is_left d c.args.r) (sym c.in-OfProcess.is)

pub returns-in-OfThread : goal.returns-in-OfThread
unfolding is_left
returns-in-OfThread c =
    ap (λ d. is_left d c.args.r) (sym c.in-OfThread.is)

pub returns-in-OfSignals : goal.returns-in-OfSignals
unfolding is_left
returns-in-OfSignals c =
    ap (λ hit. not (eqb c.args.r.process c.in-OfSignals.process && hit))
    c.has-hit.ensures
    ∙ ap (λ d. is_left d c.args.r) (sym c.in-OfSignals.is)
