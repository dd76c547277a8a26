-- `stop_signals` meets its contract. Assumes nothing.
use mathlib.Core.Path.{ap₂, ◌∙◌}
use Rattle.sigset.specs.Set.{union}
use Rattle.sending.proofs.Decided.{stops}
use Rattle.sending.proofs.stop_signals.Goals as goal

pub returns : goal.returns
returns c =
    c.union.ensures
    ∙ ap₂ union c.of_signal-3.ensures
    (c.union-tty.ensures ∙ ap₂ union c.of_signal.ensures c.of_signal-2.ensures)
    ∙ stops
