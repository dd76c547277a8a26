-- `discarded-by` meets its contract. Assumes nothing.
use mathlib.Core.Path.{◌∙◌}
use Rattle.sending.proofs.Decided.{discarded-by-of-cont, discarded-by-of-others}
use Rattle.sending.proofs.discarded_by.Goals as goal

pub returns-then-s-eq-SIGCONT : goal.returns-then-s-eq-SIGCONT
returns-then-s-eq-SIGCONT c = c.stop_signals.ensures ∙ discarded-by-of-cont c.args.s c.if-s-eq-SIGCONT.true

pub returns : goal.returns
returns c = c.of_signal.ensures ∙ discarded-by-of-others c.args.s c.if-s-eq-SIGCONT.false
