-- `refusal` meets its contract. Assumes nothing.
use mathlib.Core.Path.{sym, ◌∙◌}
use Rattle.limits.specs.Limits.{EFAULT, EINVAL}
use Rattle.lists.proofs.Bools.{cond-true, cond-false}
use Rattle.boundary.proofs.refusal.Goals as goal

pub returns-then-is_usable : goal.returns-then-is_usable
returns-then-is_usable c = sym (cond-true EINVAL EFAULT (sym c.is_usable.ensures ∙ c.if-is_usable.true))

pub returns : goal.returns
returns c = sym (cond-false EINVAL EFAULT (sym c.is_usable.ensures ∙ c.if-is_usable.false))
