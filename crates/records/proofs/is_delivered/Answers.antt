use mathlib.Core.Path.{sym, ◌∙◌}
use Rattle.lists.proofs.Bools.{and_left}
use Rattle.soundness.specs.Check.{is_delivered}
use Rattle.records.proofs.is_delivered.Goals as goal

pub returns-then-not-is_nameable : goal.returns-then-not-is_nameable
unfolding is_delivered
returns-then-not-is_nameable c =
    sym (and_left _ (sym c.is_nameable.ensures ∙ c.if-not-is_nameable.true))

pub returns : goal.returns
unfolding is_delivered
returns c =
    rw (
      c.has-hit.ensures,
      sym c.is_nameable.ensures ∙ c.if-not-is_nameable.false,
    )
