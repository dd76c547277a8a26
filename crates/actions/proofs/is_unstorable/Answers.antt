-- `is_unstorable` meets its contract. Assumes nothing.
use mathlib.Core.Path.{sym, ap, ◌∙◌}
use mathlib.Core.Bool.{not, ◌||◌}
use Rattle.sigset.specs.Set.{is_unmaskable}
use Rattle.rules.specs.Sound.{flags_known}
use Rattle.rules.specs.Refusals.{unstorable}
use Rattle.types.specs.Answers.{given}
use Rattle.actions.proofs.is_unstorable.Goals as goal

pub returns-in-None : goal.returns-in-None
unfolding unstorable
returns-in-None c =
    let s = c.args.signal in
    ap (λ x. unstorable s (given x)) (sym c.in-None.is)

pub returns-in-Some : goal.returns-in-Some
unfolding unstorable flags_known
returns-in-Some c =
    let s = c.args.signal in
    ap (λ b. is_unmaskable s || not b) c.are_flags_known.ensures
    ∙ ap (λ x. unstorable s (given x)) (sym c.in-Some.is)
