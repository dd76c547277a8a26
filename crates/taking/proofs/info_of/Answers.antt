-- `info_of` meets its contract, a case for each kind. Assumes nothing.
use mathlib.Core.Path.{◌∙◌, ap, sym}
use Rattle.answers.specs.Answers.{next_from}
use Rattle.taking.specs.Takes.{info_in}
use Rattle.taking.proofs.info_of.Goals as goal

pub returns-in-Mark : goal.returns-in-Mark
unfolding info_in next_from
returns-in-Mark c = c.mark_info.ensures ∙ ap (λ n. info_in (next_from n)) (sym c.in-Mark.is)

pub returns-in-Record : goal.returns-in-Record
unfolding info_in next_from
returns-in-Record c = ap (λ n. info_in (next_from n)) (sym c.in-Record.is)
