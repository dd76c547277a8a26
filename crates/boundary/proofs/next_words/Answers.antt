-- `next_words` meets its contract. Assumes nothing.
use mathlib.Core.Path.{refl, ap, ◌∙◌}
use Rattle.std.specs.Prelude.{Some}
use Rattle.lists.specs.Lists.{padded}
use Rattle.boundary.specs.Boundary.{info_words, next_words}
use Rattle.boundary.proofs.Words.{words-case}
use Rattle.boundary.proofs.next_words.Goals as goal

pub returns-in_default : goal.returns-in_default
unfolding padded next_words
returns-in_default c =
    words-case next_words c.args.next _ c.in_default.is c.short.result
    c.short.ensures

pub returns-in-Mark : goal.returns-in-Mark
unfolding padded next_words
returns-in-Mark c =
    words-case next_words c.args.next _ (c.in-Some.is ∙ ap Some c.in-Mark.is)
    c.short-in-Mark.result c.short-in-Mark.ensures

pub returns-in-Record : goal.returns-in-Record
unfolding padded next_words info_words
returns-in-Record c =
    words-case next_words c.args.next _ (c.in-Some.is ∙ ap Some c.in-Record.is) _ refl
