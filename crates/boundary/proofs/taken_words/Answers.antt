-- `taken_words` meets its contract. Assumes nothing.
use mathlib.Core.Path.{ap, ◌∙◌}
use Rattle.std.specs.Prelude.{Some}
use Rattle.lists.specs.Lists.{padded}
use Rattle.boundary.specs.Boundary.{taken_words}
use Rattle.boundary.proofs.Words.{words-case}
use Rattle.boundary.proofs.taken_words.Goals as goal

pub returns-in_default : goal.returns-in_default
unfolding padded taken_words
returns-in_default c =
    words-case taken_words c.args.taken _ c.in_default.is
    c.short.result c.short.ensures

pub returns-in-Handler : goal.returns-in-Handler
unfolding padded taken_words
returns-in-Handler c =
    words-case taken_words c.args.taken _ (c.in-Some.is ∙ ap Some c.in-Handler.is)
    c.handler_words.result c.handler_words.ensures

pub returns-in-End : goal.returns-in-End
unfolding padded taken_words
returns-in-End c =
    words-case taken_words c.args.taken _ (c.in-Some.is ∙ ap Some c.in-End.is)
    c.short-in-End.result c.short-in-End.ensures

pub returns-in-Stop : goal.returns-in-Stop
unfolding padded taken_words
returns-in-Stop c =
    words-case taken_words c.args.taken _ (c.in-Some.is ∙ ap Some c.in-Stop.is)
    c.short-in-Stop.result c.short-in-Stop.ensures

pub returns-in-NoAction : goal.returns-in-NoAction
unfolding padded taken_words
returns-in-NoAction c =
    words-case taken_words c.args.taken _ (c.in-Some.is ∙ ap Some c.in-NoAction.is)
    c.short-in-NoAction.result c.short-in-NoAction.ensures
