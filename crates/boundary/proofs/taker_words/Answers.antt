-- `taker_words` meets its contract. Assumes nothing.
use Rattle.lists.specs.Lists.{padded}
use Rattle.boundary.specs.Boundary.{taker_words}
use Rattle.boundary.proofs.Words.{words-case}
use Rattle.boundary.proofs.taker_words.Goals as goal

pub returns-in-Some : goal.returns-in-Some
unfolding padded taker_words
returns-in-Some c = words-case taker_words c.args.taker _ c.in-Some.is c.short.result c.short.ensures

pub returns-in-None : goal.returns-in-None
unfolding padded taker_words
returns-in-None c =
    words-case taker_words c.args.taker _ c.in-None.is c.short-in-None.result c.short-in-None.ensures
