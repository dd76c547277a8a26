-- `handler_words` meets its contract. Assumes nothing.
use mathlib.Core.Path.{refl}
use Rattle.lists.specs.Lists.{padded}
use Rattle.boundary.specs.Boundary.{info_words, taken_words}
use Rattle.boundary.proofs.handler_words.Goals as goal

pub returns : goal.returns
unfolding padded taken_words info_words
returns c = refl
