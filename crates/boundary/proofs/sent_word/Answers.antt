-- `sent_word` meets its contract, a case for each answer of a send. Assumes nothing.
use mathlib.Core.Path.{sym, ap}
use Rattle.boundary.specs.Boundary.{sent_word}
use Rattle.boundary.proofs.sent_word.Goals as goal

pub returns-in-Tested : goal.returns-in-Tested
unfolding sent_word
returns-in-Tested c = ap sent_word (sym c.in-Tested.is)

pub returns-in-Acted : goal.returns-in-Acted
unfolding sent_word
returns-in-Acted c = ap sent_word (sym c.in-Acted.is)

pub returns-in-Dropped : goal.returns-in-Dropped
unfolding sent_word
returns-in-Dropped c = ap sent_word (sym c.in-Dropped.is)

pub returns-in-Absorbed : goal.returns-in-Absorbed
unfolding sent_word
returns-in-Absorbed c = ap sent_word (sym c.in-Absorbed.is)

pub returns-in-Marked : goal.returns-in-Marked
unfolding sent_word
returns-in-Marked c = ap sent_word (sym c.in-Marked.is)

pub returns-in-Kept : goal.returns-in-Kept
unfolding sent_word
returns-in-Kept c = ap sent_word (sym c.in-Kept.is)
