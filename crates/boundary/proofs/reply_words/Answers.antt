-- `reply_words` meets its contract. Assumes nothing.
use Prim.Native.Nat.{ℕ}
use mathlib.Core.Path.{ap, ◌∙◌}
use mathlib.Core.List.{[], ◌∷◌}
use Rattle.limits.specs.Limits.{answer_words}
use Rattle.lists.specs.Lists.{padded}
use Rattle.boundary.specs.Boundary.{reply_words}
use Rattle.boundary.proofs.Words.{words-case}
use Rattle.boundary.proofs.reply_words.Goals as goal

pub returns-in-Done : goal.returns-in-Done
unfolding padded reply_words
returns-in-Done c =
    words-case reply_words c.args.reply _ c.in-Done.is
    c.short.result c.short.ensures

pub returns-in-Sent : goal.returns-in-Sent
unfolding padded reply_words
returns-in-Sent c =
    words-case reply_words c.args.reply _
    c.in-Sent.is c.short-in-Sent.result
    (c.short-in-Sent.ensures ∙ ap (λ (n : ℕ). padded 0 answer_words (n ∷ [])) c.sent_word.ensures)

pub returns-in-OldAction : goal.returns-in-OldAction
unfolding padded reply_words
returns-in-OldAction c =
    words-case reply_words c.args.reply _
    c.in-OldAction.is c.short-in-OldAction.result c.short-in-OldAction.ensures

pub returns-in-OldMask : goal.returns-in-OldMask
unfolding padded reply_words
returns-in-OldMask c =
    words-case reply_words c.args.reply _ c.in-OldMask.is
    c.short-in-OldMask.result c.short-in-OldMask.ensures

pub returns-in-PendingSet : goal.returns-in-PendingSet
unfolding padded reply_words
returns-in-PendingSet c =
    words-case reply_words c.args.reply _ c.in-PendingSet.is
    c.short-in-PendingSet.result c.short-in-PendingSet.ensures

pub returns-in-Looked : goal.returns-in-Looked
unfolding padded reply_words
returns-in-Looked c =
    words-case reply_words c.args.reply _ c.in-Looked.is
    c.next_words.result c.next_words.ensures

pub returns-in-Taker : goal.returns-in-Taker
unfolding padded reply_words
returns-in-Taker c =
    words-case reply_words c.args.reply _ c.in-Taker.is
    c.taker_words.result c.taker_words.ensures

pub returns-in-Taken : goal.returns-in-Taken
unfolding padded reply_words
returns-in-Taken c =
    words-case reply_words c.args.reply _ c.in-Taken.is
    c.taken_words.result c.taken_words.ensures
