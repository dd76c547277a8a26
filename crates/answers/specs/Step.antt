-- One call on the lent tables, word for word and byte for byte: the rules' step on what they say.
use Rattle.std.specs.Prelude.{ℕ, ◌≡◌, cond, List, Result}
use Rattle.limits.specs.Limits.{EFAULT}
use Rattle.siginfo.specs.Bytes.{slot_bytes}
use Rattle.types.specs.declared.Reply.{Reply}
use Rattle.types.specs.declared.Errno.{Errno}
use Rattle.types.specs.Answers.{Answer, answer_of}
use Rattle.types.specs.Answers.{Refused}
use Rattle.rules.specs.Types.{Call}
use Rattle.rules.specs.Store.{Store}
use Rattle.rules.specs.Refusals.{Row, refusal, refusal_of}
use Rattle.rules.specs.Calls.{step, is_refused}
use Rattle.tables.specs.Tables.{process_words_of, thread_words_of}
use Rattle.sound.specs.Lent.{Lent, lent, decoded, lengths_are, sound_tables}

-- the words and bytes that say it
unfoldable pub encoded : Store → Lent
encoded st =
    lent (process_words_of st.processes) (thread_words_of st.threads) (slot_bytes st.thread_buffer)
    (slot_bytes st.process_buffer)

-- "a lent table has another length than above", or else the rows of the rules,
-- which begin with the store that is not sound; 0 where none applies
unfoldable pub refusal_on : Call → Lent → ℕ
refusal_on c l = cond (lengths_are l) (refusal_of (decoded l) c) EFAULT

-- the same for a call other than clearing, by its rows below 14
unfoldable pub rows_on : List Row → Lent → ℕ
rows_on rs l = cond (sound_tables l) (refusal rs) EFAULT

-- "Every refusal writes nothing": then the tables are exactly as they were, else they say what the rules' step leaves
unfoldable pub committed : Lent → Store × Answer → Lent × Answer
committed l r = (cond (is_refused r.1) l (encoded r.0), r.1)

-- one call: the tables after it, and its answer
unfoldable pub step_on : Call → Lent → Lent × Answer
step_on c l =
    cond (lengths_are l) (committed l (step c (decoded l))) (l, Refused EFAULT)

-- what a function that makes a call promises: the tables after it and its answer are those of the call on the tables
-- before it
abbrev pub stepped : Call → Result Reply Errno → (before after : Lent) → Type 0
stepped c a before after = (after, answer_of a) ≡ step_on c before
