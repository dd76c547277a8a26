-- The C boundary: a call by its number, with its arguments as numbers, and its answer as words.
use Rattle.std.specs.Prelude.{ℕ, ◌-◌, Bool, not, ◌&&◌, cond, List, [], ◌∷◌, ◌++◌, eqb, ltb, get_or, drop, length}
use Rattle.std.specs.Prelude.{Some, None, Option as Maybe}
use Rattle.std.proofs.Math.Option.{Option, some, none}
use Rattle.limits.specs.Limits.{EFAULT, EINVAL, call_clear, call_sigreturn, answer_done, answer_tested, answer_acted}
use Rattle.limits.specs.Limits.{answer_dropped, answer_absorbed, answer_marked, answer_kept, answer_old_action}
use Rattle.limits.specs.Limits.{answer_old_mask}
use Rattle.limits.specs.Limits.{answer_pending_set, answer_next_nothing, answer_next_mark, answer_next_record}
use Rattle.limits.specs.Limits.{answer_can_take}
use Rattle.limits.specs.Limits.{answer_none_can, answer_nothing, answer_handler, answer_end, answer_stop}
use Rattle.limits.specs.Limits.{answer_no_action}
use Rattle.limits.specs.Limits.{answer_words}
use Rattle.lists.specs.Lists.{padded}
use Rattle.sigset.specs.Set.{bits}
use Rattle.types.specs.declared.Siginfo.{Siginfo}
use Rattle.types.specs.declared.Sent.{Sent}
use Rattle.types.specs.declared.Sent.TheVariants as sent
use Rattle.types.specs.declared.Pending.{Pending}
use Rattle.types.specs.declared.Pending.TheVariants as next
use Rattle.types.specs.declared.Taken.{Taken}
use Rattle.types.specs.declared.Taken.TheVariants as taken
use Rattle.types.specs.declared.Reply.{Reply}
use Rattle.types.specs.declared.Reply.TheVariants as reply
use Rattle.types.specs.Answers.{Answer}
use Rattle.types.specs.Answers.{Refused, Accepted}
use Rattle.types.specs.Values.{new_of}
use Rattle.boundary.specs.declared.Arguments.{Arguments}
use Rattle.rules.specs.Types.{Call, clear, add_process, add_thread, end_process, end_thread, kill, sigqueue, sigaction}
use Rattle.rules.specs.Types.{sigmask, sigpending, look, who, take, sigreturn}
use Rattle.sound.specs.Lent.{Lent, lengths_are, sound_tables}
use Rattle.answers.specs.Step.{step_on}

-- ---- the calls

-- what every call is handed: six numbers of 32 bits and three of 64, the code's `Arguments`
abbrev pub arguments : (a b c d e f x y z : ℕ) → Arguments
arguments a b c d e f x y z = record { a = a; b = b; c = c; d = d; e = e; f = f; x = x; y = y; z = z }

-- an action or a set is given where the number before it is not 0
unfoldable pub where_given : {A : Type 0} → ℕ → A → Option A
where_given n v = cond (eqb n 0) none (some v)

-- each call with its arguments in the documented order, those of 32 bits from a on and those of 64 from x on;
-- what it has no use for is not read
unfoldable pub calls_of : Arguments → List Call
calls_of g =
    clear
    ∷ add_process (new_of g.a g.b g.c g.d g.e g.f (bits g.x))
    ∷ add_thread g.a g.b
    ∷ end_process g.a
    ∷ end_thread g.a
    ∷ kill g.a g.b g.c g.d
    ∷ sigqueue g.a g.b g.c g.d g.x
    ∷ sigaction g.a g.b (where_given g.c (record { handler = g.x; flags = g.y; mask = bits g.z }))
    ∷ sigmask g.a g.b (where_given g.c (bits g.x))
    ∷ sigpending g.a
    ∷ look g.a
    ∷ who g.a
    ∷ take g.a
    ∷ sigreturn g.a (bits g.x)
    ∷ []

-- numbers go from that of the first call to that of the last
unfoldable pub is_call : ℕ → Bool
is_call n = not (ltb n call_clear) && not (ltb call_sigreturn n)

unfoldable pub numbered : ℕ → Arguments → Call
numbered n g = get_or (calls_of g) (n - call_clear) clear

-- ---- the answers

-- a record field by field
unfoldable pub info_words : Siginfo → List ℕ
info_words r =
    r.process ∷ r.thread ∷ r.signal ∷ r.code ∷ r.sender ∷ r.uid ∷ r.value ∷ []

-- ---- the number of each answer, and its values

unfoldable pub sent_word : Sent → ℕ
sent_word sent.Tested = answer_tested
sent_word sent.Acted = answer_acted
sent_word sent.Dropped = answer_dropped
sent_word sent.Absorbed = answer_absorbed
sent_word sent.Marked = answer_marked
sent_word sent.Kept = answer_kept

unfoldable pub next_words : Maybe Pending → List ℕ
next_words None = answer_next_nothing ∷ []
next_words (Some (next.Mark process thread s)) = answer_next_mark ∷ process ∷ thread ∷ s ∷ []
next_words (Some (next.Record r)) = answer_next_record ∷ info_words r

unfoldable pub taker_words : Maybe ℕ → List ℕ
taker_words None = answer_none_can ∷ []
taker_words (Some t) = answer_can_take ∷ t ∷ []

unfoldable pub taken_words : Maybe Taken → List ℕ
taken_words None = answer_nothing ∷ []
taken_words (Some (taken.Handler n s r flags saved)) = answer_handler ∷ n ∷ s ∷ flags ∷ saved.0 ∷ info_words r
taken_words (Some (taken.End s)) = answer_end ∷ s ∷ []
taken_words (Some (taken.Stop s)) = answer_stop ∷ s ∷ []
taken_words (Some (taken.NoAction s)) = answer_no_action ∷ s ∷ []

unfoldable pub reply_words : Reply → List ℕ
reply_words reply.Done = answer_done ∷ []
reply_words (reply.Sent x) = sent_word x ∷ []
reply_words (reply.OldAction a) = answer_old_action ∷ a.handler ∷ a.flags ∷ a.mask.0 ∷ []
reply_words (reply.OldMask m) = answer_old_mask ∷ m.0 ∷ []
reply_words (reply.PendingSet m) = answer_pending_set ∷ m.0 ∷ []
reply_words (reply.Looked x) = next_words x
reply_words (reply.Taker x) = taker_words x
reply_words (reply.Taken x) = taken_words x

-- a refusal has none
unfoldable pub words_of : Answer → List ℕ
words_of (Refused n) = []
words_of (Accepted r) = reply_words r

-- what is returned: the errno of a refusal, else 0
unfoldable pub errno_of : Answer → ℕ
errno_of (Refused n) = n
errno_of (Accepted r) = 0

-- the lent words after a call: the answer's from the first on, with zeros up to the longest answer's;
-- "Every refusal writes nothing"
unfoldable pub written : Answer → List ℕ → List ℕ
written a out = cond (eqb (errno_of a) 0) (padded 0 answer_words (words_of a) ++ drop answer_words out) out

-- ---- one call

-- errno 14's row does not apply: "clearing checks lengths only"
unfoldable pub usable : ℕ → Lent → Bool
usable n l =
    cond (eqb n call_clear)
    (lengths_are l)
    (sound_tables l)

-- there is such a call, and the lent words have room for any answer
unfoldable pub accepted : (number room : ℕ) → Bool
accepted n room = is_call n && not (ltb room answer_words)

-- errno 22 where there is not, after 14; else the call
unfoldable pub serve_on : (number : ℕ) → Arguments → (room : ℕ) → Lent → Lent × Answer
serve_on n g room l = cond (accepted n room) (step_on (numbered n g) l) (l, Refused (cond (usable n l) EINVAL EFAULT))

-- what it comes to: the tables, the lent words, and the number that is returned
pub record Served : Type 0 where
  pub tables : Lent
  pub words : List ℕ
  pub errno : ℕ

unfoldable pub served_by : (out : List ℕ) → Lent × Answer → Served
served_by out s = record { tables = s.0; words = written s.1 out; errno = errno_of s.1 }

unfoldable pub served : (number : ℕ) → Arguments → (out : List ℕ) → Lent → Served
served n g out l = served_by out (serve_on n g (length out) l)
