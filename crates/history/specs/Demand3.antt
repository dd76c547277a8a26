-- Demand 3: one claim over every list of calls that a host makes. The proof is proofs/Demand3.
-- What the words mean: one call as a host makes it in crate rrezhbuta (Entry), the tables in crates sound and answers,
-- the view and the rules in crate rules; here the ledger (Ledger), its acts (Acts), what they come to (Tally), when a
-- take is right (Takes), and the list and what the ledger is told of it (History).
use Rattle.std.specs.Prelude.{ℕ, ◌+◌, ◌≤◌, ◌≡◌, true, false, not, ◌&&◌, ◌||◌, cond, List, map, eqb, length, drop}
use Rattle.limits.specs.Limits.{record_limit, EAGAIN, EFAULT, answer_words, answer_kept, call_add_process}
use Rattle.limits.specs.Limits.{call_add_thread}
use Rattle.limits.specs.Limits.{call_sigqueue, call_take}
use Rattle.lists.specs.Lists.{all, any, count, first, keep, All}
use Rattle.sigset.specs.Set.{has, set_of}
use Rattle.types.specs.declared.Siginfo.{Siginfo}
use Rattle.types.specs.declared.Reply.TheVariants.{Sent, PendingSet}
use Rattle.types.specs.Answers.{Accepted}
use Rattle.rules.specs.Types.{Queue, Call, kill, sigqueue, sigpending, who, take}
use Rattle.rules.specs.View.{View, belongs_to, in_queue, live_process, live_thread, the_thread, pending_for}
use Rattle.rules.specs.Store.{held, used, records_for, mark_in, is_free_process, is_free_thread}
use Rattle.rules.specs.Sound.{good_id}
use Rattle.rules.specs.Taking.{who_answer}
use Rattle.rules.specs.Asking.{has_offer}
use Rattle.rules.specs.Refusals.{refusal, rows}
use Rattle.sound.specs.Lent.{Lent, decoded, lengths_are, sound_tables}
use Rattle.answers.specs.Step.{encoded}
use Rattle.boundary.specs.declared.Arguments.{Arguments}
use Rattle.boundary.specs.Boundary.{sent_word, errno_of, written}
use Rattle.rrezhbuta.specs.Entry.{Host, lent_by, call_on, look_at, slot_at}
use Rattle.history.specs.Ledger.{Ledger, of_process, ledger_view, ledger_refusal, ledger_answer, pending_where}
use Rattle.history.specs.Acts.{Act, sent, said, turns, acts_of}
use Rattle.history.specs.Tally.{kept_since, taken_since, mark_since, discarded_at, is_keep, keeps_at, is_take, takes_at}
use Rattle.history.specs.Tally.{takes_either}
use Rattle.history.specs.History.{Past, Item, lending, after, cleared, machine_item, row_thread, heard, looked_bytes}
use Rattle.history.specs.History.{bytes_at}
use Rattle.history.specs.Takes.{RightTurns, TakenBy, AnswersBy, yields}

-- ---- the claim: h is what the host holds, k the ledger, done all acts, the latest first, after a list of calls

module _ (h : Host) (k : Ledger) (done : List Act) where
  abbrev pub tables : Lent
  tables = lent_by h

  -- the queued records of a signal in a queue, as the tables have them
  abbrev pub queued : Queue → ℕ → List Siginfo
  queued q s = keep (in_queue q s) (records_for q (decoded tables))

  -- what the rules read in the ledger
  abbrev pub seen : View
  seen = ledger_view k

  -- one call more
  abbrev pub called : (number : ℕ) → Arguments → (answer : List ℕ) → Host × ℕ
  called n g out = call_on n g (lending out h)

  pub record Claim : Type 0 where
    -- "the queued records of a signal in a queue are, in order, the sends kept there since the last event that empties
    -- that queue of that signal, less as many of the oldest as threads have taken of them since"
    pub since : (q : Queue) (s : ℕ) → queued q s ≡ drop (taken_since q s done) (kept_since q s done)
    pub never_more : (q : Queue) (s : ℕ) → taken_since q s done ≤ length (kept_since q s done)
    -- 01: "sets the tables' records .. against what is read there: sends, pending, blocking, stopped"
    pub sends : (q : Queue) (s : ℕ) → queued q s ≡ (k.lines q s).sends
    pub marks : (q : Queue) (s : ℕ) → mark_in (decoded tables) q s ≡ (k.lines q s).mark
    pub marks_since : (q : Queue) (s : ℕ) → mark_in (decoded tables) q s ≡ mark_since q s done
    pub processes : map held (decoded tables).processes ≡ k.processes
    -- the row of records itself
    pub threads : map row_thread h.threads ≡ k.threads
    -- the tables are sound, and nothing but the words and bytes of what they say
    pub sound : sound_tables tables ≡ true
    pub whole : encoded (decoded tables) ≡ tables
    -- 01: "and the calls' answers and refusals": what is returned, and the answer's words
    pub returned : (n : ℕ) (g : Arguments) (out : List ℕ) → (called n g out).1 ≡ errno_of (heard k n g (length out))
    pub words : (n : ℕ) (g : Arguments) (out : List ℕ)
        → (called n g out).0.answer ≡ written (heard k n g (length out)) out
    -- errno 14 is never given: no call of such a list finds the tables other than sound
    pub no_fault : (n : ℕ) (g : Arguments) (out : List ℕ) → eqb (called n g out).1 EFAULT ≡ false
    -- of a send what became of it; of the others that read more than one thing, "pending, blocking, stopped"
    pub kill_said : (by to t s : ℕ) → ledger_refusal k (kill by to t s) ≡ 0
        → ledger_answer k (kill by to t s) ≡ Accepted (Sent (said seen false (sent seen by to t s 0)))
    pub queue_said : (by to t s value : ℕ) → ledger_refusal k (sigqueue by to t s value) ≡ 0
        → ledger_answer k (sigqueue by to t s value) ≡ Accepted (Sent (said seen true (sent seen by to t s value)))
    pub pending_said : (t : ℕ) → ledger_refusal k (sigpending t) ≡ 0
        → ledger_answer k (sigpending t)
        ≡ Accepted (PendingSet (set_of (λ s. has (the_thread seen t).mask s && pending_for seen (the_thread seen t) s)))
    pub who_said : (p : ℕ) → ledger_refusal k (who p) ≡ 0
        → ledger_answer k (who p)
        ≡ Accepted (who_answer seen (first (λ t. belongs_to p t && has_offer seen t) k.threads))
    -- of a look the bytes, and those of the slot that it names
    pub looks : (t : ℕ) → look_at h.processes h.thread_buffer h.process_buffer h.threads t ≡ looked_bytes k t
    pub slots : (t : ℕ)
        → bytes_at h (slot_at h.processes h.thread_buffer h.process_buffer h.threads t) ≡ looked_bytes k t
    -- "Each taken record went once, to one thread of that process that did not block it,
    -- while the process was not stopped": of any call, every take, of marks too
    pub takes : (c : Call) → ledger_refusal k c ≡ 0 → RightTurns (turns seen c) k
    -- 01: "and answers by it"
    pub answers_by : (c : Call) → ledger_refusal k c ≡ 0
        → All (AnswersBy seen (ledger_answer k c)) (acts_of (turns seen c) k)
    -- "Asking a live thread for a signal yields one exactly when its process is not stopped and a signal that it does
    -- not block is pending for it or for its process."
    pub asking : (g : Arguments) (out : List ℕ) → answer_words ≤ length out → live_thread seen g.a ≡ true
        → yields (called call_take g out).0.answer ≡ has_offer seen (the_thread seen g.a)
    -- then the thread that asks takes one, and else none
    pub takes_one : (t : ℕ) → ledger_refusal k (take t) ≡ 0
        → count takes_either (acts_of (turns seen (take t)) k) ≡ cond (has_offer seen (the_thread seen t)) 1 0
    pub takes_itself : (t : ℕ) → ledger_refusal k (take t) ≡ 0 → All (TakenBy t) (acts_of (turns seen (take t)) k)
    -- "Of records, kept equals taken plus discarded plus pending": of a signal in a queue, and of all
    pub balance : (q : Queue) (s : ℕ)
        → (k.lines q s).counts.kept
        ≡ (k.lines q s).counts.taken + (k.lines q s).counts.discarded + length (queued q s)
    pub total : k.total.kept
        ≡ k.total.taken + k.total.discarded
        + (length (used (decoded tables).thread_buffer) + length (used (decoded tables).process_buffer))
    -- "counted from the calls": as many as their acts keep, and as many as they take
    pub kept_counted : (q : Queue) (s : ℕ) → (k.lines q s).counts.kept ≡ count (keeps_at q s) done
    pub taken_counted : (q : Queue) (s : ℕ) → (k.lines q s).counts.taken ≡ count (takes_at q s) done
    pub discarded_counted : (q : Queue) (s : ℕ) → (k.lines q s).counts.discarded ≡ discarded_at q s done
    pub kept_total : k.total.kept ≡ count is_keep done
    pub taken_total : k.total.taken ≡ count is_take done
    -- "and room given back is used again": with words for the answer, a queued send is refused for room exactly when a
    -- plain one would pass, it would be kept, and the sends pending for the process are 32 then; they are never more
    pub room : (g : Arguments) (out : List ℕ) → answer_words ≤ length out
        → eqb (called call_sigqueue g out).1 EAGAIN
        ≡ (eqb (refusal (rows seen (kill g.a g.b g.c g.d))) 0
        && (eqb (sent_word (said seen true (sent seen g.a g.b g.c g.d g.x))) answer_kept
        && eqb (pending_where k (of_process g.b)) record_limit))
    pub limit : (n : ℕ) → pending_where k (of_process n) ≤ record_limit
    -- 01: "room (errno 11's row)", of places: what is added with good ids that are not live, by a live creator, is
    -- refused for room exactly when there is no free place for it
    pub room_process : (g : Arguments) (out : List ℕ) → answer_words ≤ length out
        → eqb (called call_add_process g out).1 EAGAIN
        ≡ ((good_id g.a && good_id g.f)
        && (not (live_process seen g.a || live_thread seen g.f)
        && not (any is_free_process k.processes && any is_free_thread k.threads)))
    pub room_thread : (g : Arguments) (out : List ℕ) → answer_words ≤ length out
        → eqb (called call_add_thread g out).1 EAGAIN
        ≡ (good_id g.b
        && (live_thread seen g.a && (not (live_thread seen g.b) && not (any is_free_thread k.threads))))

-- the same of what stands there after a list
abbrev pub Holds : Past → Type 0
Holds p = Claim p.host p.book.ledger p.book.acts

-- "Start from a cleared store and make a list of calls on the tables .., refused ones included."
-- The host lends tables of the right lengths, whatever they hold, and clears them; then it makes any list of calls by
-- any numbers, with any arguments of their widths and words of any length for the answers, and of looks.
abbrev pub Demand3 : Type 0
Demand3 =
    (h : Host) (g : Arguments) → lengths_are (lent_by h) ≡ true → answer_words ≤ length h.answer
    → (xs : List Item) → all machine_item xs ≡ true → Holds (after xs (cleared g h))
