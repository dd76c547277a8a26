-- Demand 1: "Whatever bytes the tables hold and whatever the arguments, a call answers or gives one of document 01's
-- refusals; a refusal writes nothing; nobody checks anything beforehand. SIGKILL and SIGSTOP are never turned away."
-- The proof is proofs/Demand1. `call_on` is the call as a host makes it: the contract of `rrezhbuta_call` says that it
-- leaves and returns just that, and asks nothing. h is what the host holds, n the number and g the arguments of a call.
use Rattle.std.specs.Prelude.{ℕ, ◌≤◌, ◌≡◌, Bool, true, false, ◌&&◌, ◌||◌, cond, [], eqb, length}
use Rattle.limits.specs.Limits.{EFAULT, EINVAL, SIGKILL, SIGCONT, SIGSTOP, answer_words, call_clear, call_kill}
use Rattle.limits.specs.Limits.{call_sigqueue, call_sigaction, call_sigmask, call_sigpending, call_look, call_who}
use Rattle.lists.specs.Lists.{any, keep}
use Rattle.sigset.specs.Set.{is_unmaskable, has}
use Rattle.siginfo.specs.Bytes.{Bytes}
use Rattle.types.specs.declared.Sent.TheVariants.{Acted}
use Rattle.types.specs.declared.Reply.TheVariants.{Sent}
use Rattle.types.specs.Answers.{Accepted}
use Rattle.rules.specs.Types.{Queue}
use Rattle.rules.specs.View.{belongs_to, in_queue, action_of, live_process, the_process, the_thread, pending_in}
use Rattle.rules.specs.Store.{records_for, mark_in, cleared}
use Rattle.rules.specs.Sending.{may_signal}
use Rattle.rules.specs.Refusals.{table_order, bad_target}
use Rattle.rules.specs.Calls.{reply}
use Rattle.sound.specs.Lent.{Lent, decoded, view_of, lengths_are, sound_tables}
use Rattle.answers.specs.Step.{refusal_on}
use Rattle.boundary.specs.declared.Arguments.{Arguments}
use Rattle.boundary.specs.Boundary.{numbered, written, usable, accepted}
use Rattle.rrezhbuta.specs.Entry.{Host, lent_by, call_on}
use Rattle.history.specs.History.{lending, machine_arguments}

-- an errno of document 01's table
abbrev pub is_listed : ℕ → Bool
is_listed n = any (eqb n) table_order

-- the calls that only ask: those without a new action or a set, and those that never change anything
abbrev pub only_asks : (number : ℕ) → Arguments → Bool
only_asks n g =
    ((eqb n call_sigaction || eqb n call_sigmask) && eqb g.c 0)
    || (eqb n call_sigpending || (eqb n call_look || eqb n call_who))

-- either send
abbrev pub is_send : (number : ℕ) → Bool
is_send n = eqb n call_kill || eqb n call_sigqueue

-- the numbers have their widths: the bytes of the two buffers, and the arguments
pub record InWidth (h : Host) (g : Arguments) : Type 0 where
  pub thread_buffer : Bytes h.thread_buffer
  pub process_buffer : Bytes h.process_buffer
  pub arguments : machine_arguments g ≡ true

-- a live target, process or thread, of a live sender that may signal it, on sound tables, with room for the answer
pub record MaySend (h : Host) (by to thread signal : ℕ) : Type 0 where
  pub sound : sound_tables (lent_by h) ≡ true
  pub sender : live_process (view_of (lent_by h)) by ≡ true
  pub target : bad_target (view_of (lent_by h)) to thread ≡ false
  pub allowed : may_signal (the_process (view_of (lent_by h)) by) (the_process (view_of (lent_by h)) to) signal ≡ true
  pub room : answer_words ≤ length h.answer

-- 01: "KILL ends the process: its threads, marks, records and actions go, places become zero."
pub record Ended (l : Lent) (n : ℕ) : Type 0 where
  -- of a sound store a place that is not live is all zero
  pub sound : sound_tables l ≡ true
  pub process : live_process (view_of l) n ≡ false
  pub threads : any (belongs_to n) (view_of l).threads ≡ false
  pub marks : (q : Queue) (s : ℕ) → q.process ≡ n → mark_in (decoded l) q s ≡ false
  pub records : (q : Queue) (s : ℕ) → q.process ≡ n → keep (in_queue q s) (records_for q (decoded l)) ≡ []

-- 01: "STOP discards every pending CONT of the process and stops it."
pub record Stopped (l : Lent) (n : ℕ) : Type 0 where
  pub live : live_process (view_of l) n ≡ true
  pub stopped : (the_process (view_of l) n).stopped ≡ 1
  pub no_cont : (q : Queue) → q.process ≡ n → pending_in (view_of l) q SIGCONT ≡ false

-- 01: "no mask, mark or action mask holds" the signal
pub record NowhereMasked (l : Lent) (s : ℕ) : Type 0 where
  pub masks : (thread : ℕ) → has (the_thread (view_of l) thread).mask s ≡ false
  pub marks : (q : Queue) → mark_in (decoded l) q s ≡ false
  pub actions : (process n : ℕ) → has (action_of (the_process (view_of l) process) n).mask s ≡ false

pub record Demand1 : Type 0 where
  -- "a call answers or gives one of document 01's refusals"
  pub listed : (h : Host) (n : ℕ) (g : Arguments) → (eqb (call_on n g h).1 0 || is_listed (call_on n g h).1) ≡ true
  -- 01: "given exactly when": the first row of the table that applies; 22, after 14, where there is no such call or no
  -- room for its answer
  pub exactly : (h : Host) (n : ℕ) (g : Arguments)
      → (call_on n g h).1
      ≡ cond (accepted n (length h.answer)) (refusal_on (numbered n g) (lent_by h))
      (cond (usable n (lent_by h)) EINVAL EFAULT)
  -- where it answers, the words are those of the rules' reply, and the rest of what was lent for them stays
  pub answered : (h : Host) (n : ℕ) (g : Arguments) → eqb (call_on n g h).1 0 ≡ true
      → (call_on n g h).0.answer ≡ written (Accepted (reply (view_of (lent_by h)) (numbered n g))) h.answer
  -- "a refusal writes nothing": no table, and no word of the answer
  pub refused : (h : Host) (n : ℕ) (g : Arguments) → eqb (call_on n g h).1 0 ≡ false → (call_on n g h).0 ≡ h
  -- a call that only asks leaves all but the words of its answer as it was
  pub only_asked : (h : Host) (n : ℕ) (g : Arguments) → InWidth h g → only_asks n g ≡ true
      → (call_on n g h).0 ≡ lending (call_on n g h).0.answer h
  -- 01: "clearing checks lengths only"; then the store is cleared, whatever was there
  pub clears : (h : Host) (g : Arguments) → lengths_are (lent_by h) ≡ true → answer_words ≤ length h.answer
      → ((call_on call_clear g h).1 ≡ 0) × (decoded (lent_by (call_on call_clear g h).0) ≡ cleared)
  -- "SIGKILL and SIGSTOP are never turned away": by either send, whatever is pending, masked or set, on sound tables
  pub acted : (h : Host) (n : ℕ) (g : Arguments) → is_send n ≡ true → is_unmaskable g.d ≡ true
      → MaySend h g.a g.b g.c g.d
      → ((call_on n g h).1 ≡ 0) × ((call_on n g h).0.answer ≡ written (Accepted (Sent Acted)) h.answer)
  -- 01: "KILL ends the process"
  pub killed : (h : Host) (n : ℕ) (g : Arguments) → InWidth h g → is_send n ≡ true → g.d ≡ SIGKILL
      → MaySend h g.a g.b g.c g.d → Ended (lent_by (call_on n g h).0) g.b
  -- 01: "STOP .. stops it"
  pub stopped : (h : Host) (n : ℕ) (g : Arguments) → InWidth h g → is_send n ≡ true → g.d ≡ SIGSTOP
      → MaySend h g.a g.b g.c g.d → Stopped (lent_by (call_on n g h).0) g.b
  -- in every sound store, so in every one that a list of calls reaches (Demand3's `sound`)
  pub unmaskable : (l : Lent) → sound_tables l ≡ true → (s : ℕ) → is_unmaskable s ≡ true → NowhereMasked l s
