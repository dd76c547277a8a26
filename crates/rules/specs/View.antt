-- What the rules read, and what they change.
-- The tables and the ledger of demand 3 both have this view, and each makes the changes in its own way.
use Rattle.std.specs.Prelude.{ℕ, ◌-◌, Bool, ◌&&◌, ◌||◌, not, List, eqb, get_or}
use Rattle.std.proofs.Math.Option
use Rattle.std.proofs.Math.Option.{Option}
use Rattle.sigset.specs.declared.SigSet.{SigSet}
use Rattle.types.specs.declared.Action.{Action}
use Rattle.types.specs.declared.Siginfo.{Siginfo}
use Rattle.types.specs.Values.{default_action}
use Rattle.lists.specs.Lists.{any, first, is_some}
use Rattle.rules.specs.Types.{Process, Thread, Queue, no_process, no_thread}

pub record View : Type 0 where
  -- the places of each table, a free one with id 0
  pub processes : List Process
  pub threads : List Thread
  -- "A mark is a pending signal without a value, one bit for each signal and queue"
  pub marks : Queue → ℕ → Bool
  -- the oldest record of a queue and a signal
  pub oldest : Queue → ℕ → Option Siginfo
  -- how many records a process has pending, "its threads' queues counted in"
  pub queued : ℕ → ℕ

pub data Change : Type 0 where
  -- all of the store is cleared
  forget : Change
  -- the lowest free place is filled
  new_process : Process → Change
  new_thread : Thread → Change
  -- the process with its threads, or the thread: its queues are emptied, its places become zero
  remove_process : (process : ℕ) → Change
  remove_thread : (thread : ℕ) → Change
  set_stopped : (process stopped : ℕ) → Change
  set_action : (process signal : ℕ) → Action → Change
  set_mask : (thread : ℕ) → SigSet → Change
  set_mark : Queue → (signal : ℕ) → Change
  clear_mark : Queue → (signal : ℕ) → Change
  -- a record at the end of its queue
  append : Siginfo → Change
  -- the oldest record of the queue and the signal goes
  drop_oldest : Queue → (signal : ℕ) → Change
  -- the signals of the set go from every queue of the process
  discard : (process : ℕ) → SigSet → Change

-- One thing that a call does, judged on what is there when its turn comes. A call is a list of them.
abbrev pub Stage : Type 0
Stage = View → List Change

-- ---- processes, threads and queues by id

-- 0 is no id
unfoldable pub is_process : ℕ → Process → Bool
is_process n p = not (eqb n 0) && eqb p.id n

unfoldable pub is_thread : ℕ → Thread → Bool
is_thread n t = not (eqb n 0) && eqb t.id n

-- a thread of the process
unfoldable pub belongs_to : ℕ → Thread → Bool
belongs_to n t = not (eqb n 0) && eqb t.process n

unfoldable pub same_queue : Queue → Queue → Bool
same_queue a b = eqb a.process b.process && eqb a.thread b.thread

abbrev pub process_queue : ℕ → Queue
process_queue p = record { process = p; thread = 0 }

abbrev pub thread_queue : Thread → Queue
thread_queue t = record { process = t.process; thread = t.id }

-- what a send is aimed at: thread 0 is the process itself
abbrev pub target_queue : (to thread : ℕ) → Queue
target_queue to t = record { process = to; thread = t }

abbrev pub queue_of : Siginfo → Queue
queue_of r = record { process = r.process; thread = r.thread }

-- the record is of the queue and the signal
unfoldable pub in_queue : Queue → ℕ → Siginfo → Bool
in_queue q s r = same_queue q (queue_of r) && eqb r.signal s

unfoldable pub action_of : Process → ℕ → Action
action_of p s = get_or p.actions (s - 1) default_action

-- ---- what is in view

module _ (v : View) where
  unfoldable pub live_process : ℕ → Bool
  live_process n = any (is_process n) v.processes

  unfoldable pub live_thread : ℕ → Bool
  live_thread n = any (is_thread n) v.threads

  unfoldable pub the_process : ℕ → Process
  the_process n = Option.get_or (first (is_process n) v.processes) no_process

  unfoldable pub the_thread : ℕ → Thread
  the_thread n = Option.get_or (first (is_thread n) v.threads) no_thread

  -- the action of a thread's process
  unfoldable pub thread_action : Thread → ℕ → Action
  thread_action t s = action_of (the_process t.process) s

  -- the signal is pending in the queue, by a record or by a mark
  unfoldable pub pending_in : Queue → ℕ → Bool
  pending_in q s = is_some (v.oldest q s) || v.marks q s

  -- the signal is pending for the thread or for its process
  unfoldable pub pending_for : Thread → ℕ → Bool
  pending_for t s = pending_in (thread_queue t) s || pending_in (process_queue t.process) s
