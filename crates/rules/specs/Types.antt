-- What the rules speak of: processes, threads, queues, calls and what is next.
use Rattle.std.specs.Prelude.{ℕ, List, replicate, Some, None, Option as Maybe}
use Rattle.std.proofs.Math.Option.{Option}
use Rattle.limits.specs.Limits.{signals}
use Rattle.sigset.specs.declared.SigSet.{SigSet}
use Rattle.sigset.specs.Set.{empty}
use Rattle.types.specs.declared.Action.{Action}
use Rattle.types.specs.declared.Siginfo.{Siginfo}
use Rattle.types.specs.declared.NewProcess.{NewProcess}
use Rattle.types.specs.declared.Pending.{Pending}
use Rattle.types.specs.declared.Pending.TheVariants.{Mark, Record}
use Rattle.types.specs.Values.{default_action}

-- ---- "The tables"

-- "16 process places: id, real, effective and saved user ids, session id, stopped or not, marks, 64 actions";
-- the marks stand beside it
pub record Process : Type 0 where
  pub id : ℕ
  pub real : ℕ
  pub effective : ℕ
  pub saved : ℕ
  pub session : ℕ
  -- 1 where it is stopped, else 0
  pub stopped : ℕ
  pub actions : List Action

-- "a row of thread records, 64 of them: id, process id, mask, marks"; the marks stand beside it
pub record Thread : Type 0 where
  pub id : ℕ
  pub process : ℕ
  pub mask : SigSet

-- "A queue is one thread's or one process's": a process's has thread 0
pub record Queue : Type 0 where
  pub process : ℕ
  pub thread : ℕ

-- what a free place holds
abbrev pub no_process : Process
no_process =
    record {
      id = 0;
      real = 0;
      effective = 0;
      saved = 0;
      session = 0;
      stopped = 0;
      actions = replicate signals default_action;
    }

abbrev pub no_thread : Thread
no_thread = record { id = 0; process = 0; mask = empty }

-- ---- the calls, each with its arguments in the documented order

pub data Call : Type 0 where
  clear : Call
  add_process : (new : NewProcess) → Call
  add_thread : (creator id : ℕ) → Call
  end_process : (id : ℕ) → Call
  end_thread : (id : ℕ) → Call
  kill : (by to thread signal : ℕ) → Call
  sigqueue : (by to thread signal value : ℕ) → Call
  -- without a new action it enquires
  sigaction : (process signal : ℕ) (new : Option Action) → Call
  sigmask : (thread way : ℕ) (set : Option SigSet) → Call
  sigpending : (thread : ℕ) → Call
  look : (thread : ℕ) → Call
  who : (process : ℕ) → Call
  take : (thread : ℕ) → Call
  sigreturn : (thread : ℕ) (mask : SigSet) → Call

-- ---- kinds of calls, for what is asked of any call and is the same for most

pub data Kind : Call → Type 0 where
  clearing : Kind clear
  adding : (new : NewProcess) → Kind (add_process new)
  queueing : (by to thread signal value : ℕ) → Kind (sigqueue by to thread signal value)
  taking : (thread : ℕ) → Kind (take thread)
  other : {c : Call} → Kind c

abbrev pub kind_of : (c : Call) → Kind c
kind_of clear = clearing
kind_of (add_process new) = adding new
kind_of (add_thread creator id) = other
kind_of (end_process id) = other
kind_of (end_thread id) = other
kind_of (kill by to t s) = other
kind_of (sigqueue by to t s value) = queueing by to t s value
kind_of (sigaction p s new) = other
kind_of (sigmask t way set) = other
kind_of (sigpending t) = other
kind_of (look t) = other
kind_of (who p) = other
kind_of (take t) = taking t
kind_of (sigreturn t saved) = other

-- ---- the answers are those of crate types: Sent, Taken, Reply, Answer

-- what a thread takes next: nothing, the mark of a signal in a queue, or the oldest record of a signal in a queue
pub data Next : Type 0 where
  no_next : Next
  next_mark : (queue : Queue) (signal : ℕ) → Next
  next_record : (queue : Queue) (signal : ℕ) (info : Siginfo) → Next

-- what a look tells of it: a record is the oldest of its own queue and signal
unfoldable pub told : Next → Maybe Pending
told no_next = None
told (next_mark q s) = Some (Mark q.process q.thread s)
told (next_record q s r) = Some (Record r)
