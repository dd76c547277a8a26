-- Demand 3's acts: what a call does to the ledger's lists, in document 01's own words, from the call's arguments and
-- what is read in the ledger. They stand beside the rules' changes and are not made from them.
use Rattle.std.specs.Prelude.{ℕ, ◌+◌, Bool, true, false, not, ◌&&◌, ◌||◌, cond, eqb, length}
use mathlib.Core.List.{List, [], ◌∷◌, ◌++◌, tail}
use Rattle.std.proofs.Math.Option.{Option, some, none}
use Rattle.limits.specs.Limits.{SIGILL, SIGTRAP, SIGKILL, SIGCONT, SIGSTOP, sig_dfl, sa_resethand, si_queue}
use Rattle.lists.specs.Lists.{any}
use Rattle.sigset.specs.Set.{is_unmaskable}
use Rattle.types.specs.declared.Action.{Action}
use Rattle.types.specs.declared.Siginfo.{Siginfo}
use Rattle.types.specs.declared.Sent.{Sent}
use Rattle.types.specs.declared.Sent.TheVariants.{Tested, Acted, Dropped, Absorbed, Marked, Kept}
use Rattle.rules.specs.Types.{Thread, Queue, Next, no_next, next_mark, next_record, Call, clear, add_process}
use Rattle.rules.specs.Types.{add_thread}
use Rattle.rules.specs.Types.{end_process, end_thread, kill, sigqueue, sigaction, sigmask, sigpending, look, who, take}
use Rattle.rules.specs.Types.{sigreturn}
use Rattle.rules.specs.Signals as signals
use Rattle.rules.specs.Signals.{standard, stop_signal, Outcome, ignores, stops, continues, ends, outcome, ignored}
use Rattle.rules.specs.View.{View, Stage, belongs_to, queue_of, in_queue, action_of, the_process, the_thread}
use Rattle.rules.specs.View.{thread_action}
use Rattle.rules.specs.View.{pending_in}
use Rattle.rules.specs.Actions.{has_flag}
use Rattle.rules.specs.Taking.{next}
use Rattle.rules.specs.Calls.{changes}
use Rattle.history.specs.Ledger.{Line, Ledger, pending_where, ledger_view, on_lines, with_total, with_mark, is_at}
use Rattle.history.specs.Ledger.{place_all}

-- ---- what empties a queue

-- "Such events are clearing (of all but counts), steps 1 and 2, storing or resetting to an ignoring action,
-- the end of the thread or process."
pub data Event : Type 0 where
  all_cleared : Event
  -- steps 1 and 2: STOP, TSTP, TTIN or TTOU is sent; CONT is sent
  stop_sent : (process : ℕ) → Event
  cont_sent : (process : ℕ) → Event
  -- an ignoring action is stored, or reset to
  now_ignored : (process signal : ℕ) → Event
  thread_ends : (thread : ℕ) → Event
  -- by KILL too
  process_ends : (process : ℕ) → Event

-- the queues and signals that it empties
unfoldable pub empties : Event → Queue → ℕ → Bool
empties all_cleared q s = true
-- "discards every pending CONT of the process"
empties (stop_sent p) q s = eqb q.process p && eqb s SIGCONT
-- "CONT discards every pending stop signal of it"
empties (cont_sent p) q s = eqb q.process p && stop_signal s
-- "discards that signal from all queues of the process"
empties (now_ignored p n) q s = eqb q.process p && eqb s n
-- "A thread's end discards its queue"
empties (thread_ends t) q s = eqb q.thread t
-- "its threads, marks, records and actions go"
empties (process_ends p) q s = eqb q.process p

-- ---- an act, and what it does to the lists

pub data Act : Type 0 where
  -- a queued send is kept in its queue, as its record
  kept : Siginfo → Act
  -- a plain send sets its mark
  marked : Queue → (signal : ℕ) → Act
  -- a thread takes the oldest send of a signal in a queue; or, with none, the mark
  took_send : (thread : ℕ) → Queue → (signal : ℕ) → Siginfo → Act
  took_mark : (thread : ℕ) → Queue → (signal : ℕ) → Act
  emptied : Event → Act

-- "Step 5 puts a queued send last in its list, as its record: kept."
abbrev pub keep_send : Siginfo → Line → Line
keep_send r x =
    record {
      sends = x.sends ++ (r ∷ []);
      mark = x.mark;
      counts = record { kept = x.counts.kept + 1; taken = x.counts.taken; discarded = x.counts.discarded };
    }

-- "A take removes the oldest send (taken)"
abbrev pub take_send : Line → Line
take_send x =
    record {
      sends = tail x.sends;
      mark = x.mark;
      counts = record { kept = x.counts.kept; taken = x.counts.taken + 1; discarded = x.counts.discarded };
    }

-- "Sends that emptying events remove are discarded."
abbrev pub empty_line : Line → Line
empty_line x =
    record {
      sends = [];
      mark = false;
      counts =
          record {
            kept = x.counts.kept;
            taken = x.counts.taken;
            discarded = x.counts.discarded + length x.sends;
          };
    }

-- the lines that pass are emptied
abbrev pub emptying : (Queue → ℕ → Bool) → Ledger → Ledger
emptying p l =
    with_total
    (record { kept = l.total.kept; taken = l.total.taken; discarded = l.total.discarded + pending_where l p })
    (on_lines p empty_line l)

unfoldable pub play : Act → Ledger → Ledger
play (kept r) l =
    with_total (record { kept = l.total.kept + 1; taken = l.total.taken; discarded = l.total.discarded })
    (on_lines (λ q s. in_queue q s r) (keep_send r) l)
play (marked q s) l = on_lines (is_at q s) (with_mark true) l
play (took_send t q s r) l =
    with_total (record { kept = l.total.kept; taken = l.total.taken + 1; discarded = l.total.discarded })
    (on_lines (is_at q s) take_send l)
play (took_mark t q s) l = on_lines (is_at q s) (with_mark false) l
play (emptied e) l = emptying (empties e) l

unfoldable pub play_all : List Act → Ledger → Ledger
play_all [] l = l
play_all (a ∷ xs) l = play_all xs (play a l)

-- ---- the acts of a call, on what is read when its turn comes

-- step 5: "A plain send sets the mark, "marked". A queued send adds a record at the end, "kept"."
unfoldable pub arrival : Sent → Siginfo → List Act
arrival Tested r = []
arrival Acted r = []
arrival Dropped r = []
arrival Absorbed r = []
arrival Marked r = marked (queue_of r) r.signal ∷ []
arrival Kept r = kept r ∷ []

-- steps 1 and 2
unfoldable pub job_events : (process signal : ℕ) → List Act
job_events p s =
    cond (eqb s SIGKILL) (emptied (process_ends p) ∷ [])
    (cond (eqb s SIGCONT) (emptied (cont_sent p) ∷ [])
    (cond (eqb s SIGSTOP || stop_signal s) (emptied (stop_sent p) ∷ []) []))

-- "Storing ignore, or default for an ignoring signal"; without a new action nothing changes
unfoldable pub store_acts : (process signal : ℕ) → Option Action → List Act
store_acts p s none = []
store_acts p s (some a) = cond (ignored a s) (emptied (now_ignored p s) ∷ []) []

-- by default the process ends; a signal that is ignored by default is never pending, and never taken so
unfoldable pub ends_process : Outcome → Bool
ends_process ignores = false
ends_process stops = false
ends_process continues = false
ends_process ends = true

-- a handler that is reset to a default that ignores: "RESETHAND .. sets the handler number to 0 ..;
-- ILL 4 and TRAP 5 are not reset"
unfoldable pub reset_to_ignore : Action → (signal : ℕ) → Bool
reset_to_ignore a s = (has_flag a sa_resethand && not (eqb s SIGILL || eqb s SIGTRAP)) && signals.ignoring s

-- what a taken signal sets off
unfoldable pub sets_off : Thread → Action → (signal : ℕ) → List Act
sets_off t a s =
    cond (eqb a.handler sig_dfl)
    (cond (ends_process (outcome s)) (emptied (process_ends t.process) ∷ []) [])
    (cond (reset_to_ignore a s) (emptied (now_ignored t.process s) ∷ []) [])

module _ (v : View) where
  -- "process id 4, thread id 4 .., signal 4, code 4 (-1, queued), sender id 4, sender real user id 4, value 8";
  -- of a plain send only its queue and signal are used
  unfoldable pub sent : (by to thread signal value : ℕ) → Siginfo
  sent by to t s value =
      record {
        process = to;
        thread = t;
        signal = s;
        code = si_queue;
        sender = by;
        uid = (the_process v by).real;
        value = value;
      }

  -- step 3: "the action is ignore, or default with an ignoring signal"
  unfoldable pub is_dropped : Siginfo → Bool
  is_dropped r = ignored (action_of (the_process v r.process) r.signal) r.signal

  -- step 4: "A standard signal already pending in that queue, or a plain send whose mark is set"
  unfoldable pub is_absorbed : (queued : Bool) → Siginfo → Bool
  is_absorbed queued r =
      (standard r.signal && pending_in v (queue_of r) r.signal)
      || (not queued && v.marks (queue_of r) r.signal)

  -- what becomes of a send, in the words of its answer: signal 0, then steps 1, 3, 4 and 5
  unfoldable pub said : (queued : Bool) → Siginfo → Sent
  said queued r =
      cond (eqb r.signal 0) Tested
      (cond (is_unmaskable r.signal) Acted
      (cond (is_dropped r) Dropped
      (cond (is_absorbed queued r) Absorbed
      (cond queued Kept Marked))))

  unfoldable pub send_acts : (queued : Bool) → Siginfo → List Act
  send_acts queued r = job_events r.process r.signal ++ arrival (said queued r) r

  -- "the last thread's end ends the process"
  unfoldable pub end_acts : Thread → List Act
  end_acts t =
      cond (any (λ (u : Thread). belongs_to t.process u && not (eqb u.id t.id)) v.threads)
      (emptied (thread_ends t.id) ∷ []) (emptied (process_ends t.process) ∷ [])

  -- "the oldest send .. of the queue and signal chosen there or, with none, the mark, before what it sets off"
  unfoldable pub take_acts : Thread → Next → List Act
  take_acts t no_next = []
  take_acts t (next_mark q s) = took_mark t.id q s ∷ sets_off t (thread_action v t s) s
  take_acts t (next_record q s r) = took_send t.id q s r ∷ sets_off t (thread_action v t s) s

  unfoldable pub acts : Call → List Act
  acts clear = emptied all_cleared ∷ []
  acts (add_process new) = []
  acts (add_thread creator id) = []
  acts (end_process id) = emptied (process_ends id) ∷ []
  acts (end_thread id) = end_acts (the_thread v id)
  acts (kill by to t s) = send_acts false (sent by to t s 0)
  acts (sigqueue by to t s value) = send_acts true (sent by to t s value)
  acts (sigaction p s new) = store_acts p s new
  acts (sigmask t way set) = []
  acts (sigpending t) = []
  acts (look t) = []
  acts (who p) = []
  acts (take t) = take_acts (the_thread v t) (next v (the_thread v t))
  acts (sigreturn t saved) = []

-- ---- the turns of a call

-- One thing that a call does: its acts, and the stage by which the rules change processes and threads,
-- both judged on what is read in the ledger when its turn comes.
pub record Turn : Type 0 where
  pub does : View → List Act
  pub stage : Stage

-- v is what is read before the call; so far a call has one turn
unfoldable pub turns : View → Call → List Turn
turns v c = record { does = λ w. acts w c; stage = λ w. changes w c } ∷ []

unfoldable pub take_turn : Turn → Ledger → Ledger
take_turn x l = place_all (x.stage (ledger_view l)) (play_all (x.does (ledger_view l)) l)

unfoldable pub take_turns : List Turn → Ledger → Ledger
take_turns [] l = l
take_turns (x ∷ xs) l = take_turns xs (take_turn x l)

-- all acts of the turns, in order
unfoldable pub acts_of : List Turn → Ledger → List Act
acts_of [] l = []
acts_of (x ∷ xs) l = x.does (ledger_view l) ++ acts_of xs (take_turn x l)
