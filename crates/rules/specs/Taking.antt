-- "Taking".
use Rattle.std.specs.Prelude.{ℕ, ◌-◌, Bool, not, ◌&&◌, ◌||◌, cond, List, [], ◌∷◌, eqb, Some, None}
use Rattle.std.specs.Prelude.{Option as Maybe}
use Rattle.std.proofs.Math.Option.{Option, some, none}
use Rattle.std.specs.Int.Bits.{bit_and}
use Rattle.limits.specs.Limits.{SIGILL, SIGTRAP, sig_dfl, sa_siginfo, sa_nodefer, sa_resethand, known_flags}
use Rattle.lists.specs.Lists.{first}
use Rattle.sigset.specs.declared.SigSet.{SigSet}
use Rattle.sigset.specs.Set.{has, union, maskable, of_signal, lowest_of, empty}
use Rattle.types.specs.declared.Action.{Action}
use Rattle.types.specs.declared.Siginfo.{Siginfo}
use Rattle.types.specs.declared.Taken.{Taken}
use Rattle.types.specs.declared.Taken.TheVariants.{Handler, End, Stop, NoAction}
use Rattle.types.specs.declared.Reply.{Reply}
use Rattle.types.specs.declared.Reply.TheVariants.{Taker}
use Rattle.rules.specs.Types.{Thread, Queue, Next, no_next, next_mark, next_record}
use Rattle.rules.specs.Signals.{Outcome, ignores, stops, continues, ends, outcome}
use Rattle.rules.specs.View.{View, Change, remove_process, set_stopped, set_mask, clear_mark, drop_oldest, thread_queue}
use Rattle.rules.specs.View.{process_queue, belongs_to, the_process, thread_action, pending_in, pending_for}
use Rattle.rules.specs.Actions.{has_flag, store_changes}

-- ---- what a thread takes next

module _ (v : View) where
  unfoldable pub is_stopped : Thread → Bool
  is_stopped t = not (eqb (the_process v t.process).stopped 0)

  -- "A thread can take a signal pending in its own or its process's queue, not in its mask,
  -- if the process is not stopped."
  unfoldable pub can_take_signal : Thread → ℕ → Bool
  can_take_signal t s = not (is_stopped t) && (pending_for v t s && not (has t.mask s))

  -- "The lowest number wins"; 0 where there is none
  unfoldable pub next_signal : Thread → ℕ
  next_signal t = lowest_of (can_take_signal t)

  -- "at equal numbers the thread's queue goes first (source 001)"
  unfoldable pub next_queue : Thread → ℕ → Queue
  next_queue t s = cond (pending_in v (thread_queue t) s) (thread_queue t) (process_queue t.process)

  -- "within a queue the oldest record, then the mark"
  unfoldable pub next_in : Queue → ℕ → Option Siginfo → Next
  next_in q s none = next_mark q s
  next_in q s (some r) = next_record q s r

  unfoldable pub next : Thread → Next
  next t =
      cond (eqb (next_signal t) 0) no_next
      (next_in (next_queue t (next_signal t)) (next_signal t) (v.oldest (next_queue t (next_signal t)) (next_signal t)))

  -- "names the live thread of a process in the lowest place that can take something, or says none can"
  unfoldable pub can_take_some : (process : ℕ) → Thread → Bool
  can_take_some p t = belongs_to p t && not (eqb (next_signal t) 0)

  unfoldable pub who_answer : Option Thread → Reply
  who_answer none = Taker None
  who_answer (some t) = Taker (Some t.id)

  unfoldable pub taker : (process : ℕ) → Reply
  taker p = who_answer (first (can_take_some p) v.threads)

-- ---- handlers

-- "for a mark: zero value, code 0, sender ids 0"
unfoldable pub mark_info : Queue → ℕ → Siginfo
mark_info q s = record { process = q.process; thread = q.thread; signal = s; code = 0; sender = 0; uid = 0; value = 0 }

-- "The new mask is old mask, action mask, and the signal unless NODEFER, without 9 and 19."
unfoldable pub handler_mask : (old : SigSet) → Action → (signal : ℕ) → SigSet
handler_mask old a s = maskable (union (union old a.mask) (cond (has_flag a sa_nodefer) empty (of_signal s)))

-- "RESETHAND .. ILL 4 and TRAP 5 are not reset (source 004)"
unfoldable pub resets : Action → (signal : ℕ) → Bool
resets a s = has_flag a sa_resethand && not (eqb s SIGILL || eqb s SIGTRAP)

-- "sets the handler number to 0 and clears SIGINFO, the rest of the action staying"
unfoldable pub reset : Action → Action
reset a = record { handler = sig_dfl; flags = bit_and a.flags (known_flags - sa_siginfo); mask = a.mask }

-- "with the discards of storing default"
unfoldable pub reset_changes : (process signal : ℕ) → Action → List Change
reset_changes p s a = cond (resets a s) (store_changes p s (reset a)) []

-- ---- default outcomes: "answers the signal and "end" (as by KILL), "stop" (it is stopped) or, for CONT, "no action""

unfoldable pub outcome_changes : Outcome → (process : ℕ) → List Change
outcome_changes ignores p = []
outcome_changes stops p = set_stopped p 1 ∷ []
outcome_changes continues p = []
outcome_changes ends p = remove_process p ∷ []

unfoldable pub outcome_answer : Outcome → (signal : ℕ) → Taken
outcome_answer ignores s = NoAction s
outcome_answer stops s = Stop s
outcome_answer continues s = NoAction s
outcome_answer ends s = End s

-- ---- a take

unfoldable pub deliver : Thread → Action → (signal : ℕ) → List Change
deliver t a s =
    cond (eqb a.handler sig_dfl) (outcome_changes (outcome s) t.process)
    (set_mask t.id (handler_mask t.mask a s) ∷ reset_changes t.process s a)

-- "answers handler, signal, record .., flags, saved mask"
unfoldable pub delivered : Thread → Action → Siginfo → Taken
delivered t a r =
    cond (eqb a.handler sig_dfl) (outcome_answer (outcome r.signal) r.signal)
    (Handler a.handler r.signal r a.flags t.mask)

module _ (v : View) where
  -- the record or the mark leaves its queue first
  unfoldable pub take_changes : Thread → Next → List Change
  take_changes t no_next = []
  take_changes t (next_mark q s) = clear_mark q s ∷ deliver t (thread_action v t s) s
  take_changes t (next_record q s r) = drop_oldest q s ∷ deliver t (thread_action v t s) s

  unfoldable pub take_answer : Thread → Next → Maybe Taken
  take_answer t no_next = None
  take_answer t (next_mark q s) = Some (delivered t (thread_action v t s) (mark_info q s))
  take_answer t (next_record q s r) = Some (delivered t (thread_action v t s) r)
