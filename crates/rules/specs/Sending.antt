-- "Sending".
use Rattle.std.specs.Prelude.{ℕ, Bool, true, false, not, ◌&&◌, ◌||◌, cond, List, [], ◌∷◌, ◌++◌, eqb}
use Rattle.limits.specs.Limits.{SIGKILL, SIGCONT, SIGSTOP, si_queue}
use Rattle.sigset.specs.Set.{set_of, of_signal}
use Rattle.types.specs.declared.Siginfo.{Siginfo}
use Rattle.types.specs.declared.Sent.{Sent}
use Rattle.types.specs.declared.Sent.TheVariants.{Tested, Acted, Dropped, Absorbed, Marked, Kept}
use Rattle.rules.specs.Types.{Process, Queue}
use Rattle.rules.specs.Signals.{standard, stop_signal, ignored}
use Rattle.rules.specs.View.{View, Change, remove_process, set_stopped, set_mark, append, discard, queue_of, action_of}
use Rattle.rules.specs.View.{the_process, pending_in}

-- "A sender may signal if its effective id is 0, or its real or effective id equals the target's real or saved id,
-- or the signal is CONT and the sessions are equal."
unfoldable pub may_signal : (sender target : Process) → ℕ → Bool
may_signal a b s =
    eqb a.effective 0
    || ((eqb a.real b.real || eqb a.real b.saved)
    || ((eqb a.effective b.real || eqb a.effective b.saved)
    || (eqb s SIGCONT && eqb a.session b.session)))

-- what the generation of a signal comes to, for the queue that it is sent to
pub data Generation : Type 0 where
  testing killing stopping dropping absorbing marking keeping : Generation

module _ (v : View) where
  -- step 4: "A standard signal already pending in that queue, or a plain send whose mark is set, is "absorbed""
  unfoldable pub absorbs : (queued : Bool) → Queue → ℕ → Bool
  absorbs queued q s = (standard s && pending_in v q s) || (not queued && v.marks q s)

  -- Signal 0, then steps 1, 3, 4, 5.
  -- All are judged before anything changes: what step 2 discards is never the signal sent.
  unfoldable pub generation : (queued : Bool) → Queue → ℕ → Generation
  generation queued q s =
      cond (eqb s 0) testing
      (cond (eqb s SIGKILL) killing
      (cond (eqb s SIGSTOP) stopping
      (cond (ignored (action_of (the_process v q.process) s) s) dropping
      (cond (absorbs queued q s) absorbing
      (cond queued keeping marking)))))

  -- the record of a queued send: "code 4 (-1, queued)", sender, the sender's real user id, value.
  -- Of a plain send only its queue and signal are used.
  unfoldable pub info_of : (by to thread signal value : ℕ) → Siginfo
  info_of by to thread signal value =
      record {
        process = to;
        thread = thread;
        signal = signal;
        code = si_queue;
        sender = by;
        uid = (the_process v by).real;
        value = value;
      }

-- Steps 1 and 2: "STOP discards every pending CONT of the process and stops it."
-- "TSTP, TTIN, TTOU discard every pending CONT of the process.
-- CONT discards every pending stop signal of it and lets it run, blocked or ignored or not."
unfoldable pub job_control : (process signal : ℕ) → List Change
job_control p s =
    cond (eqb s SIGCONT) (discard p (set_of stop_signal) ∷ set_stopped p 0 ∷ [])
    (cond (eqb s SIGSTOP) (discard p (of_signal SIGCONT) ∷ set_stopped p 1 ∷ [])
    (cond (stop_signal s) (discard p (of_signal SIGCONT) ∷ []) []))

-- step 5: "A plain send sets the mark, "marked". A queued send adds a record at the end, "kept"."
unfoldable pub send_changes : Generation → Siginfo → List Change
send_changes testing r = []
send_changes killing r = remove_process r.process ∷ []
send_changes stopping r = job_control r.process r.signal
send_changes dropping r = job_control r.process r.signal
send_changes absorbing r = job_control r.process r.signal
send_changes marking r = job_control r.process r.signal ++ (set_mark (queue_of r) r.signal ∷ [])
send_changes keeping r = job_control r.process r.signal ++ (append r ∷ [])

unfoldable pub send_answer : Generation → Sent
send_answer testing = Tested
send_answer killing = Acted
send_answer stopping = Acted
send_answer dropping = Dropped
send_answer absorbing = Absorbed
send_answer marking = Marked
send_answer keeping = Kept

-- "a queued send needs a record"
unfoldable pub needs_record : Generation → Bool
needs_record testing = false
needs_record killing = false
needs_record stopping = false
needs_record dropping = false
needs_record absorbing = false
needs_record marking = false
needs_record keeping = true
