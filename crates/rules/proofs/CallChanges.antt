-- What the changes of a call can be: one walk through the rules, for any statement about single changes.
-- Assumes nothing.
use Prim.Native.Nat.{ℕ}
use mathlib.Core.Path.{◌≡◌, refl, ap}
use mathlib.Core.Bool.{Bool, true, false, cond}
use mathlib.Core.List.{[], ◌∷◌}
use mathlib.Core.Option.{Option, some, none}
use lib.Dec.{eqb}
use Rattle.limits.specs.Limits.{SIGKILL, SIGCONT, SIGSTOP, sig_dfl, sig_setmask}
use Rattle.lists.specs.Lists.{any, All}
use Rattle.lists.proofs.Bools.{split, clash}
use Rattle.lists.proofs.Lists.{All-append}
use Rattle.sigset.specs.declared.SigSet.{SigSet}
use Rattle.sigset.specs.Set.{set_of, of_signal}
use Rattle.types.specs.declared.Action.{Action}
use Rattle.types.specs.declared.Siginfo.{Siginfo}
use Rattle.rules.specs.Types.{Process, Thread, Queue, Next, no_next, next_mark, next_record, Call, clear, add_process}
use Rattle.rules.specs.Types.{add_thread, end_process, end_thread, kill, sigqueue, sigaction, sigmask, sigpending}
use Rattle.rules.specs.Types.{look, who, take, sigreturn, Kind, clearing, adding, queueing, taking, other, kind_of}
use Rattle.rules.specs.Signals.{Outcome, ignores, stops, continues, ends, outcome, stop_signal, ignored}
use Rattle.rules.specs.View.{View, Change, forget, new_process, new_thread, remove_process, remove_thread, set_stopped}
use Rattle.rules.specs.View.{set_action, set_mask, set_mark, clear_mark, append, drop_oldest, discard, target_queue}
use Rattle.rules.specs.View.{action_of, the_process, the_thread, thread_action}
use Rattle.rules.specs.Sending.{Generation, testing, killing, stopping, dropping, absorbing, marking, keeping}
use Rattle.rules.specs.Sending.{absorbs, generation, info_of, job_control, send_changes, needs_record}
use Rattle.rules.specs.Actions.{stored, store_changes, action_changes, mask_changes}
use Rattle.rules.specs.Taking.{next, resets, reset, reset_changes, outcome_changes, deliver, take_changes}
use Rattle.rules.specs.Adding.{add_process_changes, add_thread_changes, other_thread, end_thread_changes}
use Rattle.rules.specs.Calls.{send, changes}

-- P holds of every change but of a record that comes or goes
pub record Quiet (P : Change → Type 0) : Type 0 where
  pub forgets : P forget
  pub comes : (p : Process) → P (new_process p)
  pub joins : (t : Thread) → P (new_thread t)
  pub ended : (n : ℕ) → P (remove_process n)
  pub left : (n : ℕ) → P (remove_thread n)
  pub stopped : (n b : ℕ) → P (set_stopped n b)
  pub acts : (n s : ℕ) (a : Action) → P (set_action n s a)
  pub masks : (n : ℕ) (m : SigSet) → P (set_mask n m)
  pub marks : (q : Queue) (s : ℕ) → P (set_mark q s)
  pub unmarks : (q : Queue) (s : ℕ) → P (clear_mark q s)
  pub discards : (p : ℕ) (x : SigSet) → P (discard p x)

-- what is next for the thread of a take; for another call nothing
abbrev pub taken_of : View → {c : Call} → Kind c → Next
taken_of v clearing = no_next
taken_of v (adding new) = no_next
taken_of v (queueing by to t s value) = no_next
taken_of v (taking t) = next v (the_thread v t)
taken_of v other = no_next

unfoldable pub taken_by : View → Call → Next
taken_by v c = taken_of v (kind_of c)

-- the record that a call keeps, if it keeps one
pub data Keeps (v : View) : Call → Siginfo → Type 0 where
  queued : {by to t s value : ℕ} → generation v true (target_queue to t) s ≡ keeping
      → Keeps v (sigqueue by to t s value) (info_of v by to t s value)

-- a plain send keeps no record
plain-generation : (a b c d e : Bool)
    → needs_record (cond a testing (cond b killing (cond c stopping (cond d dropping (cond e absorbing marking)))))
    ≡ false
unfolding needs_record
plain-generation true b c d e = refl
plain-generation false true c d e = refl
plain-generation false false true d e = refl
plain-generation false false false true e = refl
plain-generation false false false false true = refl
plain-generation false false false false false = refl

plain_send : (v : View) (q : Queue) (s : ℕ) → needs_record (generation v false q s) ≡ false
unfolding generation
plain_send v q s =
    plain-generation (eqb s 0) (eqb s SIGKILL) (eqb s SIGSTOP) (ignored (action_of (the_process v q.process) s) s)
    (absorbs v false q s)

-- a record is needed where one is kept
needs-keeping : (f : Generation) → f ≡ keeping → needs_record f ≡ true
unfolding needs_record
needs-keeping f e = ap needs_record e

module _ (P : Change → Type 0) (h : Quiet P) where
  store-made : (p s : ℕ) (a : Action) → All P (store_changes p s a)
  unfolding store_changes
  store-made p s a =
      split (ignored a s) (λ e. rw e (h.discards p (of_signal s), (h.acts p s a, tt))) (λ e. rw e (h.acts p s a, tt))

  action-made : (p s : ℕ) (new : Option Action) → All P (action_changes p s new)
  unfolding action_changes
  action-made p s none = tt
  action-made p s (some a) = store-made p s (stored a)

  mask-made : (v : View) (t way : ℕ) (set : Option SigSet) → All P (mask_changes v t way set)
  unfolding mask_changes
  mask-made v t way none = tt
  mask-made v t way (some m) = (h.masks t _, tt)

  job-made : (p s : ℕ) → All P (job_control p s)
  unfolding job_control
  job-made p s =
      split (eqb s SIGCONT)
      (λ e. rw e (h.discards p (set_of stop_signal), (h.stopped p 0, tt)))
      (λ e.
      split (eqb s SIGSTOP)
      (λ f. rw (e, f) (h.discards p (of_signal SIGCONT), (h.stopped p 1, tt)))
      (λ f. split (stop_signal s) (λ g. rw (e, f, g) (h.discards p (of_signal SIGCONT), tt)) (λ g. rw (e, f, g) tt)))

  -- k is given where a record is kept
  send-made : (f : Generation) (r : Siginfo) → (f ≡ keeping → P (append r)) → All P (send_changes f r)
  unfolding send_changes
  send-made testing r k = tt
  send-made killing r k = (h.ended r.process, tt)
  send-made stopping r k = job-made r.process r.signal
  send-made dropping r k = job-made r.process r.signal
  send-made absorbing r k = job-made r.process r.signal
  send-made marking r k =
      All-append P (job_control r.process r.signal) _ (job-made r.process r.signal)
      (h.marks _ r.signal, tt)
  send-made keeping r k =
      All-append P (job_control r.process r.signal) _ (job-made r.process r.signal) (k refl, tt)

  reset-made : (p s : ℕ) (a : Action) → All P (reset_changes p s a)
  unfolding reset_changes
  reset-made p s a = split (resets a s) (λ e. rw e (store-made p s (reset a))) (λ e. rw e tt)

  outcome-made : (o : Outcome) (p : ℕ) → All P (outcome_changes o p)
  unfolding outcome_changes
  outcome-made ignores p = tt
  outcome-made stops p = (h.stopped p 1, tt)
  outcome-made continues p = tt
  outcome-made ends p = (h.ended p, tt)

  deliver-made : (t : Thread) (a : Action) (s : ℕ) → All P (deliver t a s)
  unfolding deliver
  deliver-made t a s =
      split (eqb a.handler sig_dfl)
      (λ e. rw e (outcome-made (outcome s) t.process))
      (λ e. rw e (h.masks t.id _, reset-made t.process s a))

  module _ (v : View) where
    take-made : (t : Thread) (n : Next)
        → ((q : Queue) (s : ℕ) (r : Siginfo) → n ≡ next_record q s r → P (drop_oldest q s)) → All P (take_changes v t n)
    unfolding take_changes
    take-made t no_next d = tt
    take-made t (next_mark q s) d = (h.unmarks q s, deliver-made t (thread_action v t s) s)
    take-made t (next_record q s r) d = (d q s r refl, deliver-made t (thread_action v t s) s)

    end-made : (b : Bool) (x y : Change) → P x → P y → All P (cond b x y ∷ [])
    end-made true x y e f = (e, tt)
    end-made false x y e f = (f, tt)

    pub changes-made : (c : Call) → ((r : Siginfo) → Keeps v c r → P (append r))
        → ((q : Queue) (s : ℕ) (r : Siginfo) → taken_by v c ≡ next_record q s r → P (drop_oldest q s))
        → All P (changes v c)
    unfolding changes send add_process_changes add_thread_changes end_thread_changes taken_by
    changes-made clear k d = (h.forgets, tt)
    changes-made (add_process new) k d = (h.comes _, (h.joins _, tt))
    changes-made (add_thread creator id) k d = (h.joins _, tt)
    changes-made (end_process id) k d = (h.ended id, tt)
    changes-made (end_thread id) k d =
        end-made (any (other_thread v (the_thread v id)) v.threads) _ _ (h.left _) (h.ended _)
    changes-made (kill by to t s) k d =
        send-made (generation v false (target_queue to t) s) (info_of v by to t s 0)
        (λ e. clash (needs-keeping (generation v false (target_queue to t) s) e) (plain_send v (target_queue to t) s))
    changes-made (sigqueue by to t s value) k d =
        send-made (generation v true (target_queue to t) s) (info_of v by to t s value) (λ e. k _ (queued e))
    changes-made (sigaction p s new) k d = action-made p s new
    changes-made (sigmask t way set) k d = mask-made v t way set
    changes-made (sigpending t) k d = tt
    changes-made (look t) k d = tt
    changes-made (who p) k d = tt
    changes-made (take t) k d = take-made (the_thread v t) (next v (the_thread v t)) d
    changes-made (sigreturn t saved) k d = mask-made v t sig_setmask (some saved)
