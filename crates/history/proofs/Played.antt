-- What the acts of a call make of the ledger's lists is what the rules' changes make of them: no change takes a send
-- away that no act does. Assumes nothing.
use Prim.Native.Nat.{ℕ, ◌+◌}
use mathlib.Core.Path.{◌≡◌, refl, sym, ap, ◌∙◌, subst}
use mathlib.Core.Bool.{Bool, true, false, not, ◌&&◌, cond}
use mathlib.Core.List.{List, [], ◌∷◌, ◌++◌, map, append-nil}
use mathlib.Core.Option.{Option, some, none}
use lib.Dec.{eqb}
use lib.ListN.{length}
use borrow.Author.Tests.{eqb-true}
use Rattle.limits.specs.Limits.{signals, SIGKILL, SIGCONT, SIGSTOP, SIGCHLD, SIGTSTP, SIGTTIN, SIGTTOU, SIGURG}
use Rattle.limits.specs.Limits.{SIGWINCH, sig_dfl, sig_setmask}
use Rattle.lists.specs.Lists.{any, change, keep, range, sum}
use Rattle.lists.proofs.Bools.{split, clash, or_cases}
use Rattle.sigset.specs.declared.SigSet.{SigSet}
use Rattle.sigset.specs.Set.{Signal, has, set_of, of_signal}
use Rattle.sigset.proofs.Laws.{has-set, has-beyond, set-lt}
use Rattle.types.specs.declared.Action.{Action}
use Rattle.types.specs.declared.Siginfo.{Siginfo}
use Rattle.rules.specs.Types.{Process, Thread, Queue, Next, no_next, next_mark, next_record, Call, clear, add_process}
use Rattle.rules.specs.Types.{add_thread, end_process, end_thread, kill, sigqueue, sigaction, sigmask, sigpending, look}
use Rattle.rules.specs.Types.{who, take, sigreturn}
use Rattle.rules.proofs.Signals.{is-signal, signal-is}
use Rattle.rules.specs.Signals.{is_signal, Outcome, ignores, stops, continues, ends, outcome, ignoring, stop_signal}
use Rattle.rules.specs.Signals.{ignored}
use Rattle.rules.specs.View.{View, Change, set_stopped, set_action, set_mask, set_mark, process_queue, append, discard}
use Rattle.rules.specs.View.{is_thread, target_queue, action_of, the_process, the_thread, thread_action, thread_queue}
use Rattle.rules.specs.Store.{with_mask, is_free_process, is_free_thread}
use Rattle.rules.specs.Sending.{generation, absorbs, info_of, job_control, send_changes}
use Rattle.rules.specs.Actions.{stored, store_changes, action_changes, mask_changes}
use Rattle.rules.specs.Taking.{next, handler_mask, resets, reset, reset_changes, outcome_changes, deliver, take_changes}
use Rattle.rules.specs.Adding.{add_process_changes, add_thread_changes, other_thread, end_thread_changes}
use Rattle.rules.specs.Calls.{send, changes}
use Rattle.history.specs.Ledger.{Ledger, queues, pending_where, on_lines, with_total, place, place_all}
use Rattle.history.specs.Acts.{said, process_ends, took_send, took_mark, empty_line, stop_sent, cont_sent, now_ignored}
use Rattle.history.specs.Acts.{empties, Act, kept, marked, emptied, emptying, play, play_all, sent, is_dropped}
use Rattle.history.specs.Acts.{is_absorbed, arrival, job_events, send_acts, store_acts, end_acts, ends_process}
use Rattle.history.specs.Acts.{reset_to_ignore, sets_off, take_acts, acts}
use Rattle.history.proofs.Notes.{of_signals, note, note_all}

-- ---- sets by their tests

-- a set has exactly what passes its test, where only signals pass
has-only : (p : ℕ → Bool) → ((n : ℕ) → p n ≡ true → Signal n) → (s : ℕ) → has (set_of p) s ≡ p s
has-only p h s =
    split (p s)
    (λ e. has-set p s (h s e))
    (λ e.
    split (is_signal s)
    (λ i. has-set p s (is-signal s i))
    (λ i. has-beyond (set_of p) s (set-lt p) (λ m. clash (signal-is s m) i) ∙ sym e))

-- a test that only one signal passes, or only those of a list of them
one-signal : (x : ℕ) → Signal x → (n : ℕ) → eqb n x ≡ true → Signal n
one-signal x m n e = subst Signal (sym (eqb-true n x e)) m

stop-signals : (n : ℕ) → stop_signal n ≡ true → Signal n
unfolding stop_signal is_signal
stop-signals n e =
    or_cases (eqb n SIGTSTP) _ e (one-signal SIGTSTP (is-signal SIGTSTP refl) n)
    (λ f. or_cases (eqb n SIGTTIN) _ f (one-signal SIGTTIN (is-signal SIGTTIN refl) n)
    (one-signal SIGTTOU (is-signal SIGTTOU refl) n))

ignoring-signals : (n : ℕ) → ignoring n ≡ true → Signal n
unfolding ignoring is_signal
ignoring-signals n e =
    or_cases (eqb n SIGCHLD) _ e (one-signal SIGCHLD (is-signal SIGCHLD refl) n)
    (λ f. or_cases (eqb n SIGURG) _ f (one-signal SIGURG (is-signal SIGURG refl) n)
    (one-signal SIGWINCH (is-signal SIGWINCH refl) n))

-- ---- what a discard empties is what its event empties

abbrev Where : Type 0
Where = Queue → ℕ → Bool

discarded-by : (to : ℕ) (p : ℕ → Bool) → ((n : ℕ) → p n ≡ true → Signal n)
    → ◌≡◌ {A = Where} (λ q s. eqb q.process to && p s) (of_signals to (set_of p))
discarded-by to p h = λ i q s. eqb q.process to && sym (has-only p h s) i

stop-empties : (to : ℕ) → empties (stop_sent to) ≡ of_signals to (of_signal SIGCONT)
unfolding empties of_signal is_signal
stop-empties to = discarded-by to (λ s. eqb s SIGCONT) (one-signal SIGCONT (is-signal SIGCONT refl))

cont-empties : (to : ℕ) → empties (cont_sent to) ≡ of_signals to (set_of stop_signal)
unfolding empties
cont-empties to = discarded-by to stop_signal stop-signals

ignored-empties : (p s : ℕ) → Signal s → empties (now_ignored p s) ≡ of_signals p (of_signal s)
unfolding empties of_signal
ignored-empties p s h = discarded-by p (λ n. eqb n s) (one-signal s h)

-- ---- a send

-- a number is 0, KILL, STOP or another
pub each-signal : (P : ℕ → Type 0) → P 0 → P SIGKILL → P SIGSTOP
    → ((s : ℕ) → eqb s 0 ≡ false → eqb s SIGKILL ≡ false → eqb s SIGSTOP ≡ false → P s) → (s : ℕ) → P s
each-signal P z k h o s =
    split (eqb s 0)
    (λ e. subst P (sym (eqb-true s 0 e)) z)
    (λ e0.
    split (eqb s SIGKILL)
    (λ e. subst P (sym (eqb-true s SIGKILL e)) k)
    (λ e1. split (eqb s SIGSTOP) (λ e. subst P (sym (eqb-true s SIGSTOP e)) h) (λ e2. o s e0 e1 e2)))

-- the changes of job control with their events; KILL is apart
job-both : (P : List Change → List Act → Type 0) (to s : ℕ) → eqb s SIGKILL ≡ false
    → P (discard to (set_of stop_signal) ∷ set_stopped to 0 ∷ []) (emptied (cont_sent to) ∷ [])
    → P (discard to (of_signal SIGCONT) ∷ set_stopped to 1 ∷ []) (emptied (stop_sent to) ∷ [])
    → P (discard to (of_signal SIGCONT) ∷ []) (emptied (stop_sent to) ∷ [])
    → P [] [] → P (job_control to s) (job_events to s)
unfolding job_control job_events
job-both P to s k c d e n =
    split (eqb s SIGCONT)
    (λ x. rw (k, x) c)
    (λ x.
    split (eqb s SIGSTOP)
    (λ y. rw (k, x, y) d)
    (λ y. split (stop_signal s) (λ z. rw (k, x, y, z) e) (λ z. rw (k, x, y, z) n)))

-- the changes and the acts come to the same
abbrev pub Same : Ledger → List Change → List Act → Type 0
Same l cs xs = place_all cs (play_all xs l) ≡ note_all cs l

module _ (l : Ledger) (to s : ℕ) (k : eqb s SIGKILL ≡ false) where
  job-alone : Same l (job_control to s) (job_events to s)
  unfolding play_all play place_all place note_all note
  job-alone =
      job-both (Same l) to s k
      (ap (λ (p : Where). place (set_stopped to 0) (emptying p l)) (cont-empties to))
      (ap (λ (p : Where). place (set_stopped to 1) (emptying p l)) (stop-empties to))
      (ap (λ (p : Where). emptying p l) (stop-empties to))
      refl

  job-kept : (r : Siginfo) → Same l (job_control to s ++ (append r ∷ [])) (job_events to s ++ (kept r ∷ []))
  unfolding play_all play place_all place note_all note
  job-kept r =
      job-both (λ cs xs. Same l (cs ++ (append r ∷ [])) (xs ++ (kept r ∷ []))) to s k
      (ap (λ (p : Where). place (set_stopped to 0) (play (kept r) (emptying p l))) (cont-empties to))
      (ap (λ (p : Where). place (set_stopped to 1) (play (kept r) (emptying p l))) (stop-empties to))
      (ap (λ (p : Where). play (kept r) (emptying p l)) (stop-empties to))
      refl

  job-marked : (q : Queue) → Same l (job_control to s ++ (set_mark q s ∷ [])) (job_events to s ++ (marked q s ∷ []))
  unfolding play_all play place_all place note_all note
  job-marked q =
      job-both (λ cs xs. Same l (cs ++ (set_mark q s ∷ [])) (xs ++ (marked q s ∷ []))) to s k
      (ap (λ (p : Where). place (set_stopped to 0) (play (marked q s) (emptying p l))) (cont-empties to))
      (ap (λ (p : Where). place (set_stopped to 1) (play (marked q s) (emptying p l))) (stop-empties to))
      (ap (λ (p : Where). play (marked q s) (emptying p l)) (stop-empties to))
      refl

module _ (v : View) (l : Ledger) (by to t value : ℕ) where
  -- the changes of a send, and its acts
  abbrev Sent : Bool → ℕ → Type 0
  Sent queued s =
      Same l (send_changes (generation v queued (target_queue to t) s) (info_of v by to t s value))
      (send_acts v queued (sent v by to t s value))

  -- no more than job control
  only-job : (s : ℕ) → eqb s SIGKILL ≡ false → Same l (job_control to s) (job_events to s ++ [])
  only-job s k =
      ap (λ (xs : List Act). place_all (job_control to s) (play_all xs l)) (append-nil (job_events to s))
      ∙ job-alone l to s k

  tested : (queued : Bool) → Sent queued 0
  unfolding generation send_changes info_of send_acts sent said job_events stop_signal arrival place_all play_all
      note_all
  tested queued = refl

  killed : (queued : Bool) → Sent queued SIGKILL
  unfolding generation send_changes info_of send_acts sent said job_events arrival place_all place play_all play empties
      note_all note
  killed queued = refl

  stopped : (queued : Bool) → Sent queued SIGSTOP
  unfolding generation send_changes info_of send_acts sent said arrival
  stopped queued = only-job SIGSTOP refl

  arrived : (queued : Bool) (s : ℕ) → eqb s 0 ≡ false → eqb s SIGKILL ≡ false → eqb s SIGSTOP ≡ false
      → ignored (action_of (the_process v to) s) s ≡ false → absorbs v queued (target_queue to t) s ≡ false
      → Sent queued s
  unfolding generation send_changes info_of send_acts sent said arrival is_dropped is_absorbed absorbs
  arrived true s e0 e1 e2 e3 e4 = rw (e0, e1, e2, e3, e4) (job-kept l to s e1 (info_of v by to t s value))
  arrived false s e0 e1 e2 e3 e4 = rw (e0, e1, e2, e3, e4) (job-marked l to s e1 (target_queue to t))

  other-sent : (queued : Bool) (s : ℕ) → eqb s 0 ≡ false → eqb s SIGKILL ≡ false → eqb s SIGSTOP ≡ false → Sent queued s
  unfolding generation send_changes info_of send_acts sent said arrival is_dropped is_absorbed absorbs
  other-sent queued s e0 e1 e2 =
      split (ignored (action_of (the_process v to) s) s)
      (λ e3. rw (e0, e1, e2, e3) (only-job s e1))
      (λ e3.
      split (absorbs v queued (target_queue to t) s)
      (λ e4. rw (e0, e1, e2, e3, e4) (only-job s e1))
      (λ e4. arrived queued s e0 e1 e2 e3 e4))

  send-played : (queued : Bool) (s : ℕ) → Sent queued s
  send-played queued = each-signal (Sent queued) (tested queued) (killed queued) (stopped queued) (other-sent queued)

-- ---- a new action

module _ (l : Ledger) (p s : ℕ) (a : Action) where
  stored-played : Signal s → Same l (store_changes p s a) (cond (ignored a s) (emptied (now_ignored p s) ∷ []) [])
  unfolding store_changes place_all place play_all play note_all note
  stored-played h =
      split (ignored a s)
      (λ e. rw e (ap (λ (x : Where). place (set_action p s a) (emptying x l)) (ignored-empties p s h)))
      (λ e. rw e)

-- ---- a take

-- a mask changes no queue
masked-queues : (n : ℕ) (m : SigSet) (ts : List Thread)
    → map thread_queue (keep (λ (t : Thread). not (is_free_thread t)) (change (is_thread n) (with_mask m) ts))
    ≡ map thread_queue (keep (λ (t : Thread). not (is_free_thread t)) ts)
unfolding keep change
masked-queues n m [] = refl
masked-queues n m (t ∷ ts) =
    split (is_thread n t)
    (λ e.
    rw e
    (split (is_free_thread t)
    (λ f. rw f (masked-queues n m ts))
    (λ f. rw f (ap (λ (qs : List Queue). thread_queue t ∷ qs) (masked-queues n m ts)))))
    (λ e.
    rw e
    (split (is_free_thread t)
    (λ f. rw f (masked-queues n m ts))
    (λ f. rw f (ap (λ (qs : List Queue). thread_queue t ∷ qs) (masked-queues n m ts)))))

masked-pending : (n : ℕ) (m : SigSet) (l : Ledger) (p : Where)
    → pending_where (place (set_mask n m) l) p ≡ pending_where l p
unfolding pending_where queues place
masked-pending n m l p =
    ap (λ (qs : List Queue). sum (λ q. sum (λ s. cond (p q s) (length (l.lines q s).sends) 0) (range 1 signals))
    (map (λ (x : Process). process_queue x.id) (keep (λ (x : Process). not (is_free_process x)) l.processes) ++ qs))
    (masked-queues n m l.threads)

module _ (l : Ledger) (t : Thread) (s : ℕ) where
  outcome-played : (o : Outcome)
      → Same l (outcome_changes o t.process) (cond (ends_process o) (emptied (process_ends t.process) ∷ []) [])
  unfolding outcome_changes ends_process place_all place play_all play empties note_all note
  outcome-played ignores = refl
  outcome-played stops = refl
  outcome-played continues = refl
  outcome-played ends = refl

  module _ (m : SigSet) where
    abbrev masks : Change
    masks = set_mask t.id m

    -- the handler is reset, and the signal ignored from then on
    reset-emptied : (a : Action) → ignoring s ≡ true
        → Same l (masks ∷ discard t.process (of_signal s) ∷ set_action t.process s a ∷ [])
        (emptied (now_ignored t.process s) ∷ [])
    unfolding place_all place play_all play note_all note
    reset-emptied a i =
        ap (λ (p : Where). place (set_action t.process s a) (place masks (emptying p l)))
        (ignored-empties t.process s (ignoring-signals s i))
        ∙ ap (λ (n : ℕ). place (set_action t.process s a)
        (with_total (record { kept = l.total.kept; taken = l.total.taken; discarded = l.total.discarded + n })
        (place masks (on_lines (of_signals t.process (of_signal s)) empty_line l))))
        (sym (masked-pending t.id m l (of_signals t.process (of_signal s))))

    reset-played : (a : Action) → Same l (masks ∷ reset_changes t.process s a)
        (cond (reset_to_ignore a s) (emptied (now_ignored t.process s) ∷ []) [])
    unfolding reset_changes store_changes resets reset_to_ignore reset ignored place_all place play_all note_all note
    reset-played a =
        split (resets a s)
        (λ e. rw e (split (ignoring s) (λ i. rw i (reset-emptied (reset a) i)) (λ i. rw i)))
        (λ e. rw e)

  deliver-played : (a : Action) → Same l (deliver t a s) (sets_off t a s)
  unfolding deliver sets_off
  deliver-played a =
      split (eqb a.handler sig_dfl)
      (λ e. rw e (outcome-played (outcome s)))
      (λ e. rw e (reset-played (handler_mask t.mask a s) a))

take-played : (v : View) (l : Ledger) (t : Thread) (n : Next) → Same l (take_changes v t n) (take_acts v t n)
unfolding take_changes take_acts place_all place play_all play note_all note
take-played v l t no_next = refl
take-played v l t (next_mark q s) = deliver-played (play (took_mark t.id q s) l) t s (thread_action v t s)
take-played v l t (next_record q s r) = deliver-played (play (took_send t.id q s r) l) t s (thread_action v t s)

-- ---- every call

-- where an action is stored, the number is a signal's
abbrev pub Storable : Call → Type 0
Storable c = (p s : ℕ) (new : Option Action) → c ≡ sigaction p s new → Signal s

module _ (v : View) (l : Ledger) where
  end-played : (t : Thread) → Same l (end_thread_changes v t) (end_acts v t)
  unfolding end_thread_changes end_acts other_thread place_all place play_all play empties note_all note
  end-played t = split (any (other_thread v t) v.threads) (λ e. rw e) (λ e. rw e)

  action-played : (p s : ℕ) (new : Option Action) → Signal s → Same l (action_changes p s new) (store_acts p s new)
  unfolding action_changes store_acts stored ignored place_all play_all note_all
  action-played p s none h = refl
  action-played p s (some a) h = stored-played l p s (stored a) h

  mask-played : (t way : ℕ) (set : Option SigSet) → Same l (mask_changes v t way set) []
  unfolding mask_changes place_all play_all note_all note
  mask-played t way none = refl
  mask-played t way (some m) = refl

  pub played : (c : Call) → Storable c → Same l (changes v c) (acts v c)
  unfolding changes acts send add_process_changes add_thread_changes place_all place play_all play empties note_all note
  played clear h = refl
  played (add_process new) h = refl
  played (add_thread creator id) h = refl
  played (end_process id) h = refl
  played (end_thread id) h = end-played (the_thread v id)
  played (kill by to t s) h = send-played v l by to t 0 false s
  played (sigqueue by to t s value) h = send-played v l by to t value true s
  played (sigaction p s new) h = action-played p s new (h p s new refl)
  played (sigmask t way set) h = mask-played t way set
  played (sigpending t) h = refl
  played (look t) h = refl
  played (who p) h = refl
  played (take t) h = take-played v l (the_thread v t) (next v (the_thread v t))
  played (sigreturn t saved) h = mask-played t sig_setmask (some saved)
