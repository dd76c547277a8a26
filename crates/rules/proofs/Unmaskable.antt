-- No mask, mark or action mask that a call stores or answers has 9 or 19. Assumes nothing.
use Prim.Native.Nat.{ℕ, zero, suc, ◌-◌}
use mathlib.Core.Path.{◌≡◌, refl, sym, ap, subst, ◌∙◌}
use mathlib.Core.Bool.{Bool, true, false, not, ◌&&◌, ◌||◌, cond, and-false}
use Rattle.std.specs.Prelude.{Some, None}
use mathlib.Core.List.{List, [], ◌∷◌}
use mathlib.Core.Option.{Option, some, none}
use native.Mathlib.Omega.{arith}
use lib.Dec.{eqb}
use borrow.Author.Tests.{eqb-true, not-true}
use Rattle.limits.specs.Limits.{SIGKILL, SIGSTOP, signals, sig_setmask, sig_dfl, SIGCONT}
use Rattle.sigset.specs.declared.SigSet.{SigSet}
use Rattle.sigset.specs.Set.{Signal, has, union, without, maskable, of_signal, empty, is_unmaskable}
use Rattle.sigset.proofs.Laws.{each-unmaskable, has-set, has_of, has-union, has-without, has-maskable, has-empty}
use Rattle.types.specs.declared.Action.{Action}
use Rattle.types.specs.declared.Siginfo.{Siginfo}
use Rattle.types.specs.Values.{default_action}
use Rattle.lists.specs.Lists.{all, any, change}
use Rattle.lists.proofs.Bools.{split, clash, and-fst, and-snd, and_both, and_left, or-both, or-fst-false, or-snd-false}
use Rattle.lists.proofs.Lists.{all_map, all-imp, all_append, all_replicate, all-replace_first, all-change-keeps}
use Rattle.lists.proofs.Lists.{all_get_d, all_first}
use Rattle.lists.proofs.Members.{all-mapped}
use Rattle.lists.proofs.Loops.{all_set}
use Rattle.types.specs.declared.Taken.{Taken}
use Rattle.types.specs.declared.Taken.TheVariants as taken
use Rattle.types.specs.declared.Reply.{Reply}
use Rattle.types.specs.declared.Reply.TheVariants as reply
use Rattle.types.specs.Answers.{Answer}
use Rattle.types.specs.Answers.{Refused, Accepted}
use Rattle.rules.specs.Types.{Process, Thread, Queue, no_process, no_thread, Call, clear, add_process, add_thread}
use Rattle.rules.specs.Types.{end_process, end_thread, kill, sigqueue, sigaction, sigmask, sigpending, look, who}
use Rattle.rules.specs.Types.{take, sigreturn, Next, no_next, next_mark, next_record}
use Rattle.rules.specs.Signals.{Outcome, ignores, stops, continues, ends, outcome, ignored, stop_signal}
use Rattle.rules.specs.View.{View, Change, forget, new_process, new_thread, remove_process, remove_thread, set_stopped}
use Rattle.rules.specs.View.{set_action, set_mask, set_mark, clear_mark, append, drop_oldest, discard, is_process}
use Rattle.rules.specs.View.{is_thread, same_queue, process_queue, thread_queue, action_of, the_process, the_thread}
use Rattle.rules.specs.View.{thread_action, pending_for}
use Rattle.rules.specs.Store.{Place, Store, held, free_process, free_thread, cleared, view, apply, apply_all}
use Rattle.rules.specs.Store.{on_marks}
use Rattle.rules.specs.Sound.{unmasked, action_unmasked, process_unmasked, thread_unmasked, nothing_unmaskable}
use Rattle.rules.specs.Sending.{Generation, testing, killing, stopping, dropping, absorbing, marking, keeping}
use Rattle.rules.specs.Sending.{generation, info_of, job_control, send_changes}
use Rattle.rules.specs.Actions.{stored, store_changes, action_changes, new_mask, mask_changes, blocked_pending}
use Rattle.rules.specs.Taking.{who_answer, taker, handler_mask, resets, reset, reset_changes, outcome_changes}
use Rattle.rules.specs.Taking.{outcome_answer, deliver, delivered, take_changes, take_answer, next}
use Rattle.rules.specs.Adding.{added_process, add_process_changes, add_thread_changes, other_thread, end_thread_changes}
use Rattle.rules.specs.Refusals.{refusal_of, is_clear}
use Rattle.rules.specs.Calls.{send, changes, reply, stages, run_stages, finish, step, is_refused}
use Rattle.rules.specs.Computing.{computing}
use Rattle.rules.proofs.Clauses.{clauses}
use Rattle.rules.proofs.RefusalTable.{accepted-sound, is-clear}
use Rattle.rules.proofs.Steps.{step_keeps}

-- ---- sets without 9 and 19

pub kill-signal : Signal SIGKILL
kill-signal = record { low = omega arith; high = omega arith }

pub stop-signal : Signal SIGSTOP
stop-signal = record { low = omega arith; high = omega arith }

-- a set that has neither, said of every signal
pub unmasked-if : (m : SigSet) → ((s : ℕ) → Signal s → is_unmaskable s ≡ true → has m s ≡ false) → unmasked m ≡ true
unfolding unmasked
unmasked-if m h = ap not (or-both (h SIGKILL kill-signal refl) (h SIGSTOP stop-signal refl))

pub unmasked-has : (m : SigSet) → unmasked m ≡ true → (s : ℕ) → is_unmaskable s ≡ true → has m s ≡ false
unfolding unmasked
unmasked-has m h =
    let e : (has m SIGKILL || has m SIGSTOP) ≡ false = not-true (has m SIGKILL || has m SIGSTOP) h in
    each-unmaskable (λ (s : ℕ). has m s ≡ false) (or-fst-false (has m SIGKILL) (has m SIGSTOP) e)
    (or-snd-false (has m SIGKILL) (has m SIGSTOP) e)

pub unmasked-empty : unmasked empty ≡ true
unmasked-empty = unmasked-if empty (λ s h u. has-empty s)

pub unmasked-maskable : (m : SigSet) → unmasked (maskable m) ≡ true
unmasked-maskable m =
    unmasked-if (maskable m) (λ s h u. has-maskable m s h ∙ ap (λ (b : Bool). has m s && not b) u ∙ and-false (has m s))

unmasked-without : (m x : SigSet) → unmasked m ≡ true → unmasked (without m x) ≡ true
unmasked-without m x e =
    unmasked-if (without m x) (λ s h u. has-without m x s h ∙ and_left (not (has x s)) (unmasked-has m e s u))

unmasked-union : (m x : SigSet) → unmasked m ≡ true → unmasked x ≡ true → unmasked (union m x) ≡ true
unmasked-union m x e f =
    unmasked-if (union m x) (λ s h u. has-union m x s h ∙ or-both (unmasked-has m e s u) (unmasked-has x f s u))

unmasked-of : (n : ℕ) → is_unmaskable n ≡ false → unmasked (of_signal n) ≡ true
unmasked-of n e =
    unmasked-if (of_signal n)
    (λ s h u. has_of n s h ∙ split (eqb s n)
    (λ k. clash (subst (λ (x : ℕ). is_unmaskable x ≡ true) (eqb-true s n k) u) e) (λ k. k))

-- ---- one change

-- what a change stores has neither
abbrev pub clean_change : Change → Bool
clean_change forget = true
clean_change (new_process p) = all action_unmasked p.actions
clean_change (new_thread t) = unmasked t.mask
clean_change (remove_process p) = true
clean_change (remove_thread t) = true
clean_change (set_stopped p b) = true
clean_change (set_action p s a) = action_unmasked a
clean_change (set_mask t m) = unmasked m
clean_change (set_mark q s) = not (is_unmaskable s)
clean_change (clear_mark q s) = true
clean_change (append r) = true
clean_change (drop_oldest q s) = true
clean_change (discard p set) = true

abbrev pub Clean : Store → Type 0
Clean st = nothing_unmaskable st ≡ true

clean-cleared : Clean cleared
unfolding computing
clean-cleared = refl

module _ (st : Store) (h : Clean st) where
  clean-processes : all process_unmasked st.processes ≡ true
  clean-processes = unfold nothing_unmaskable in (and-fst (all process_unmasked st.processes) _ h)

  clean-threads : all thread_unmasked st.threads ≡ true
  clean-threads = unfold nothing_unmaskable in (and-snd (all process_unmasked st.processes) _ h)

free-process : process_unmasked free_process ≡ true
unfolding computing
free-process = refl

free-thread : thread_unmasked free_thread ≡ true
unfolding computing
free-thread = refl

module _ (st : Store) (h : Clean st) where
  -- the process table changes, or the thread table, or both
  on-processes : (ps : List (Place Process)) → all process_unmasked ps ≡ true
      → (all process_unmasked ps && all thread_unmasked st.threads) ≡ true
  on-processes ps e = and_both e (clean-threads st h)

  on-threads : (ts : List (Place Thread)) → all thread_unmasked ts ≡ true
      → (all process_unmasked st.processes && all thread_unmasked ts) ≡ true
  on-threads ts e = and_both (clean-processes st h) e

  vacated-processes : (t : Place Process → Bool)
      → all process_unmasked (change t (λ _. free_process) st.processes) ≡ true
  vacated-processes t =
      all-change-keeps process_unmasked t (λ _. free_process) (λ x _ _. free-process) st.processes
      (clean-processes st h)

  vacated-threads : (t : Place Thread → Bool) → all thread_unmasked (change t (λ _. free_thread) st.threads) ≡ true
  vacated-threads t =
      all-change-keeps thread_unmasked t (λ _. free_thread) (λ x _ _. free-thread) st.threads (clean-threads st h)

  -- marks that stay without 9 and 19
  with_marking : (g : Queue → SigSet → SigSet)
      → ((q : Queue) (m : SigSet) → unmasked m ≡ true → unmasked (g q m) ≡ true)
      → Clean (on_marks g st)
  unfolding nothing_unmaskable process_unmasked thread_unmasked
  with_marking g k =
      and_both
      (all-mapped
      (λ (x : Place Process). record { holds = x.holds; marks = g (process_queue x.holds.id) x.marks })
      process_unmasked process_unmasked
      (λ x e. and_both (k _ x.marks (and-fst (unmasked x.marks) _ e)) (and-snd (unmasked x.marks) _ e))
      st.processes (clean-processes st h))
      (all-mapped (λ (x : Place Thread). record { holds = x.holds; marks = g (thread_queue x.holds) x.marks })
      thread_unmasked thread_unmasked
      (λ x e.
      and_both (and-fst (unmasked x.holds.mask) _ e) (k _ x.marks (and-snd (unmasked x.holds.mask) _ e)))
      st.threads (clean-threads st h))

-- where the test holds one clean set, else another
unmasked-cond : (b : Bool) (x y : SigSet) → unmasked x ≡ true → unmasked y ≡ true → unmasked (cond b x y) ≡ true
unmasked-cond true x y e f = e
unmasked-cond false x y e f = f

pub change-clean : (ch : Change) (st : Store) → clean_change ch ≡ true → Clean st → Clean (apply ch st)
unfolding apply nothing_unmaskable process_unmasked thread_unmasked
change-clean forget st ok h = clean-cleared
change-clean (new_process p) st ok h =
    on-processes st h _
    (all-replace_first process_unmasked _ (record { holds = p; marks = empty }) (and_both unmasked-empty ok)
    st.processes (clean-processes st h))
change-clean (new_thread t) st ok h =
    on-threads st h _
    (all-replace_first thread_unmasked _ (record { holds = t; marks = empty }) (and_both ok unmasked-empty) st.threads
    (clean-threads st h))
change-clean (remove_process n) st ok h = and_both (vacated-processes st h _) (vacated-threads st h _)
change-clean (remove_thread n) st ok h = on-threads st h _ (vacated-threads st h _)
change-clean (set_stopped n b) st ok h =
    on-processes st h _ (all-change-keeps process_unmasked _ _ (λ x _ e. e) st.processes (clean-processes st h))
change-clean (set_action n s a) st ok h =
    on-processes st h _
    (all-change-keeps process_unmasked _ _
    (λ x _ e.
    and_both (and-fst (unmasked x.marks) _ e)
    (all_set action_unmasked x.holds.actions (s - 1) a (and-snd (unmasked x.marks) _ e) ok))
    st.processes (clean-processes st h))
change-clean (set_mask n m) st ok h =
    on-threads st h _
    (all-change-keeps thread_unmasked _ _ (λ x _ e. and_both ok (and-snd (unmasked x.holds.mask) _ e)) st.threads
    (clean-threads st h))
change-clean (set_mark q s) st ok h =
    with_marking st h _
    (λ q' m e. unmasked-cond (same_queue q' q) (union m (of_signal s)) m
    (unmasked-union m (of_signal s) e (unmasked-of s (not-true (is_unmaskable s) ok))) e)
change-clean (clear_mark q s) st ok h =
    with_marking st h _
    (λ q' m e. unmasked-cond (same_queue q' q) (without m (of_signal s)) m (unmasked-without m (of_signal s) e) e)
change-clean (append r) st ok h = h
change-clean (drop_oldest q s) st ok h = h
change-clean (discard p set) st ok h =
    with_marking st h _ (λ q m e. unmasked-cond (eqb q.process p) (without m set) m (unmasked-without m set e) e)

-- ---- what is in view

abbrev actions_clean : Process → Bool
actions_clean p = all action_unmasked p.actions

abbrev mask_clean : Thread → Bool
mask_clean t = unmasked t.mask

pub record CleanView (v : View) : Type 0 where
  pub processes : all actions_clean v.processes ≡ true
  pub threads : all mask_clean v.threads ≡ true

pub clean-view : (st : Store) → Clean st → CleanView (view st)
unfolding view process_unmasked thread_unmasked
clean-view st h =
    record {
      processes =
          all_map actions_clean held st.processes
          ∙ all-imp process_unmasked (λ (x : Place Process). actions_clean x.holds)
          (λ x e. and-snd (unmasked x.marks) _ e) st.processes (clean-processes st h);
      threads =
          all_map mask_clean held st.threads
          ∙ all-imp thread_unmasked (λ (x : Place Thread). mask_clean x.holds)
          (λ x e. and-fst (unmasked x.holds.mask) _ e) st.threads (clean-threads st h);
    }

default-clean : action_unmasked default_action ≡ true
unfolding action_unmasked
default-clean = unmasked-empty

module _ (v : View) (h : CleanView v) where
  clean-action : (n s : ℕ) → action_unmasked (action_of (the_process v n) s) ≡ true
  unfolding action_of the_process
  clean-action n s =
      all_get_d action_unmasked (the_process v n).actions (s - 1) default_action default-clean
      (all_first actions_clean (is_process n) v.processes no_process
      (all_replicate action_unmasked default_action default-clean signals) h.processes)

  clean-mask : (n : ℕ) → unmasked (the_thread v n).mask ≡ true
  unfolding the_thread
  clean-mask n = all_first mask_clean (is_thread n) v.threads no_thread unmasked-empty h.threads

-- ---- the changes of a call

store-clean : (p s : ℕ) (a : Action) → action_unmasked a ≡ true → all clean_change (store_changes p s a) ≡ true
unfolding store_changes all
store-clean p s a e = split (ignored a s) (λ k. rw k (and_both e refl)) (λ k. rw k (and_both e refl))

job-clean : (p s : ℕ) → all clean_change (job_control p s) ≡ true
unfolding job_control all
job-clean p s =
    split (eqb s SIGCONT) (λ k. rw k)
    (λ k. rw k (split (eqb s SIGSTOP) (λ j. rw j) (λ j. rw j (split (stop_signal s) (λ i. rw i) (λ i. rw i)))))

is_marking : Generation → Bool
is_marking testing = false
is_marking killing = false
is_marking stopping = false
is_marking dropping = false
is_marking absorbing = false
is_marking marking = true
is_marking keeping = false

-- 9 and 19 are acted on, and never marked
acted-on : (v : View) (queued : Bool) (q : Queue) (s : ℕ) → is_unmaskable s ≡ true
    → is_marking (generation v queued q s) ≡ false
unfolding generation is_marking
acted-on v queued q = each-unmaskable (λ (s : ℕ). is_marking (generation v queued q s) ≡ false) refl refl

generation-clean : (f : Generation) (r : Siginfo) → (is_unmaskable r.signal ≡ true → is_marking f ≡ false)
    → all clean_change (send_changes f r) ≡ true
unfolding send_changes all is_marking
generation-clean testing r h = refl
generation-clean killing r h = refl
generation-clean stopping r h = job-clean r.process r.signal
generation-clean dropping r h = job-clean r.process r.signal
generation-clean absorbing r h = job-clean r.process r.signal
generation-clean marking r h =
    all_append clean_change (job_control r.process r.signal) _
    ∙ and_both (job-clean r.process r.signal)
    (and_both (split (is_unmaskable r.signal) (λ k. clash refl (h k)) (λ k. ap not k)) refl)
generation-clean keeping r h =
    all_append clean_change (job_control r.process r.signal) _ ∙ and_both (job-clean r.process r.signal) refl

outcome-clean : (o : Outcome) (p : ℕ) → all clean_change (outcome_changes o p) ≡ true
unfolding outcome_changes all
outcome-clean ignores p = refl
outcome-clean stops p = refl
outcome-clean continues p = refl
outcome-clean ends p = refl

reset-clean : (p s : ℕ) (a : Action) → action_unmasked a ≡ true → all clean_change (reset_changes p s a) ≡ true
unfolding reset_changes all
reset-clean p s a e =
    split (resets a s) (λ k. rw k (store-clean p s (reset a) (unfold reset action_unmasked in e))) (λ k. rw k)

deliver-clean : (t : Thread) (a : Action) (s : ℕ) → action_unmasked a ≡ true → all clean_change (deliver t a s) ≡ true
unfolding deliver handler_mask all
deliver-clean t a s e =
    split (eqb a.handler sig_dfl) (λ k. rw k (outcome-clean (outcome s) t.process))
    (λ k. rw k (and_both (unmasked-maskable _) (reset-clean t.process s a e)))

set-mask-clean : (v : View) (t way : ℕ) (set : Option SigSet) → all clean_change (mask_changes v t way set) ≡ true
unfolding mask_changes new_mask all
set-mask-clean v t way none = refl
set-mask-clean v t way (some m) = and_both (unmasked-maskable _) refl

action-clean : (p s : ℕ) (new : Option Action) → all clean_change (action_changes p s new) ≡ true
unfolding action_changes all
action-clean p s none = refl
action-clean p s (some a) = store-clean p s (stored a) (unfold stored action_unmasked in unmasked-maskable a.mask)

one-clean : (b : Bool) (x y : Change) → clean_change x ≡ true → clean_change y ≡ true
    → all clean_change (cond b x y ∷ []) ≡ true
unfolding all
one-clean true x y e f = and_both e refl
one-clean false x y e f = and_both f refl

module _ (v : View) (h : CleanView v) where
  take-clean : (t : Thread) (n : Next) → all clean_change (take_changes v t n) ≡ true
  unfolding take_changes thread_action all
  take-clean t no_next = refl
  take-clean t (next_mark q s) = deliver-clean t (thread_action v t s) s (clean-action v h t.process s)
  take-clean t (next_record q s r) = deliver-clean t (thread_action v t s) s (clean-action v h t.process s)

  pub changes-clean : (c : Call) → all clean_change (changes v c) ≡ true
  unfolding changes send info_of add_process_changes added_process add_thread_changes end_thread_changes all
  changes-clean clear = refl
  changes-clean (add_process new) =
      and_both (all_replicate action_unmasked default_action default-clean signals)
      (and_both (unmasked-maskable new.mask) refl)
  changes-clean (add_thread creator id) = and_both (clean-mask v h creator) refl
  changes-clean (end_process id) = refl
  changes-clean (end_thread id) =
      one-clean (any (other_thread v (the_thread v id)) v.threads) (remove_thread (the_thread v id).id)
      (remove_process (the_thread v id).process) refl refl
  changes-clean (kill by to t s) = generation-clean (generation v false _ s) _ (acted-on v false _ s)
  changes-clean (sigqueue by to t s value) = generation-clean (generation v true _ s) _ (acted-on v true _ s)
  changes-clean (sigaction p s new) = action-clean p s new
  changes-clean (sigmask t way set) = set-mask-clean v t way set
  changes-clean (sigpending t) = refl
  changes-clean (look t) = refl
  changes-clean (who p) = refl
  changes-clean (take t) = take-clean (the_thread v t) (next v (the_thread v t))
  changes-clean (sigreturn t saved) = set-mask-clean v t sig_setmask (some saved)

-- ---- the theorems

-- no call stores 9 or 19 in a mask, a mark or an action's mask
pub stored-clean : (c : Call) (st : Store) → Clean st → Clean (step c st).0
stored-clean = step_keeps Clean clean_change change-clean (λ c st h. changes-clean (view st) (clean-view st h) c)

accepted-clean : (c : Call) (st : Store) → refusal_of st c ≡ 0 → Clean (finish 0 c st).0
unfolding finish
accepted-clean c st e =
    split (is_clear c)
    (λ k. subst (λ (x : Call). Clean (finish 0 x st).0) (sym (is-clear c k))
    (unfold finish stages run_stages changes apply_all apply in clean-cleared))
    (λ k. subst (λ (n : ℕ). Clean (finish n c st).0) e
    (unfold step in stored-clean c st (clauses st (accepted-sound st c k e)).unmasked_sets))

-- whatever the store was, a call that is not refused leaves none in it
pub left-clean : (c : Call) (st : Store) → is_refused (step c st).1 ≡ false → Clean (step c st).0
unfolding step
left-clean c st a = go (refusal_of st c) refl a
  where
    go : (n : ℕ) → refusal_of st c ≡ n → is_refused (finish n c st).1 ≡ false → Clean (finish n c st).0
    go zero e a = accepted-clean c st e
    go (suc n) e a = unfold finish is_refused in clash refl a

-- the sets of an answer have neither
unfoldable pub clean_taken : Taken → Bool
clean_taken (taken.Handler n s r flags saved) = unmasked saved
clean_taken (taken.End s) = true
clean_taken (taken.Stop s) = true
clean_taken (taken.NoAction s) = true

unfoldable pub clean_reply : Reply → Bool
clean_reply reply.Done = true
clean_reply (reply.Sent x) = true
clean_reply (reply.OldAction a) = action_unmasked a
clean_reply (reply.OldMask m) = unmasked m
clean_reply (reply.PendingSet m) = unmasked m
clean_reply (reply.Looked n) = true
clean_reply (reply.Taker t) = true
clean_reply (reply.Taken None) = true
clean_reply (reply.Taken (Some x)) = clean_taken x

unfoldable pub clean_answer : Answer → Bool
clean_answer (Refused n) = true
clean_answer (Accepted r) = clean_reply r

pending-answer : (v : View) (t : Thread) → unmasked t.mask ≡ true → unmasked (blocked_pending v t) ≡ true
unfolding blocked_pending
pending-answer v t e =
    unmasked-if _ (λ s k u. has-set (λ n. has t.mask n && pending_for v t n) s k
    ∙ and_left (pending_for v t s) (unmasked-has t.mask e s u))

who-clean : (v : View) (o : Option Thread) → clean_reply (who_answer v o) ≡ true
unfolding who_answer clean_reply
who-clean v none = refl
who-clean v (some t) = refl

outcome-answer : (o : Outcome) (s : ℕ) → clean_taken (outcome_answer o s) ≡ true
unfolding outcome_answer clean_taken
outcome-answer ignores s = refl
outcome-answer stops s = refl
outcome-answer continues s = refl
outcome-answer ends s = refl

module _ (t : Thread) (e : unmasked t.mask ≡ true) where
  delivered-answer : (a : Action) (r : Siginfo) → clean_taken (delivered t a r) ≡ true
  unfolding delivered clean_taken
  delivered-answer a r =
      split (eqb a.handler sig_dfl) (λ k. rw k (outcome-answer (outcome r.signal) r.signal)) (λ k. rw k e)

  take-answer : (v : View) (n : Next) → clean_reply (reply.Taken (take_answer v t n)) ≡ true
  unfolding take_answer clean_reply
  take-answer v no_next = refl
  take-answer v (next_mark q s) = delivered-answer _ _
  take-answer v (next_record q s r) = delivered-answer _ _

-- clearing answers no set, so nothing is asked of the view that it is made on
reply-clean : (v : View) (c : Call) → (is_clear c ≡ false → CleanView v) → clean_reply (reply v c) ≡ true
unfolding reply taker is_clear clean_reply
reply-clean v clear h = refl
reply-clean v (add_process new) h = refl
reply-clean v (add_thread creator id) h = refl
reply-clean v (end_process id) h = refl
reply-clean v (end_thread id) h = refl
reply-clean v (kill by to t s) h = refl
reply-clean v (sigqueue by to t s value) h = refl
reply-clean v (sigaction p s new) h = clean-action v (h refl) p s
reply-clean v (sigmask t way set) h = clean-mask v (h refl) t
reply-clean v (sigpending t) h = pending-answer v (the_thread v t) (clean-mask v (h refl) t)
reply-clean v (look t) h = refl
reply-clean v (who p) h = who-clean v _
reply-clean v (take t) h = take-answer (the_thread v t) (clean-mask v (h refl) t) v _
reply-clean v (sigreturn t saved) h = clean-mask v (h refl) t

-- whatever the store is, no call answers 9 or 19 in a set: a store that has one is not sound
pub answers-clean : (c : Call) (st : Store) → clean_answer (step c st).1 ≡ true
unfolding step
answers-clean c st = go (refusal_of st c) refl
  where
    go : (n : ℕ) → refusal_of st c ≡ n → clean_answer (finish n c st).1 ≡ true
    go zero e =
        unfold finish clean_answer in reply-clean (view st) c
        (λ k. clean-view st (clauses st (accepted-sound st c k e)).unmasked_sets)
    go (suc n) e = unfold finish clean_answer in refl
