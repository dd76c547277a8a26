-- What is pending after a discard: nothing that was not pending before. Assumes nothing.
use Prim.Native.Nat.{ℕ, ◌≤◌}
use mathlib.Core.Path.{◌≡◌, refl, sym, ap, ap₂, ◌∙◌}
use mathlib.Core.Bool.{Bool, true, false, not, ◌&&◌, ◌||◌, cond, and_assoc, and_comm, and-or_distrib_right}
use lib.Dec.{eqb}
use borrow.Author.Tests.{eqb-true, eq-eqb}
use Rattle.lists.specs.Lists.{any, keep}
use Rattle.lists.proofs.Bools.{split, and-fst, and-snd, and_both, and_left, and_right, and-imp, or-both, cond_map}
use Rattle.lists.proofs.Lists.{Fail, All-every, All-any, any-map, any-and, any_same, any-keep}
use Rattle.lists.proofs.Sublists.{keep-within}
use Rattle.sigset.specs.declared.SigSet.{SigSet}
use Rattle.sigset.specs.Set.{Signal, has, of_signal}
use Rattle.sigset.proofs.Laws.{has_of}
use Rattle.types.specs.declared.Siginfo.{Siginfo}
use Rattle.rules.specs.Types.{Process, Thread, Queue}
use Rattle.rules.specs.Signals.{is_signal}
use Rattle.rules.specs.View.{View, discard, belongs_to, same_queue, process_queue, thread_queue, queue_of, in_queue}
use Rattle.rules.specs.View.{pending_in}
use Rattle.rules.specs.Store.{Place, Store, used, records_for, process_mark, thread_mark, mark_in, queued_in, on_marks}
use Rattle.rules.specs.Store.{on_slots, left_by, view, apply}
use Rattle.rules.specs.Sound.{sound}
use Rattle.rules.specs.Fitting.{pends_at, pends_somewhere}
use Rattle.rules.proofs.BuffersSound.{queued-within}
use Rattle.rules.proofs.Marks.{queue-same}
use Rattle.rules.proofs.FoundByKey.{recorded}
use Rattle.rules.proofs.PendingSomewhere.{pending-is}
use Rattle.rules.proofs.PendingInView.{cutting}
use Rattle.rules.proofs.DiscardsSound.{cut_has}
use Rattle.rules.proofs.Signals.{is-signal}
use Rattle.rules.proofs.Slots.{used-within}

-- ---- marks: some queues lose those of a set

module _ (c : Queue → Bool) (x : SigSet) where
  -- the signal is one that the queue loses
  abbrev pub lost : Queue → ℕ → Bool
  lost q s = c q && has x s

  cut_at : (q q' : Queue) (m : SigSet) (s : ℕ) → Signal s
      → (same_queue q q' && has (cutting c x q' m) s) ≡ ((same_queue q q' && has m s) && not (lost q s))
  cut_at q q' m s h =
      and-imp (same_queue q q')
      (λ e. ap (λ (k : Queue). has (cutting c x k m) s) (sym (queue-same q q' e)) ∙ cut_has (c q) m x s h)
      ∙ sym (and_assoc (same_queue q q') (has m s) (not (lost q s)))

  module _ (st : Store) (q : Queue) (s : ℕ) (h : Signal s) where
    cut-processes : any (process_mark q s) (on_marks (cutting c x) st).processes
        ≡ (any (process_mark q s) st.processes && not (lost q s))
    cut-processes =
        any-map (process_mark q s) _ st.processes
        ∙ any_same _ (λ (y : Place Process). process_mark q s y && not (lost q s)) st.processes
        (λ y. cut_at q (process_queue y.holds.id) y.marks s h)
        ∙ any-and (process_mark q s) (not (lost q s)) st.processes

    cut-threads : any (thread_mark q s) (on_marks (cutting c x) st).threads
        ≡ (any (thread_mark q s) st.threads && not (lost q s))
    cut-threads =
        any-map (thread_mark q s) _ st.threads
        ∙ any_same _ (λ (y : Place Thread). thread_mark q s y && not (lost q s)) st.threads
        (λ y. cut_at q (thread_queue y.holds) y.marks s h)
        ∙ any-and (thread_mark q s) (not (lost q s)) st.threads

  pub cut-marks : (st : Store) (q : Queue) (s : ℕ)
      → mark_in (on_marks (cutting c x) st) q s ≡ (mark_in st q s && not (lost q s))
  unfolding mark_in
  cut-marks st q s =
      let a : Bool = any (process_mark q s) st.processes in
      let b : Bool = any (thread_mark q s) st.threads in
      and-imp (is_signal s)
      (λ e.
      ap₂ (λ (y z : Bool). y || z) (cut-processes st q s (is-signal s e)) (cut-threads st q s (is-signal s e))
      ∙ sym (and-or_distrib_right a b (not (lost q s))))
      ∙ sym (and_assoc (is_signal s) (a || b) (not (lost q s)))

-- ---- a discard

module _ (p : ℕ) (x : SigSet) where
  -- a record of a queue and a signal, and whether it is left
  left_at : (q : Queue) (s : ℕ) (r : Siginfo)
      → (left_by p x r && in_queue q s r) ≡ (in_queue q s r && not (eqb q.process p && has x s))
  unfolding in_queue
  left_at q s r =
      and_comm (left_by p x r) (in_queue q s r)
      ∙ and-imp (in_queue q s r)
      (λ e.
      let k : queue_of r ≡ q =
      sym (queue-same q (queue_of r) (and-fst (same_queue q (queue_of r)) (eqb r.signal s) e)) in
      ap₂ (λ (a : Queue) (b : ℕ). not (eqb a.process p && has x b)) k
      (eqb-true r.signal s (and-snd (same_queue q (queue_of r)) (eqb r.signal s) e)))

  module _ (st : Store) where
    abbrev after : Store
    after = apply (discard p x) st

    pub discard-records : (q : Queue) → records_for q after ≡ keep (left_by p x) (records_for q st)
    unfolding records_for apply
    discard-records q =
        ap used
        (sym (cond_map (on_slots (keep (left_by p x))) (eqb q.thread 0) st.process_buffer st.thread_buffer))
        ∙ used-within (keep (left_by p x)) (keep-within (left_by p x))
        (cond (eqb q.thread 0) st.process_buffer st.thread_buffer)

    discard-recorded : (q : Queue) (s : ℕ)
        → recorded after q s ≡ (recorded st q s && not (eqb q.process p && has x s))
    discard-recorded q s =
        ap (any (in_queue q s)) (discard-records q)
        ∙ any-keep (in_queue q s) (left_by p x) (records_for q st)
        ∙ any_same _ (λ (r : Siginfo). in_queue q s r && not (eqb q.process p && has x s)) (records_for q st)
        (left_at q s)
        ∙ any-and (in_queue q s) (not (eqb q.process p && has x s)) (records_for q st)

    pub discard-marks : (q : Queue) (s : ℕ) → mark_in after q s ≡ (mark_in st q s && not (eqb q.process p && has x s))
    unfolding apply mark_in
    discard-marks = cut-marks (λ q. eqb q.process p) x st

    -- what is left pending: all that was, but the set's signals in the process's queues
    pub discard-pending : (q : Queue) (s : ℕ)
        → pending_in (view after) q s ≡ (pending_in (view st) q s && not (eqb q.process p && has x s))
    discard-pending q s =
        let b : Bool = not (eqb q.process p && has x s) in
        pending-is after q s
        ∙ ap₂ (λ (y z : Bool). y || z) (discard-recorded q s) (discard-marks q s)
        ∙ sym (and-or_distrib_right (recorded st q s) (mark_in st q s) b)
        ∙ ap (λ (y : Bool). y && b) (sym (pending-is st q s))

    -- no process has more records
    pub discard-queued : (k : ℕ) → (view after).queued k ≤ (view st).queued k
    unfolding apply view queued_in
    discard-queued = queued-within (keep (left_by p x)) (keep-within (left_by p x)) st

-- what is pending after a discard was pending before
pub discard-pends : (st : Store) → sound st ≡ true → (p : ℕ) (signals : SigSet) (q : Queue) (s : ℕ)
    → pending_in (view (apply (discard p signals) st)) q s ≡ true
    → pending_in (view st) q s ≡ true
discard-pends st _ p signals q s e = and-fst (pending_in (view st) q s) _ (sym (discard-pending p signals st q s) ∙ e)

module _ (st : Store) (p s : ℕ) where
  abbrev without-it : Store
  without-it = apply (discard p (of_signal s)) st

  clears : is_signal s ≡ true → (q : Queue) → eqb q.process p ≡ true → pending_in (view without-it) q s ≡ false
  clears i q e =
      let l : (eqb q.process p && has (of_signal s) s) ≡ true =
      and_both e (has_of s s (is-signal s i) ∙ eq-eqb s s refl) in
      discard-pending p (of_signal s) st q s ∙ and_right (pending_in (view st) q s) (ap not l)

  clears-thread : is_signal s ≡ true → (t : Thread) → pends_at (view without-it) p s t ≡ false
  unfolding pends_at belongs_to
  clears-thread i t =
      split (belongs_to p t)
      (λ e. and_right (belongs_to p t) (clears i (thread_queue t) (and-snd (not (eqb p 0)) (eqb t.process p) e)))
      (λ e. and_left (pending_in (view without-it) (thread_queue t) s) e)

-- what is discarded is gone
pub discard-clears : (st : Store) → sound st ≡ true → (p s : ℕ) → is_signal s ≡ true
    → pends_somewhere (view (apply (discard p (of_signal s)) st)) p s ≡ false
unfolding pends_somewhere
discard-clears st _ p s i =
    let v : View = view (apply (discard p (of_signal s)) st) in
    or-both (clears st p s i (process_queue p) (eq-eqb p p refl))
    (All-any (pends_at v p s) v.threads (All-every (Fail (pends_at v p s)) (clears-thread st p s i) v.threads))
