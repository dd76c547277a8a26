-- What a record that is well aimed says of its place: it is live, it has the record's queue, and no other place has.
-- Assumes nothing.
use Prim.Native.Nat.{◌≤◌}
use mathlib.Core.Path.{◌≡◌, sym, ap, ap₂, ◌∙◌}
use mathlib.Core.Bool.{Bool, true, not}
use mathlib.Core.List.{List, map}
use native.Mathlib.Omega.{arith}
use lib.Dec.{eqb}
use borrow.Author.Tests.{eqb-true, eq-eqb}
use Rattle.limits.specs.Limits.{si_queue}
use Rattle.lists.specs.Lists.{count}
use Rattle.lists.proofs.Bools.{and-fst, and-snd, and_both}
use Rattle.lists.proofs.Lists.{count-le, count_map}
use Rattle.types.specs.declared.Siginfo.{Siginfo}
use Rattle.rules.specs.Types.{Process, Thread, Queue}
use Rattle.rules.specs.View.{is_process, is_thread, same_queue, queue_of, process_queue, thread_queue, target_queue}
use Rattle.rules.specs.View.{live_process, live_thread, the_thread}
use Rattle.rules.specs.Store.{Place, Store, held, view}
use Rattle.rules.specs.Sound.{nameable, names_live, aimed_at_thread, aimed_at_process}
use Rattle.rules.proofs.Marks.{process_with, thread_with, the-thread, process-is, thread-is, process-named}
use Rattle.rules.proofs.Marks.{thread-named, queue-same, same_queue_lem}

-- a test of values, and the places that pass it
module _ {A : Type 0} (p t : A → Bool) (xs : List (Place A)) where
  few : ((a : A) → t a ≡ true → p a ≡ true) → count p (map held xs) ≤ 1 → count (λ (x : Place A). t x.holds) xs ≤ 1
  few n c =
      let m : count (λ (x : Place A). t x.holds) xs ≤ count (λ (x : Place A). p x.holds) xs =
      count-le (λ (x : Place A). t x.holds) (λ (x : Place A). p x.holds) (λ x. n x.holds) xs in
      omega (arith, count_map p held xs)

module _ (st : Store) (r : Siginfo) where
  pub names-process : names_live (view st) r ≡ true → live_process (view st) r.process ≡ true
  unfolding names_live
  names-process e = and-snd (nameable r.signal) _ (and-snd (eqb r.code si_queue) _ e)

  pub names-signal : names_live (view st) r ≡ true → nameable r.signal ≡ true
  unfolding names_live
  names-signal e = and-fst (nameable r.signal) _ (and-snd (eqb r.code si_queue) _ e)

  module _ (e : aimed_at_thread (view st) r ≡ true) where
    pub thread-live : live_thread (view st) r.thread ≡ true
    unfolding aimed_at_thread
    thread-live = and-fst (live_thread (view st) r.thread) _ (and-snd (names_live (view st) r) _ e)

    pub thread-process-live : live_process (view st) r.process ≡ true
    unfolding aimed_at_thread
    thread-process-live = names-process (and-fst (names_live (view st) r) _ e)

    pub thread-owner : (thread_with st r.thread).holds.process ≡ r.process
    unfolding aimed_at_thread
    thread-owner =
        ap (λ (t : Thread). t.process) (sym (the-thread st r.thread))
        ∙ eqb-true (the_thread (view st) r.thread).process r.process
        (and-snd (live_thread (view st) r.thread) _ (and-snd (names_live (view st) r) _ e))

    pub thread-queue : same_queue (thread_queue (thread_with st r.thread).holds) (queue_of r) ≡ true
    thread-queue =
        same_queue_lem (thread_queue (thread_with st r.thread).holds) (queue_of r)
        (ap₂ target_queue thread-owner (thread-is st r.thread thread-live))

    pub thread-queue-one : count (is_thread r.thread) (map held st.threads) ≤ 1
        → count (λ (x : Place Thread). same_queue (thread_queue x.holds) (queue_of r)) st.threads ≤ 1
    unfolding is_thread
    thread-queue-one =
        few (is_thread r.thread) (λ (t : Thread). same_queue (thread_queue t) (queue_of r)) st.threads
        (λ t k.
        and_both (ap not (thread-named st r.thread thread-live))
        (eq-eqb t.id r.thread (ap (λ (q : Queue). q.thread) (queue-same (thread_queue t) (queue_of r) k))))

  module _ (e : aimed_at_process (view st) r ≡ true) where
    pub process-live : live_process (view st) r.process ≡ true
    unfolding aimed_at_process
    process-live = names-process (and-fst (names_live (view st) r) _ e)

    pub process-own : queue_of r ≡ process_queue r.process
    unfolding aimed_at_process
    process-own = ap (target_queue r.process) (eqb-true r.thread 0 (and-snd (names_live (view st) r) _ e))

    pub process-queue : same_queue (process_queue (process_with st r.process).holds.id) (queue_of r) ≡ true
    process-queue =
        same_queue_lem (process_queue (process_with st r.process).holds.id) (queue_of r)
        (ap process_queue (process-is st r.process process-live) ∙ sym process-own)

    pub process-queue-one : count (is_process r.process) (map held st.processes) ≤ 1
        → count (λ (x : Place Process). same_queue (process_queue x.holds.id) (queue_of r)) st.processes ≤ 1
    unfolding is_process
    process-queue-one =
        few (is_process r.process) (λ (p : Process). same_queue (process_queue p.id) (queue_of r)) st.processes
        (λ p k.
        and_both (ap not (process-named st r.process process-live))
        (eq-eqb p.id r.process
        (ap (λ (q : Queue). q.process) (queue-same (process_queue p.id) (queue_of r) k))))
