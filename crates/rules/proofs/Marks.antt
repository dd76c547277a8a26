-- The place of a process or a thread by its id, and the marks of its queue: they are those of that place alone.
-- Assumes nothing.
use Prim.Native.Nat.{ℕ, ◌≤◌, ◌<◌}
use mathlib.Core.Path.{◌≡◌, sym, ap, ap₂, ◌∙◌}
use mathlib.Core.Bool.{Bool, true, false, not, ◌&&◌, ◌||◌, or-false}
use mathlib.Core.List.{List, map}
use mathlib.Core.Option
use lib.Dec.{eqb}
use lib.ListN.{length, get_or, length-map, get_or-map}
use borrow.Author.Tests.{eqb-true, eq-eqb, not-true}
use Rattle.lists.specs.Lists.{all, any, count, find, first}
use Rattle.lists.proofs.Bools.{split, clash, same_test, and-fst, and-snd, and_both, and_left, imp_use}
use Rattle.lists.proofs.Lists.{Pass, Fail, All-imp, All-every, all-All, All-any, count_map}
use Rattle.lists.proofs.Loops.{find-any, find_at}
use Rattle.lists.proofs.Finds.{get_d-find}
use Rattle.lists.proofs.Index.{any-only}
use Rattle.sigset.specs.Set.{has}
use Rattle.rules.specs.Types.{Process, Thread, Queue}
use Rattle.rules.specs.Signals.{is_signal}
use Rattle.rules.specs.View.{is_process, is_thread, same_queue, process_queue, thread_queue, target_queue, live_process}
use Rattle.rules.specs.View.{live_thread, the_process, the_thread}
use Rattle.rules.specs.Store.{Place, Store, held, free_process, free_thread, process_mark, thread_mark, mark_in, view}
use Rattle.rules.specs.Sound.{if_free, is_live, thread_id, zero_thread}

-- ---- the first place whose value passes a test

module _ {A : Type 0} (d : Place A) (p : A → Bool) (xs : List (Place A)) where
  abbrev pub place_where : Place A
  place_where = get_or xs (find p (map held xs)) d

  pub first-held : Option.get_or (first p (map held xs)) d.holds ≡ place_where.holds
  first-held = get_d-find p d.holds (map held xs) ∙ get_or-map held xs (find p (map held xs)) d

  module _ (e : any p (map held xs) ≡ true) where
    pub where_below : find p (map held xs) < length xs
    where_below =
        let h : find p (map held xs) < length (map held xs) = find-any p (map held xs) e in rw (length-map xs held) at h

    pub where-passes : p place_where.holds ≡ true
    where-passes =
        ap p (sym (get_or-map held xs (find p (map held xs)) d))
        ∙ find_at p d.holds (map held xs) (find-any p (map held xs) e)

  -- a test of places that only the one that is looked for can pass
  pub any_held : (t : Place A → Bool) → ((x : Place A) → t x ≡ true → p x.holds ≡ true) → any p (map held xs) ≡ true
      → count p (map held xs) ≤ 1
      → any t xs ≡ t place_where
  any_held t n e c =
      any-only (λ (x : Place A). p x.holds) d t
      (λ x f. split (t x) (λ g. clash (n x g) f) (λ g. g))
      xs (find p (map held xs))
      (rw (count_map p held xs) at c)
      (where_below e) (where-passes e)

-- ---- processes and threads

module _ (st : Store) where
  abbrev pub process_with : ℕ → Place Process
  process_with n = place_where free_process (is_process n) st.processes

  abbrev pub thread_with : ℕ → Place Thread
  thread_with n = place_where free_thread (is_thread n) st.threads

  pub the-process : (n : ℕ) → the_process (view st) n ≡ (process_with n).holds
  unfolding the_process view
  the-process n = first-held free_process (is_process n) st.processes

  pub the-thread : (n : ℕ) → the_thread (view st) n ≡ (thread_with n).holds
  unfolding the_thread view
  the-thread n = first-held free_thread (is_thread n) st.threads

  pub process-below : (n : ℕ) → live_process (view st) n ≡ true
      → find (is_process n) (map held st.processes) < length st.processes
  unfolding live_process view
  process-below n e = where_below free_process (is_process n) st.processes e

  pub thread-below : (n : ℕ) → live_thread (view st) n ≡ true
      → find (is_thread n) (map held st.threads) < length st.threads
  unfolding live_thread view
  thread-below n e = where_below free_thread (is_thread n) st.threads e

  pub process-is : (n : ℕ) → live_process (view st) n ≡ true → (process_with n).holds.id ≡ n
  unfolding live_process view is_process
  process-is n e =
      eqb-true (process_with n).holds.id n
      (and-snd (not (eqb n 0)) (eqb (process_with n).holds.id n)
      (where-passes free_process (is_process n) st.processes e))

  pub thread-is : (n : ℕ) → live_thread (view st) n ≡ true → (thread_with n).holds.id ≡ n
  unfolding live_thread view is_thread
  thread-is n e =
      eqb-true (thread_with n).holds.id n
      (and-snd (not (eqb n 0)) (eqb (thread_with n).holds.id n) (where-passes free_thread (is_thread n) st.threads e))

  pub the-thread-id : (n : ℕ) → live_thread (view st) n ≡ true → (the_thread (view st) n).id ≡ n
  the-thread-id n e = ap (λ (t : Thread). t.id) (the-thread n) ∙ thread-is n e

  -- 0 is no id
  pub process-named : (n : ℕ) → live_process (view st) n ≡ true → eqb n 0 ≡ false
  unfolding live_process view is_process
  process-named n e =
      not-true (eqb n 0)
      (and-fst (not (eqb n 0)) (eqb (process_with n).holds.id n)
      (where-passes free_process (is_process n) st.processes e))

  pub thread-named : (n : ℕ) → live_thread (view st) n ≡ true → eqb n 0 ≡ false
  unfolding live_thread view is_thread
  thread-named n e =
      not-true (eqb n 0)
      (and-fst (not (eqb n 0)) (eqb (thread_with n).holds.id n) (where-passes free_thread (is_thread n) st.threads e))

-- ---- queues

pub queue-same : (a b : Queue) → same_queue a b ≡ true → a ≡ b
unfolding same_queue
queue-same a b e =
    ap₂ target_queue
    (eqb-true a.process b.process (and-fst (eqb a.process b.process) (eqb a.thread b.thread) e))
    (eqb-true a.thread b.thread (and-snd (eqb a.process b.process) (eqb a.thread b.thread) e))

pub same_queue_lem : (a b : Queue) → a ≡ b → same_queue a b ≡ true
unfolding same_queue
same_queue_lem a b e =
    and_both (eq-eqb a.process b.process (ap (λ (q : Queue). q.process) e))
    (eq-eqb a.thread b.thread (ap (λ (q : Queue). q.thread) e))

pub same-comm : (a b : Queue) → same_queue a b ≡ same_queue b a
same-comm a b =
    same_test (same_queue a b) (same_queue b a) (λ e. same_queue_lem b a (sym (queue-same a b e)))
    (λ e. same_queue_lem a b (sym (queue-same b a e)))

-- ---- the marks of a queue

-- a free thread place has process 0
pub free-of-nobody : (x : Place Thread) → if_free thread_id zero_thread x ≡ true → eqb x.holds.id 0 ≡ true
    → eqb x.holds.process 0 ≡ true
unfolding zero_thread
free-of-nobody x f i = and-fst (eqb x.holds.process 0) _ (imp_use (not (is_live thread_id x)) (zero_thread x) f (rw i))

module _ (st : Store) where
  module _ (n : ℕ) (e : live_process (view st) n ≡ true) where
    marks-process : (s : ℕ) → count (is_process n) (map held st.processes) ≤ 1
        → any (process_mark (process_queue n) s) st.processes ≡ has (process_with st n).marks s
    unfolding live_process view is_process
    marks-process s c =
        any_held free_process (is_process n) st.processes (process_mark (process_queue n) s)
        (λ x t.
        let q : process_queue n ≡ process_queue x.holds.id =
        queue-same _ _ (and-fst (same_queue (process_queue n) (process_queue x.holds.id)) (has x.marks s) t) in
        and_both (ap not (process-named st n e)) (eq-eqb x.holds.id n (sym (ap (λ (a : Queue). a.process) q))))
        e c
        ∙ ap (λ (b : Bool). b && has (process_with st n).marks s)
        (same_queue_lem (process_queue n) (process_queue (process_with st n).holds.id)
        (ap process_queue (sym (process-is st n e))))

    -- no thread place has the queue of a process
    pub not-of-process : (y : Place Thread) → if_free thread_id zero_thread y ≡ true
        → same_queue (process_queue n) (thread_queue y.holds) ≡ false
    not-of-process y f =
        split (same_queue (process_queue n) (thread_queue y.holds))
        (λ t.
        let q : process_queue n ≡ thread_queue y.holds = queue-same _ _ t in
        let i : eqb y.holds.id 0 ≡ true = eq-eqb y.holds.id 0 (sym (ap (λ (a : Queue). a.thread) q)) in
        let p : y.holds.process ≡ 0 = eqb-true y.holds.process 0 (free-of-nobody y f i) in
        clash (eq-eqb n 0 (ap (λ (a : Queue). a.process) q ∙ p)) (process-named st n e))
        (λ t. t)

    unmarked-threads : (s : ℕ) → all (if_free thread_id zero_thread) st.threads ≡ true
        → any (thread_mark (process_queue n) s) st.threads ≡ false
    unmarked-threads s z =
        All-any (thread_mark (process_queue n) s) st.threads
        (All-imp (Pass (if_free thread_id zero_thread)) (Fail (thread_mark (process_queue n) s))
        (λ y f. and_left (has y.marks s) (not-of-process y f))
        st.threads (all-All (if_free thread_id zero_thread) st.threads z))

    pub process-marks : (s : ℕ) → count (is_process n) (map held st.processes) ≤ 1
        → all (if_free thread_id zero_thread) st.threads ≡ true
        → mark_in st (process_queue n) s ≡ (is_signal s && has (process_with st n).marks s)
    unfolding mark_in
    process-marks s c z =
        ap (λ (b : Bool). is_signal s && b)
        (ap₂ (λ (a b : Bool). a || b) (marks-process s c) (unmarked-threads s z)
        ∙ or-false (has (process_with st n).marks s))

  module _ (q : Queue) (e : live_thread (view st) q.thread ≡ true) where
    marks-thread : (s : ℕ) → (thread_with st q.thread).holds.process ≡ q.process
        → count (is_thread q.thread) (map held st.threads) ≤ 1
        → any (thread_mark q s) st.threads ≡ has (thread_with st q.thread).marks s
    unfolding live_thread view is_thread
    marks-thread s o c =
        any_held free_thread (is_thread q.thread) st.threads (thread_mark q s)
        (λ y t.
        let k : q ≡ thread_queue y.holds =
        queue-same _ _ (and-fst (same_queue q (thread_queue y.holds)) (has y.marks s) t) in
        and_both (ap not (thread-named st q.thread e))
        (eq-eqb y.holds.id q.thread (sym (ap (λ (a : Queue). a.thread) k))))
        e c
        ∙ ap (λ (b : Bool). b && has (thread_with st q.thread).marks s)
        (same_queue_lem q (thread_queue (thread_with st q.thread).holds)
        (ap₂ target_queue (sym o) (sym (thread-is st q.thread e))))

    -- no process place has the queue of a thread
    pub not-of-thread : (x : Place Process) → same_queue q (process_queue x.holds.id) ≡ false
    not-of-thread x =
        split (same_queue q (process_queue x.holds.id))
        (λ t. clash (eq-eqb q.thread 0 (ap (λ (a : Queue). a.thread) (queue-same _ _ t)))
        (thread-named st q.thread e))
        (λ t. t)

    unmarked-processes : (s : ℕ) → any (process_mark q s) st.processes ≡ false
    unmarked-processes s =
        All-any (process_mark q s) st.processes
        (All-every (Fail (process_mark q s)) (λ x. and_left (has x.marks s) (not-of-thread x)) st.processes)

    pub thread-marks : (s : ℕ) → (thread_with st q.thread).holds.process ≡ q.process
        → count (is_thread q.thread) (map held st.threads) ≤ 1
        → mark_in st q s ≡ (is_signal s && has (thread_with st q.thread).marks s)
    unfolding mark_in
    thread-marks s o c =
        ap (λ (b : Bool). is_signal s && b) (ap₂ (λ (a b : Bool). a || b) (unmarked-processes s) (marks-thread s o c))
