-- The ledger's pending sends are as many as the records of the buffers, for any test of queue and signal.
-- Assumes nothing.
use Prim.Native.Nat.{ℕ, ◌+◌, ◌≤◌}
use mathlib.Core.Path.{◌≡◌, refl, sym, ap, ap₂, ◌∙◌}
use mathlib.Core.Bool.{Bool, true, not, ◌&&◌, cond, and_assoc}
use mathlib.Core.List.{List, map}
use native.Mathlib.Omega.{arith}
use lib.Dec.{eqb}
use lib.ListN.{length}
use borrow.Author.Tests.{eqb-true, eq-eqb, not-true}
use Rattle.limits.specs.Limits.{signals}
use Rattle.lists.specs.Lists.{any, count, keep, range, sum, All}
use Rattle.lists.proofs.Bools.{and-fst, and-snd, and_both, cond-false}
use Rattle.lists.proofs.Lists.{Pass, All-imp, All-every, All-map, all-All, all-kept, any-map, any-count, count-keep}
use Rattle.lists.proofs.Lists.{count_map, count-true, count-and, count_same, count_kept, count-le}
use Rattle.lists.proofs.Sums.{sum-ext, sum_same, sum-append, sum-parts, count-range}
use Rattle.sigset.specs.Set.{Signal}
use Rattle.types.specs.declared.Siginfo.{Siginfo}
use Rattle.rules.specs.Types.{Process, Thread, Queue}
use Rattle.rules.specs.View.{is_process, is_thread, same_queue, process_queue, thread_queue, queue_of, in_queue}
use Rattle.rules.specs.View.{live_process}
use Rattle.rules.specs.View.{live_thread}
use Rattle.rules.specs.Store.{Place, Store, held, free_process, free_thread, used, records_for, queued_in, view}
use Rattle.rules.specs.Sound.{process_id, thread_id, names_live, aimed_at_thread, aimed_at_process, sound}
use Rattle.rules.proofs.Aimed.{names-signal, thread-live, thread-queue, process-live, process-queue}
use Rattle.rules.proofs.Facts.{one-process, one-thread, thread-aimed, process-aimed}
use Rattle.rules.proofs.Ids.{named, is_named, named_live}
use Rattle.rules.proofs.Marks.{place_where, where-passes, any_held, queue-same}
use Rattle.rules.proofs.Signals.{nameable-signal}
use Rattle.queue.proofs.Signals.{eqb_comm}
use Rattle.history.specs.Ledger.{Ledger, queues, pending_where, of_process}
use Rattle.history.proofs.Notes.{everywhere}
use Rattle.history.proofs.Relation.{Agrees}

-- ---- records by their queues and signals

-- a record of a signal, whose queue stands once among the queues
record Once (qs : List Queue) (r : Siginfo) : Type 0 where
  signal : Signal r.signal
  queue : count (λ q. same_queue q (queue_of r)) qs ≡ 1

signal-once : (r : Siginfo) → Signal r.signal → count (λ s. eqb r.signal s) (range 1 signals) ≡ 1
signal-once r h =
    count_same (λ s. eqb r.signal s) (λ s. eqb s r.signal) (range 1 signals) (eqb_comm r.signal)
    ∙ count-range 1 signals r.signal h.low (omega arith)

-- the records of a queue and a signal
abbrev among : List Siginfo → Queue → ℕ → List Siginfo
among rs q s = keep (in_queue q s) rs

module _ (p : Queue → ℕ → Bool) where
  -- how many sends of a queue pass, where f gives the sends of each queue and signal
  abbrev passing : (Queue → ℕ → List Siginfo) → Queue → ℕ
  passing f q = sum (λ s. cond (p q s) (length (f q s)) 0) (range 1 signals)

  -- a record passes with its own queue, or with a queue that is its own
  abbrev passes : Siginfo → Bool
  passes r = p (queue_of r) r.signal

  abbrev passes_in : Queue → Siginfo → Bool
  passes_in q r = p q r.signal && same_queue q (queue_of r)

  module _ (qs : List Queue) (rs : List Siginfo) (o : All (Once qs) rs) where
    -- each record is met at one signal
    in-queue : (q : Queue) → passing (among rs) q ≡ count (passes_in q) rs
    unfolding in_queue
    in-queue q =
        sum-ext (λ s. cond (p q s) (length (among rs q s)) 0)
        (λ s. count (λ (r : Siginfo). (p q s && same_queue q (queue_of r)) && eqb r.signal s) rs) (range 1 signals)
        (λ s.
        ap (λ (n : ℕ). cond (p q s) n 0) (sym (count-keep (in_queue q s) rs))
        ∙ sym (count-and (p q s) (in_queue q s) rs)
        ∙ count_same (λ r. p q s && in_queue q s r)
        (λ (r : Siginfo). (p q s && same_queue q (queue_of r)) && eqb r.signal s) rs
        (λ r. sym (and_assoc (p q s) (same_queue q (queue_of r)) (eqb r.signal s))))
        ∙ sum-parts (λ s (r : Siginfo). eqb r.signal s) (λ r. r.signal) (λ s r e. sym (eqb-true r.signal s e))
        (λ s (r : Siginfo). p q s && same_queue q (queue_of r)) (range 1 signals) rs
        (All-imp (Once qs) (λ (r : Siginfo). count (λ s. eqb r.signal s) (range 1 signals) ≡ 1)
        (λ r h. signal-once r h.signal) rs o)

    -- and in one queue
    in-queues : sum (passing (among rs)) qs ≡ count passes rs
    in-queues =
        sum-ext (passing (among rs)) (λ q. count (passes_in q) rs) qs in-queue
        ∙ sum-parts (λ q (r : Siginfo). same_queue q (queue_of r)) queue_of (λ q r. queue-same q (queue_of r))
        (λ q (r : Siginfo). p q r.signal) qs rs
        (All-imp (Once qs) (λ (r : Siginfo). count (λ q. same_queue q (queue_of r)) qs ≡ 1) (λ r h. h.queue) rs o)

-- ---- the places that have a record's queue

-- where at most one place passes a test, and it passes a stronger one, that one is passed once
one_passes : {A : Type 0} (d : Place A) (p t : A → Bool) (xs : List (Place A)) → ((a : A) → t a ≡ true → p a ≡ true)
    → any p (map held xs) ≡ true
    → count p (map held xs) ≤ 1 → t (place_where d p xs).holds ≡ true → count t (map held xs) ≡ 1
one_passes {A} d p t xs i e c h =
    let u : Place A → Bool = λ (x : Place A). t x.holds in
    let a : any t (map held xs) ≡ true = any-map t held xs ∙ any_held d p xs u (λ x. i x.holds) e c ∙ h in
    omega (arith, count-le t p i (map held xs), any-count t (map held xs) a)

-- the live places of a table have the queue of a record once, where they have its name once
named-once : {A : Type 0} (id : A → ℕ) (queue : A → Queue) (d : Place A) (xs : List (Place A)) (n : ℕ) (r : Siginfo)
    → ((a : A) → queue a ≡ queue_of r → id a ≡ n) → any (named id n) (map held xs) ≡ true
    → count (named id n) (map held xs) ≤ 1
    → same_queue (queue (place_where d (named id n) xs).holds) (queue_of r) ≡ true
    → count (λ q. same_queue q (queue_of r)) (map queue (keep (is_named id) (map held xs))) ≡ 1
named-once {A} id queue d xs n r i e c h =
    let t : A → Bool = λ a. is_named id a && same_queue (queue a) (queue_of r) in
    let x : A = (place_where d (named id n) xs).holds in
    count_map (λ q. same_queue q (queue_of r)) queue (keep (is_named id) (map held xs))
    ∙ count_kept (λ a. same_queue (queue a) (queue_of r)) (is_named id) (map held xs)
    ∙ one_passes d (named id n) t xs
    (λ a k.
    let m : id a ≡ n = i a (queue-same (queue a) (queue_of r) (and-snd (is_named id a) _ k)) in
    and_both (ap (λ (j : ℕ). not (eqb j 0)) (sym m) ∙ and-fst (is_named id a) _ k) (eq-eqb (id a) n m))
    e c (and_both (ap not (named_live n (id x) (where-passes d (named id n) xs e))) h)

-- ---- the ledger's queues

abbrev queue_of_process : Process → Queue
queue_of_process p = process_queue p.id

abbrev live_processes : Ledger → List Process
live_processes k = keep (is_named process_id) k.processes

abbrev live_threads : Ledger → List Thread
live_threads k = keep (is_named thread_id) k.threads

abbrev process_queues : Ledger → List Queue
process_queues k = map queue_of_process (live_processes k)

abbrev thread_queues : Ledger → List Queue
thread_queues k = map thread_queue (live_threads k)

module _ (st : Store) (k : Ledger) (e : sound st ≡ true) (a : Agrees st k) where
  names-once : (qs : List Queue) (r : Siginfo) → names_live (view st) r ≡ true
      → count (λ q. same_queue q (queue_of r)) qs ≡ 1 → Once qs r
  names-once qs r n c = record { signal = nameable-signal r.signal (names-signal st r n); queue = c }

  -- "live ids are .. distinct within each table": a record's queue is one live process's or one live thread's
  process-once : All (Once (process_queues k)) (used st.process_buffer)
  unfolding is_process live_process view aimed_at_process
  process-once =
      All-imp (Pass (aimed_at_process (view st))) (Once (process_queues k))
      (λ r h.
      names-once (process_queues k) r (and-fst (names_live (view st) r) _ h)
      (rw (← a.processes)
      (named-once process_id queue_of_process free_process st.processes r.process r
      (λ p q. ap (λ (x : Queue). x.process) q) (process-live st r h) (one-process st e r.process)
      (process-queue st r h))))
      (used st.process_buffer) (process-aimed st e)

  thread-once : All (Once (thread_queues k)) (used st.thread_buffer)
  unfolding is_thread live_thread view aimed_at_thread
  thread-once =
      All-imp (Pass (aimed_at_thread (view st))) (Once (thread_queues k))
      (λ r h.
      names-once (thread_queues k) r (and-fst (names_live (view st) r) _ h)
      (rw (← a.threads)
      (named-once thread_id thread_queue free_thread st.threads r.thread r
      (λ t q. ap (λ (x : Queue). x.thread) q) (thread-live st r h) (one-thread st e r.thread)
      (thread-queue st r h))))
      (used st.thread_buffer) (thread-aimed st e)

  -- a process's records are those of one buffer, a thread's those of the other
  abbrev Kept : List Siginfo → Queue → Type 0
  Kept rs q = records_for q st ≡ rs

  process-kept : All (Kept (used st.process_buffer)) (process_queues k)
  unfolding records_for
  process-kept =
      All-map (Kept (used st.process_buffer)) queue_of_process (live_processes k)
      (All-every (λ p. Kept (used st.process_buffer) (queue_of_process p)) (λ p. refl) (live_processes k))

  thread-kept : All (Kept (used st.thread_buffer)) (thread_queues k)
  unfolding records_for
  thread-kept =
      All-map (Kept (used st.thread_buffer)) thread_queue (live_threads k)
      (All-imp (Pass (is_named thread_id)) (λ t. Kept (used st.thread_buffer) (thread_queue t))
      (λ t n. ap used (cond-false st.process_buffer st.thread_buffer (not-true (eqb t.id 0) n)))
      (live_threads k) (all-All (is_named thread_id) (live_threads k) (all-kept (is_named thread_id) k.threads)))

  module _ (p : Queue → ℕ → Bool) where
    abbrev sends : Queue → ℕ → List Siginfo
    sends q s = (k.lines q s).sends

    -- the sends of queues that have their records in one buffer
    queues-counted : (qs : List Queue) (rs : List Siginfo) → All (Kept rs) qs → All (Once qs) rs
        → sum (passing p sends) qs ≡ count (passes p) rs
    queues-counted qs rs b o =
        sum_same (passing p sends) (passing p (among rs)) qs
        (All-imp (Kept rs) (λ q. passing p sends q ≡ passing p (among rs) q)
        (λ q f.
        sum-ext (λ s. cond (p q s) (length (sends q s)) 0) (λ s. cond (p q s) (length (among rs q s)) 0)
        (range 1 signals)
        (λ s. ap (λ (l : List Siginfo). cond (p q s) (length l) 0) (sym (a.records q s) ∙ ap (keep (in_queue q s)) f)))
        qs b)
        ∙ in-queues p qs rs o

    pub counted :
        count (λ (r : Siginfo). p (queue_of r) r.signal) (used st.thread_buffer)
        + count (λ (r : Siginfo). p (queue_of r) r.signal) (used st.process_buffer)
        ≡ pending_where k p
    unfolding pending_where queues
    counted =
        omega (
          arith,
          sum-append (passing p sends) (process_queues k) (thread_queues k),
          queues-counted (process_queues k) (used st.process_buffer) process-kept process-once,
          queues-counted (thread_queues k) (used st.thread_buffer) thread-kept thread-once,
        )

  -- the queues of one process
  pub same-queued : (n : ℕ) → queued_in st n ≡ pending_where k (of_process n)
  unfolding queued_in
  same-queued n = counted (of_process n)

  pub all-pending : length (used st.thread_buffer) + length (used st.process_buffer) ≡ pending_where k everywhere
  all-pending =
      ap₂ (λ m n. m + n) (sym (count-true (used st.thread_buffer))) (sym (count-true (used st.process_buffer)))
      ∙ counted everywhere
