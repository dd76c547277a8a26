-- What a sound store's own entries find: a live place by its id, a record by its queue and signal. Assumes nothing.
use mathlib.Core.Path.{◌≡◌, refl, ap, ◌∙◌}
use mathlib.Core.Bool.{Bool, true}
use mathlib.Core.List.{List, map}
use mathlib.Core.Option
use Prim.Native.Nat.{ℕ}
use lib.ListN.{get_or}
use borrow.Author.Tests.{eq-eqb}
use Rattle.lists.specs.Lists.{any, first, pairs_where, All}
use Rattle.lists.proofs.Bools.{and-snd, and_both, cond-true, cond-false}
use Rattle.lists.proofs.Lists.{Pass, All-imp, All-each, Stands}
use Rattle.lists.proofs.Members.{All-standing}
use Rattle.types.specs.declared.Siginfo.{Siginfo}
use Rattle.rules.specs.Types.{Process, Thread, Queue}
use Rattle.rules.specs.View.{is_process, is_thread, queue_of, in_queue, the_process, the_thread}
use Rattle.rules.specs.Store.{Place, Store, held, free_process, free_thread, used, records_for, view}
use Rattle.rules.specs.Sound.{is_live, apart, process_id, thread_id, aimed_at_thread, aimed_at_process, names_live}
use Rattle.rules.specs.Sound.{sound}
use Rattle.rules.proofs.Aimed.{thread-live}
use Rattle.rules.proofs.Facts.{thread-aimed, process-aimed}
use Rattle.rules.proofs.Ids.{named, distinct-held}
use Rattle.rules.proofs.Marks.{first-held, thread-named, same_queue_lem}
use Rattle.rules.proofs.ClausesByTable.{parts}

-- ---- places

own_held : {A : Type 0} (id : A → ℕ) (d : Place A) (xs : List (Place A)) → pairs_where (is_live id) (apart id) xs ≡ true
    → All (λ (x : Place A).
    is_live id x ≡ true → Option.get_or (first (named id (id x.holds)) (map held xs)) d.holds ≡ x.holds) xs
own_held {A} id d xs e =
    All-each (λ (x : Place A). is_live id x ≡ true
    → Option.get_or (first (named id (id x.holds)) (map held xs)) d.holds ≡ x.holds) xs d
    (λ i h l. first-held d (named id (id (get_or xs i d).holds)) xs
    ∙ ap (λ (k : ℕ). (get_or xs k d).holds) (distinct-held id xs d e i h l))

module _ (st : Store) (e : sound st ≡ true) where
  pub own-process : All
      (λ (x : Place Process). is_live process_id x ≡ true → the_process (view st) x.holds.id ≡ x.holds)
      st.processes
  unfolding the_process view is_process
  own-process = own_held process_id free_process st.processes (parts st e).process_apart

  pub own-thread : All (λ (x : Place Thread). is_live thread_id x ≡ true → the_thread (view st) x.holds.id ≡ x.holds)
      st.threads
  unfolding the_thread view is_thread
  own-thread = own_held thread_id free_thread st.threads (parts st e).thread_apart

-- ---- records

-- the record is one of its queue and signal
in_queue-self : (r : Siginfo) → in_queue (queue_of r) r.signal r ≡ true
unfolding in_queue
in_queue-self r = and_both (same_queue_lem (queue_of r) (queue_of r) refl) (eq-eqb r.signal r.signal refl)

module _ (st : Store) where
  -- the records that a queue's record is looked for in
  pub thread-records : (r : Siginfo) → aimed_at_thread (view st) r ≡ true
      → records_for (queue_of r) st ≡ used st.thread_buffer
  unfolding records_for
  thread-records r a =
      ap used (cond-false st.process_buffer st.thread_buffer (thread-named st r.thread (thread-live st r a)))

  pub process-records : (r : Siginfo) → aimed_at_process (view st) r ≡ true
      → records_for (queue_of r) st ≡ used st.process_buffer
  unfolding records_for aimed_at_process
  process-records r a = ap used (cond-true st.process_buffer st.thread_buffer (and-snd (names_live (view st) r) _ a))

  -- a record of the queue and the signal is there
  abbrev pub recorded : Queue → ℕ → Bool
  recorded q s = any (in_queue q s) (records_for q st)

  abbrev pub Queued : Siginfo → Type 0
  Queued r = recorded (queue_of r) r.signal ≡ true

  module _ (r : Siginfo) where
    queued-in : (rs : List Siginfo) → records_for (queue_of r) st ≡ rs → Stands rs r → Queued r
    queued-in rs e m =
        ap (any (in_queue (queue_of r) r.signal)) e ∙ m (in_queue (queue_of r) r.signal) (in_queue-self r)

    pub thread-record-queued : aimed_at_thread (view st) r ≡ true → Stands (used st.thread_buffer) r → Queued r
    thread-record-queued a = queued-in (used st.thread_buffer) (thread-records r a)

    pub process-record-queued : aimed_at_process (view st) r ≡ true → Stands (used st.process_buffer) r → Queued r
    process-record-queued a = queued-in (used st.process_buffer) (process-records r a)

  each-queued : (aims : Siginfo → Bool) (rs : List Siginfo) → ((r : Siginfo) → aims r ≡ true → Stands rs r → Queued r)
      → All (Pass aims) rs → All Queued rs
  each-queued aims rs h a =
      All-imp (λ r. Stands rs r × Pass aims r) Queued (λ r c. h r c.1 c.0) rs (All-standing (Pass aims) rs a)

  module _ (e : sound st ≡ true) where
    pub thread-queued : All Queued (used st.thread_buffer)
    thread-queued =
        each-queued (aimed_at_thread (view st)) (used st.thread_buffer) thread-record-queued (thread-aimed st e)

    pub process-queued : All Queued (used st.process_buffer)
    process-queued =
        each-queued (aimed_at_process (view st)) (used st.process_buffer) process-record-queued (process-aimed st e)
