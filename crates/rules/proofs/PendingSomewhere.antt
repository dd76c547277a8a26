-- What makes a signal pending in a process: a mark of its place or of a thread's,
-- a record of its queue or of a thread's. Assumes nothing.
use Prim.Native.Nat.{ℕ}
use mathlib.Core.Path.{◌≡◌, refl, sym, ap, ap₂, ◌∙◌}
use mathlib.Core.Bool.{Bool, true, false, not, ◌||◌}
use mathlib.Core.List.{map}
use lib.Dec.{eqb}
use borrow.Author.Tests.{eq-eqb}
use Rattle.lists.specs.Lists.{any, find}
use Rattle.lists.proofs.Bools.{and_both, or_left, or_right}
use Rattle.lists.proofs.Lists.{any-map, is_some-first, Stands}
use Rattle.lists.proofs.Loops.{any_here}
use Rattle.sigset.specs.Set.{has}
use Rattle.types.specs.declared.Siginfo.{Siginfo}
use Rattle.rules.specs.Types.{Process, Thread, Queue}
use Rattle.rules.specs.Signals.{is_signal}
use Rattle.rules.specs.View.{is_thread, belongs_to, process_queue, thread_queue, target_queue, queue_of, in_queue}
use Rattle.rules.specs.View.{live_thread, pending_in}
use Rattle.rules.specs.Store.{Place, Store, held, free_thread, used, records_for, process_mark, thread_mark, mark_in}
use Rattle.rules.specs.Store.{view}
use Rattle.rules.specs.Sound.{aimed_at_thread, aimed_at_process}
use Rattle.rules.specs.Fitting.{pends_at, pends_somewhere}
use Rattle.rules.proofs.Marks.{thread_with, thread-below, thread-is, process-named, same_queue_lem}
use Rattle.rules.proofs.Aimed.{thread-live, thread-process-live, thread-owner, process-own}
use Rattle.rules.proofs.FoundByKey.{recorded, thread-record-queued, process-record-queued}

module _ (st : Store) where
  -- ---- in a queue

  -- by a record or by a mark
  pub pending-is : (q : Queue) (s : ℕ) → pending_in (view st) q s ≡ (recorded st q s || mark_in st q s)
  unfolding pending_in view
  pending-is q s = ap (λ (b : Bool). b || mark_in st q s) (is_some-first (in_queue q s) (records_for q st))

  pub marked-pends : (q : Queue) (s : ℕ) → mark_in st q s ≡ true → pending_in (view st) q s ≡ true
  marked-pends q s e = pending-is q s ∙ or_right (recorded st q s) e

  pub recorded-pends : (q : Queue) (s : ℕ) → recorded st q s ≡ true → pending_in (view st) q s ≡ true
  recorded-pends q s e = pending-is q s ∙ or_left (mark_in st q s) e

  -- x stands among the places
  pub process-marked : (x : Place Process) → Stands st.processes x → (s : ℕ) → is_signal s ≡ true
      → has x.marks s ≡ true → mark_in st (process_queue x.holds.id) s ≡ true
  unfolding mark_in
  process-marked x m s g h =
      let q : Queue = process_queue x.holds.id in
      and_both g (or_left (any (thread_mark q s) st.threads)
      (m (process_mark q s) (and_both (same_queue_lem q q refl) h)))

  pub thread-marked : (x : Place Thread) → Stands st.threads x → (s : ℕ) → is_signal s ≡ true
      → has x.marks s ≡ true → mark_in st (thread_queue x.holds) s ≡ true
  unfolding mark_in
  thread-marked x m s g h =
      let q : Queue = thread_queue x.holds in
      and_both g (or_right (any (process_mark q s) st.processes)
      (m (thread_mark q s) (and_both (same_queue_lem q q refl) h)))

  -- ---- in a process

  pub process-pends : (p s : ℕ) → pending_in (view st) (process_queue p) s ≡ true → pends_somewhere (view st) p s ≡ true
  unfolding pends_somewhere
  process-pends p s e = or_left (any (pends_at (view st) p s) (view st).threads) e

  pub thread-pends : (p s : ℕ) (x : Place Thread) → Stands st.threads x → eqb p 0 ≡ false
      → x.holds.process ≡ p → pending_in (view st) (thread_queue x.holds) s ≡ true
      → pends_somewhere (view st) p s ≡ true
  unfolding pends_somewhere pends_at belongs_to view
  thread-pends p s x m z o e =
      or_right (pending_in (view st) (process_queue p) s)
      (any-map (pends_at (view st) p s) held st.threads
      ∙ m (λ (y : Place Thread). pends_at (view st) p s y.holds)
      (and_both (and_both (ap not z) (eq-eqb x.holds.process p o)) e))

  -- ---- records

  module _ (r : Siginfo) where
    pub process-record-pends : Stands (used st.process_buffer) r → aimed_at_process (view st) r ≡ true
        → pends_somewhere (view st) r.process r.signal ≡ true
    process-record-pends m a =
        process-pends r.process r.signal
        (ap (λ (q : Queue). pending_in (view st) q r.signal) (sym (process-own st r a))
        ∙ recorded-pends (queue_of r) r.signal (process-record-queued st r a m))

    pub thread-record-pends : Stands (used st.thread_buffer) r → aimed_at_thread (view st) r ≡ true
        → pends_somewhere (view st) r.process r.signal ≡ true
    thread-record-pends m a =
        let l : live_thread (view st) r.thread ≡ true = thread-live st r a in
        let q : thread_queue (thread_with st r.thread).holds ≡ queue_of r =
        ap₂ target_queue (thread-owner st r a) (thread-is st r.thread l) in
        thread-pends r.process r.signal (thread_with st r.thread)
        (λ f e. any_here f free_thread st.threads (find (is_thread r.thread) (map held st.threads))
        (thread-below st r.thread l) e)
        (process-named st r.process (thread-process-live st r a))
        (thread-owner st r a)
        (ap (λ (k : Queue). pending_in (view st) k r.signal) q
        ∙ recorded-pends (queue_of r) r.signal (thread-record-queued st r a m))
