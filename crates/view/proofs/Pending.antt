-- What is read of a live queue: its marks, its records' signals, and both. Assumes nothing.
use Prim.Native.Nat.{ℕ, ◌<◌, ◌^◌}
use mathlib.Core.Path.{◌≡◌, refl, sym, ap, ap₂, ◌∙◌}
use mathlib.Core.Bool.{Bool, true, false, ◌&&◌, ◌||◌, cond}
use lib.Dec.{eqb}
use lib.ListN.{get_or}
use Rattle.limits.specs.Limits.{process_marks, thread_marks, signals}
use Rattle.lists.specs.Lists.{any, find}
use Rattle.lists.proofs.Lists.{is_some-first}
use Rattle.sigset.specs.declared.SigSet.{SigSet}
use Rattle.sigset.specs.Set.{has, set_of, union, bits}
use Rattle.sigset.proofs.Laws.{has-set, set-cong, is_set}
use Rattle.rules.specs.Types.{Queue}
use Rattle.rules.specs.View.{target_queue, process_queue, thread_queue, in_queue, is_process, is_thread, live_process}
use Rattle.rules.specs.View.{live_thread, the_thread, pending_in}
use Rattle.rules.specs.Signals.{is_signal}
use Rattle.rules.specs.Store.{records_for, used, mark_in, view}
use Rattle.rules.proofs.Facts.{marks-of-process, marks-of-thread}
use Rattle.rules.proofs.Marks.{the-thread-id}
use Rattle.rules.proofs.Signals.{signal-is}
use Rattle.queue.specs.Queue.{records_of, slots_of, signals_in}
use Rattle.tables.specs.Tables.{held_processes, held_threads, process_at, thread_at, head_to, thread_to}
use Rattle.sound.specs.Lent.{Lent, decoded, view_of, sound_tables}
use Rattle.sound.proofs.Facts.{store-sound}

module _ (l : Lent) (e : sound_tables l ≡ true) where
  marked : (q : Queue) (r : ℕ) (m : SigSet) → r < 2 ^ signals → bits r ≡ m
      → ((s : ℕ) → mark_in (decoded l) q s ≡ (is_signal s && has m s)) → bits r ≡ set_of ((view_of l).marks q)
  unfolding view
  marked q r m b h k =
      is_set (bits r) (mark_in (decoded l) q) b
      (λ s g. ap (λ (x : SigSet). has x s) h ∙ sym (k s ∙ ap (λ (x : Bool). x && has m s) (signal-is s g)))

  -- a process's own queue
  pub process-marks-read : (p place r : ℕ) → live_process (view_of l) p ≡ true
      → place ≡ find (is_process p) (held_processes l.processes) → r < 2 ^ signals
      → r ≡ get_or (head_to (process_at l.processes place)) process_marks 0
      → bits r ≡ set_of ((view_of l).marks (process_queue p))
  unfolding head_to decoded
  process-marks-read p place r live f b h =
      marked (process_queue p) r (process_at l.processes (find (is_process p) (held_processes l.processes))).marks b
      (ap bits h ∙ ap (λ (k : ℕ). (process_at l.processes k).marks) f)
      (marks-of-process (decoded l) (store-sound l e) p live)

  -- a thread's
  pub thread-marks-read : (p t place r : ℕ) → live_thread (view_of l) t ≡ true → (the_thread (view_of l) t).process ≡ p
      → place ≡ find (is_thread t) (held_threads l.threads) → r < 2 ^ signals
      → r ≡ get_or (thread_to (thread_at l.threads place)) thread_marks 0
      → bits r ≡ set_of ((view_of l).marks (target_queue p t))
  unfolding thread_to decoded
  thread-marks-read p t place r live o f b h =
      let q : thread_queue (the_thread (view_of l) t) ≡ target_queue p t =
      ap₂ target_queue o (the-thread-id (decoded l) t live) in
      marked (target_queue p t) r (thread_at l.threads (find (is_thread t) (held_threads l.threads))).marks b
      (ap bits h ∙ ap (λ (k : ℕ). (thread_at l.threads k).marks) f)
      (λ s. ap (λ (x : Queue). mark_in (decoded l) x s) (sym q)
      ∙ marks-of-thread (decoded l) (store-sound l e) t live s)

module _ (l : Lent) where
  -- records and marks
  pub pending-read : (q : Queue) (queued marks : SigSet)
      → queued ≡ signals_in q (records_of (cond (eqb q.thread 0) l.process_buffer l.thread_buffer))
      → marks ≡ set_of ((view_of l).marks q) → union queued marks ≡ set_of (pending_in (view_of l) q)
  unfolding union signals_in pending_in view decoded records_of records_for
  pending-read q queued marks h k =
      set-cong (λ s. has queued s || has marks s) (pending_in (view_of l) q)
      (λ s g.
      ap₂ (λ (a b : Bool). a || b)
      (ap (λ (x : SigSet). has x s) h ∙ has-set
      (λ t. any (in_queue q t) (used (slots_of (cond (eqb q.thread 0) l.process_buffer l.thread_buffer)))) s g
      ∙ ap (λ live. any (in_queue q s) (used live)) (cond-slots (eqb q.thread 0))
      ∙ sym (is_some-first (in_queue q s)
      (used (cond (eqb q.thread 0) (slots_of l.process_buffer) (slots_of l.thread_buffer)))))
      (ap (λ (x : SigSet). has x s) k ∙ has-set (mark_in (decoded l) q) s g))
    where
      cond-slots : (b : Bool) → slots_of (cond b l.process_buffer l.thread_buffer)
          ≡ cond b (slots_of l.process_buffer) (slots_of l.thread_buffer)
      cond-slots true = refl
      cond-slots false = refl
