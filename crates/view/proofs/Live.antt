-- Who is live, as those who read by name need it: named, owned, and with live queues. Assumes nothing.
use Prim.Native.Nat.{ℕ}
use mathlib.Core.Path.{◌≡◌, refl, sym, ap, ap₂, ◌∙◌}
use mathlib.Core.Bool.{Bool, true, not, ◌||◌}
use Rattle.lists.specs.Lists.{any}
use Rattle.sigset.specs.declared.SigSet.{SigSet}
use Rattle.sigset.specs.Set.{Signal, has, set_of, union}
use Rattle.sigset.proofs.Laws.{has-set, has-union}
use Rattle.rules.specs.Types.{Thread, Queue}
use Rattle.rules.specs.View.{View, is_process, is_thread, process_queue, thread_queue, target_queue, live_process}
use Rattle.rules.specs.View.{live_thread}
use Rattle.rules.specs.View.{the_process, the_thread, pending_in, pending_for}
use Rattle.rules.specs.Store.{view}
use Rattle.rules.specs.Sound.{good_id}
use Rattle.rules.specs.Refusals.{no_process_live, no_thread_live}
use Rattle.rules.specs.Fitting.{live_queue}
use Rattle.rules.proofs.Facts.{process-id, owner-live}
use Rattle.rules.proofs.Marks.{the-thread-id}
use Rattle.rules.proofs.Queues.{shared-live, own-live}
use Rattle.tables.specs.Tables.{held_processes, held_threads, LiveProcess, LiveThread}
use Rattle.sound.specs.Lent.{Lent, decoded, view_of, sound_tables}
use Rattle.sound.proofs.Facts.{store-sound, process-present, thread-present}
use Rattle.view.specs.Named.{process_named, thread_named}

-- ---- by each table alone

module _ (l : Lent) (n : ℕ) where
  pub process-named : process_named l.processes n ≡ the_process (view_of l) n
  unfolding the_process view decoded
  process-named = refl

  pub thread-named : thread_named l.threads n ≡ the_thread (view_of l) n
  unfolding the_thread view decoded
  thread-named = refl

  -- the row of a refusal, from what the search told
  pub no-process : (r : Bool) → r ≡ any (is_process n) (held_processes l.processes)
      → no_process_live (view_of l) n ≡ not r
  unfolding no_process_live live_process view decoded
  no-process r e = ap not (sym e)

  pub no-thread : (r : Bool) → r ≡ any (is_thread n) (held_threads l.threads) → no_thread_live (view_of l) n ≡ not r
  unfolding no_thread_live live_thread view decoded
  no-thread r e = ap not (sym e)

-- ---- a thread's process and queues, the process as it was read; this asks no soundness

module _ (l : Lent) (t p : ℕ) (o : p ≡ (thread_named l.threads t).process) where
  pub owner-is : (the_thread (view_of l) t).process ≡ p
  owner-is = sym (o ∙ ap (λ (x : Thread). x.process) (thread-named l t))

  pub shared-is : process_queue (the_thread (view_of l) t).process ≡ target_queue p 0
  shared-is = ap process_queue owner-is

  pub own_is : live_thread (view_of l) t ≡ true → thread_queue (the_thread (view_of l) t) ≡ target_queue p t
  own_is live = ap₂ target_queue owner-is (the-thread-id (decoded l) t live)

-- ---- a live thread in sound tables

module _ (l : Lent) (e : sound_tables l ≡ true) (t : ℕ) (live : live_thread (view_of l) t ≡ true) where
  pub owner-good : good_id (thread_named l.threads t).process ≡ true
  owner-good =
      ap (λ (x : Thread). good_id x.process) (thread-named l t)
      ∙ process-id (decoded l) (store-sound l e) _ (owner-live (decoded l) (store-sound l e) t live)

  -- what asking for its process takes
  pub owner-known : LiveThread t l.threads × (good_id (thread_named l.threads t).process ≡ true)
  owner-known = (thread-present l e t live, owner-good)

  module _ (p : ℕ) (o : p ≡ (thread_named l.threads t).process) where
    pub process-is-live : live_process (view_of l) p ≡ true
    process-is-live =
        ap (live_process (view_of l)) (sym (owner-is l t p o)) ∙ owner-live (decoded l) (store-sound l e) t live

    pub owner-present : LiveProcess p l.processes
    owner-present = process-present l e p process-is-live

    pub own-queue : live_queue (view_of l) (target_queue p t) ≡ true
    own-queue = own-live (view_of l) p process-is-live t live (owner-is l t p o)

    pub shared-queue : live_queue (view_of l) (target_queue p 0) ≡ true
    shared-queue = shared-live (view_of l) p process-is-live

-- ---- what is pending for a thread, from both queues as they were read

module _ (v : View) (th : Thread) (own shared : SigSet) (h : own ≡ set_of (pending_in v (thread_queue th)))
    (k : shared ≡ set_of (pending_in v (process_queue th.process))) where
  pub pending-union : (s : ℕ) → Signal s → has (union own shared) s ≡ pending_for v th s
  unfolding pending_for
  pending-union s g =
      has-union own shared s g
      ∙ ap₂ (λ (a b : Bool). a || b)
      (ap (λ (x : SigSet). has x s) h ∙ has-set (pending_in v (thread_queue th)) s g)
      (ap (λ (x : SigSet). has x s) k ∙ has-set (pending_in v (process_queue th.process)) s g)

module _ (l : Lent) (t p : ℕ) (o : p ≡ (thread_named l.threads t).process)
    (live : live_thread (view_of l) t ≡ true) where
  pub pending-both : (own shared : SigSet) → own ≡ set_of (pending_in (view_of l) (target_queue p t))
      → shared ≡ set_of (pending_in (view_of l) (target_queue p 0)) → (s : ℕ) → Signal s
      → has (union own shared) s ≡ pending_for (view_of l) (the_thread (view_of l) t) s
  pending-both own shared h k =
      pending-union (view_of l) (the_thread (view_of l) t) own shared
      (h ∙ ap (λ (q : Queue). set_of (pending_in (view_of l) q)) (sym (own_is l t p o live)))
      (k ∙ ap (λ (q : Queue). set_of (pending_in (view_of l) q)) (sym (shared-is l t p o)))
