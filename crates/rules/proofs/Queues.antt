-- Whose queue a live queue is, and that who is live has one. Assumes nothing.
use Prim.Native.Nat.{ℕ}
use mathlib.Core.Path.{◌≡◌, refl, ap}
use mathlib.Core.Bool.{true, false, not, ◌||◌}
use lib.Dec.{eqb}
use borrow.Author.Tests.{eqb-true, eq-eqb, not-true, not-false}
use Rattle.lists.proofs.Bools.{or-fst-false, or-snd-false, or-both, and_right}
use Rattle.rules.specs.View.{View, target_queue, live_process, live_thread, the_thread}
use Rattle.rules.specs.Refusals.{bad_target, no_process_live, no_thread_live}
use Rattle.rules.specs.Fitting.{live_queue}

module _ (v : View) (p t : ℕ) where
  pub target-process : bad_target v p t ≡ false → live_process v p ≡ true
  unfolding bad_target no_process_live
  target-process e = not-false (live_process v p) (or-fst-false (not (live_process v p)) _ e)

  module _ (e : bad_target v p t ≡ false) (n : eqb t 0 ≡ false) where
    not-thread : (no_thread_live v t || not (eqb (the_thread v t).process p)) ≡ false
    unfolding bad_target
    not-thread = let h = or-snd-false (no_process_live v p) _ e in rw n at h

    pub target-thread : live_thread v t ≡ true
    unfolding no_thread_live
    target-thread = not-false (live_thread v t) (or-fst-false (not (live_thread v t)) _ not-thread)

    pub target-owner : (the_thread v t).process ≡ p
    target-owner = eqb-true (the_thread v t).process p (not-false _ (or-snd-false (no_thread_live v t) _ not-thread))

  -- a queue is a target that is not bad
  pub queue-target : live_queue v (target_queue p t) ≡ true → bad_target v p t ≡ false
  unfolding live_queue
  queue-target e = not-true (bad_target v p t) e

  pub target-queue : bad_target v p t ≡ false → live_queue v (target_queue p t) ≡ true
  unfolding live_queue
  target-queue e = ap not e

-- a process's queue, and a thread's
module _ (v : View) (p : ℕ) (l : live_process v p ≡ true) where
  pub shared-live : live_queue v (target_queue p 0) ≡ true
  unfolding bad_target no_process_live
  shared-live = target-queue v p 0 (or-both (ap not l) refl)

  pub own-live : (t : ℕ) → live_thread v t ≡ true → (the_thread v t).process ≡ p → live_queue v (target_queue p t)
      ≡ true
  unfolding bad_target no_process_live no_thread_live
  own-live t k e =
      target-queue v p t
      (or-both (ap not l)
      (and_right (not (eqb t 0)) (or-both (ap not k) (ap not (eq-eqb (the_thread v t).process p e)))))
