-- How sigpending ends: refused, or with the signals that the thread blocks and that are pending for it.
-- Assumes nothing.
use Prim.Native.Nat.{ℕ}
use mathlib.Core.Path.{◌≡◌, refl, sym, ap, ap₂, ◌∙◌}
use mathlib.Core.Bool.{Bool, true, ◌&&◌}
use mathlib.Core.List.{[], ◌∷◌}
use Rattle.sigset.specs.declared.SigSet.{SigSet}
use Rattle.sigset.specs.Set.{has, set_of, union, intersect}
use Rattle.sigset.proofs.Laws.{set-cong}
use Rattle.types.specs.declared.Reply.TheVariants.{PendingSet}
use Rattle.types.specs.Answers.{Accepted}
use Rattle.rules.specs.Types.{Thread, sigpending}
use Rattle.rules.specs.View.{target_queue, live_thread, the_thread, pending_in, pending_for}
use Rattle.rules.specs.Actions.{blocked_pending}
use Rattle.rules.specs.Refusals.{no_thread_live, rows, is_clear, esrch}
use Rattle.rules.specs.Calls.{reply}
use Rattle.sound.specs.Lent.{Lent, view_of}
use Rattle.answers.specs.Step.{refusal_on, rows_on, step_on}
use Rattle.answers.proofs.Endings.{rows-given, answer-after}
use Rattle.view.specs.Named.{thread_named}
use Rattle.view.proofs.Live.{thread-named, pending-both}

-- ---- the set

module _ (l : Lent) (t : ℕ) (live : live_thread (view_of l) t ≡ true) where
  pub blocked-read : (p : ℕ) → p ≡ (thread_named l.threads t).process → (own shared both mask : SigSet)
      → own ≡ set_of (pending_in (view_of l) (target_queue p t)) → shared
      ≡ set_of (pending_in (view_of l) (target_queue p 0))
      → both ≡ union own shared → mask ≡ (thread_named l.threads t).mask
      → intersect mask both ≡ blocked_pending (view_of l) (the_thread (view_of l) t)
  unfolding intersect blocked_pending
  blocked-read p o own shared both mask h k b m =
      set-cong (λ s. has mask s && has both s)
      (λ s. has (the_thread (view_of l) t).mask s && pending_for (view_of l) (the_thread (view_of l) t) s)
      (λ s g.
      ap₂ (λ (x y : Bool). x && y)
      (ap (λ (x : SigSet). has x s) (m ∙ ap (λ (x : Thread). x.mask) (thread-named l t)))
      (ap (λ (x : SigSet). has x s) b ∙ pending-both l t p o live own shared h k s g))

-- ---- the call

module _ (l : Lent) (t n : ℕ) (h : n ≡ rows_on (esrch (no_thread_live (view_of l) t) ∷ []) l) where
  pub pending-refusal : n ≡ refusal_on (sigpending t) l
  unfolding rows is_clear
  pending-refusal = h ∙ sym (rows-given (sigpending t) l refl)

  pub pending-answered : n ≡ 0 → (m : SigSet) → m ≡ blocked_pending (view_of l) (the_thread (view_of l) t)
      → Accepted (PendingSet m) ≡ (step_on (sigpending t) l).1
  unfolding reply
  pending-answered z m b = answer-after (sigpending t) l (sym pending-refusal ∙ z) (PendingSet m) (ap PendingSet b)
