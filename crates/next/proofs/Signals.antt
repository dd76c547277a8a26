-- The lowest signal that a thread can take, from what was read. Assumes nothing.
use Prim.Native.Nat.{ℕ}
use mathlib.Core.Path.{◌≡◌, refl, sym, ap, ap₂, ◌∙◌}
use mathlib.Core.Bool.{Bool, true, false, not, ◌&&◌}
use lib.Dec.{eqb}
use Rattle.lists.proofs.Bools.{and_left}
use Rattle.sigset.specs.declared.SigSet.{SigSet}
use Rattle.sigset.specs.Set.{has, set_of, union, without, lowest}
use Rattle.sigset.proofs.Laws.{has-without, lowest_of-none, lowest_of-cong}
use Rattle.rules.specs.Types.{Thread, Queue}
use Rattle.rules.specs.View.{View, process_queue, thread_queue, target_queue, live_thread, the_process, the_thread}
use Rattle.rules.specs.View.{pending_in}
use Rattle.rules.specs.View.{pending_for}
use Rattle.rules.specs.Store.{view}
use Rattle.rules.specs.Taking.{is_stopped, can_take_signal, next_signal}
use Rattle.sound.specs.Lent.{Lent, decoded, view_of}
use Rattle.view.specs.Named.{process_named, thread_named}
use Rattle.view.proofs.Live.{pending-union}
use Rattle.view.proofs.Live.{own_is, shared-is}

module _ (v : View) (th : Thread) where
  pub none-stopped : is_stopped v th ≡ true → 0 ≡ next_signal v th
  unfolding next_signal can_take_signal
  none-stopped e =
      sym
      (lowest_of-none (can_take_signal v th) (λ s g. and_left (pending_for v th s && not (has th.mask s)) (ap not e)))

  module _ (own shared : SigSet) (a : own ≡ set_of (pending_in v (thread_queue th)))
      (b : shared ≡ set_of (pending_in v (process_queue th.process))) where
    pub lowest-taken : is_stopped v th ≡ false → lowest (without (union own shared) th.mask) ≡ next_signal v th
    unfolding next_signal can_take_signal lowest
    lowest-taken e =
        lowest_of-cong (has (without (union own shared) th.mask)) (can_take_signal v th)
        (λ s g.
        has-without (union own shared) th.mask s g
        ∙ ap (λ (x : Bool). x && not (has th.mask s)) (pending-union v th own shared a b s g)
        ∙ sym (ap (λ (x : Bool). not x && (pending_for v th s && not (has th.mask s))) e))

module _ (l : Lent) (t p : ℕ) (o : p ≡ (thread_named l.threads t).process) (b : Bool)
    (s : b ≡ not (eqb (process_named l.processes p).stopped 0)) where
  stopped-is : is_stopped (view_of l) (the_thread (view_of l) t) ≡ b
  unfolding is_stopped the_process the_thread view decoded
  stopped-is = sym (s ∙ ap (λ (n : ℕ). not (eqb (process_named l.processes n).stopped 0)) o)

  mask_is : (thread_named l.threads t).mask ≡ (the_thread (view_of l) t).mask
  unfolding the_thread view decoded
  mask_is = refl

  pub signal-stopped : b ≡ true → 0 ≡ next_signal (view_of l) (the_thread (view_of l) t)
  signal-stopped e = none-stopped (view_of l) (the_thread (view_of l) t) (stopped-is ∙ e)

  module _ (live : live_thread (view_of l) t ≡ true) where
    pub signal-taken : b ≡ false → (own shared all mask free : SigSet) (r : ℕ)
        → own ≡ set_of (pending_in (view_of l) (target_queue p t))
        → shared ≡ set_of (pending_in (view_of l) (target_queue p 0)) → all ≡ union own shared
        → mask ≡ (thread_named l.threads t).mask
        → free ≡ without all mask → r ≡ lowest free → r ≡ next_signal (view_of l) (the_thread (view_of l) t)
    signal-taken e own shared all mask free r ho hs ha hm hf hr =
        hr ∙ ap lowest (hf ∙ ap₂ without ha (hm ∙ mask_is))
        ∙ lowest-taken (view_of l) (the_thread (view_of l) t) own shared
        (ho ∙ ap (λ (q : Queue). set_of (pending_in (view_of l) q)) (sym (own_is l t p o live)))
        (hs ∙ ap (λ (q : Queue). set_of (pending_in (view_of l) q)) (sym (shared-is l t p o)))
        (stopped-is ∙ e)
