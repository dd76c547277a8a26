-- What a change that fits says of the store: who is live, which signal is meant, that there is room. Assumes nothing.
use Prim.Native.Nat.{ℕ, ◌<◌}
use mathlib.Core.Path.{◌≡◌}
use mathlib.Core.Bool.{true}
use lib.Dec.{eqb, leb}
use borrow.Author.Tests.{ltb-true}
use Rattle.limits.specs.Limits.{record_limit, si_queue}
use Rattle.lists.specs.Lists.{any}
use Rattle.lists.proofs.Bools.{and-fst, and-snd}
use Rattle.sigset.specs.declared.SigSet.{SigSet}
use Rattle.sigset.specs.Set.{Signal}
use Rattle.types.specs.declared.Action.{Action}
use Rattle.types.specs.declared.Siginfo.{Siginfo}
use Rattle.rules.specs.Types.{Queue}
use Rattle.rules.specs.View.{View, remove_process, remove_thread, set_stopped, set_action, set_mask, set_mark}
use Rattle.rules.specs.View.{clear_mark}
use Rattle.rules.specs.View.{append, discard, queue_of, live_process, live_thread, the_thread}
use Rattle.rules.specs.Sound.{unmasked, nameable}
use Rattle.rules.specs.Adding.{other_thread}
use Rattle.rules.specs.Fitting.{live_queue, admits, fits}
use Rattle.rules.proofs.Signals.{nameable-signal}

module _ (v : View) where
  pub stopped-live : (n b : ℕ) → fits v (set_stopped n b) ≡ true → live_process v n ≡ true
  unfolding fits
  stopped-live n b f = and-fst (live_process v n) (leb b 1) f

  module _ (n s : ℕ) (a : Action) (f : fits v (set_action n s a) ≡ true) where
    pub action-live : live_process v n ≡ true
    unfolding fits
    action-live = and-fst (live_process v n) _ f

    pub action-signal : Signal s
    unfolding fits
    action-signal = nameable-signal s (and-fst (nameable s) _ (and-snd (live_process v n) _ f))

  pub mask-live : (n : ℕ) (m : SigSet) → fits v (set_mask n m) ≡ true → live_thread v n ≡ true
  unfolding fits
  mask-live n m f = and-fst (live_thread v n) (unmasked m) f

  pub discard-live : (n : ℕ) (signals : SigSet) → fits v (discard n signals) ≡ true → live_process v n ≡ true
  unfolding fits
  discard-live n signals f = f

  pub ended-live : (n : ℕ) → fits v (remove_process n) ≡ true → live_process v n ≡ true
  unfolding fits
  ended-live n f = f

  pub removed-live : (n : ℕ) → fits v (remove_thread n) ≡ true → live_thread v n ≡ true
  unfolding fits
  removed-live n f = and-fst (live_thread v n) (any (other_thread v (the_thread v n)) v.threads) f

  -- ---- queues

  pub mark-queue : (q : Queue) (s : ℕ) → fits v (set_mark q s) ≡ true → live_queue v q ≡ true
  unfolding fits admits
  mark-queue q s f = and-fst (live_queue v q) _ f

  pub unmark-queue : (q : Queue) (s : ℕ) → fits v (clear_mark q s) ≡ true → live_queue v q ≡ true
  unfolding fits
  unmark-queue q s f = f

  module _ (r : Siginfo) (f : fits v (append r) ≡ true) where
    pub append-queue : live_queue v (queue_of r) ≡ true
    unfolding fits admits
    append-queue =
        and-fst (live_queue v (queue_of r)) _
        (and-fst (admits v (queue_of r) r.signal) _ (and-snd (eqb r.code si_queue) _ f))

    pub append-below : v.queued r.process < record_limit
    unfolding fits
    append-below =
        ltb-true (v.queued r.process) record_limit
        (and-snd (admits v (queue_of r) r.signal) _ (and-snd (eqb r.code si_queue) _ f))
