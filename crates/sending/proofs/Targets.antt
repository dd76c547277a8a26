-- Whom a send is aimed at, as code tests it. Assumes nothing.
use Prim.Native.Nat.{ℕ}
use mathlib.Core.Path.{◌≡◌}
use mathlib.Core.Bool.{true, false, not}
use lib.Dec.{eqb}
use borrow.Author.Tests.{eq-eqb, ne_eqb}
use Rattle.rules.specs.View.{View, live_process, live_thread, the_thread}
use Rattle.rules.specs.Refusals.{no_process_live, no_thread_live, bad_target}

module _ (v : View) (to t : ℕ) where
  pub no-process : live_process v to ≡ false → true ≡ bad_target v to t
  unfolding bad_target no_process_live
  no-process e = rw e

  module _ (l : live_process v to ≡ true) where
    pub process-itself : t ≡ 0 → false ≡ bad_target v to t
    unfolding bad_target no_process_live
    process-itself z = rw (l, eq-eqb t 0 z)

    module _ (n : t ≡ 0 → ⊥) where
      pub no-thread : live_thread v t ≡ false → true ≡ bad_target v to t
      unfolding bad_target no_process_live no_thread_live
      no-thread e = rw (l, ne_eqb t 0 n, e)

      pub whose-thread : (r : ℕ) → live_thread v t ≡ true → r ≡ (the_thread v t).process
          → not (eqb r to) ≡ bad_target v to t
      unfolding bad_target no_process_live no_thread_live
      whose-thread r e h = rw (l, ne_eqb t 0 n, e, h)
