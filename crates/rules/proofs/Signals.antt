-- A number that passes a test of signals is a signal, one that can be named is not 9 or 19. Assumes nothing.
use Prim.Native.Nat.{ℕ, ◌≤◌}
use mathlib.Core.Path.{◌≡◌}
use mathlib.Core.Bool.{true, false}
use native.Mathlib.Omega.{arith}
use lib.Dec.{leb}
use borrow.Author.Tests.{leb-true, le-leb, not-true}
use Rattle.limits.specs.Limits.{signals, last_standard}
use Rattle.lists.proofs.Bools.{and-fst, and-snd, and_both}
use Rattle.sigset.specs.Set.{Signal, is_unmaskable}
use Rattle.rules.specs.Signals.{is_signal, standard}
use Rattle.rules.specs.Sound.{nameable}

module _ (s : ℕ) where
  pub is-signal : is_signal s ≡ true → Signal s
  unfolding is_signal
  is-signal e =
      record {
        low = leb-true 1 s (and-fst (leb 1 s) (leb s signals) e);
        high = leb-true s signals (and-snd (leb 1 s) (leb s signals) e);
      }

  pub signal-is : Signal s → is_signal s ≡ true
  unfolding is_signal
  signal-is h = and_both (le-leb 1 s h.low) (le-leb s signals h.high)

  pub standard-is : standard s ≡ true → is_signal s ≡ true
  unfolding standard is_signal
  standard-is e =
      let h : s ≤ last_standard = leb-true s last_standard (and-snd (leb 1 s) (leb s last_standard) e) in
      and_both (and-fst (leb 1 s) (leb s last_standard) e) (le-leb s signals (omega arith))

  pub standard-signal : standard s ≡ true → Signal s
  standard-signal e = is-signal (standard-is e)

  pub nameable-signal : nameable s ≡ true → Signal s
  unfolding nameable
  nameable-signal e = is-signal (and-fst (is_signal s) _ e)

  pub nameable-maskable : nameable s ≡ true → is_unmaskable s ≡ false
  unfolding nameable
  nameable-maskable e = not-true (is_unmaskable s) (and-snd (is_signal s) _ e)
