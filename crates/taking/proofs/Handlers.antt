-- A handler's start: its mask, then the reset of its action where it is reset. Assumes nothing.
use Prim.Native.Nat.{ℕ}
use mathlib.Core.Path.{◌≡◌, sym, ap, ◌∙◌}
use mathlib.Core.Bool.{true, false, not, cond}
use mathlib.Core.List.{[], ◌∷◌}
use lib.Bits.{bit_and}
use borrow.Author.Tests.{eq-eqb, ne_eqb}
use Rattle.limits.specs.Limits.{sa_nodefer}
use Rattle.lists.proofs.Bools.{cond-true, cond-false}
use Rattle.sigset.specs.declared.SigSet.{SigSet}
use Rattle.sigset.specs.Set.{empty, of_signal, union, maskable}
use Rattle.types.specs.declared.Action.{Action}
use Rattle.rules.specs.Types.{Thread}
use Rattle.rules.specs.View.{set_mask}
use Rattle.rules.specs.Actions.{has_flag, store_changes}
use Rattle.rules.specs.Taking.{handler_mask, resets, reset, reset_changes}
use Rattle.taking.specs.Takes.{handler_changes}

-- ---- the mask

module _ (old : SigSet) (a : Action) (s : ℕ) (both : SigSet) (b : both ≡ union old a.mask) where
  -- the set that is added to both, as the flag says
  with-added : (added : SigSet) → added ≡ cond (has_flag a sa_nodefer) empty (of_signal s) → (m : SigSet)
      → m ≡ maskable (union both added) → m ≡ handler_mask old a s
  unfolding handler_mask
  with-added added e m h =
      h ∙ ap (λ (x : SigSet). maskable (union x added)) b
      ∙ ap (λ (x : SigSet). maskable (union (union old a.mask) x)) e

  module _ (all m : SigSet) (h : m ≡ maskable all) where
    pub mask-bare : (bit_and a.flags sa_nodefer ≡ 0 → ⊥) → all ≡ union both empty → m ≡ handler_mask old a s
    unfolding has_flag
    mask-bare n u =
        with-added empty (sym (cond-true empty (of_signal s) (ap not (ne_eqb (bit_and a.flags sa_nodefer) 0 n)))) m
        (h ∙ ap maskable u)

    pub mask-blocking : bit_and a.flags sa_nodefer ≡ 0 → (one : SigSet) → one ≡ of_signal s → all ≡ union both one
        → m ≡ handler_mask old a s
    unfolding has_flag
    mask-blocking z one o u =
        with-added one (o ∙ sym (cond-false empty (of_signal s) (ap not (eq-eqb (bit_and a.flags sa_nodefer) 0 z)))) m
        (h ∙ ap maskable u)

-- ---- the changes

module _ (t : Thread) (a : Action) (s : ℕ) (m : SigSet) (h : m ≡ handler_mask t.mask a s) where
  -- the mask as the code has it
  pub starts : handler_changes t a s ≡ set_mask t.id m ∷ reset_changes t.process s a
  unfolding handler_changes
  starts = ap (λ (x : SigSet). set_mask t.id x ∷ reset_changes t.process s a) (sym h)

  pub keeping : resets a s ≡ false → handler_changes t a s ≡ set_mask t.id m ∷ []
  unfolding reset_changes
  keeping r = starts ∙ ap (λ l. set_mask t.id m ∷ l) (cond-false (store_changes t.process s (reset a)) [] r)

  pub resetting : resets a s ≡ true → (n : Action) → n ≡ reset a
      → handler_changes t a s ≡ set_mask t.id m ∷ store_changes t.process s n
  unfolding reset_changes
  resetting r n g =
      starts
      ∙ ap (λ l. set_mask t.id m ∷ l)
      (cond-true (store_changes t.process s (reset a)) [] r ∙ ap (store_changes t.process s) (sym g))
