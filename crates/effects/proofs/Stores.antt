-- Storing an action is one change, or two where the action ignores the signal. Assumes nothing.
use Prim.Native.Nat.{ℕ}
use mathlib.Core.Path.{◌≡◌, sym, ap, ◌∙◌}
use mathlib.Core.Bool.{true, false}
use mathlib.Core.List.{[], ◌∷◌}
use Rattle.lists.proofs.Bools.{cond-true, cond-false}
use Rattle.sigset.specs.declared.SigSet.{SigSet}
use Rattle.sigset.specs.Set.{of_signal}
use Rattle.types.specs.declared.Action.{Action}
use Rattle.rules.specs.Signals.{ignored}
use Rattle.rules.specs.View.{set_action, discard}
use Rattle.rules.specs.Actions.{store_changes}

module _ (p s : ℕ) (a : Action) where
  stores-ignored : ignored a s ≡ true → store_changes p s a ≡ discard p (of_signal s) ∷ set_action p s a ∷ []
  unfolding store_changes
  stores-ignored i = cond-true _ _ i

  pub stores-not-ignored : ignored a s ≡ false → store_changes p s a ≡ set_action p s a ∷ []
  unfolding store_changes
  stores-not-ignored i = cond-false _ _ i

  -- the signal's set as the code has it
  pub stores_both : ignored a s ≡ true → (g : SigSet) → g ≡ of_signal s
      → store_changes p s a ≡ discard p g ∷ set_action p s a ∷ []
  stores_both i g o = stores-ignored i ∙ ap (λ (x : SigSet). discard p x ∷ set_action p s a ∷ []) (sym o)
