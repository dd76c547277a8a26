-- The table of default outcomes, number by number, and the readings that bit us, for every mask and every action.
-- Assumes nothing.
use Prim.Native.Nat.{ℕ}
use mathlib.Core.Path.{◌≡◌, refl, ap, ap₂, ◌∙◌}
use mathlib.Core.Bool.{Bool, true, false, not, ◌&&◌, ◌||◌, cond}
use mathlib.Core.List.{[], ◌∷◌, ◌++◌, map}
use lib.Dec.{eqb}
use lib.ListN.{replicate}
use Rattle.limits.specs.Limits.{signals, sig_dfl, sig_block, sig_unblock, sa_nodefer, SIGKILL, SIGCHLD, SIGSTOP, SIGURG}
use Rattle.limits.specs.Limits.{SIGWINCH}
use Rattle.lists.specs.Lists.{All, range}
use Rattle.lists.proofs.Bools.{cond_map}
use Rattle.sigset.specs.declared.SigSet.{SigSet}
use Rattle.sigset.specs.Set.{Signal, has, union, without, of_signal, is_unmaskable, empty}
use Rattle.sigset.proofs.Laws.{has-empty, has_of, has-union, has-without, has-maskable}
use Rattle.types.specs.declared.Action.{Action}
use Rattle.rules.specs.Types.{Queue}
use Rattle.rules.specs.Signals.{ignores, stops, continues, ends, ignoring, stop_signal, outcome, ignored}
use Rattle.rules.specs.View.{View, action_of, the_process}
use Rattle.rules.specs.Sending.{dropping, generation}
use Rattle.rules.specs.Actions.{has_flag, new_mask}
use Rattle.rules.specs.Taking.{handler_mask}

-- ---- default outcomes

-- 17 ignores, 18 continues, 19 to 22 stop, 23 and 28 ignore, and all others end the process
pub outcomes :
    map outcome (range 1 signals)
    ≡ replicate 16 ends
    ++ (ignores ∷ continues ∷ (replicate 4 stops ++ (ignores ∷ (replicate 4 ends ++ (ignores ∷ replicate 36 ends)))))
unfolding range outcome ignoring stop_signal
outcomes = refl

module _ (v : View) (queued : Bool) (q : Queue) where
  abbrev Dropped : ℕ → Type 0
  Dropped s = (action_of (the_process v q.process) s).handler ≡ sig_dfl → generation v queued q s ≡ dropping

  dropped : (s : ℕ) → eqb s 0 ≡ false → eqb s SIGKILL ≡ false → eqb s SIGSTOP ≡ false → ignoring s ≡ true → Dropped s
  unfolding generation ignored
  dropped s z k t i h = rw (z, k, t, h, i)

  -- "CHLD at default: dropped", blocked or not, by either send; URG and WINCH too
  pub dropped-by-default : All Dropped (SIGCHLD ∷ SIGURG ∷ SIGWINCH ∷ [])
  unfolding ignoring
  dropped-by-default = (
    dropped SIGCHLD refl refl refl refl,
    (dropped SIGURG refl refl refl refl, (dropped SIGWINCH refl refl refl refl, tt)),
  )

-- ---- masks

-- way 0 adds the set, way 1 removes its members (and is no intersection), way 2 replaces
pub new-mask-has : (old : SigSet) (way : ℕ) (set : SigSet) (s : ℕ) → Signal s
    → has (new_mask old way set) s
    ≡ (cond (eqb way sig_block) (has old s || has set s)
    (cond (eqb way sig_unblock) (has old s && not (has set s)) (has set s)) && not (is_unmaskable s))
unfolding new_mask
new-mask-has old way set s h =
    has-maskable _ s h
    ∙ ap (λ (b : Bool). b && not (is_unmaskable s))
    (cond_map (λ (x : SigSet). has x s) (eqb way sig_block) (union old set) _
    ∙ ap₂ (λ (x y : Bool). cond (eqb way sig_block) x y) (has-union old set s h)
    (cond_map (λ (x : SigSet). has x s) (eqb way sig_unblock) (without old set) set
    ∙ ap (λ (x : Bool). cond (eqb way sig_unblock) x (has set s)) (has-without old set s h)))

-- the handler's mask has the signal unless NODEFER is set, whatever the other flags are: RESETHAND does not imply it
pub handler-mask-has : (old : SigSet) (a : Action) (signal s : ℕ) → Signal s
    → has (handler_mask old a signal) s
    ≡ (((has old s || has a.mask s) || cond (has_flag a sa_nodefer) false (eqb s signal)) && not (is_unmaskable s))
unfolding handler_mask
handler-mask-has old a signal s h =
    has-maskable _ s h
    ∙ ap (λ (b : Bool). b && not (is_unmaskable s))
    (has-union _ _ s h
    ∙ ap₂ (λ (x y : Bool). x || y) (has-union old a.mask s h)
    (cond_map (λ (x : SigSet). has x s) (has_flag a sa_nodefer) empty (of_signal signal)
    ∙ ap₂ (λ (x y : Bool). cond (has_flag a sa_nodefer) x y) (has-empty s) (has_of signal s h)))
