-- "Actions and masks".
use Rattle.std.specs.Prelude.{ℕ, Bool, not, ◌&&◌, cond, List, [], ◌∷◌, eqb}
use Rattle.std.proofs.Math.Option.{Option, some, none}
use Rattle.std.specs.Int.Bits.{bit_and}
use Rattle.limits.specs.Limits.{sig_block, sig_unblock}
use Rattle.sigset.specs.declared.SigSet.{SigSet}
use Rattle.sigset.specs.Set.{has, set_of, union, without, maskable, of_signal}
use Rattle.types.specs.declared.Action.{Action}
use Rattle.rules.specs.Types.{Thread}
use Rattle.rules.specs.Signals.{ignored}
use Rattle.rules.specs.View.{View, Change, set_action, set_mask, discard, the_thread, pending_for}

-- a flag of the action is set
unfoldable pub has_flag : Action → ℕ → Bool
has_flag a flag = not (eqb (bit_and a.flags flag) 0)

-- 9 and 19 "are removed from the stored mask"
unfoldable pub stored : Action → Action
stored a = record { handler = a.handler; flags = a.flags; mask = maskable a.mask }

-- "Storing ignore, or default for an ignoring signal, discards that signal from all queues of
-- the process (POSIX 2.4.3)."
unfoldable pub store_changes : (process signal : ℕ) → Action → List Change
store_changes p s a = cond (ignored a s) (discard p (of_signal s) ∷ set_action p s a ∷ []) (set_action p s a ∷ [])

-- "without a new one nothing changes"
unfoldable pub action_changes : (process signal : ℕ) → Option Action → List Change
action_changes p s none = []
action_changes p s (some a) = store_changes p s (stored a)

-- "way 0 adds the set, 1 removes its members, 2 replaces"; "9 and 19 are left out silently"
unfoldable pub new_mask : (old : SigSet) (way : ℕ) (set : SigSet) → SigSet
new_mask old way set =
    maskable (cond (eqb way sig_block) (union old set) (cond (eqb way sig_unblock) (without old set) set))

module _ (v : View) where
  -- "Without a set the way is not looked at."
  unfoldable pub mask_changes : (thread way : ℕ) → Option SigSet → List Change
  mask_changes t way none = []
  mask_changes t way (some set) = set_mask t (new_mask (the_thread v t).mask way set) ∷ []

  -- "The pending set of a thread is its own and its process's pending signals that it blocks."
  unfoldable pub blocked_pending : Thread → SigSet
  blocked_pending t = set_of (λ s. has t.mask s && pending_for v t s)
