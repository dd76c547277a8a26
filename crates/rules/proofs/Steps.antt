-- From one change to a call: what every change keeps, a call keeps. Assumes nothing.
use Prim.Native.Nat.{ℕ, zero, suc}
use mathlib.Core.Path.{◌≡◌, refl, ap}
use mathlib.Core.Bool.{Bool, true}
use mathlib.Core.List.{List, [], ◌∷◌}
use Rattle.lists.specs.Lists.{all}
use Rattle.lists.proofs.Bools.{and-fst, and-snd}
use Rattle.rules.specs.Types.{Call}
use Rattle.rules.specs.View.{Change}
use Rattle.rules.specs.Store.{Store, view, apply, apply_all}
use Rattle.rules.specs.Refusals.{refusal_of}
use Rattle.rules.specs.Calls.{changes, stages, run_stages, finish, step}

-- an accepted call makes its changes
pub accepted-step : (c : Call) (st : Store) → refusal_of st c ≡ 0 → (step c st).0 ≡ apply_all (changes (view st) c) st
unfolding step finish stages run_stages
accepted-step c st e = ap (λ (n : ℕ). (finish n c st).0) e

module _ (P : Store → Type 0) where
  finish-keeps : (n : ℕ) (c : Call) (st : Store) → (n ≡ 0 → P (apply_all (changes (view st) c) st)) → P st
      → P (finish n c st).0
  unfolding finish stages run_stages
  finish-keeps zero c st h p = h refl
  finish-keeps (suc n) c st h p = p

  -- a call keeps what its changes leave where it is accepted: a refused one leaves the store that it found
  pub call-keeps : (c : Call) (st : Store) → (refusal_of st c ≡ 0 → P (apply_all (changes (view st) c) st)) → P st
      → P (step c st).0
  unfolding step
  call-keeps c st h p = finish-keeps (refusal_of st c) c st h p

-- ok is a test of changes such that a change that passes it keeps P
module _ (P : Store → Type 0) (ok : Change → Bool)
    (kept : (ch : Change) (st : Store) → ok ch ≡ true → P st → P (apply ch st)) where
  pub changes-keep : (cs : List Change) (st : Store) → all ok cs ≡ true → P st → P (apply_all cs st)
  unfolding all apply_all
  changes-keep [] st h p = p
  changes-keep (c ∷ cs) st h p =
      changes-keep cs (apply c st) (and-snd (ok c) (all ok cs) h) (kept c st (and-fst (ok c) (all ok cs) h) p)

  -- the changes of a call on a store with P pass the test
  module _ (made : (c : Call) (st : Store) → P st → all ok (changes (view st) c) ≡ true) where
    pub step_keeps : (c : Call) (st : Store) → P st → P (step c st).0
    step_keeps c st p = call-keeps P c st (λ _. changes-keep (changes (view st) c) st (made c st p) p) p
