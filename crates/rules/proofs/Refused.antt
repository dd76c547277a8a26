-- A refused call leaves the store as it was, and answers its errno alone. Assumes nothing.
use Prim.Native.Nat.{ℕ, zero, suc}
use mathlib.Core.Path.{◌≡◌, refl, sym, ap}
use mathlib.Core.Bool.{true, not}
use lib.Dec.{eqb, eqb-suc-zero}
use Rattle.lists.proofs.Bools.{clash}
use Rattle.types.specs.Answers.{Refused}
use Rattle.rules.specs.Types.{Call}
use Rattle.rules.specs.Store.{Store}
use Rattle.rules.specs.Refusals.{refusal_of}
use Rattle.rules.specs.Calls.{finish, step, is_refused}

finish-refused : (n : ℕ) (c : Call) (st : Store) → is_refused (finish n c st).1 ≡ not (eqb n 0)
unfolding finish is_refused
finish-refused zero c st = refl
finish-refused (suc n) c st = sym (ap not (eqb-suc-zero n))

-- a call is refused exactly where a row of its table applies
pub refused-by-table : (c : Call) (st : Store) → is_refused (step c st).1 ≡ not (eqb (refusal_of st c) 0)
unfolding step
refused-by-table c st = finish-refused (refusal_of st c) c st

finish-keeps : (n : ℕ) (c : Call) (st : Store) → is_refused (finish n c st).1 ≡ true → (finish n c st).0 ≡ st
unfolding finish is_refused
finish-keeps zero c st e = clash e refl
finish-keeps (suc n) c st e = refl

-- "Every refusal writes nothing"
pub refused-keeps : (c : Call) (st : Store) → is_refused (step c st).1 ≡ true → (step c st).0 ≡ st
unfolding step
refused-keeps c st e = finish-keeps (refusal_of st c) c st e

finish-number : (n : ℕ) (c : Call) (st : Store) → (n ≡ 0 → ⊥) → (finish n c st).1 ≡ Refused n
unfolding finish
finish-number zero c st h = absurd (h refl)
finish-number (suc n) c st h = refl

-- "and returns only its number"
pub refused-number : (c : Call) (st : Store) → (refusal_of st c ≡ 0 → ⊥) → (step c st).1 ≡ Refused (refusal_of st c)
unfolding step
refused-number c st h = finish-number (refusal_of st c) c st h
