-- An argument that is left out. Assumes nothing.
use Rattle.std.proofs.Common.{◌≡◌, refl}
use Rattle.std.specs.Prelude.{Option, Some, None}
use Rattle.std.proofs.Math.Option.{none}
use Rattle.types.specs.Answers.{given}

pub given-none : {A : Type 0} (o : Option A) → ((a : A) → o ≡ Some a → ⊥) → given o ≡ none
given-none None h = refl
given-none (Some a) h = absurd (h a refl)
