-- What is next is told as it is. Assumes nothing.
use mathlib.Core.Path.{◌≡◌, refl, ap, ◌∙◌}
use Rattle.std.specs.Prelude.{Some, None, Option as Maybe}
use Rattle.types.specs.declared.Pending.{Pending}
use Rattle.types.specs.declared.Pending.TheVariants.{Mark, Record}
use Rattle.rules.specs.Types.{Next, told}
use Rattle.answers.specs.Answers.{next_from, next_of}

told_of : (x : Maybe Pending) → x ≡ told (next_of x)
unfolding told next_from next_of
told_of None = refl
told_of (Some (Mark process thread s)) = refl
told_of (Some (Record r)) = refl

pub told-next : (x : Maybe Pending) {n : Next} → next_of x ≡ n → x ≡ told n
told-next x e = told_of x ∙ ap told e
