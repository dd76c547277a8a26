-- `is_bad_way` meets its contract. Assumes nothing.
use Rattle.std.proofs.Common.{◌≡◌, ℕ, refl, ap, ◌∙◌, ◌&&◌, ltb}
use Rattle.std.specs.Prelude.{Option, Some, None, is_some, Bool}
use Rattle.limits.specs.Limits.{sig_setmask}
use Rattle.sigset.specs.declared.SigSet.{SigSet}
use Rattle.types.specs.Answers.{given}
use Rattle.rules.specs.Refusals.{bad_way}
use Rattle.masks.proofs.is_bad_way.Goals as goal

by-set : (way : ℕ) (set : Option SigSet) → (is_some set && ltb sig_setmask way) ≡ bad_way way (given set)
unfolding bad_way
by-set way None = refl
by-set way (Some s) = refl

pub returns : goal.returns
returns c =
    ap (λ (b : Bool). b && ltb sig_setmask c.args.way) c.is_some.ensures ∙ by-set c.args.way c.args.set
