-- A word or a byte that is zero.
use Rattle.std.specs.Prelude.{◌≡◌, ℕ, Bool, true, eqb, refl}

unfoldable pub is_nought : ℕ → Bool
is_nought w = eqb w 0

pub zero_is_nought : is_nought 0 ≡ true
unfolding is_nought
zero_is_nought = refl
