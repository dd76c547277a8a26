-- Flags of which only known bits are left are known flags. Assumes nothing.
use Prim.Native.Nat.{ℕ, ◌-◌, ◌/◌, ◌%◌, min}
use mathlib.Core.Path.{◌≡◌, refl, ◌∙◌}
use mathlib.Core.Bool.{true}
use native.Mathlib.Omega.{arith}
use native.Mathlib.Nat.{min-le_left}
use lib.Arith.{bin_ind}
use lib.Bits.{bit_and, and_step}
use borrow.Author.Tests.{eq-eqb}
use Rattle.limits.specs.Limits.{known_flags, sa_siginfo}
use Rattle.types.specs.declared.Action.{Action}
use Rattle.rules.specs.Sound.{flags_known}
use Rattle.rules.specs.Taking.{reset}

-- ---- the last bit and the others

and_low : (a b : ℕ) → bit_and a b % 2 ≡ min (a % 2) (b % 2)
and_low a b = let e = and_step a b in let m = min-le_left (a % 2) (b % 2) in omega arith

and_high : (a b : ℕ) → bit_and a b / 2 ≡ bit_and (a / 2) (b / 2)
and_high a b = let e = and_step a b in let m = min-le_left (a % 2) (b % 2) in omega arith

min_assoc : (a b c : ℕ) → min (min a b) c ≡ min a (min b c)
min_assoc a b c = omega arith

and_assoc : (a b c : ℕ) → bit_and (bit_and a b) c ≡ bit_and a (bit_and b c)
and_assoc a =
    bin_ind (λ (n : ℕ). (b c : ℕ) → bit_and (bit_and n b) c ≡ bit_and n (bit_and b c)) (λ b c. refl)
    (λ n ih b c. and_step (bit_and n b) c
    ∙ rw (
      and_high n b,
      and_low n b,
      and_step n (bit_and b c),
      and_high b c,
      and_low b c,
      ih (b / 2) (c / 2),
      min_assoc,
    ))
    a

-- ---- what is reset

pub reset-known : (a : Action) → flags_known (reset a) ≡ true
unfolding flags_known reset
reset-known a = eq-eqb _ _ (and_assoc a.flags (known_flags - sa_siginfo) known_flags)
