-- The call of each number, and what is given. Assumes nothing.
use Prim.Native.Nat.{ℕ, zero, suc, ◌≤◌}
use mathlib.Core.Path.{◌≡◌, sym, ap}
use mathlib.Core.Bool.{Bool, true, not}
use mathlib.Core.Option.{none, some}
use native.Mathlib.Omega.{arith}
use lib.Dec.{ltb}
use borrow.Author.Tests.{eq-eqb, ne_eqb, ltb-false, not-true}
use Rattle.lists.proofs.Bools.{and-fst, and-snd, cond-true, cond-false}
use Rattle.limits.specs.Limits.{call_clear, call_sigreturn}
use Rattle.boundary.specs.declared.Arguments.{Arguments}
use Rattle.boundary.specs.Boundary.{where_given, is_call, numbered}

module _ {A : Type 0} (n : ℕ) (v : A) where
  pub none-given : n ≡ 0 → none ≡ where_given n v
  unfolding where_given
  none-given e = sym (cond-true none (some v) (eq-eqb n 0 e))

  pub one-given : (n ≡ 0 → ⊥) → some v ≡ where_given n v
  unfolding where_given
  one-given f = sym (cond-false none (some v) (ne_eqb n 0 f))

-- the call that stands at a number in the list
pub at-number : (n k : ℕ) (g : Arguments) → n ≡ k → numbered k g ≡ numbered n g
at-number n k g e = ap (λ (m : ℕ). numbered m g) (sym e)

pub call-bounds : (n : ℕ) → is_call n ≡ true → (call_clear ≤ n) × (n ≤ call_sigreturn)
unfolding is_call
call-bounds n e =
    let low : Bool = ltb n call_clear in
    let high : Bool = ltb call_sigreturn n in (
      ltb-false n call_clear (not-true low (and-fst (not low) (not high) e)),
      ltb-false call_sigreturn n (not-true high (and-snd (not low) (not high) e)),
    )

-- n is none of the first k numbers from 1 on
abbrev pub Passed : ℕ → ℕ → Type 0
Passed n zero = Unit {0}
Passed n (suc k) = Passed n k × (n ≡ suc k → ⊥)

pub past : (n k : ℕ) → Passed n k → 1 ≤ n → suc k ≤ n
past n zero p h = h
past n (suc k) p h =
    let l : suc k ≤ n = past n k p.0 h in
    omega (arith, l, p.1)
