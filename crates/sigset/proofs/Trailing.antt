-- Trailing zeros, and that the lowest member of a set stands one above them. Assumes nothing.
use mathlib.Core.Path.{◌≡◌, refl, sym, ap, ◌∙◌}
use mathlib.Core.Bool.{false}
use Prim.Native.Nat.{ℕ, zero, suc, ◌+◌, ◌/◌, ◌%◌, ◌^◌, ◌≤◌, ◌<◌}
use native.Mathlib.Nat.{pow-suc, not-suc-le-zero, le_of_suc-le-suc}
use native.Mathlib.Numerals.{add-one}
use native.Mathlib.Omega.{arith}
use lib.Count.{count_trailing_zeros, under}
use lib.Dec.{eqb}
use Rattle.limits.specs.Limits.{signals}
use Rattle.sigset.specs.declared.SigSet.{SigSet}
use Rattle.sigset.specs.Set.{bits, has, lowest}
use Rattle.sigset.proofs.Laws.{shr-half, has-empty, lowest-is, lowest-none}

-- a number that is not 0 has a digit above its trailing zeros
trailing_lt : (d n : ℕ) → 1 ≤ n → n < 2 ^ d → count_trailing_zeros d n < d
unfolding count_trailing_zeros
trailing_lt zero n h l = absurd (omega arith)
trailing_lt (suc d) n h l = go (n % 2) refl (λ m g. trailing_lt d (n / 2) m g)
  where
    go : (r : ℕ) → n % 2 ≡ r → (1 ≤ n / 2 → n / 2 < 2 ^ d → count_trailing_zeros d (n / 2) < d)
        → under r (count_trailing_zeros d (n / 2)) < suc d
    go zero e ih = let p = pow-suc 2 d in omega (arith, ih (omega arith) (omega arith))
    go (suc r) e ih = omega arith

-- that digit is set
trailing-digit : (d n : ℕ) → 1 ≤ n → n < 2 ^ d → n / 2 ^ count_trailing_zeros d n % 2 ≡ 1
unfolding count_trailing_zeros
trailing-digit zero n h l = absurd (omega arith)
trailing-digit (suc d) n h l = go (n % 2) refl (λ m g. trailing-digit d (n / 2) m g)
  where
    go : (r : ℕ) → n % 2 ≡ r → (1 ≤ n / 2 → n / 2 < 2 ^ d → n / 2 / 2 ^ count_trailing_zeros d (n / 2) % 2 ≡ 1)
        → n / 2 ^ under r (count_trailing_zeros d (n / 2)) % 2 ≡ 1
    go zero e ih =
        let p = pow-suc 2 d in
        ap (λ (x : ℕ). x % 2) (shr-half n (count_trailing_zeros d (n / 2))) ∙ ih (omega arith) (omega arith)
    go (suc r) e ih = omega arith

-- and none below it is
trailing_below : (d n k : ℕ) → k < count_trailing_zeros d n → n / 2 ^ k % 2 ≡ 0
unfolding count_trailing_zeros
trailing_below zero n k h = absurd (not-suc-le-zero h)
trailing_below (suc d) n k h = go (n % 2) refl k h (λ j g. trailing_below d (n / 2) j g)
  where
    go : (r : ℕ) → n % 2 ≡ r → (k : ℕ) → k < under r (count_trailing_zeros d (n / 2))
        → ((j : ℕ) → j < count_trailing_zeros d (n / 2) → n / 2 / 2 ^ j % 2 ≡ 0) → n / 2 ^ k % 2 ≡ 0
    go zero e zero g ih = omega arith
    go zero e (suc k) g ih = ap (λ (x : ℕ). x % 2) (shr-half n k) ∙ ih k (omega arith)
    go (suc r) e k g ih = absurd (not-suc-le-zero g)

-- `trailing_zeros(a) + 1`
pub lowest-trailing : (a : SigSet) → 1 ≤ a.0 → a.0 < 2 ^ signals → lowest a ≡ count_trailing_zeros signals a.0 + 1
unfolding has
lowest-trailing a h l =
    lowest-is a (suc (count_trailing_zeros signals a.0))
    (record { low = omega arith; high = trailing_lt signals a.0 h l })
    (ap (λ (d : ℕ). eqb d 1) (trailing-digit signals a.0 h l)) below
    ∙ sym (add-one (count_trailing_zeros signals a.0))
  where
    below : (s : ℕ) → 1 ≤ s → s < suc (count_trailing_zeros signals a.0) → has a s ≡ false
    below zero m g = refl
    below (suc k) m g = ap (λ (d : ℕ). eqb d 1) (trailing_below signals a.0 k (le_of_suc-le-suc g))

-- the empty set has none
pub lowest-empty : (a : SigSet) → a.0 ≡ 0 → lowest a ≡ 0
lowest-empty a e = lowest-none a (λ s h. ap (λ (x : SigSet). has x s) (ap bits e) ∙ has-empty s)
