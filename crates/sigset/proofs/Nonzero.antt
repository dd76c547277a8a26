-- A number as an option, 0 being none. Assumes nothing.
use Rattle.std.proofs.Common.{ℕ, zero, suc, ◌≡◌, ◌≤◌, refl, sym, ap, not, arith}
use Rattle.std.specs.Prelude.{Option, Some, None, is_some, unwrap_or, eqb}
use borrow.Author.Tests.{ne_eqb}
use Rattle.sigset.specs.Set.{nonzero}

pub nonzero-none : (n : ℕ) → nonzero n ≡ None → n ≡ 0
nonzero-none zero h = refl
nonzero-none (suc n) h = cc

pub nonzero-some : (n s : ℕ) → nonzero n ≡ Some s → s ≡ n
nonzero-some zero s h = cc
nonzero-some (suc n) s h = cc

pub some-pos : (n s : ℕ) → nonzero n ≡ Some s → s ≡ 0 → ⊥
some-pos zero s h e = let x : None ≡ Some s = h in cc
some-pos (suc n) s h e = cc

pub nonzero-pos : (n : ℕ) → 1 ≤ n → nonzero n ≡ Some n
nonzero-pos zero h = absurd (omega (arith, h))
nonzero-pos (suc n) h = refl

pub nonzero-is_some : (n : ℕ) → is_some (nonzero n) ≡ not (eqb n 0)
nonzero-is_some zero = refl
nonzero-is_some (suc n) = sym (ap not (ne_eqb (suc n) 0 (λ z. cc z)))

-- as the host has it
pub nonzero-or : (n : ℕ) → unwrap_or (nonzero n) 0 ≡ n
nonzero-or zero = refl
nonzero-or (suc n) = refl
