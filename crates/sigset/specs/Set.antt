-- Signal sets, by membership. Document 01, "Signals and sets": a set is 64 bits; signal s is bit s-1.
-- Every definition computes on numerals.
use Rattle.std.specs.Prelude.{Bool, false, not, ◌&&◌, ◌||◌, cond, ℕ, zero, suc, ◌+◌, ◌*◌, ◌/◌, ◌%◌, ◌^◌, ◌≤◌, eqb}
use Rattle.std.specs.Prelude.{Option, Some, None}
use Rattle.limits.specs.Limits.{signals, SIGKILL, SIGSTOP}
use Rattle.sigset.specs.declared.SigSet.{SigSet}

-- "Numbers are 1 to 64"
pub record Signal (s : ℕ) : Type 0 where
  pub low : 1 ≤ s
  pub high : s ≤ signals

-- the set with these bits
abbrev pub bits : ℕ → SigSet
bits n = record { 0 = n }

-- signal s is a member; 0 is no signal
unfoldable pub has : SigSet → ℕ → Bool
has a zero = false
has a (suc k) = eqb (a.0 / 2 ^ k % 2) 1

-- 2 ^ (s - 1) for each s from 1 to n that passes the test, added up
unfoldable pub sum_of : (ℕ → Bool) → ℕ → ℕ
sum_of p zero = 0
sum_of p (suc k) = sum_of p k + cond (p (suc k)) 1 0 * 2 ^ k

-- the set of the signals that pass the test
unfoldable pub set_of : (ℕ → Bool) → SigSet
set_of p = bits (sum_of p signals)

abbrev pub empty : SigSet
empty = bits 0

-- the set that has s alone; empty where s is no signal
unfoldable pub of_signal : ℕ → SigSet
of_signal s = set_of (λ t. eqb t s)

unfoldable pub union : SigSet → SigSet → SigSet
union a b = set_of (λ s. has a s || has b s)

-- the members of a that are not in b
unfoldable pub without : SigSet → SigSet → SigSet
without a b = set_of (λ s. has a s && not (has b s))

unfoldable pub intersect : SigSet → SigSet → SigSet
intersect a b = set_of (λ s. has a s && has b s)

-- "the unmaskable pair"
abbrev pub is_unmaskable : ℕ → Bool
is_unmaskable s = eqb s SIGKILL || eqb s SIGSTOP

unfoldable pub unmaskable : SigSet
unmaskable = set_of is_unmaskable

-- the set without 9 and 19
unfoldable pub maskable : SigSet → SigSet
maskable a = without a unmaskable

-- a where it is not 0, else b
abbrev pub or_else : ℕ → ℕ → ℕ
or_else zero b = b
or_else (suc a) b = suc a

-- the lowest number from 1 to n that passes the test, or 0
unfoldable pub lowest_in : (ℕ → Bool) → ℕ → ℕ
lowest_in p zero = 0
lowest_in p (suc k) = or_else (lowest_in p k) (cond (p (suc k)) (suc k) 0)

-- the lowest signal that passes the test, or 0
unfoldable pub lowest_of : (ℕ → Bool) → ℕ
lowest_of p = lowest_in p signals

-- the lowest member, or 0
unfoldable pub lowest : SigSet → ℕ
lowest a = lowest_of (has a)

-- a number as an option: 0 is none
abbrev pub nonzero : ℕ → Option ℕ
nonzero zero = None
nonzero (suc n) = Some (suc n)
