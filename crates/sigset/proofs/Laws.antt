-- The laws of signal sets, each for any signal number. Assumes nothing.
use mathlib.Core.Path.{◌≡◌, refl, sym, ap, ap₂, ◌∙◌, subst}
use mathlib.Core.Logic.{◌⊎◌, inl, inr, ⊎_elim}
use mathlib.Core.Bool.{Bool, true, false, not, ◌&&◌, ◌||◌, cond, true≢false, or_self, or_comm, and-false}
use Prim.Native.Nat.{ℕ, zero, suc, ◌+◌, ◌-◌, ◌*◌, ◌/◌, ◌%◌, ◌^◌, ◌≤◌, ◌<◌}
use native.Mathlib.Nat.{pow-suc, mul_assoc, add-mul-div_right, add-mul-mod_self_right, mod-eq_of_lt, mod-lt, add_comm}
use native.Mathlib.Nat.{mod-one, not-suc-le-zero, eq-or-lt_of_le, le_of_suc-le-suc, zero-div, zero-mod, div-eq_of_lt}
use native.Mathlib.Nat.{lt_of_lt_of_le}
use native.Mathlib.Numerals.{one-add}
use native.Mathlib.Decide.{dec_le}
use native.Mathlib.Omega.{arith}
use lib.Dec.{eqb}
use lib.Pow.{pow_pos, pow_mono, pow-add, high, shr-shr, mod-pow-add}
use lib.Bits.{bit_and, bit_or, or_shr, or_mod, or_lt, and_shr, and_mod, and_lt}
use borrow.Author.Tests.{eq-eqb, ne_eqb, eqb-true}
use Rattle.limits.specs.Limits.{signals, SIGKILL, SIGSTOP}
use Rattle.sigset.specs.declared.SigSet.{SigSet}
use Rattle.sigset.specs.Set.{Signal, bits, has, sum_of, set_of, empty, of_signal, union, without, intersect}
use Rattle.sigset.specs.Set.{is_unmaskable, unmaskable, maskable, or_else, lowest_in, lowest_of, lowest}

-- ---- the sum of the members

bit-lt : (b : Bool) → cond b 1 0 < 2
bit-lt true = omega arith
bit-lt false = omega arith

bit-eqb : (b : Bool) → eqb (cond b 1 0) 1 ≡ b
bit-eqb true = refl
bit-eqb false = refl

digit-bit : (d : ℕ) → d < 2 → d ≡ cond (eqb d 1) 1 0
digit-bit zero h = refl
digit-bit (suc zero) h = refl
digit-bit (suc (suc d)) h = absurd (not-suc-le-zero (le_of_suc-le-suc (le_of_suc-le-suc h)))

sum_lt : (p : ℕ → Bool) (n : ℕ) → sum_of p n < 2 ^ n
unfolding sum_of
sum_lt p zero = omega arith
sum_lt p (suc k) = rw (pow-suc 2 k) (go (p (suc k)) (sum_lt p k))
  where
    go : (b : Bool) → sum_of p k < 2 ^ k → sum_of p k + cond b 1 0 * 2 ^ k < 2 ^ k * 2
    go true h = omega arith
    go false h = omega arith

-- the digit at i, for i = k and i < k
top : (x k b : ℕ) → x < 2 ^ k → b < 2 → (x + b * 2 ^ k) / 2 ^ k % 2 ≡ b
top x k b hx hb =
    ap (λ (y : ℕ). y / 2 ^ k % 2) (add_comm x (b * 2 ^ k)) ∙ ap (λ (y : ℕ). y % 2) (high b k hx) ∙ mod-eq_of_lt hb

under_top : (x b i d : ℕ) → (x + b * 2 ^ (suc d + i)) / 2 ^ i % 2 ≡ x / 2 ^ i % 2
under_top x b i d =
    ap (λ (y : ℕ). (x + b * y) / 2 ^ i % 2) (pow-add 2 (suc d) i)
    ∙ ap (λ (y : ℕ). (x + y) / 2 ^ i % 2) (sym (mul_assoc b (2 ^ suc d) (2 ^ i)))
    ∙ ap (λ (y : ℕ). y % 2) (add-mul-div_right x (b * 2 ^ suc d) (pow_pos i))
    ∙ ap (λ (y : ℕ). (x / 2 ^ i + b * y) % 2) (pow-suc 2 d)
    ∙ ap (λ (y : ℕ). (x / 2 ^ i + y) % 2) (sym (mul_assoc b (2 ^ d) 2))
    ∙ add-mul-mod_self_right (x / 2 ^ i) (b * 2 ^ d) 2

sum-digit : (p : ℕ → Bool) (n i : ℕ) → i < n → sum_of p n / 2 ^ i % 2 ≡ cond (p (suc i)) 1 0
unfolding sum_of
sum-digit p zero i h = absurd (not-suc-le-zero h)
sum-digit p (suc k) i h = ⊎_elim last (λ g. before g (sum-digit p k i g)) (eq-or-lt_of_le (le_of_suc-le-suc h))
  where
    last : i ≡ k → sum_of p (suc k) / 2 ^ i % 2 ≡ cond (p (suc i)) 1 0
    last e = rw e (top (sum_of p k) k (cond (p (suc k)) 1 0) (sum_lt p k) (bit-lt (p (suc k))))

    before : i < k → sum_of p k / 2 ^ i % 2 ≡ cond (p (suc i)) 1 0 → sum_of p (suc k) / 2 ^ i % 2 ≡ cond (p (suc i)) 1 0
    before g ih =
        let e : k ≡ suc (k - suc i) + i = omega arith in
        ap (λ (j : ℕ). (sum_of p k + cond (p (suc k)) 1 0 * 2 ^ j) / 2 ^ i % 2) e
        ∙ under_top (sum_of p k) (cond (p (suc k)) 1 0) i (k - suc i) ∙ ih

sum-cong : (p q : ℕ → Bool) (n : ℕ) → ((s : ℕ) → 1 ≤ s → s ≤ n → p s ≡ q s) → sum_of p n ≡ sum_of q n
unfolding sum_of
sum-cong p q zero h = refl
sum-cong p q (suc k) h =
    ap₂ (λ (x : ℕ) (b : Bool). x + cond b 1 0 * 2 ^ k) (sum-cong p q k (λ s l g. h s l (omega arith)))
    (h (suc k) (omega arith) (omega arith))

sum-has : (a : SigSet) (n : ℕ) → sum_of (has a) n ≡ a.0 % 2 ^ n
unfolding sum_of has
sum-has a zero = sym (mod-one a.0)
sum-has a (suc k) =
    ap₂ (λ (x d : ℕ). x + d * 2 ^ k) (sum-has a k)
    (sym (digit-bit (a.0 / 2 ^ k % 2) (mod-lt (a.0 / 2 ^ k) (omega arith))))
    ∙ add_comm (a.0 % 2 ^ k) (a.0 / 2 ^ k % 2 * 2 ^ k) ∙ sym (mod-pow-add a.0 1 k)
    ∙ ap (λ (j : ℕ). a.0 % 2 ^ j) (one-add k)

-- ---- membership decides a set

-- the one law: a set has what its test says
pub has-set : (p : ℕ → Bool) (s : ℕ) → Signal s → has (set_of p) s ≡ p s
unfolding set_of has
has-set p zero h = absurd (not-suc-le-zero h.low)
has-set p (suc i) h = ap (λ (d : ℕ). eqb d 1) (sum-digit p signals i h.high) ∙ bit-eqb (p (suc i))

pub set-lt : (p : ℕ → Bool) → (set_of p).0 < 2 ^ signals
unfolding set_of
set-lt p = sum_lt p signals

-- two tests that agree on the signals give one set
pub set-cong : (p q : ℕ → Bool) → ((s : ℕ) → Signal s → p s ≡ q s) → set_of p ≡ set_of q
unfolding set_of
set-cong p q h = ap bits (sum-cong p q signals (λ s l g. h s (record { low = l; high = g })))

pub set-of-has : (a : SigSet) → a.0 < 2 ^ signals → set_of (has a) ≡ a
unfolding set_of
set-of-has a h = ap bits (sum-has a signals ∙ mod-eq_of_lt h)

-- a set that has what the test says is the test's set
pub is_set : (a : SigSet) (p : ℕ → Bool) → a.0 < 2 ^ signals → ((s : ℕ) → Signal s → has a s ≡ p s) → a ≡ set_of p
is_set a p l h = sym (set-of-has a l) ∙ set-cong (has a) p h

pub ext : (a b : SigSet) → a.0 < 2 ^ signals → b.0 < 2 ^ signals → ((s : ℕ) → Signal s → has a s ≡ has b s) → a ≡ b
ext a b la lb h = is_set a (has b) la h ∙ set-of-has b lb

-- no number that is not a signal is a member
pub has-beyond : (a : SigSet) (s : ℕ) → a.0 < 2 ^ signals → (Signal s → ⊥) → has a s ≡ false
unfolding has
has-beyond a zero l h = refl
has-beyond a (suc k) l h = rw (div-eq_of_lt (lt_of_lt_of_le l (pow_mono {i = signals} {j = k} far))) refl
  where
    far : signals ≤ k
    far =
        elim (dec_le signals k) [
          | yes g ↦ g
          | no n ↦ absurd (h (record { low = omega arith; high = omega (arith, n) }))
        ]

-- ---- the members of each set

pub has-empty : (s : ℕ) → has empty s ≡ false
unfolding has
has-empty zero = refl
has-empty (suc k) = ap (λ (x : ℕ). eqb (x % 2) 1) (zero-div (2 ^ k))

pub has_of : (x s : ℕ) → Signal s → has (of_signal x) s ≡ eqb s x
unfolding of_signal
has_of x = has-set (λ t. eqb t x)

pub has-union : (a b : SigSet) (s : ℕ) → Signal s → has (union a b) s ≡ (has a s || has b s)
unfolding union
has-union a b = has-set (λ t. has a t || has b t)

pub has-without : (a b : SigSet) (s : ℕ) → Signal s → has (without a b) s ≡ (has a s && not (has b s))
unfolding without
has-without a b = has-set (λ t. has a t && not (has b t))

pub has-intersect : (a b : SigSet) (s : ℕ) → Signal s → has (intersect a b) s ≡ (has a s && has b s)
unfolding intersect
has-intersect a b = has-set (λ t. has a t && has b t)

pub has-unmaskable : (s : ℕ) → Signal s → has unmaskable s ≡ is_unmaskable s
unfolding unmaskable
has-unmaskable = has-set is_unmaskable

pub has-maskable : (a : SigSet) (s : ℕ) → Signal s → has (maskable a) s ≡ (has a s && not (is_unmaskable s))
unfolding maskable
has-maskable a s h = has-without a unmaskable s h ∙ ap (λ (y : Bool). has a s && not y) (has-unmaskable s h)

-- what holds of KILL and of STOP holds of every signal of the pair
pub each-unmaskable : (P : ℕ → Type 0) → P SIGKILL → P SIGSTOP → (s : ℕ) → is_unmaskable s ≡ true → P s
each-unmaskable P k t s u = go (eqb s SIGKILL) refl
  where
    stop : (b : Bool) → b ≡ eqb s SIGKILL → b ≡ false → eqb s SIGSTOP ≡ true
    stop b e f = sym (ap (λ (x : Bool). x || eqb s SIGSTOP) (sym e ∙ f)) ∙ u

    go : (b : Bool) → b ≡ eqb s SIGKILL → P s
    go true e = subst P (sym (eqb-true s SIGKILL (sym e))) k
    go false e = subst P (sym (eqb-true s SIGSTOP (stop false e refl))) t

pub without-out : (a u : SigSet) (s : ℕ) → Signal s → has u s ≡ true → has (without a u) s ≡ false
without-out a u s h e = has-without a u s h ∙ ap (λ (y : Bool). has a s && not y) e ∙ and-false (has a s)

-- ---- each has a bit for a signal and no more

pub of_lt : (x : ℕ) → (of_signal x).0 < 2 ^ signals
unfolding of_signal
of_lt x = set-lt _

pub union-lt : (a b : SigSet) → (union a b).0 < 2 ^ signals
unfolding union
union-lt a b = set-lt _

pub without-lt : (a b : SigSet) → (without a b).0 < 2 ^ signals
unfolding without
without-lt a b = set-lt _

pub intersect-lt : (a b : SigSet) → (intersect a b).0 < 2 ^ signals
unfolding intersect
intersect-lt a b = set-lt _

pub unmaskable-lt : unmaskable.0 < 2 ^ signals
unfolding unmaskable
unmaskable-lt = set-lt _

pub maskable-lt : (a : SigSet) → (maskable a).0 < 2 ^ signals
unfolding maskable
maskable-lt a = without-lt a unmaskable

-- ---- an equation of sets is a truth table at each signal

pub union_self : (a : SigSet) → a.0 < 2 ^ signals → union a a ≡ a
union_self a l = ext (union a a) a (union-lt a a) l (λ s h. has-union a a s h ∙ or_self (has a s))

pub union_comm : (a b : SigSet) → union a b ≡ union b a
unfolding union
union_comm a b = set-cong _ _ (λ s h. or_comm (has a s) (has b s))

-- two sets that agree outside u are one without it
without-same : (a b u : SigSet) → ((s : ℕ) → Signal s → (has a s && not (has u s)) ≡ (has b s && not (has u s)))
    → without a u ≡ without b u
unfolding without
without-same a b u = set-cong _ _

pub without-union : (a u : SigSet) → without (union a u) u ≡ without a u
without-union a u = without-same (union a u) a u (λ s h. rw (has-union a u s h) (table (has a s) (has u s)))
  where
    table : (x y : Bool) → ((x || y) && not y) ≡ (x && not y)
    table true y = refl
    table false true = refl
    table false false = refl

pub without-twice : (a u : SigSet) → without (without a u) u ≡ without a u
without-twice a u = without-same (without a u) a u (λ s h. rw (has-without a u s h) (table (has a s) (has u s)))
  where
    table : (x y : Bool) → ((x && not y) && not y) ≡ (x && not y)
    table true true = refl
    table true false = refl
    table false y = refl

pub maskable-twice : (a : SigSet) → maskable (maskable a) ≡ maskable a
unfolding maskable
maskable-twice a = without-twice a unmaskable

-- ---- what the machine's operations give

-- an operation of numbers, op, that is f of bools at each digit
module _ (op : ℕ → ℕ → ℕ) (f : Bool → Bool → Bool)
    (shr : (x y k : ℕ) → op x y / 2 ^ k ≡ op (x / 2 ^ k) (y / 2 ^ k))
    (low : (x y k : ℕ) → op x y % 2 ^ k ≡ op (x % 2 ^ k) (y % 2 ^ k))
    (fits : (n x y : ℕ) → x < 2 ^ n → y < 2 ^ n → op x y < 2 ^ n)
    (one : (x y : Bool) → eqb (op (cond x 1 0) (cond y 1 0)) 1 ≡ f x y) where
  op-has : (a b : SigSet) (s : ℕ) → Signal s → has (bits (op a.0 b.0)) s ≡ f (has a s) (has b s)
  unfolding has
  op-has a b zero h = absurd (not-suc-le-zero h.low)
  op-has a b (suc k) h =
      ap (λ (x : ℕ). eqb (x % 2) 1) (shr a.0 b.0 k)
      ∙ ap (λ (x : ℕ). eqb x 1) (low (a.0 / 2 ^ k) (b.0 / 2 ^ k) 1)
      ∙ ap₂ (λ (x y : ℕ). eqb (op x y) 1) (digit-bit (a.0 / 2 ^ k % 2) (mod-lt _ (omega arith)))
      (digit-bit (b.0 / 2 ^ k % 2) (mod-lt _ (omega arith)))
      ∙ one (eqb (a.0 / 2 ^ k % 2) 1) (eqb (b.0 / 2 ^ k % 2) 1)

  op-is : (a b : SigSet) → a.0 < 2 ^ signals → b.0 < 2 ^ signals
      → bits (op a.0 b.0) ≡ set_of (λ s. f (has a s) (has b s))
  op-is a b la lb = is_set (bits (op a.0 b.0)) _ (fits signals a.0 b.0 la lb) (op-has a b)

-- `a | b`
pub or_is : (a b : SigSet) → a.0 < 2 ^ signals → b.0 < 2 ^ signals → bits (bit_or a.0 b.0) ≡ union a b
unfolding union
or_is = op-is bit_or ◌||◌ or_shr or_mod or_lt one
  where
    one : (x y : Bool) → eqb (bit_or (cond x 1 0) (cond y 1 0)) 1 ≡ (x || y)
    one true true = refl
    one true false = refl
    one false true = refl
    one false false = refl

-- `a & b`
pub and_is : (a b : SigSet) → a.0 < 2 ^ signals → b.0 < 2 ^ signals → bits (bit_and a.0 b.0) ≡ intersect a b
unfolding intersect
and_is = op-is bit_and ◌&&◌ and_shr and_mod and_lt one
  where
    one : (x y : Bool) → eqb (bit_and (cond x 1 0) (cond y 1 0)) 1 ≡ (x && y)
    one true true = refl
    one true false = refl
    one false true = refl
    one false false = refl

-- the digits above the lowest are those of the half
pub shr-half : (x k : ℕ) → x / 2 ^ suc k ≡ x / 2 / 2 ^ k
shr-half x k = ap (λ (j : ℕ). x / 2 ^ j) (sym (one-add k)) ∙ sym (shr-shr x 1 k)

-- the digits of the complement
flip : (n k b : ℕ) → k < n → b < 2 ^ n → ((2 ^ n - 1) - b) / 2 ^ k % 2 ≡ 1 - b / 2 ^ k % 2
flip zero k b h l = absurd (not-suc-le-zero h)
flip (suc n) zero b h l = let e = pow-suc 2 n in omega arith
flip (suc n) (suc k) b h l =
    let e = pow-suc 2 n in
    let half : ((2 ^ suc n - 1) - b) / 2 ≡ (2 ^ n - 1) - b / 2 = omega (arith, pow_pos n) in
    ap (λ (x : ℕ). x % 2) (shr-half ((2 ^ suc n - 1) - b) k) ∙ ap (λ (x : ℕ). x / 2 ^ k % 2) half
    ∙ flip n k (b / 2) (omega arith) (omega arith)
    ∙ ap (λ (x : ℕ). 1 - x % 2) (sym (shr-half b k))

flip-bit : (b : Bool) → eqb (1 - cond b 1 0) 1 ≡ not b
flip-bit true = refl
flip-bit false = refl

-- `!b`
abbrev complement : SigSet → SigSet
complement b = bits ((2 ^ signals - 1) - b.0)

not-has : (b : SigSet) (s : ℕ) → b.0 < 2 ^ signals → Signal s → has (complement b) s ≡ not (has b s)
unfolding has
not-has b zero l h = absurd (not-suc-le-zero h.low)
not-has b (suc k) l h =
    ap (λ (x : ℕ). eqb x 1) (flip signals k b.0 h.high l)
    ∙ ap (λ (x : ℕ). eqb (1 - x) 1) (digit-bit (b.0 / 2 ^ k % 2) (mod-lt _ (omega arith)))
    ∙ flip-bit (eqb (b.0 / 2 ^ k % 2) 1)

-- `a & !b`
pub and-not-is : (a b : SigSet) → a.0 < 2 ^ signals → b.0 < 2 ^ signals
    → bits (bit_and a.0 ((2 ^ signals - 1) - b.0)) ≡ without a b
unfolding intersect without
and-not-is a b la lb =
    and_is a (complement b) la (omega arith) ∙ set-cong _ _ (λ s h. ap (λ (y : Bool). has a s && y) (not-has b s lb h))

-- `(a >> (s - 1)) % 2 == 1`
pub has-at : (a : SigSet) (s : ℕ) → 1 ≤ s → has a s ≡ eqb (a.0 / 2 ^ (s - 1) % 2) 1
unfolding has
has-at a zero h = absurd (not-suc-le-zero h)
has-at a (suc k) h = let e : k ≡ suc k - 1 = omega arith in ap (λ (j : ℕ). eqb (a.0 / 2 ^ j % 2) 1) e

-- ---- sets of none, of one, and of KILL and STOP

sum-none : (p : ℕ → Bool) (n : ℕ) → ((s : ℕ) → 1 ≤ s → s ≤ n → p s ≡ false) → sum_of p n ≡ 0
sum-none p n h = sum-cong p (has empty) n (λ s l g. h s l g ∙ sym (has-empty s)) ∙ sum-has empty n ∙ zero-mod (2 ^ n)

sum_one : (p : ℕ → Bool) (k n : ℕ) → k < n → p (suc k) ≡ true → ((s : ℕ) → (s ≡ suc k → ⊥) → p s ≡ false)
    → sum_of p n ≡ 2 ^ k
unfolding sum_of
sum_one p k zero h y o = absurd (not-suc-le-zero h)
sum_one p k (suc m) h y o = ⊎_elim last (λ g. before g (sum_one p k m g y o)) (eq-or-lt_of_le (le_of_suc-le-suc h))
  where
    last : k ≡ m → sum_of p (suc m) ≡ 2 ^ k
    last e = rw (← e, y, sum-none p k (λ s l g. o s (λ f. omega arith))) (omega arith)

    before : k < m → sum_of p m ≡ 2 ^ k → sum_of p (suc m) ≡ 2 ^ k
    before g ih = rw (ih, o (suc m) (λ f. omega arith)) (omega arith)

pub set-none : (p : ℕ → Bool) → ((s : ℕ) → Signal s → p s ≡ false) → set_of p ≡ empty
set-none p h = sym (is_set empty p (omega arith) (λ s g. has-empty s ∙ sym (h s g)))

pub of_none : (x : ℕ) → (Signal x → ⊥) → of_signal x ≡ empty
unfolding of_signal
of_none x h = set-none (λ t. eqb t x) (λ s g. ne_eqb s x (λ e. h (subst (λ (y : ℕ). Signal y) e g)))

-- `1 << (x - 1)`
pub of_is : (x : ℕ) → Signal x → of_signal x ≡ bits (2 ^ (x - 1))
unfolding of_signal set_of
of_is x h =
    let e : suc (x - 1) ≡ x = omega arith in
    ap bits (sum_one (λ t. eqb t x) (x - 1) signals (omega arith) (eq-eqb (suc (x - 1)) x e)
    (λ s n. ne_eqb s x (λ g. n (g ∙ sym e))))

pub unmaskable-is : unmaskable ≡ bits 262400
unfolding unmaskable set_of sum_of
unmaskable-is = refl

-- ---- the lowest

-- r is the lowest from 1 to n that passes the test
record First (p : ℕ → Bool) (n r : ℕ) : Type 0 where
  from : 1 ≤ r
  to : r ≤ n
  passes : p r ≡ true
  below : (s : ℕ) → 1 ≤ s → s < r → p s ≡ false

abbrev None : (ℕ → Bool) → ℕ → Type 0
None p n = (s : ℕ) → 1 ≤ s → s ≤ n → p s ≡ false

or_else-pos : (r b : ℕ) → 1 ≤ r → or_else r b ≡ r
or_else-pos zero b h = absurd (not-suc-le-zero h)
or_else-pos (suc r) b h = refl

-- what lowest_in answers: 0 where none passes, else the first that does
answer : (p : ℕ → Bool) (n : ℕ) → ((lowest_in p n ≡ 0) × None p n) ⊎ First p n (lowest_in p n)
unfolding lowest_in
answer p zero = inl (refl, λ s l g. absurd (omega arith))
answer p (suc k) = ⊎_elim (λ z. here z (p (suc k)) refl) (λ f. inr (before f)) (answer p k)
  where
    before : First p k (lowest_in p k) → First p (suc k) (lowest_in p (suc k))
    before f =
        subst (First p (suc k)) (sym (or_else-pos (lowest_in p k) _ f.from))
        (record { from = f.from; to = omega (arith, f.to); passes = f.passes; below = f.below })

    value : lowest_in p k ≡ 0 → (b : Bool) → p (suc k) ≡ b → lowest_in p (suc k) ≡ cond b (suc k) 0
    value z b y = ap₂ (λ (x : ℕ) (c : Bool). or_else x (cond c (suc k) 0)) z y

    here : (lowest_in p k ≡ 0) × None p k → (b : Bool) → p (suc k) ≡ b
        → ((lowest_in p (suc k) ≡ 0) × None p (suc k)) ⊎ First p (suc k) (lowest_in p (suc k))
    here z true y =
        inr
        (subst (First p (suc k)) (sym (value z.0 true y))
        (record { from = omega arith; to = omega arith; passes = y; below = λ s l g. z.1 s l (omega arith) }))
    here z false y =
        inl (
          value z.0 false y,
          λ s l g. ⊎_elim (λ (q : s ≡ suc k). ap p q ∙ y) (λ (q : s < suc k). z.1 s l (omega arith))
              (eq-or-lt_of_le g),
        )

-- two firsts are one
first_one : (p : ℕ → Bool) (n r q : ℕ) → First p n r → First p n q → r ≡ q
first_one p n r q f g = omega (arith, least r q f g, least q r g f)
  where
    least : (x y : ℕ) → First p n x → First p n y → x < y → ⊥
    least x y a b l = true≢false (sym a.passes ∙ b.below x a.from l)

signal : (p : ℕ → Bool) (r : ℕ) → First p signals r → Signal r
signal p r f = record { low = f.from; high = f.to }

pub lowest_of-zero : (p : ℕ → Bool) → lowest_of p ≡ 0 → (s : ℕ) → Signal s → p s ≡ false
unfolding lowest_of
lowest_of-zero p e s h =
    ⊎_elim (λ z. z.1 s h.low h.high) (λ f. absurd (omega (arith, e, f.from))) (answer p signals)

pub lowest_of-found : (p : ℕ → Bool) → (lowest_of p ≡ 0 → ⊥)
    → Signal (lowest_of p) × (p (lowest_of p) ≡ true) × ((s : ℕ) → 1 ≤ s → s < lowest_of p → p s ≡ false)
unfolding lowest_of
lowest_of-found p n =
    ⊎_elim (λ z. absurd (n z.0)) (λ f. (signal p _ f, f.passes, f.below)) (answer p signals)

pub lowest_of-none : (p : ℕ → Bool) → ((s : ℕ) → Signal s → p s ≡ false) → lowest_of p ≡ 0
unfolding lowest_of
lowest_of-none p h =
    ⊎_elim (λ z. z.0) (λ f. absurd (true≢false (sym f.passes ∙ h _ (signal p _ f)))) (answer p signals)

pub lowest_of-is : (p : ℕ → Bool) (r : ℕ) → Signal r → p r ≡ true → ((s : ℕ) → 1 ≤ s → s < r → p s ≡ false)
    → lowest_of p ≡ r
unfolding lowest_of
lowest_of-is p r h y o =
    ⊎_elim
    (λ z. absurd (true≢false (sym y ∙ z.1 r h.low h.high)))
    (λ f. first_one p signals _ r f (record { from = h.low; to = h.high; passes = y; below = o }))
    (answer p signals)

-- two tests that agree on the signals have one lowest
pub lowest_of-cong : (p q : ℕ → Bool) → ((s : ℕ) → Signal s → p s ≡ q s) → lowest_of p ≡ lowest_of q
unfolding lowest_of
lowest_of-cong p q h =
    ⊎_elim
    (λ z. lowest_of-none p (λ s g. h s g ∙ z.1 s g.low g.high) ∙ sym z.0)
    (λ f. lowest_of-is p _ (signal q _ f) (h _ (signal q _ f) ∙ f.passes)
    (λ s l g. h s (record { low = l; high = omega (arith, f.to) }) ∙ f.below s l g))
    (answer q signals)

pub lowest-zero : (a : SigSet) → lowest a ≡ 0 → (s : ℕ) → Signal s → has a s ≡ false
unfolding lowest
lowest-zero a = lowest_of-zero (has a)

pub lowest-found : (a : SigSet) → (lowest a ≡ 0 → ⊥)
    → Signal (lowest a) × (has a (lowest a) ≡ true) × ((s : ℕ) → 1 ≤ s → s < lowest a → has a s ≡ false)
unfolding lowest
lowest-found a = lowest_of-found (has a)

pub lowest-none : (a : SigSet) → ((s : ℕ) → Signal s → has a s ≡ false) → lowest a ≡ 0
unfolding lowest
lowest-none a = lowest_of-none (has a)

pub lowest-is : (a : SigSet) (r : ℕ) → Signal r → has a r ≡ true → ((s : ℕ) → 1 ≤ s → s < r → has a s ≡ false)
    → lowest a ≡ r
unfolding lowest
lowest-is a = lowest_of-is (has a)
