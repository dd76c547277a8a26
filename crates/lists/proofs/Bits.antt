-- Tests of numbers whose bits are put together by `or`. Assumes nothing.
use Prim.Native.Nat.{ℕ, ◌/◌, ◌%◌, ◌≤◌, min, max}
use mathlib.Core.Path.{◌≡◌, refl}
use mathlib.Core.Bool.{◌&&◌}
use native.Mathlib.Nat.{min-le_left}
use native.Mathlib.Omega.{arith}
use lib.Arith.{bin_ind}
use lib.Bits.{bit_and, bit_or, and_step, or_step, or_add_and, and_le_l, and_le_r}
use lib.Dec.{eqb}
use borrow.Author.Tests.{eqb-true, eq-eqb}
use Rattle.lists.proofs.Bools.{same_test, and-fst, and-snd, and_both}

-- nothing is set exactly if nothing was in either
pub or-zero : (a b : ℕ) → eqb (bit_or a b) 0 ≡ (eqb a 0 && eqb b 0)
or-zero a b =
    let s = or_add_and a b in
    let l = and_le_l a b in
    let r = and_le_r a b in
    same_test (eqb (bit_or a b) 0) (eqb a 0 && eqb b 0)
    (λ e. let z = eqb-true (bit_or a b) 0 e in and_both (eq-eqb a 0 (omega arith)) (eq-eqb b 0 (omega arith)))
    (λ e.
    let p = eqb-true a 0 (and-fst (eqb a 0) (eqb b 0) e) in
    let q = eqb-true b 0 (and-snd (eqb a 0) (eqb b 0) e) in
    eq-eqb (bit_or a b) 0 (omega arith))

-- ---- bits that are all among those of k

abbrev Known : ℕ → ℕ → Type 0
Known k a = bit_and a k ≡ a

-- the last bit and the others
known-bits : (k a : ℕ) → Known k a → Known (k / 2) (a / 2) × (min (a % 2) (k % 2) ≡ a % 2)
known-bits k a e = let s = and_step a k in let m = min-le_left (a % 2) (k % 2) in (omega arith, omega arith)

bits-known : (k a : ℕ) → Known (k / 2) (a / 2) → min (a % 2) (k % 2) ≡ a % 2 → Known k a
bits-known k a e f = let s = and_step a k in omega arith

or-bits : (a b : ℕ) → (bit_or a b / 2 ≡ bit_or (a / 2) (b / 2)) × (bit_or a b % 2 ≡ max (a % 2) (b % 2))
or-bits a b = let s = or_step a b in let m : max (a % 2) (b % 2) ≤ 1 = omega arith in (omega arith, omega arith)

or-known : (a b k : ℕ) → Known k a → Known k b → Known k (bit_or a b)
or-known =
    bin_ind (λ (n : ℕ). (b k : ℕ) → Known k n → Known k b → Known k (bit_or n b)) (λ b k p q. q)
    (λ n ih b k p q.
    let u = known-bits k n p in
    let v = known-bits k b q in
    let o = or-bits n b in
    let e = ih (b / 2) (k / 2) u.0 v.0 in
    bits-known k (bit_or n b) (rw o.0 e) (omega arith))

known-parts : (a b k : ℕ) → Known k (bit_or a b) → Known k a × Known k b
known-parts =
    bin_ind (λ (n : ℕ). (b k : ℕ) → Known k (bit_or n b) → Known k n × Known k b) (λ b k p. (refl, p))
    (λ n ih b k p.
    let u = known-bits k (bit_or n b) p in
    let o = or-bits n b in
    let e = ih (b / 2) (k / 2) (rw o.0 at u.0) in
    (bits-known k n e.0 (omega arith), bits-known k b e.1 (omega arith)))

pub known-or : (a b k : ℕ) → eqb (bit_and (bit_or a b) k) (bit_or a b) ≡ (eqb (bit_and a k) a && eqb (bit_and b k) b)
known-or a b k =
    same_test (eqb (bit_and (bit_or a b) k) (bit_or a b)) (eqb (bit_and a k) a && eqb (bit_and b k) b)
    (λ e. let p = known-parts a b k (eqb-true _ _ e) in and_both (eq-eqb _ _ p.0) (eq-eqb _ _ p.1))
    (λ e.
    eq-eqb _ _ (or-known a b k (eqb-true _ _ (and-fst (eqb (bit_and a k) a) (eqb (bit_and b k) b) e))
    (eqb-true _ _ (and-snd (eqb (bit_and a k) a) (eqb (bit_and b k) b) e))))
