-- Laws of little-endian numbers, over the width, and of numbers read and stored one behind the other. Assumes nothing.
use mathlib.Core.Path.{◌≡◌, refl, sym, ap, ap₂, ◌∙◌}
use mathlib.Core.Bool.{◌&&◌}
use mathlib.Core.List.{List, [], ◌∷◌, ◌++◌}
use Prim.Native.Nat.{ℕ, zero, suc, ◌+◌, ◌*◌, ◌/◌, ◌%◌, ◌^◌, ◌≤◌, ◌<◌}
use native.Mathlib.Nat.{suc-add, zero-add, one-mul, mul_assoc, mul_comm, div-one, div-div-eq-div-mul, mod-add-div}
use native.Mathlib.Nat.{div-lt_iff_lt-mul, add-mul-mod_self_left, add-mul-div_left, pow-zero, pow-suc, pow-le-pow_right}
use native.Mathlib.Nat.{lt_of_lt_of_le, min-le_left}
use native.Mathlib.Omega.{arith}
use lib.Arith.{lt-one}
use lib.Dec.{lit<, eqb}
use lib.ListN.{length, take, drop, get_or, length-take, length-drop}
use lib.Seq.{sets, drop-drop, length-take-le}
use borrow.Author.Tests.{eqb-true, eq-eqb}
use Rattle.lists.specs.Lists.{all}
use Rattle.lists.proofs.Bools.{same_test, and-fst, and-snd, and_both}
use Rattle.lists.proofs.Lists.{All-each, All-take, All-drop}
use Rattle.lists.proofs.Rows.{sets-append}
use Rattle.std.proofs.Common.{append_assoc}
use Rattle.std.proofs.lemmas.List.Edits.{sets-eq}
use borrow.Rule.Slice.PartMut.{put_mid}
use Rattle.std.specs.Int.{sum_through, byte_worth, byte_at, bytes_low_first}
use Rattle.siginfo.specs.Bytes.{le, encode, Bytes}

-- ---- bytes, by index and from every index

abbrev IsByte : ℕ → Type 0
IsByte x = x < 256

pub bytes-each : (b : List ℕ) → ((i : ℕ) → get_or b i 0 < 256) → Bytes b
bytes-each b h = All-each IsByte b 0 (λ i k. h i)

pub bytes-part : (b : List ℕ) (at n : ℕ) → Bytes b → Bytes (take n (drop at b))
bytes-part b at n h = All-take IsByte n (drop at b) (All-drop IsByte at b h)

-- ---- a number and its bytes

pub length-encode : (n x : ℕ) → length (encode n x) ≡ n
unfolding encode
length-encode zero x = refl
length-encode (suc n) x = ap suc (length-encode n (x / 256))

pub le-encode : (n x : ℕ) → x < 256 ^ n → le (encode n x) ≡ x
unfolding le encode
le-encode zero x h = sym (lt-one (rw pow-zero at h))
le-encode (suc n) x h =
    let k : x < 256 ^ n * 256 = rw pow-suc at h in
    ap (λ m. x % 256 + 256 * m) (le-encode n (x / 256) ((div-lt_iff_lt-mul {y = 256 ^ n} (lit< tt)).1 k))
    ∙ mod-add-div x 256

pub encode-le : (bs : List ℕ) → Bytes bs → encode (length bs) (le bs) ≡ bs
unfolding le encode
encode-le [] h = refl
encode-le (b ∷ bs) h =
    let small : b < 256 = h.0 in
    let low : (b + 256 * le bs) % 256 ≡ b = omega arith in
    let high : (b + 256 * le bs) / 256 ≡ le bs = omega arith in
    rw (low, high, encode-le bs h.1)

pub le_below : (bs : List ℕ) → Bytes bs → le bs < 256 ^ length bs
unfolding le
le_below [] h = rw pow-zero (lit< tt)
le_below (b ∷ bs) h = let small : b < 256 = h.0 in omega (arith, le_below bs h.1, pow-suc 256 (length bs))

-- it is zero exactly if every byte is
pub le-zero : (bs : List ℕ) → eqb (le bs) 0 ≡ all (λ b. eqb b 0) bs
unfolding le all
le-zero [] = refl
le-zero (b ∷ bs) = sum-zero b (le bs) ∙ ap (λ t. eqb b 0 && t) (le-zero bs)
  where
    sum-zero : (x y : ℕ) → eqb (x + 256 * y) 0 ≡ (eqb x 0 && eqb y 0)
    sum-zero x y =
        same_test (eqb (x + 256 * y) 0) (eqb x 0 && eqb y 0)
        (λ e. let z = eqb-true (x + 256 * y) 0 e in and_both (eq-eqb x 0 (omega arith)) (eq-eqb y 0 (omega arith)))
        (λ e.
        let p = eqb-true x 0 (and-fst (eqb x 0) (eqb y 0) e) in
        let q = eqb-true y 0 (and-snd (eqb x 0) (eqb y 0) e) in
        eq-eqb (x + 256 * y) 0 (omega arith))

-- ---- a number in two parts

high_part : (n z : ℕ) → 256 ^ suc n * z ≡ 256 * (256 ^ n * z)
high_part n z = ap (λ m. m * z) (pow-suc 256 n ∙ mul_comm (256 ^ n) 256) ∙ mul_assoc 256 (256 ^ n) z

pub le-append : (xs ys : List ℕ) → le (xs ++ ys) ≡ le xs + 256 ^ length xs * le ys
unfolding le
le-append [] ys = sym (rw (pow-zero, one-mul) (zero-add (le ys)))
le-append (x ∷ xs) ys = omega (arith, le-append xs ys, high_part (length xs) (le ys))

-- what stands above the n lowest bytes does not show in them
pub encode-high : (n y z : ℕ) → encode n (y + 256 ^ n * z) ≡ encode n y
unfolding encode
encode-high zero y z = refl
encode-high (suc n) y z =
    let w : ℕ = 256 ^ n * z in
    let low : (y + 256 ^ suc n * z) % 256 ≡ y % 256 =
    ap (λ m. (y + m) % 256) (high_part n z) ∙ add-mul-mod_self_left y 256 w in
    let high : (y + 256 ^ suc n * z) / 256 ≡ y / 256 + w =
    ap (λ m. (y + m) / 256) (high_part n z) ∙ add-mul-div_left y w (lit< tt) in
    rw (low, high, encode-high n (y / 256) z)

pub encode-append : (m n x : ℕ) → encode (m + n) x ≡ encode m x ++ encode n (x / 256 ^ m)
unfolding encode
encode-append zero n x = rw (zero-add, pow-zero, div-one)
encode-append (suc m) n x =
    let e : x / 256 / 256 ^ m ≡ x / 256 ^ suc m =
    div-div-eq-div-mul x 256 (256 ^ m) ∙ ap (λ k. x / k) (mul_comm 256 (256 ^ m) ∙ sym (pow-suc 256 m)) in
    rw (suc-add, ← e) (ap (λ l. x % 256 ∷ l) (encode-append m n (x / 256)))

-- the m lowest bytes of x and then the others
pub encode-halves : (m n x : ℕ) → encode m (x % 256 ^ m) ++ encode n (x / 256 ^ m) ≡ encode (m + n) x
encode-halves m n x =
    let low : encode m (x % 256 ^ m) ≡ encode m x =
    sym (encode-high m (x % 256 ^ m) (x / 256 ^ m)) ∙ ap (encode m) (mod-add-div x (256 ^ m)) in
    rw low (sym (encode-append m n x))

-- ---- std's words for the same

-- what the lowest byte adds to the others
sum-front : (x : ℕ) (xs : List ℕ) (n : ℕ)
    → sum_through (λ i. byte_worth i (get_or (x ∷ xs) i 0)) (suc n)
    ≡ x + 256 * sum_through (λ i. byte_worth i (get_or xs i 0)) n
sum-front x xs zero = omega arith
sum-front x xs (suc n) = rw (pow-suc 256 (suc n)) (omega (arith, sum-front x xs n))

pub sum-le : (bs : List ℕ) (n : ℕ) → length bs ≡ suc n → sum_through (λ i. byte_worth i (get_or bs i 0)) n ≡ le bs
unfolding le
sum-le [] n e = absurd (omega arith)
sum-le (b ∷ []) zero e = omega arith
sum-le (b ∷ c ∷ bs) zero e = absurd (omega arith)
sum-le (b ∷ bs) (suc n) e = sum-front b bs n ∙ ap (λ m. b + 256 * m) (sum-le bs n (omega arith))

byte-at : (i x : ℕ) → byte_at i x ≡ x / 256 ^ i % 256
byte-at zero x = rw (pow-zero, div-one)
byte-at (suc i) x = refl

low_first : (i n x : ℕ) → bytes_low_first i n x ≡ encode n (x / 256 ^ i)
unfolding encode
low_first i zero x = refl
low_first i (suc n) x =
    let e : x / 256 ^ i / 256 ≡ x / 256 ^ suc i =
    div-div-eq-div-mul x (256 ^ i) 256 ∙ ap (λ k. x / k) (sym (pow-suc 256 i)) in
    ap₂ (λ b bs. b ∷ bs) (byte-at i x) (low_first (suc i) n x ∙ ap (encode n) (sym e))

-- `to_le_bytes`, at any width
pub low_bytes : (n x : ℕ) → bytes_low_first 0 n x ≡ encode n x
low_bytes n x = low_first 0 n x ∙ ap (encode n) (rw (pow-zero, div-one))

-- ---- numbers read

-- a number of n + 1 bytes, as `from_le_bytes` reads it
pub number-read : (n : ℕ) (b : List ℕ) (at : ℕ) {bytes : List ℕ} {v : ℕ} → at + suc n ≤ length b
    → bytes ≡ take (suc n) (drop at b) → v ≡ sum_through (λ i. byte_worth i (get_or bytes i 0)) n
    → v ≡ le (take (suc n) (drop at b))
number-read n b at h e f =
    f ∙ ap (λ l. sum_through (λ i. byte_worth i (get_or l i 0)) n) e
    ∙ sum-le (take (suc n) (drop at b)) n (length-take-le (suc n) (drop at b) (rw length-drop (omega arith)))

-- a number that was read, and its bytes again
pub encode-part : (b : List ℕ) (at n : ℕ) → Bytes b → at + n ≤ length b
    → encode n (le (take n (drop at b))) ≡ take n (drop at b)
encode-part b at n h k =
    let e : length (take n (drop at b)) ≡ n = length-take-le n (drop at b) (rw length-drop (omega arith)) in
    rw e at (encode-le (take n (drop at b)) (bytes-part b at n h))

-- a number that was read fits its width
pub le-part : (b : List ℕ) (at n : ℕ) → Bytes b → le (take n (drop at b)) < 256 ^ n
le-part b at n h =
    lt_of_lt_of_le (le_below (take n (drop at b)) (bytes-part b at n h))
    (pow-le-pow_right (lit< tt) (rw length-take (min-le_left n (length (drop at b)))))

-- ---- numbers stored

-- a run, as `copy_from_slice` leaves it
pub put-sets : (b bytes : List ℕ) (at k : ℕ) {part : List ℕ} → part ≡ bytes → length part ≡ length (take k (drop at b))
    → at + k ≤ length b → put_mid at k b part ≡ sets b at bytes
put-sets b bytes at k e l h =
    let long : length bytes ≡ k = ap length (sym e) ∙ l ∙ length-take-le k (drop at b) (rw length-drop (omega arith)) in
    rw (e, ← long)
    (ap (λ l. take at b ++ (bytes ++ l)) (drop-drop (length bytes) at b)
    ∙ sym (append_assoc (take at b) bytes (drop (at + length bytes) b))
    ∙ sym (sets-eq bytes b at (omega arith)))

-- a number as `to_le_bytes` gives it
pub number-put : (n x : ℕ) (b : List ℕ) (at : ℕ) {bytes b₁ : List ℕ} → bytes ≡ bytes_low_first 0 n x
    → b₁ ≡ sets b at bytes → b₁ ≡ sets b at (encode n x)
number-put n x b at e f = f ∙ ap (sets b at) (e ∙ low_bytes n x)

-- a run behind another, as two calls leave them
pub then-sets : {b₁ b₂ : List ℕ} (s t b : List ℕ) (at j : ℕ) → j ≡ at + length s → b₁ ≡ sets b at s → b₂ ≡ sets b₁ j t
    → b₂ ≡ sets b at (s ++ t)
then-sets s t b at j e p q = q ∙ ap (λ l. sets l j t) p ∙ sets-append s t b at j e
