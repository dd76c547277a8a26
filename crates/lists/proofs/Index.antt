-- Lists by index, and where at most one entry passes a test. Assumes nothing.
use Prim.Native.Nat.{ℕ, zero, suc, ◌≤◌, ◌<◌, zero-le, suc-le-suc}
use mathlib.Core.Path.{◌≡◌, refl, ap, ap₂, ◌∙◌}
use mathlib.Core.Bool.{Bool, true, false, ◌||◌, or-false}
use mathlib.Core.List.{List, [], ◌∷◌, map}
use native.Mathlib.Nat.{not-suc-le-zero, le_of_suc-le-suc}
use native.Mathlib.Omega.{arith}
use lib.ListN.{length, get_or, set}
use Rattle.lists.specs.Lists.{all, any, count, find, pairs, range, All}
use Rattle.lists.proofs.Bools.{split, and_both}
use Rattle.lists.proofs.Lists.{Pass, Fail, All-imp, All-all, All-each, all-All, any-All, All-any, any-count}
use Rattle.lists.proofs.Lists.{count_none, count_yes, count_no, find-yes, find-no}
use Rattle.lists.proofs.Loops.{any_here, All-range, All-range-at}

-- ---- by index

module _ {A : Type 0} where
  pub get_d-mapped : {B : Type 0} (f : A → B) (xs : List A) (i : ℕ) (d : A) (e : B) → i < length xs
      → get_or (map f xs) i e ≡ f (get_or xs i d)
  get_d-mapped f [] i d e h = absurd (not-suc-le-zero h)
  get_d-mapped f (x ∷ xs) zero d e h = refl
  get_d-mapped f (x ∷ xs) (suc i) d e h = get_d-mapped f xs i d e (le_of_suc-le-suc h)

  pub map-set : {B : Type 0} (f : A → B) (xs : List A) (i : ℕ) (a : A) → map f (set xs i a) ≡ set (map f xs) i (f a)
  map-set f [] i a = refl
  map-set f (x ∷ xs) zero a = refl
  map-set f (x ∷ xs) (suc i) a = ap (λ l. f x ∷ l) (map-set f xs i a)

  -- what holds of the default and of every value holds at every index
  pub get_d-map-has : {B : Type 0} (P : B → Type 0) (f : A → B) (e : B) → P e → ((x : A) → P (f x))
      → (xs : List A) (i : ℕ) → P (get_or (map f xs) i e)
  get_d-map-has P f e z h [] i = z
  get_d-map-has P f e z h (x ∷ xs) zero = h x
  get_d-map-has P f e z h (x ∷ xs) (suc i) = get_d-map-has P f e z h xs i

  pub all-each : (p : A → Bool) (d : A) (xs : List A) → ((i : ℕ) → i < length xs → p (get_or xs i d) ≡ true)
      → all p xs ≡ true
  all-each p d xs h = All-all p xs (All-each (Pass p) xs d h)

  pub pairs-each : (r : A → A → Bool) (d : A) (xs : List A)
      → ((i j : ℕ) → i < j → j < length xs → r (get_or xs i d) (get_or xs j d) ≡ true) → pairs r xs ≡ true
  unfolding pairs
  pairs-each r d [] h = refl
  pairs-each r d (x ∷ xs) h =
      and_both
      (all-each (r x) d xs (λ j k. h 0 (suc j) (suc-le-suc zero-le) (suc-le-suc k)))
      (pairs-each r d xs (λ i j k l. h (suc i) (suc j) (suc-le-suc k) (suc-le-suc l)))

  pub map-same-in : {B : Type 0} (f g : A → B) (xs : List A) → All (λ x. f x ≡ g x) xs → map f xs ≡ map g xs
  map-same-in f g [] h = refl
  map-same-in f g (x ∷ xs) h = ap₂ (λ y l. y ∷ l) h.0 (map-same-in f g xs h.1)

-- every number below n
pub all-below : (f : ℕ → Bool) (n : ℕ) → ((i : ℕ) → i < n → f i ≡ true) → all f (range 0 n) ≡ true
all-below f n h = All-all f (range 0 n) (All-range (Pass f) 0 n (λ i a b. h i (omega arith)))

pub below_all : (f : ℕ → Bool) (n : ℕ) → all f (range 0 n) ≡ true → (i : ℕ) → i < n → f i ≡ true
below_all f n e i h = All-range-at (Pass f) 0 n i (omega arith) (omega arith) (all-All f (range 0 n) e)

-- ---- where at most one passes, and the i-th does

module _ {A : Type 0} (t : A → Bool) (x : A) (xs : List A) (c : count t (x ∷ xs) ≤ 1) where
  only-head : t x ≡ true → any t xs ≡ false
  only-head e = let z : count t (x ∷ xs) ≡ suc (count t xs) = count_yes t x xs e in count_none t xs (omega arith)

  only-tail : any t xs ≡ true → t x ≡ false
  only-tail e =
      split (t x)
      (λ f. let z : count t (x ∷ xs) ≡ suc (count t xs) = count_yes t x xs f in
      let k : 1 ≤ count t xs = any-count t xs e in absurd (omega arith))
      (λ f. f)

  count-tail : count t xs ≤ 1
  count-tail =
      split (t x)
      (λ f. let z : count t (x ∷ xs) ≡ suc (count t xs) = count_yes t x xs f in omega arith)
      (λ f. let z : count t (x ∷ xs) ≡ count t xs = count_no t x xs f in omega arith)

module _ {A : Type 0} (t : A → Bool) (d : A) where
  -- a test that only those can pass passes exactly if the i-th passes it
  pub any-only : (p : A → Bool) → ((x : A) → t x ≡ false → p x ≡ false) → (xs : List A) (i : ℕ) → count t xs ≤ 1
      → i < length xs
      → t (get_or xs i d) ≡ true → any p xs ≡ p (get_or xs i d)
  unfolding any
  any-only p n [] i c h e = absurd (not-suc-le-zero h)
  any-only p n (x ∷ xs) zero c h e =
      let z : any p xs ≡ false = All-any p xs (All-imp (Fail t) (Fail p) n xs (any-All t xs (only-head t x xs c e))) in
      ap (λ b. p x || b) z ∙ or-false (p x)
  any-only p n (x ∷ xs) (suc i) c h e =
      ap (λ b. b || any p xs) (n x (only-tail t x xs c (any_here t d xs i (le_of_suc-le-suc h) e)))
      ∙ any-only p n xs i (count-tail t x xs c) (le_of_suc-le-suc h) e

  -- a search ends there
  pub find-only : (xs : List A) (i : ℕ) → count t xs ≤ 1 → i < length xs → t (get_or xs i d) ≡ true → find t xs ≡ i
  find-only [] i c h e = absurd (not-suc-le-zero h)
  find-only (x ∷ xs) zero c h e = find-yes t x xs e
  find-only (x ∷ xs) (suc i) c h e =
      find-no t x xs (only-tail t x xs c (any_here t d xs i (le_of_suc-le-suc h) e))
      ∙ ap suc (find-only xs i (count-tail t x xs c) (le_of_suc-le-suc h) e)

  -- two functions that differ on those alone: the values differ by one store
  pub map-only : {B : Type 0} (f g : A → B) → ((x : A) → t x ≡ false → g x ≡ f x) → (xs : List A) (i : ℕ)
      → count t xs ≤ 1 → i < length xs
      → t (get_or xs i d) ≡ true → map g xs ≡ set (map f xs) i (g (get_or xs i d))
  map-only f g n [] i c h e = absurd (not-suc-le-zero h)
  map-only f g n (x ∷ xs) zero c h e =
      ap (λ l. g x ∷ l)
      (map-same-in g f xs (All-imp (Fail t) (λ y. g y ≡ f y) n xs (any-All t xs (only-head t x xs c e))))
  map-only f g n (x ∷ xs) (suc i) c h e =
      ap₂ (λ y l. y ∷ l)
      (n x (only-tail t x xs c (any_here t d xs i (le_of_suc-le-suc h) e)))
      (map-only f g n xs i (count-tail t x xs c) (le_of_suc-le-suc h) e)
