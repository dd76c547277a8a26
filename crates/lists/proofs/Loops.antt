-- What a loop that counts up shows of a list. The entry at i is `get_or xs i d`. Assumes nothing.
use mathlib.Core.Path.{◌≡◌, refl, sym, ap, ap₂, subst, ◌∙◌}
use mathlib.Core.Bool.{Bool, true, false, ◌&&◌, ◌||◌, and-true, and-false, or-false}
use mathlib.Core.List.{List, [], ◌∷◌, ◌++◌, map, append-nil, append_assoc}
use mathlib.Core.Option.{some}
use Prim.Native.Nat.{ℕ, zero, suc, ◌+◌, ◌-◌, ◌≤◌, ◌<◌}
use native.Mathlib.Nat.{not-suc-le-zero, le_of_suc-le-suc, zero-add, add-zero, suc-add, add-suc}
use native.Mathlib.Numerals.{add-one}
use native.Mathlib.Omega.{arith}
use lib.ListN.{length, get_or, take, drop, set, replicate, length-replicate, drop_of_length-le, get_or-replicate}
use lib.ListN.{replicate-append-replicate}
use lib.Seq.{take-suc, take_all, drop-cons, map-set_same, set-get_or, get_or-drop, drop-drop, drop-set-lt, take-suc-set}
use lib.Seq.{append_snoc, paste, paste-suc, length-paste, length-take-le, drop_at}
use Rattle.lists.specs.Lists.{all, any, count, find, first, keep, leading, drop_first, change, replace_first, pairs}
use Rattle.lists.specs.Lists.{range, padded, All}
use Rattle.lists.proofs.Bools.{split, clash, and-fst, and-snd, and_both, and_left, and_right, or-both}
use Rattle.lists.proofs.Lists.{Pass, All-at, All-set, all-All, All-all, all_append, all_end, any_append, all_map}
use Rattle.lists.proofs.Lists.{all_same, any-no, any-All, find-yes, find-no, keep-yes, keep-no}
use Rattle.lists.proofs.Lists.{count_yes, count_no, leading-yes, leading-no, change-same, any-count, count_none}

-- ---- a turn: what is left from i on

module _ {A : Type 0} where
  pub next : (xs : List A) (i : ℕ) (d : A) → i < length xs → drop i xs ≡ get_or xs i d ∷ drop (i + 1) xs
  next xs i d h = rw add-one (drop-cons xs i d h)

  pub upto : (xs : List A) (i : ℕ) (d : A) → i < length xs → take (i + 1) xs ≡ take i xs ++ (get_or xs i d ∷ [])
  upto xs i d h = rw add-one (take-suc xs i d h)

-- ---- every entry passes: `all f (take i xs) ≡ true`

module _ {A : Type 0} (f : A → Bool) (d : A) where
  pub all-at : (xs : List A) (i : ℕ) → i < length xs → all f xs ≡ true → f (get_or xs i d) ≡ true
  all-at xs i h a = All-at (Pass f) xs i d h (all-All f xs a)

  pub all_none : (xs : List A) → all f (take 0 xs) ≡ true
  unfolding all
  all_none xs = refl

  pub all_more : (xs : List A) (i : ℕ) → i < length xs → all f (take i xs) ≡ true → f (get_or xs i d) ≡ true
      → all f (take (i + 1) xs) ≡ true
  all_more xs i h a e = ap (all f) (upto xs i d h) ∙ all_end f (take i xs) (get_or xs i d) a e

  -- passed or not
  pub all-next : (xs : List A) (i : ℕ) → i < length xs
      → all f (take (i + 1) xs) ≡ (all f (take i xs) && f (get_or xs i d))
  unfolding all
  all-next xs i h =
      ap (all f) (upto xs i d h) ∙ all_append f (take i xs) (get_or xs i d ∷ [])
      ∙ ap (λ b. all f (take i xs) && b) (and-true (f (get_or xs i d)))

  pub all-fails : (xs : List A) (i : ℕ) → i < length xs → f (get_or xs i d) ≡ false → all f xs ≡ false
  all-fails xs i h e = split (all f xs) (λ a. clash (all-at xs i h a) e) (λ a. a)

  pub all_done : (xs : List A) (i : ℕ) → length xs ≤ i → all f (take i xs) ≡ true → all f xs ≡ true
  all_done xs i h a = rw (take_all i xs h) at a

-- ---- some entry passes: `any f (take i xs) ≡ false`

module _ {A : Type 0} (f : A → Bool) (d : A) where
  pub any_none : (xs : List A) → any f (take 0 xs) ≡ false
  unfolding any
  any_none xs = refl

  pub any-more : (xs : List A) (i : ℕ) → i < length xs → any f (take i xs) ≡ false → f (get_or xs i d) ≡ false
      → any f (take (i + 1) xs) ≡ false
  unfolding any
  any-more xs i h a e =
      ap (any f) (upto xs i d h) ∙ any_append f (take i xs) (get_or xs i d ∷ []) ∙ or-both a (or-both e refl)

  pub any_next : (xs : List A) (i : ℕ) → i < length xs
      → any f (take (i + 1) xs) ≡ (any f (take i xs) || f (get_or xs i d))
  unfolding any
  any_next xs i h =
      ap (any f) (upto xs i d h)
      ∙ any_append f (take i xs) (get_or xs i d ∷ [])
      ∙ ap (λ b. any f (take i xs) || b) (or-false (f (get_or xs i d)))

  pub any_here : (xs : List A) (i : ℕ) → i < length xs → f (get_or xs i d) ≡ true → any f xs ≡ true
  any_here xs i h e = split (any f xs) (λ a. a) (λ a. clash e (All-at (λ x. f x ≡ false) xs i d h (any-All f xs a)))

  pub any-done : (xs : List A) (i : ℕ) → length xs ≤ i → any f (take i xs) ≡ false → any f xs ≡ false
  any-done xs i h a = rw (take_all i xs h) at a

-- ---- where a search ends: within the list exactly if it found something

module _ {A : Type 0} (f : A → Bool) where
  pub find-le : (xs : List A) → find f xs ≤ length xs
  unfolding find
  find-le [] = omega arith
  find-le (x ∷ xs) = split (f x) (λ e. rw e (omega arith)) (λ e. rw e (omega (arith, find-le xs)))

  pub find-any : (xs : List A) → any f xs ≡ true → find f xs < length xs
  unfolding any
  find-any [] e = clash e refl
  find-any (x ∷ xs) e =
      split (f x)
      (λ k. omega (arith, find-yes f x xs k))
      (λ k. omega (arith, find-no f x xs k, find-any xs (sym (any-no f x xs k) ∙ e)))

-- ---- a search: `find f xs ≡ i + find f (drop i xs)`

module _ {A : Type 0} (f : A → Bool) (d : A) where
  pub find_none : (xs : List A) → find f xs ≡ 0 + find f (drop 0 xs)
  find_none xs = sym (zero-add (find f xs))

  pub find-more : (xs : List A) (i : ℕ) → i < length xs → find f xs ≡ i + find f (drop i xs) → f (get_or xs i d) ≡ false
      → find f xs ≡ (i + 1) + find f (drop (i + 1) xs)
  find-more xs i h a e = omega (arith, ap (find f) (next xs i d h) ∙ find-no f (get_or xs i d) (drop (i + 1) xs) e)

  pub find-here : (xs : List A) (i : ℕ) → i < length xs → find f xs ≡ i + find f (drop i xs) → f (get_or xs i d) ≡ true
      → find f xs ≡ i
  find-here xs i h a e = omega (arith, ap (find f) (next xs i d h) ∙ find-yes f (get_or xs i d) (drop (i + 1) xs) e)

  pub find-done : (xs : List A) (i : ℕ) → length xs ≤ i → find f xs ≡ i + find f (drop i xs) → find f xs ≡ i
  unfolding find
  find-done xs i h a = let e : find f (drop i xs) ≡ 0 = rw (drop_of_length-le xs h) in omega arith

  -- what it found
  pub find_at : (xs : List A) → find f xs < length xs → f (get_or xs (find f xs) d) ≡ true
  unfolding find
  find_at [] h = absurd (not-suc-le-zero h)
  find_at (x ∷ xs) h =
      split (f x) (λ e. rw e e)
      (λ e. rw e (find_at xs (let k : find f (x ∷ xs) ≡ suc (find f xs) = find-no f x xs e in omega arith)))

  pub any-find : (xs : List A) → find f xs < length xs → any f xs ≡ true
  any-find xs h = any_here f d xs (find f xs) h (find_at xs h)

  pub first-find : (xs : List A) → any f xs ≡ true → first f xs ≡ some (get_or xs (find f xs) d)
  unfolding any first find
  first-find [] e = clash e refl
  first-find (x ∷ xs) e = split (f x) (λ k. rw k) (λ k. rw k (first-find xs (sym (any-no f x xs k) ∙ e)))

-- to replace the first is to store at its index, and to leave it out is to leave that place out
pub replace_first-find : {A : Type 0} (f : A → Bool) (a : A) (xs : List A) → replace_first f a xs ≡ set xs (find f xs) a
unfolding replace_first find
replace_first-find f a [] = refl
replace_first-find f a (x ∷ xs) = split (f x) (λ e. rw e) (λ e. rw e (ap (λ l. x ∷ l) (replace_first-find f a xs)))

pub drop_first-find : {A : Type 0} (f : A → Bool) (xs : List A)
    → drop_first f xs ≡ take (find f xs) xs ++ drop (suc (find f xs)) xs
unfolding drop_first find
drop_first-find f [] = refl
drop_first-find f (x ∷ xs) = split (f x) (λ e. rw e) (λ e. rw e (ap (λ l. x ∷ l) (drop_first-find f xs)))

-- ---- every two entries pass: `pairs r (take i xs) ≡ true`, where entry i is held against those before it

middle : (a b p q : Bool) → ((a && b) && (p && q)) ≡ ((a && p) && (b && q))
middle false b p q = refl
middle true true p q = refl
middle true false p q = sym (and-false p)

module _ {A : Type 0} (r : A → A → Bool) where
  -- entry x held against an earlier one
  abbrev pub against : A → A → Bool
  against x y = r y x

  pub pairs_end : (xs : List A) (x : A) → pairs r (xs ++ (x ∷ [])) ≡ (pairs r xs && all (against x) xs)
  unfolding pairs all
  pairs_end [] x = refl
  pairs_end (y ∷ xs) x =
      rw (all_append (r y) xs (x ∷ []), pairs_end xs x, and-true (r y x))
      (middle (all (r y) xs) (r y x) (pairs r xs) (all (against x) xs))

module _ {A : Type 0} (r : A → A → Bool) (d : A) where
  pub pairs-none : (xs : List A) → pairs r (take 0 xs) ≡ true
  unfolding pairs
  pairs-none xs = refl

  pub pairs-more : (xs : List A) (i : ℕ) → i < length xs → pairs r (take i xs) ≡ true
      → all (against r (get_or xs i d)) (take i xs) ≡ true
      → pairs r (take (i + 1) xs) ≡ true
  pairs-more xs i h a e = ap (pairs r) (upto xs i d h) ∙ pairs_end r (take i xs) (get_or xs i d) ∙ and_both a e

  pub pairs-done : (xs : List A) (i : ℕ) → length xs ≤ i → pairs r (take i xs) ≡ true → pairs r xs ≡ true
  pairs-done xs i h a = rw (take_all i xs h) at a

  pub pairs-fails : (xs : List A) (i : ℕ) → i < length xs → all (against r (get_or xs i d)) (take i xs) ≡ false
      → pairs r xs ≡ false
  unfolding pairs all
  pairs-fails [] i h e = absurd (not-suc-le-zero h)
  pairs-fails (x ∷ xs) zero h e = clash refl e
  pairs-fails (x ∷ xs) (suc i) h e =
      split (r x (get_or xs i d))
      (λ k. and_right (all (r x) xs) (pairs-fails xs i (le_of_suc-le-suc h) (rw k at e)))
      (λ k. and_left (pairs r xs) (all-fails (r x) d xs i (le_of_suc-le-suc h) k))

  pub pairs-at : (xs : List A) (i j : ℕ) → i < j → j < length xs → pairs r xs ≡ true
      → r (get_or xs i d) (get_or xs j d) ≡ true
  unfolding pairs
  pairs-at [] i j k h e = absurd (not-suc-le-zero h)
  pairs-at (x ∷ xs) i zero k h e = absurd (not-suc-le-zero k)
  pairs-at (x ∷ xs) zero (suc j) k h e =
      all-at (r x) d xs j (le_of_suc-le-suc h) (and-fst (all (r x) xs) (pairs r xs) e)
  pairs-at (x ∷ xs) (suc i) (suc j) k h e =
      pairs-at xs i j (le_of_suc-le-suc k) (le_of_suc-le-suc h) (and-snd (all (r x) xs) (pairs r xs) e)

-- ---- one entry changed: what passes exactly if the old one did changes no test

module _ {A : Type 0} (f : A → Bool) (xs : List A) (i : ℕ) (y : A) where
  pub all_set : all f xs ≡ true → f y ≡ true → all f (set xs i y) ≡ true
  all_set a e = All-all f (set xs i y) (All-set (Pass f) xs i y (all-All f xs a) e)

module _ {A : Type 0} (f : A → Bool) (d : A) (xs : List A) (i : ℕ) (y : A) (e : f y ≡ f (get_or xs i d)) where
  pub all-same-at : all f (set xs i y) ≡ all f xs
  all-same-at =
      sym (all_map (λ b. b) f (set xs i y)) ∙ ap (all (λ b. b)) (map-set_same f xs i y d e) ∙ all_map (λ b. b) f xs

pub find-same : {A : Type 0} (f : A → Bool) (d : A) (xs : List A) (i : ℕ) (y : A) → f y ≡ f (get_or xs i d)
    → find f (set xs i y) ≡ find f xs
unfolding find
find-same f d [] i y e = refl
find-same f d (x ∷ xs) zero y e = rw e
find-same f d (x ∷ xs) (suc i) y e = rw (find-same f d xs i y e)

pub pairs-same : {A : Type 0} (r : A → A → Bool) (d : A) (xs : List A) (i : ℕ) (y : A)
    → ((z : A) → r z y ≡ r z (get_or xs i d))
    → ((z : A) → r y z ≡ r (get_or xs i d) z) → pairs r (set xs i y) ≡ pairs r xs
unfolding pairs
pairs-same r d [] i y e k = refl
pairs-same r d (x ∷ xs) zero y e k = rw (all_same (r y) (r x) xs k)
pairs-same r d (x ∷ xs) (suc i) y e k =
    ap₂ (λ a b. a && b) (all-same-at (r x) d xs i y (e x)) (pairs-same r d xs i y e k)

-- a change where one passes is a store
pub change-set : {A : Type 0} (t : A → Bool) (g : A → A) (d : A) (xs : List A) (i : ℕ) → count t xs ≤ 1 → i < length xs
    → t (get_or xs i d) ≡ true
    → change t g xs ≡ set xs i (g (get_or xs i d))
unfolding change
change-set t g d [] i c h e = absurd (not-suc-le-zero h)
change-set t g d (x ∷ xs) zero c h e =
    let z : count t (x ∷ xs) ≡ suc (count t xs) = count_yes t x xs e in
    rw e (ap (λ l. g x ∷ l) (change-same t g xs (count_none t xs (omega arith))))
change-set t g d (x ∷ xs) (suc i) c h e =
    let k : 1 ≤ count t xs = any-count t xs (any_here t d xs i (le_of_suc-le-suc h) e) in
    split (t x)
    (λ f. let z : count t (x ∷ xs) ≡ suc (count t xs) = count_yes t x xs f in absurd (omega arith))
    (λ f. let z : count t (x ∷ xs) ≡ count t xs = count_no t x xs f in
    rw f (ap (λ l. x ∷ l) (change-set t g d xs i (omega arith) (le_of_suc-le-suc h) e)))

-- ---- a list filled from another: `zs ≡ filled f i xs ys`, those below i are f of the entries of xs,
--      the others are still those of ys

module _ {A B : Type 0} (f : A → B) where
  unfoldable pub filled : ℕ → List A → List B → List B
  filled i xs ys = map f (take i xs) ++ drop i ys

  pub filled_none : (xs : List A) (ys : List B) → ys ≡ filled 0 xs ys
  unfolding filled
  filled_none xs ys = refl

  filled_next : (xs : List A) (ys : List B) (i : ℕ) (d : A) → i < length xs → length ys ≡ length xs
      → set (filled i xs ys) i (f (get_or xs i d)) ≡ filled (suc i) xs ys
  unfolding filled
  filled_next [] ys i d h e = absurd (not-suc-le-zero h)
  filled_next (x ∷ xs) [] i d h e = absurd (omega arith)
  filled_next (x ∷ xs) (y ∷ ys) zero d h e = refl
  filled_next (x ∷ xs) (y ∷ ys) (suc i) d h e =
      ap {B = List B} (λ l. f x ∷ l) (filled_next xs ys i d (le_of_suc-le-suc h) (omega arith))

  pub filled_more : (xs : List A) (ys : List B) (i : ℕ) (d : A) → i < length xs → length ys ≡ length xs
      → set (filled i xs ys) i (f (get_or xs i d)) ≡ filled (i + 1) xs ys
  filled_more xs ys i d h e = rw add-one (filled_next xs ys i d h e)

  pub filled-done : (xs : List A) (ys : List B) (i : ℕ) → length xs ≤ i → length ys ≤ i → filled i xs ys ≡ map f xs
  unfolding filled
  filled-done xs ys i h k = rw (take_all i xs h, drop_of_length-le ys k) (append-nil (map f xs))

-- ---- every entry changed by f: `ys ≡ mapped f i xs`, those below i are changed, the others not yet

module _ {A : Type 0} (f : A → A) where
  abbrev pub mapped : ℕ → List A → List A
  mapped i xs = filled f i xs xs

  pub mapped-none : (xs : List A) → xs ≡ mapped 0 xs
  mapped-none xs = filled_none f xs xs

  pub mapped-read : (xs : List A) (i : ℕ) (d : A) → get_or (mapped i xs) i d ≡ get_or xs i d
  unfolding filled
  mapped-read [] zero d = refl
  mapped-read [] (suc i) d = refl
  mapped-read (x ∷ xs) zero d = refl
  mapped-read (x ∷ xs) (suc i) d = mapped-read xs i d

  pub mapped-more : (xs : List A) (i : ℕ) (d : A) → i < length xs
      → set (mapped i xs) i (f (get_or xs i d)) ≡ mapped (i + 1) xs
  mapped-more xs i d h = filled_more f xs xs i d h refl

  pub mapped-done : (xs : List A) (i : ℕ) → length xs ≤ i → mapped i xs ≡ map f xs
  mapped-done xs i h = filled-done f xs xs i h h

-- a turn as code has it: entry i of what there is now is read, changed to t and put back, or left where f leaves it
module _ {A : Type 0} (f : A → A) (d : A) (xs ys : List A) (i : ℕ) (h : i < length xs) (k : ys ≡ mapped f i xs) where
  pub mapped-step : (zs : List A) (t : A) → t ≡ f (get_or ys i d) → zs ≡ set ys i t → zs ≡ mapped f (i + 1) xs
  mapped-step zs t e z = z ∙ rw (e, k, mapped-read f xs i d) (mapped-more f xs i d h)

  pub mapped-skip : f (get_or ys i d) ≡ get_or ys i d → ys ≡ mapped f (i + 1) xs
  mapped-skip e = mapped-step ys (get_or ys i d) (sym e) (sym (set-get_or ys i d))

-- ---- the numbers from k on, n of them: a test of every number below n is `all f (range 0 n)`

pub length-range : (k n : ℕ) → length (range k n) ≡ n
unfolding range
length-range k zero = refl
length-range k (suc n) = ap suc (length-range (suc k) n)

pub get_d-range : (k n i : ℕ) → i < n → get_or (range k n) i 0 ≡ k + i
unfolding range
get_d-range k zero i h = absurd (not-suc-le-zero h)
get_d-range k (suc n) zero h = sym (add-zero k)
get_d-range k (suc n) (suc i) h = get_d-range (suc k) n i (le_of_suc-le-suc h) ∙ suc-add k i ∙ sym (add-suc k i)

pub All-range : (P : ℕ → Type 0) (k n : ℕ) → ((i : ℕ) → k ≤ i → i < k + n → P i) → All P (range k n)
unfolding range
All-range P k zero h = tt
All-range P k (suc n) h =
    (h k (omega arith) (omega arith), All-range P (suc k) n (λ i a b. h i (omega arith) (omega arith)))

pub All-range-at : (P : ℕ → Type 0) (k n i : ℕ) → k ≤ i → i < k + n → All P (range k n) → P i
All-range-at P k n i a b c =
    let e : k + (i - k) ≡ i = omega arith in
    let m : i - k < n = omega arith in
    subst P (get_d-range k n (i - k) m ∙ e) (All-at P (range k n) (i - k) 0 (rw length-range m) c)

-- a test of every number from k on, n of them: `all f (range k i) ≡ true` when the first i have passed
range-end : (k n : ℕ) → range k (suc n) ≡ range k n ++ ((k + n) ∷ [])
unfolding range
range-end k zero = ap (λ m. m ∷ []) (sym (add-zero k))
range-end k (suc n) =
    ap (λ l. k ∷ l) (range-end (suc k) n ∙ ap (λ m. range (suc k) n ++ (m ∷ [])) (suc-add k n ∙ sym (add-suc k n)))

module _ (f : ℕ → Bool) (k : ℕ) where
  pub range_none : all f (range k 0) ≡ true
  unfolding range all
  range_none = refl

  pub range-more : (i : ℕ) → all f (range k i) ≡ true → f (k + i) ≡ true → all f (range k (i + 1)) ≡ true
  range-more i a e =
      ap (λ m. all f (range k m)) (add-one i) ∙ ap (all f) (range-end k i) ∙ all_end f (range k i) (k + i) a e

  pub range-fails : (n i : ℕ) → i < n → f (k + i) ≡ false → all f (range k n) ≡ false
  range-fails n i h e = all-fails f 0 (range k n) i (rw length-range h) (ap f (get_d-range k n i h) ∙ e)

-- ---- a count: `k + count p (drop i xs) ≡ count p xs`

module _ {A : Type 0} (p : A → Bool) (d : A) where
  pub count-start : (xs : List A) → 0 + count p (drop 0 xs) ≡ count p xs
  count-start xs = zero-add (count p xs)

  pub count-hit : (xs : List A) (i k n : ℕ) → i < length xs → k + count p (drop i xs) ≡ n → p (get_or xs i d) ≡ true
      → (k + 1) + count p (drop (i + 1) xs) ≡ n
  count-hit xs i k n h a e = omega
      (arith, ap (count p) (next xs i d h) ∙ count_yes p (get_or xs i d) (drop (i + 1) xs) e)

  pub count-miss : (xs : List A) (i k n : ℕ) → i < length xs → k + count p (drop i xs) ≡ n → p (get_or xs i d) ≡ false
      → k + count p (drop (i + 1) xs) ≡ n
  count-miss xs i k n h a e = omega
      (arith, ap (count p) (next xs i d h) ∙ count_no p (get_or xs i d) (drop (i + 1) xs) e)

  pub count-done : (xs : List A) (i k n : ℕ) → length xs ≤ i → k + count p (drop i xs) ≡ n → k ≡ n
  unfolding count
  count-done xs i k n h a = let e : count p (drop i xs) ≡ 0 = rw (drop_of_length-le xs h) in omega arith

-- ---- the first part that passes: `length (leading p (drop i xs)) + i ≡ length (leading p xs)`

module _ {A : Type 0} (p : A → Bool) (d : A) where
  pub leading-start : (xs : List A) → length (leading p (drop 0 xs)) + 0 ≡ length (leading p xs)
  leading-start xs = add-zero (length (leading p xs))

  pub leading-more : (xs : List A) (i n : ℕ) → i < length xs → length (leading p (drop i xs)) + i ≡ n
      → p (get_or xs i d) ≡ true
      → length (leading p (drop (i + 1) xs)) + (i + 1) ≡ n
  leading-more xs i n h a e =
      omega (
        arith,
        ap (λ l. length (leading p l)) (next xs i d h) ∙ ap length (leading-yes p (get_or xs i d) (drop (i + 1) xs) e),
      )

  pub leading-here : (xs : List A) (i n : ℕ) → i < length xs → length (leading p (drop i xs)) + i ≡ n
      → p (get_or xs i d) ≡ false → i ≡ n
  leading-here xs i n h a e =
      omega (
        arith,
        ap (λ l. length (leading p l)) (next xs i d h) ∙ ap length (leading-no p (get_or xs i d) (drop (i + 1) xs) e),
      )

  pub leading-done : (xs : List A) (i n : ℕ) → length xs ≤ i → length (leading p (drop i xs)) + i ≡ n → i ≡ n
  unfolding leading
  leading-done xs i n h a = let e : length (leading p (drop i xs)) ≡ 0 = rw (drop_of_length-le xs h) in omega arith

-- ---- a compaction: what is kept stands below j of cs, and from i on cs is as rs was
--      `take j cs ++ keep q (drop i rs) ≡ keep q rs` and `drop i cs ≡ drop i ds`, ds being cs before the loop

module _ {A : Type 0} (d : A) where
  pub same_from : (cs ds : List A) (i : ℕ) → drop i cs ≡ drop i ds → get_or cs i d ≡ get_or ds i d
  same_from cs ds i e =
      let z : i + 0 ≡ i = add-zero i in
      let f : get_or cs (i + 0) d ≡ get_or ds (i + 0) d =
      sym (get_or-drop i cs 0 d) ∙ ap (λ l. get_or l 0 d) e ∙ get_or-drop i ds 0 d in
      rw z at f

module _ {A : Type 0} where
  pub same_next : (cs ds : List A) (i : ℕ) → drop i cs ≡ drop i ds → drop (i + 1) cs ≡ drop (i + 1) ds
  same_next cs ds i e = sym (drop-drop 1 i cs) ∙ ap (drop 1) e ∙ drop-drop 1 i ds

  pub same_set : (cs ds : List A) (i j : ℕ) (a : A) → j ≤ i → drop i cs ≡ drop i ds
      → drop (i + 1) (set cs j a) ≡ drop (i + 1) ds
  same_set cs ds i j a h e = drop-set-lt (i + 1) cs j a (omega arith) ∙ same_next cs ds i e

  pub take-set : (cs rest : List A) (j : ℕ) (a : A) → j < length cs
      → take (j + 1) (set cs j a) ++ rest ≡ take j cs ++ (a ∷ rest)
  take-set cs rest j a h = rw (add-one, take-suc-set cs j a h) (append_snoc (take j cs) a rest)

module _ {A : Type 0} (q : A → Bool) (d : A) where
  pub kept : (cs rs : List A) (i j : ℕ) (a : A) → j < length cs → i < length rs → a ≡ get_or rs i d → q a ≡ true
      → take (j + 1) (set cs j a) ++ keep q (drop (i + 1) rs) ≡ take j cs ++ keep q (drop i rs)
  kept cs rs i j a h k e t =
      take-set cs (keep q (drop (i + 1) rs)) j a h
      ∙ ap (λ l. take j cs ++ l) (sym (ap (keep q) (rw e (next rs i d k)) ∙ keep-yes q a (drop (i + 1) rs) t))

  pub passed : (rs : List A) (i : ℕ) (a : A) → i < length rs → a ≡ get_or rs i d → q a ≡ false
      → keep q (drop (i + 1) rs) ≡ keep q (drop i rs)
  passed rs i a k e t = sym (ap (keep q) (rw e (next rs i d k)) ∙ keep-no q a (drop (i + 1) rs) t)

  pub compacted : (cs rs : List A) (i j : ℕ) → length rs ≤ i → take j cs ++ keep q (drop i rs) ≡ keep q rs
      → take j cs ≡ keep q rs
  unfolding keep
  compacted cs rs i j h e =
      sym (append-nil (take j cs)) ∙ ap (λ l. take j cs ++ keep q l) (sym (drop_of_length-le rs h)) ∙ e

-- the next entry moved down by one
pub moved : {A : Type 0} (d : A) (cs rs : List A) (i : ℕ) (a : A) → i < length cs → i + 1 < length rs
    → a ≡ get_or rs (i + 1) d
    → take (i + 1) (set cs i a) ++ drop (i + 1 + 1) rs ≡ take i cs ++ drop (i + 1) rs
moved d cs rs i a h k e =
    take-set cs (drop (i + 1 + 1) rs) i a h ∙ ap (λ l. take i cs ++ l) (sym (rw e (next rs (i + 1) d k)))

-- ---- a list copied over another, from the first entry on: `zs ≡ paste ys 0 xs i`

module _ {A : Type 0} (xs ys : List A) (i : ℕ) where
  pub paste_more : (d : A) → i < length xs → i < length ys
      → set (paste ys 0 xs i) i (get_or xs i d) ≡ paste ys 0 xs (i + 1)
  paste_more d h k =
      let z : 0 + i ≡ i = omega arith in
      ap (λ n. set (paste ys 0 xs i) n (get_or xs i d)) (sym z)
      ∙ paste-suc ys 0 xs i d (omega arith) h
      ∙ ap (paste ys 0 xs) (sym (add-one i))

  pub paste-long : i ≤ length xs → i ≤ length ys → length (paste ys 0 xs i) ≡ length ys
  paste-long h k = length-paste ys 0 xs i (omega arith) h

-- ---- places cleared: `cs ≡ paste cs₀ j (replicate (n - j) d) t`

module _ {A : Type 0} (d : A) where
  -- d from j up to, not including, n
  unfoldable pub cleared : List A → ℕ → ℕ → List A
  cleared cs j n = take j cs ++ (replicate (n - j) d ++ drop n cs)

  pub clear_step : (cs : List A) (j n t : ℕ) → t < n - j → n ≤ length cs
      → set (paste cs j (replicate (n - j) d) t) (j + t) d ≡ paste cs j (replicate (n - j) d) (t + 1)
  clear_step cs j n t h k =
      let a : j + t < length cs = omega arith in
      let b : t < length (replicate (n - j) d) = simp length-replicate (h) in
      ap (λ x. set (paste cs j (replicate (n - j) d) t) (j + t) x) (sym (get_or-replicate (n - j) t d d h))
      ∙ paste-suc cs j (replicate (n - j) d) t d a b
      ∙ ap (paste cs j (replicate (n - j) d)) (sym (add-one t))

  pub clear-done : (cs : List A) (j n t : ℕ) → t ≡ n - j → j ≤ n → paste cs j (replicate (n - j) d) t ≡ cleared cs j n
  unfolding cleared
  clear-done cs j n t e h =
      let a : j + (n - j) ≡ n = omega arith in
      let b : length (replicate (n - j) d) ≤ n - j = simp length-replicate (omega arith) in
      rw (e, take_all (n - j) (replicate (n - j) d) b, a) (append_assoc (take j cs) (replicate (n - j) d) (drop n cs))

  -- what is kept stands below j, and all behind is cleared
  pub compact : (cs rs fs : List A) (j n m : ℕ) → n ≡ length rs → j ≤ n → n ≤ m → length cs ≡ m → take j cs ≡ fs
      → drop n cs ≡ drop n (padded d m rs)
      → cleared cs j n ≡ padded d m fs
  unfolding padded cleared
  compact cs rs fs j n m e h k l p q =
      let a : length fs ≡ j = ap length (sym p) ∙ length-take-le j cs (omega arith) in
      let b : drop n (rs ++ replicate (m - length rs) d) ≡ replicate (m - length rs) d =
      drop_at rs (replicate (m - length rs) d) n (sym e) in
      let z : n - j + (m - length rs) ≡ m - length fs = omega arith in
      ap₂ (λ x y. x ++ (replicate (n - j) d ++ y)) p (q ∙ b)
      ∙ ap (λ x. fs ++ x) (replicate-append-replicate (n - j) (m - length rs) d ∙ ap (λ i. replicate i d) z)
