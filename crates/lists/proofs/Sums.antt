-- Sums over lists. Assumes nothing.
use mathlib.Core.Path.{◌≡◌, refl, sym, ap, ap₂, ◌∙◌, fun_ext}
use mathlib.Core.Bool.{Bool, true, false, ◌&&◌, cond}
use mathlib.Core.List.{List, [], ◌∷◌, ◌++◌, map}
use mathlib.Core.Option.{some}
use Prim.Native.Nat.{ℕ, zero, suc, ◌+◌, ◌*◌, ◌≤◌, ◌<◌}
use native.Mathlib.Nat.{zero-mul, suc-mul, add-mul, not-suc-le-zero, le_of_suc-le-suc}
use native.Mathlib.Omega.{arith}
use lib.ListN.{length, get_or, set}
use lib.Dec.{eqb}
use borrow.Author.Tests.{eqb-true, eqb-false, ne_eqb}
use Rattle.lists.specs.Lists.{count, first, keep, replace_first, drop_first, is_some, sum, range, All}
use Rattle.lists.proofs.Bools.{split, clash, and_right}
use Rattle.lists.proofs.Lists.{All-imp, count-and, count_same, first-yes, first-no}

module _ {A : Type 0} where
  pub sum-zero : (l : List A) → sum (λ _. 0) l ≡ 0
  unfolding sum
  sum-zero [] = refl
  sum-zero (x ∷ xs) = omega (arith, sum-zero xs)

  pub sum-const : (k : ℕ) (l : List A) → sum (λ _. k) l ≡ length l * k
  unfolding sum
  sum-const k [] = sym (zero-mul k)
  sum-const k (x ∷ xs) = omega (arith, sum-const k xs, suc-mul (length xs) k)

  module _ (f g : A → ℕ) where
    pub sum-add : (l : List A) → sum (λ x. f x + g x) l ≡ sum f l + sum g l
    unfolding sum
    sum-add [] = refl
    sum-add (x ∷ xs) = omega (arith, sum-add xs)

    pub sum_same : (l : List A) → All (λ x. f x ≡ g x) l → sum f l ≡ sum g l
    unfolding sum
    sum_same [] h = refl
    sum_same (x ∷ xs) h = ap₂ (λ a b. a + b) h.0 (sum_same xs h.1)

    pub sum-ext : (l : List A) → ((x : A) → f x ≡ g x) → sum f l ≡ sum g l
    sum-ext l h = ap (λ k. sum k l) (fun_ext h)

    pub sum-le : (l : List A) → All (λ x. f x ≤ g x) l → sum f l ≤ sum g l
    unfolding sum
    sum-le [] h = omega arith
    sum-le (x ∷ xs) h = let a : f x ≤ g x = h.0 in omega (arith, sum-le xs h.1)

  module _ (f : A → ℕ) where
    pub sum-append : (xs ys : List A) → sum f (xs ++ ys) ≡ sum f xs + sum f ys
    unfolding sum
    sum-append [] ys = omega arith
    sum-append (x ∷ xs) ys = omega (arith, sum-append xs ys)

    pub sum-map : {B : Type 0} (h : B → A) (l : List B) → sum f (map h l) ≡ sum (λ x. f (h x)) l
    unfolding sum
    sum-map h [] = refl
    sum-map h (x ∷ xs) = ap (λ n. f (h x) + n) (sum-map h xs)

    pub sum-keep : (p : A → Bool) (l : List A) → sum f (keep p l) ≡ sum (λ x. cond (p x) (f x) 0) l
    unfolding sum keep
    sum-keep p [] = refl
    sum-keep p (x ∷ xs) =
        split (p x) (λ e. rw e (ap (λ n. f x + n) (sum-keep p xs))) (λ e. rw e (omega (arith, sum-keep p xs)))

    -- each at most k
    pub sum_bound : (k : ℕ) (l : List A) → All (λ x. f x ≤ k) l → sum f l ≤ length l * k
    sum_bound k l h = omega (arith, sum-le f (λ _. k) l h, sum-const k l)

    pub sum-times : (k : ℕ) (l : List A) → sum (λ x. f x * k) l ≡ sum f l * k
    unfolding sum
    sum-times k [] = sym (zero-mul k)
    sum-times k (x ∷ xs) = ap (λ n. f x * k + n) (sum-times k xs) ∙ sym (add-mul (f x) (sum f xs) k)

    -- one member replaced, or left out
    pub sum-set : (l : List A) (i : ℕ) (a d : A) → i < length l → sum f (set l i a) + f (get_or l i d) ≡ sum f l + f a
    unfolding sum
    sum-set [] i a d h = absurd (not-suc-le-zero h)
    sum-set (x ∷ xs) zero a d h = omega arith
    sum-set (x ∷ xs) (suc i) a d h = omega (arith, sum-set xs i a d (le_of_suc-le-suc h))

    pub sum-replace_first : (t : A → Bool) (a b : A) (l : List A) → first t l ≡ some b
        → sum f (replace_first t a l) + f b ≡ sum f l + f a
    unfolding sum first replace_first
    sum-replace_first t a b [] e = clash refl (sym (ap is_some e))
    sum-replace_first t a b (x ∷ xs) e =
        split (t x)
        (λ k. let z : x ≡ b = cc (first-yes t x xs k) in rw (k, ← z) (omega arith))
        (λ k. rw k (omega (arith, sum-replace_first t a b xs (sym (first-no t x xs k) ∙ e))))

    pub sum-drop_first : (t : A → Bool) (b : A) (l : List A) → first t l ≡ some b → sum f (drop_first t l) + f b
        ≡ sum f l
    unfolding sum first drop_first
    sum-drop_first t b [] e = clash refl (sym (ap is_some e))
    sum-drop_first t b (x ∷ xs) e =
        split (t x)
        (λ k. let z : x ≡ b = cc (first-yes t x xs k) in rw (k, ← z) (omega arith))
        (λ k. rw k (omega (arith, sum-drop_first t b xs (sym (first-no t x xs k) ∙ e))))

  -- a count is a sum
  pub count-sum : (p : A → Bool) (l : List A) → count p l ≡ sum (λ x. cond (p x) 1 0) l
  unfolding count sum
  count-sum p [] = refl
  count-sum p (x ∷ xs) = ap (λ n. cond (p x) 1 0 + n) (count-sum p xs)

-- ---- double sums

module _ {A B : Type 0} where
  pub sum-swap : (f : A → B → ℕ) (xs : List A) (ys : List B)
      → sum (λ a. sum (λ b. f a b) ys) xs ≡ sum (λ b. sum (λ a. f a b) xs) ys
  unfolding sum
  sum-swap f [] ys = sym (sum-zero ys)
  sum-swap f (a ∷ xs) ys =
      ap (λ n. sum (f a) ys + n) (sum-swap f xs ys) ∙ sym (sum-add (f a) (λ b. sum (λ a. f a b) xs) ys)

  pub count-swap : (r : A → B → Bool) (xs : List A) (ys : List B)
      → sum (λ a. count (r a) ys) xs ≡ sum (λ b. count (λ a. r a b) xs) ys
  count-swap r xs ys =
      sum-ext (λ a. count (r a) ys) (λ a. sum (λ b. cond (r a b) 1 0) ys) xs (λ a. count-sum (r a) ys)
      ∙ sum-swap (λ a b. cond (r a b) 1 0) xs ys
      ∙ sum-ext (λ b. sum (λ a. cond (r a b) 1 0) xs) (λ b. count (λ a. r a b) xs) ys
      (λ b. sym (count-sum (λ a. r a b) xs))

  -- a member that passes belongs to one part, any other to none: the parts' counts sum to the count of those that pass
  pub count-parts : (r : A → B → Bool) (q : B → Bool) (xs : List A) (ys : List B)
      → All (λ b. count (λ a. r a b) xs ≡ cond (q b) 1 0) ys
      → sum (λ a. count (r a) ys) xs ≡ count q ys
  count-parts r q xs ys h =
      count-swap r xs ys ∙ sum_same (λ b. count (λ a. r a b) xs) (λ b. cond (q b) 1 0) ys h ∙ sym (count-sum q ys)

  -- each member belongs to some part, and no part has more than k
  pub pigeonhole : (r : A → B → Bool) (k : ℕ) (xs : List A) (ys : List B) → All (λ b. 1 ≤ count (λ a. r a b) xs) ys
      → All (λ a. count (r a) ys ≤ k) xs
      → length ys ≤ length xs * k
  pigeonhole r k xs ys h room =
      omega (
        arith,
        sum-const 1 ys,
        sum-le (λ _. 1) (λ b. count (λ a. r a b) xs) ys h,
        count-swap r xs ys,
        sum_bound (λ a. count (r a) ys) k xs room,
      )

-- each member belongs to one part, its own: a test of part and member is counted at each member's own part
pub sum-parts : {A B : Type 0} (r : A → B → Bool) (own : B → A) → ((a : A) (b : B) → r a b ≡ true → a ≡ own b)
    → (p : A → B → Bool) (xs : List A) (ys : List B)
    → All (λ b. count (λ a. r a b) xs ≡ 1) ys
    → sum (λ a. count (λ b. p a b && r a b) ys) xs ≡ count (λ b. p (own b) b) ys
sum-parts {A} r own o p xs ys h =
    count-parts (λ a b. p a b && r a b) (λ b. p (own b) b) xs ys
    (All-imp (λ b. count (λ a. r a b) xs ≡ 1) (λ b. count (λ a. p a b && r a b) xs ≡ cond (p (own b) b) 1 0)
    (λ b e.
    count_same (λ a. p a b && r a b) (λ a. p (own b) b && r a b) xs
    (λ a. split (r a b) (λ e. ap (λ (x : A). p x b && r a b) (o a b e))
    (λ e. and_right (p a b) e ∙ sym (and_right (p (own b) b) e)))
    ∙ count-and (p (own b) b) (λ a. r a b) xs
    ∙ ap (λ (n : ℕ). cond (p (own b) b) n 0) e)
    ys h)

-- ---- numbers from k on: one below k + n is met once

pub count-range-none : (k n m : ℕ) → m < k → count (λ s. eqb s m) (range k n) ≡ 0
unfolding count range
count-range-none k zero m h = refl
count-range-none k (suc n) m h =
    let e : eqb k m ≡ false = ne_eqb k m (λ e. omega arith) in
    rw e (omega (arith, count-range-none (suc k) n m (omega arith)))

pub count-range : (k n m : ℕ) → k ≤ m → m < k + n → count (λ s. eqb s m) (range k n) ≡ 1
unfolding count range
count-range k zero m h j = absurd (let z : ⊥ = omega arith in z)
count-range k (suc n) m h j =
    split (eqb k m)
    (λ e. let q : k ≡ m = eqb-true k m e in rw e (omega (arith, count-range-none (suc k) n m (omega arith))))
    (λ e. let q : (k ≡ m → ⊥) = eqb-false k m e in
    let i : count (λ s. eqb s m) (range (suc k) n) ≡ 1 = count-range (suc k) n m (omega arith) (omega arith) in
    rw e (omega arith))
