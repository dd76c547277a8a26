-- Tests of a padded list that pass over what it is padded with. Assumes nothing.
use Prim.Native.Nat.{ℕ, zero, suc, ◌-◌}
use mathlib.Core.Path.{◌≡◌, refl, sym, ap, ◌∙◌}
use mathlib.Core.Bool.{Bool, true, false, not, ◌&&◌, ◌||◌, cond, and-true, or-false}
use mathlib.Core.List.{List, [], ◌∷◌, ◌++◌, map}
use mathlib.Core.Option.{some}
use lib.ListN.{length, replicate, length-map}
use Rattle.lists.specs.Lists.{all, any, first, pairs_where, padded}
use Rattle.lists.proofs.Bools.{and_same}
use Rattle.lists.proofs.Lists.{all_append, any_append, all_replicate, any-replicate, first-none}

-- ---- so many of one value behind a list

module _ {A : Type 0} (d : A) (k : ℕ) where
  pub all-behind : (p : A → Bool) → p d ≡ true → (xs : List A) → all p (xs ++ replicate k d) ≡ all p xs
  all-behind p z xs =
      all_append p xs (replicate k d) ∙ ap (λ (b : Bool). all p xs && b) (all_replicate p d z k) ∙ and-true (all p xs)

  module _ (p : A → Bool) (z : p d ≡ false) where
    any-behind : (xs : List A) → any p (xs ++ replicate k d) ≡ any p xs
    any-behind xs =
        any_append p xs (replicate k d) ∙ ap (λ (b : Bool). any p xs || b) (any-replicate p d z k)
        ∙ or-false (any p xs)

    first-behind : (xs : List A) → first p (xs ++ replicate k d) ≡ first p xs
    unfolding first
    first-behind [] = first-none p (replicate k d) (any-replicate p d z k)
    first-behind (x ∷ xs) = ap (cond (p x) (some x)) (first-behind xs)

module _ {A : Type 0} (d : A) (p : A → Bool) (z : p d ≡ false) (r : A → A → Bool) where
  no_pairs : (k : ℕ) → pairs_where p r (replicate k d) ≡ true
  unfolding pairs_where
  no_pairs zero = refl
  no_pairs (suc k) = rw z (no_pairs k)

  module _ (h : (x : A) → p x ≡ true → r x d ≡ true) (k : ℕ) where
    one-behind : (x : A) (xs : List A) (b : Bool) → p x ≡ b
        → (not b || all (r x) (xs ++ replicate k d)) ≡ (not b || all (r x) xs)
    one-behind x xs true e = all-behind d k (r x) (h x e) xs
    one-behind x xs false e = refl

    pairs-behind : (xs : List A) → pairs_where p r (xs ++ replicate k d) ≡ pairs_where p r xs
    unfolding pairs_where
    pairs-behind [] = no_pairs k
    pairs-behind (x ∷ xs) = and_same (one-behind x xs (p x) refl) (pairs-behind xs)

module _ {A B : Type 0} (f : A → B) (d : A) where
  map-replicate : (k : ℕ) → map f (replicate k d) ≡ replicate k (f d)
  map-replicate zero = refl
  map-replicate (suc k) = ap (λ (l : List B). f d ∷ l) (map-replicate k)

  map-behind : (k : ℕ) (xs : List A) → map f (xs ++ replicate k d) ≡ map f xs ++ replicate k (f d)
  map-behind k [] = map-replicate k
  map-behind k (x ∷ xs) = ap (λ (l : List B). f x ∷ l) (map-behind k xs)

-- ---- padded lists

module _ {A : Type 0} (d : A) (n : ℕ) (xs : List A) where
  pub all-padded : (p : A → Bool) → p d ≡ true → all p (padded d n xs) ≡ all p xs
  unfolding padded
  all-padded p z = all-behind d (n - length xs) p z xs

  module _ (p : A → Bool) (z : p d ≡ false) where
    pub any-padded : any p (padded d n xs) ≡ any p xs
    unfolding padded
    any-padded = any-behind d (n - length xs) p z xs

    pub first-padded : first p (padded d n xs) ≡ first p xs
    unfolding padded
    first-padded = first-behind d (n - length xs) p z xs

    pub pairs_where-padded : (r : A → A → Bool) → ((x : A) → p x ≡ true → r x d ≡ true)
        → pairs_where p r (padded d n xs) ≡ pairs_where p r xs
    unfolding padded
    pairs_where-padded r h = pairs-behind d p z r h (n - length xs) xs

  pub map-padded : {B : Type 0} (f : A → B) → map f (padded d n xs) ≡ padded (f d) n (map f xs)
  unfolding padded
  map-padded f =
      map-behind f d (n - length xs) xs
      ∙ ap (λ (m : ℕ). map f xs ++ replicate (n - m) (f d)) (sym (length-map xs f))
