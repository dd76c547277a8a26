-- A list within another: the other with some members left out, in order. What it keeps of the other. Assumes nothing.
use Prim.Native.Nat.{◌≤◌, suc-le-suc}
use mathlib.Core.Path.{◌≡◌}
use mathlib.Core.Bool.{Bool, true, not, ◌||◌}
use mathlib.Core.List.{List, [], ◌∷◌}
use native.Mathlib.Omega.{arith}
use lib.ListN.{length}
use Rattle.lists.specs.Lists.{all, count, keep, drop_first, pairs, pairs_where, All}
use Rattle.lists.proofs.Bools.{split, and-fst, and-snd, and_both}
use Rattle.lists.proofs.Lists.{Pass, all-All, All-all, pairs_where-pairs}

pub data Within {A : Type 0} : List A → List A → Type 0 where
  ended : Within [] []
  kept : (x : A) {xs ys : List A} → Within xs ys → Within (x ∷ xs) (x ∷ ys)
  left : (x : A) {xs ys : List A} → Within xs ys → Within xs (x ∷ ys)

module _ {A : Type 0} where
  pub within-refl : (xs : List A) → Within xs xs
  within-refl [] = ended
  within-refl (x ∷ xs) = kept x (within-refl xs)

  module _ (p : A → Bool) where
    pub keep-within : (xs : List A) → Within (keep p xs) xs
    unfolding keep
    keep-within [] = ended
    keep-within (x ∷ xs) = split (p x) (λ e. rw e (kept x (keep-within xs))) (λ e. rw e (left x (keep-within xs)))

    pub drop_first-within : (xs : List A) → Within (drop_first p xs) xs
    unfolding drop_first
    drop_first-within [] = ended
    drop_first-within (x ∷ xs) =
        split (p x) (λ e. rw e (left x (within-refl xs))) (λ e. rw e (kept x (drop_first-within xs)))

  pub All-within : (P : A → Type 0) {xs ys : List A} → Within xs ys → All P ys → All P xs
  All-within P ended c = tt
  All-within P (kept x w) c = (c.0, All-within P w c.1)
  All-within P (left x w) c = All-within P w c.1

  pub all-within : (p : A → Bool) {xs ys : List A} → Within xs ys → all p ys ≡ true → all p xs ≡ true
  all-within p {xs} {ys} w e = All-all p xs (All-within (Pass p) w (all-All p ys e))

  pub pairs-within : (r : A → A → Bool) {xs ys : List A} → Within xs ys → pairs r ys ≡ true → pairs r xs ≡ true
  unfolding pairs
  pairs-within r ended e = e
  pairs-within r (kept x {xs} {ys} w) e =
      and_both (all-within (r x) w (and-fst (all (r x) ys) (pairs r ys) e))
      (pairs-within r w (and-snd (all (r x) ys) (pairs r ys) e))
  pairs-within r (left x {xs} {ys} w) e = pairs-within r w (and-snd (all (r x) ys) (pairs r ys) e)

  pub pairs_where-within : (p : A → Bool) (r : A → A → Bool) {xs ys : List A} → Within xs ys → pairs_where p r ys ≡ true
      → pairs_where p r xs ≡ true
  pairs_where-within p r w e =
      rw pairs_where-pairs (pairs-within (λ x y. not (p x) || r x y) w (rw pairs_where-pairs at e))

  pub count-within : (p : A → Bool) {xs ys : List A} → Within xs ys → count p xs ≤ count p ys
  unfolding count
  count-within p ended = omega arith
  count-within p (kept x w) = omega (arith, count-within p w)
  count-within p (left x w) = omega (arith, count-within p w)

  pub length-within : {xs ys : List A} → Within xs ys → length xs ≤ length ys
  length-within ended = omega arith
  length-within (kept x w) = suc-le-suc (length-within w)
  length-within (left x w) = omega (arith, length-within w)
