-- Laws of a search: the index of the first that passes, or the length. Assumes nothing.
use Prim.Native.Nat.{ℕ, zero, suc, ◌+◌, ◌≤◌, ◌<◌, zero-le, suc-le-suc}
use mathlib.Core.Path.{◌≡◌, refl, sym, ap, ap₂, subst, fun_ext, ◌∙◌}
use mathlib.Core.Bool.{Bool, true, false, cond}
use mathlib.Core.List.{List, [], ◌∷◌, map}
use mathlib.Core.Option
use native.Mathlib.Nat.{not-suc-le-zero, le_of_suc-le-suc}
use native.Mathlib.Numerals.{one-add}
use native.Mathlib.Omega.{arith}
use borrow.Author.Tests.{lt-ltb, le-ltb}
use lib.Dec.{ltb}
use lib.ListN.{length, get_or, drop, length-map}
use Rattle.std.specs.Prelude.{Some, None, is_some, position}
use Rattle.std.specs.List.{position_or_len}
use Rattle.std.proofs.lemmas.List.Recursion.{is_position_or_len}
use Rattle.lists.specs.Lists.{any, find, first}
use Rattle.lists.proofs.Bools.{split, or-fst-false, or-snd-false}
use Rattle.lists.proofs.Lists.{find-yes, find-no}
use Rattle.lists.proofs.Loops.{any_here, find-any, find-le, any-find, find-here, find-done}

module _ {A : Type 0} (f : A → Bool) (d : A) where
  pub find_first : (xs : List A) (i : ℕ) → i < length xs → f (get_or xs i d) ≡ true
      → ((j : ℕ) → j < i → f (get_or xs j d) ≡ false) → find f xs ≡ i
  find_first [] i h e n = absurd (not-suc-le-zero h)
  find_first (x ∷ xs) zero h e n = find-yes f x xs e
  find_first (x ∷ xs) (suc i) h e n =
      find-no f x xs (n 0 (suc-le-suc zero-le))
      ∙ ap suc (find_first xs i (le_of_suc-le-suc h) e (λ j k. n (suc j) (suc-le-suc k)))

  pub find-below : (xs : List A) (i : ℕ) → i < length xs → f (get_or xs i d) ≡ true → find f xs ≤ i
  find-below [] i h e = absurd (not-suc-le-zero h)
  find-below (x ∷ xs) zero h e = omega (arith, find-yes f x xs e)
  find-below (x ∷ xs) (suc i) h e =
      split (f x)
      (λ k. omega (arith, find-yes f x xs k))
      (λ k. omega (arith, find-no f x xs k, find-below xs i (le_of_suc-le-suc h) e))

  -- found or not
  pub get_d-find : (xs : List A) → Option.get_or (first f xs) d ≡ get_or xs (find f xs) d
  unfolding first find
  get_d-find [] = refl
  get_d-find (x ∷ xs) = split (f x) (λ e. rw e) (λ e. rw e (get_d-find xs))

pub find-map : {A B : Type 0} (p : B → Bool) (f : A → B) (xs : List A) → find p (map f xs) ≡ find (λ x. p (f x)) xs
unfolding find
find-map p f [] = refl
find-map p f (x ∷ xs) = rw (find-map p f xs)

module _ {A : Type 0} (p : A → Bool) where
  pub find_absent : (xs : List A) → any p xs ≡ false → find p xs ≡ length xs
  unfolding find any
  find_absent [] e = refl
  find_absent (x ∷ xs) e =
      rw (or-fst-false (p x) (any p xs) e) (ap suc (find_absent xs (or-snd-false (p x) (any p xs) e)))

  -- a search ends within the list exactly if something passes
  pub find-within : (xs : List A) → ltb (find p xs) (length xs) ≡ any p xs
  find-within xs =
      split (any p xs)
      (λ e. lt-ltb (find p xs) (length xs) (find-any p xs e) ∙ sym e)
      (λ e. le-ltb (find p xs) (length xs) (omega (arith, find_absent xs e)) ∙ sym e)

  -- ---- the search of std: the index of the first that passes, if something passes

  find-len : (xs : List A) → find p xs ≡ position_or_len p xs
  unfolding find
  find-len xs = is_position_or_len (find p) p refl (λ x ys. ap (cond (p x) 0) (sym (one-add (find p ys)))) xs

  position-at : (xs : List A) → position p xs ≡ cond (ltb (find p xs) (length xs)) (Some (find p xs)) None
  position-at xs = ap (λ n. cond (ltb n (length xs)) (Some n) None) (sym (find-len xs))

  pub position-is : (xs : List A) → position p xs ≡ cond (any p xs) (Some (find p xs)) None
  position-is xs = position-at xs ∙ ap (λ b. cond b (Some (find p xs)) None) (find-within xs)

  pub position-found : (xs : List A) → any p xs ≡ true → position p xs ≡ Some (find p xs)
  position-found xs e = position-is xs ∙ ap (λ b. cond b (Some (find p xs)) None) e

  pub position-absent : (xs : List A) → any p xs ≡ false → position p xs ≡ None
  position-absent xs e = position-is xs ∙ ap (λ b. cond b (Some (find p xs)) None) e

  pub any-some : (xs : List A) (i : ℕ) → position p xs ≡ Some i → any p xs ≡ true
  any-some xs i h = split (any p xs) (λ e. e) (λ e. let n = position-absent xs e in cc)

  pub find-some : (xs : List A) (i : ℕ) → position p xs ≡ Some i → find p xs ≡ i
  find-some xs i h = let f = position-found xs (any-some xs i h) in cc

  pub some-inside : (xs : List A) (i : ℕ) → position p xs ≡ Some i → i < length xs
  some-inside xs i h = let l = find-any p xs (any-some xs i h) in omega (arith, find-some xs i h)

  pub any-none : (xs : List A) → position p xs ≡ None → any p xs ≡ false
  any-none xs h = split (any p xs) (λ e. let f = position-found xs e in cc) (λ e. e)

  pub is-some : (xs : List A) → is_some (position p xs) ≡ any p xs
  is-some xs =
      split (any p xs)
      (λ e. ap is_some (position-found xs e) ∙ sym e)
      (λ e. ap is_some (position-absent xs e) ∙ sym e)

  -- the end of a search that has passed the first i
  pub position-here : (d : A) (xs : List A) (i : ℕ) → i < length xs → find p xs ≡ i + find p (drop i xs)
      → p (get_or xs i d) ≡ true → position p xs ≡ Some i
  position-here d xs i h a e = position-found xs (any_here p d xs i h e) ∙ ap Some (find-here p d xs i h a e)

  pub position-nowhere : (d : A) (xs : List A) (i : ℕ) → length xs ≤ i → find p xs ≡ i + find p (drop i xs)
      → position p xs ≡ None
  position-nowhere d xs i h a =
      position-absent xs
      (sym (find-within xs) ∙ le-ltb (find p xs) (length xs) (omega (arith, find-done p d xs i h a)))

pub position-map : {A B : Type 0} (p : B → Bool) (f : A → B) (xs : List A)
    → position p (map f xs) ≡ position (λ x. p (f x)) xs
position-map p f xs =
    position-at p (map f xs)
    ∙ ap₂ (λ n m. cond (ltb n m) (Some n) None) (find-map p f xs) (length-map xs f)
    ∙ sym (position-at (λ x. p (f x)) xs)

module _ {A : Type 0} (p q : A → Bool) where
  pub position-alike : (xs : List A) → ((x : A) → p x ≡ q x) → position p xs ≡ position q xs
  position-alike xs h = ap (λ (f : A → Bool). position f xs) (fun_ext h)

  pub find-alike : (xs : List A) → ((x : A) → p x ≡ q x) → find p xs ≡ find q xs
  find-alike xs h = ap (λ (f : A → Bool). find f xs) (fun_ext h)

-- ---- what was looked up, in a list of n entries: `place` is where it is, or n

module _ {A : Type 0} (p : A → Bool) (d : A) (xs : List A) (n place : ℕ) (long : length xs ≡ n)
    (e : place ≡ find p xs) where
  pub found_inside : (place ≡ n → ⊥) → place < n
  found_inside z = let a = find-le p xs in omega (arith, e)

  pub found-any : (place ≡ n → ⊥) → any p xs ≡ true
  found-any z = let h = found_inside z in any-find p d xs (omega (arith, e))

  pub absent-any : place ≡ n → any p xs ≡ false
  absent-any z = sym (find-within p xs) ∙ le-ltb (find p xs) (length xs) (omega (arith, e))

-- something passes, so the search ends inside
pub any-inside : {A : Type 0} (p : A → Bool) (xs : List A) (n : ℕ) → length xs ≡ n → any p xs ≡ true → find p xs < n
any-inside p xs n e a = subst (λ k. find p xs < k) e (find-any p xs a)
