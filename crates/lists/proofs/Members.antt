-- Tests of a list that is mapped or has one member more, and of each member against its list. Assumes nothing.
use Prim.Native.Nat.{◌+◌}
use mathlib.Core.Path.{◌≡◌, sym, ap, ◌∙◌}
use mathlib.Core.Bool.{Bool, true, not, ◌&&◌, ◌||◌, cond}
use mathlib.Core.List.{List, [], ◌∷◌, ◌++◌, map}
use native.Mathlib.Omega.{arith}
use Rattle.lists.specs.Lists.{all, any, count, pairs_where, All}
use Rattle.lists.proofs.Bools.{or_right}
use Rattle.lists.proofs.Lists.{All-imp, All-both, any-yes, Stands, count-append, all_map, all-imp, pairs-map}
use Rattle.lists.proofs.Lists.{pairs_where-pairs}
use Rattle.lists.proofs.Loops.{pairs_end}

module _ {A B : Type 0} (f : A → B) where
  -- what each passed before, it passes after
  pub all-mapped : (p : A → Bool) (q : B → Bool) → ((x : A) → p x ≡ true → q (f x) ≡ true) → (l : List A)
      → all p l ≡ true → all q (map f l) ≡ true
  all-mapped p q h l e = all_map q f l ∙ all-imp p (λ x. q (f x)) h l e

  pub pairs_where-map : (p : B → Bool) (r : B → B → Bool) (l : List A)
      → pairs_where p r (map f l) ≡ pairs_where (λ x. p (f x)) (λ x y. r (f x) (f y)) l
  pairs_where-map p r l =
      pairs_where-pairs p r (map f l)
      ∙ pairs-map (λ x y. not (p x) || r x y) f l
      ∙ sym (pairs_where-pairs (λ x. p (f x)) (λ x y. r (f x) (f y)) l)

module _ {A : Type 0} where
  pub count-end : (p : A → Bool) (l : List A) (x : A) → count p (l ++ (x ∷ [])) ≡ count p l + cond (p x) 1 0
  unfolding count
  count-end p l x = omega (arith, count-append p l (x ∷ []))

  -- the last is held against those before it
  pub pairs_where-end : (p : A → Bool) (r : A → A → Bool) (l : List A) (x : A)
      → pairs_where p r (l ++ (x ∷ [])) ≡ (pairs_where p r l && all (λ y. not (p y) || r y x) l)
  pairs_where-end p r l x =
      pairs_where-pairs p r (l ++ (x ∷ []))
      ∙ pairs_end (λ y z. not (p y) || r y z) l x
      ∙ ap (λ (b : Bool). b && all (λ y. not (p y) || r y x) l) (sym (pairs_where-pairs p r l))

  -- each member stands in its list
  pub All-stands : (l : List A) → All (Stands l) l
  unfolding any
  All-stands [] = tt
  All-stands (x ∷ xs) = (
    λ p e. any-yes p x xs e,
    All-imp (Stands xs) (Stands (x ∷ xs)) (λ y h p e. or_right (p x) (h p e)) xs (All-stands xs),
  )

  pub All-standing : (P : A → Type 0) (l : List A) → All P l → All (λ x. Stands l x × P x) l
  All-standing P l = All-both (Stands l) P l (All-stands l)
