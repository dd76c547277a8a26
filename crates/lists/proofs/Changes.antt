-- Lists whose members are changed, or of which one is replaced: the first that passes, every two. Assumes nothing.
use mathlib.Core.Path.{◌≡◌, refl, sym, ap, ◌∙◌}
use mathlib.Core.Bool.{Bool, true, false, cond}
use mathlib.Core.List.{List, [], ◌∷◌}
use mathlib.Core.Option.{get_or}
use Rattle.lists.specs.Lists.{all, any, first, change, replace_first, pairs, All}
use Rattle.lists.proofs.Bools.{split, clash, and-fst, and-snd, and_both}
use Rattle.lists.proofs.Lists.{Pass, All-imp, All-all, any-no, all-replace_first, change-map, pairs-map}
use Rattle.lists.proofs.Lists.{pairs-imp}

module _ {A : Type 0} where
  -- what becomes of a member
  abbrev pub changed : (A → Bool) → (A → A) → A → A
  changed t g x = cond (t x) (g x) x

  -- ---- of the first that passes, or a default

  -- a change that the test does not see
  pub first-changed : (p t : A → Bool) (g : A → A) (d : A) → ((x : A) → t x ≡ true → p (g x) ≡ p x) → t d ≡ false
      → (l : List A)
      → get_or (first p (change t g l)) d ≡ changed t g (get_or (first p l) d)
  unfolding change first
  first-changed p t g d h z [] = rw z
  first-changed p t g d h z (x ∷ xs) =
      split (t x)
      (λ e. split (p x) (λ f. rw (e, h x e, f, e)) (λ f. rw (e, h x e, f) (first-changed p t g d h z xs)))
      (λ e. split (p x) (λ f. rw (e, f, e)) (λ f. rw (e, f) (first-changed p t g d h z xs)))

  -- a change of members that fail before and after
  pub first-apart : (p t : A → Bool) (g : A → A) → ((x : A) → t x ≡ true → (p x ≡ false) × (p (g x) ≡ false))
      → (l : List A)
      → first p (change t g l) ≡ first p l
  unfolding change first
  first-apart p t g h [] = refl
  first-apart p t g h (x ∷ xs) =
      split (t x)
      (λ e. rw (e, (h x e).0, (h x e).1) (first-apart p t g h xs))
      (λ e. split (p x) (λ f. rw (e, f)) (λ f. rw (e, f) (first-apart p t g h xs)))

  -- some members give way to one that fails, and the first that passes does not
  pub first-vacated : (p t : A → Bool) (z d : A) → p z ≡ false → (l : List A) → any p l ≡ true
      → t (get_or (first p l) d) ≡ false
      → first p (change t (λ _. z) l) ≡ first p l
  unfolding any first change
  first-vacated p t z d f [] e k = clash e refl
  first-vacated p t z d f (x ∷ xs) e k =
      split (p x)
      (λ h. let j : t x ≡ false = rw h at k in rw (j, h))
      (λ h.
      let i = first-vacated p t z d f xs (sym (any-no p x xs h) ∙ e) (rw h at k) in
      split (t x) (λ j. rw (j, f, h) i) (λ j. rw (j, h) i))

  -- one that fails takes the place of one that fails
  pub first-filled : (p t : A → Bool) (a : A) → p a ≡ false → (l : List A) → All (λ x. t x ≡ true → p x ≡ false) l
      → first p (replace_first t a l) ≡ first p l
  unfolding first replace_first
  first-filled p t a f [] c = refl
  first-filled p t a f (x ∷ xs) c =
      split (t x)
      (λ e. rw (e, f, c.0 e))
      (λ e. split (p x) (λ h. rw (e, h)) (λ h. rw (e, h) (first-filled p t a f xs c.1)))

  -- ---- of every two

  pub pairs-changed : (r : A → A → Bool) (t : A → Bool) (g : A → A)
      → ((x y : A) → r x y ≡ true → r (changed t g x) (changed t g y) ≡ true) → (l : List A)
      → pairs r l ≡ true → pairs r (change t g l) ≡ true
  pairs-changed r t g h l e =
      ap (pairs r) (change-map t g l) ∙ pairs-map r (changed t g) l
      ∙ pairs-imp r (λ x y. r (changed t g x) (changed t g y)) h l e

  pub pairs-filled : (r : A → A → Bool) (t : A → Bool) (a : A) (l : List A)
      → All (λ x. (r x a ≡ true) × (r a x ≡ true)) l → pairs r l ≡ true
      → pairs r (replace_first t a l) ≡ true
  unfolding pairs replace_first
  pairs-filled r t a [] c e = refl
  pairs-filled r t a (x ∷ xs) c e =
      let i = and-snd (all (r x) xs) (pairs r xs) e in
      split (t x)
      (λ f. rw f (and_both
      (All-all (r a) xs (All-imp (λ y. (r y a ≡ true) × (r a y ≡ true)) (Pass (r a)) (λ y h. h.1) xs c.1)) i))
      (λ f. rw f (and_both (all-replace_first (r x) t a c.0.0 xs (and-fst (all (r x) xs) (pairs r xs) e))
      (pairs-filled r t a xs c.1 i)))
