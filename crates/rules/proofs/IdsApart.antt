-- Distinct ids stay distinct where places are amended or freed, and where one with an id of nobody is filled.
-- Assumes nothing.
use Prim.Native.Nat.{ℕ}
use mathlib.Core.Path.{◌≡◌, refl, sym, ap, ◌∙◌}
use mathlib.Core.Bool.{Bool, true, false, not, ◌||◌}
use mathlib.Core.List.{List, map}
use lib.Dec.{eqb}
use borrow.Author.Tests.{eqb-true, eq-eqb, not-true}
use Rattle.lists.specs.Lists.{any, change, replace_first, pairs_where}
use Rattle.lists.proofs.Bools.{split, clash, and_both, or_left, or_cases, imp_use, imp-by}
use Rattle.lists.proofs.Lists.{Fail, All-imp, any-All, any-map, pairs_where-pairs}
use Rattle.lists.proofs.Changes.{changed, pairs-changed, pairs-filled}
use Rattle.rules.specs.Store.{Place, held}
use Rattle.rules.specs.Sound.{is_live, apart}
use Rattle.rules.proofs.Ids.{named}

-- a' is a or 0, b' is b or 0
kept-apart : (a a' b b' : ℕ) → (eqb a' a || eqb a' 0) ≡ true → (eqb b' b || eqb b' 0) ≡ true
    → (not (not (eqb a 0)) || not (eqb a b)) ≡ true
    → (not (not (eqb a' 0)) || not (eqb a' b')) ≡ true
kept-apart a a' b b' h k e =
    imp-by (not (eqb a' 0))
    (λ l.
    let z : eqb a' 0 ≡ false = not-true (eqb a' 0) l in
    let p : a' ≡ a = or_cases (eqb a' a) (eqb a' 0) h (λ f. eqb-true a' a f) (λ f. clash f z) in
    let f : eqb a b ≡ false =
    not-true (eqb a b) (imp_use (not (eqb a 0)) (not (eqb a b)) e (ap (λ (m : ℕ). not (eqb m 0)) (sym p) ∙ l)) in
    split (eqb a' b')
    (λ t.
    let q : a' ≡ b' = eqb-true a' b' t in
    or_cases (eqb b' b) (eqb b' 0) k
    (λ j. clash (eq-eqb a b (sym p ∙ q ∙ eqb-true b' b j)) f)
    (λ j. clash (eq-eqb a' 0 (q ∙ eqb-true b' 0 j)) z))
    (λ t. ap not t))

module _ {A : Type 0} (id : A → ℕ) where
  abbrev unlike_live : Place A → Place A → Bool
  unlike_live x y = not (is_live id x) || apart id x y

  -- the place keeps its id or becomes free
  abbrev same_or_free : Place A → Place A → Bool
  same_or_free x y = eqb (id y.holds) (id x.holds) || eqb (id y.holds) 0

  pub apart-changed : (t : Place A → Bool) (g : Place A → Place A) → ((x : Place A) → same_or_free x (g x) ≡ true)
      → (xs : List (Place A))
      → pairs_where (is_live id) (apart id) xs ≡ true → pairs_where (is_live id) (apart id) (change t g xs) ≡ true
  apart-changed t g h xs e =
      let s : (x : Place A) → same_or_free x (changed t g x) ≡ true =
      λ x. split (t x) (λ f. rw f (h x))
      (λ f. rw f (or_left (eqb (id x.holds) 0) (eq-eqb (id x.holds) (id x.holds) refl))) in
      pairs_where-pairs (is_live id) (apart id) (change t g xs)
      ∙ pairs-changed unlike_live t g
      (λ x y. kept-apart (id x.holds) (id (changed t g x).holds) (id y.holds) (id (changed t g y).holds)
      (s x) (s y))
      xs (sym (pairs_where-pairs (is_live id) (apart id) xs) ∙ e)

  -- nobody has the id of what comes
  pub apart-filled : (t : Place A → Bool) (a : Place A) → is_live id a ≡ true → (xs : List (Place A))
      → any (named id (id a.holds)) (map held xs) ≡ false
      → pairs_where (is_live id) (apart id) xs ≡ true → pairs_where (is_live id) (apart id) (replace_first t a xs)
      ≡ true
  apart-filled t a l xs n e =
      pairs_where-pairs (is_live id) (apart id) (replace_first t a xs)
      ∙ pairs-filled unlike_live t a xs
      (All-imp (Fail (λ (x : Place A). named id (id a.holds) x.holds))
      (λ x. (unlike_live x a ≡ true) × (unlike_live a x ≡ true))
      (λ x f. (
        imp-by (is_live id x)
            (λ _. split (eqb (id x.holds) (id a.holds)) (λ h. clash (and_both l h) f) (λ h. ap not h)),
        imp-by (is_live id a)
            (λ _.
            split (eqb (id a.holds) (id x.holds))
            (λ h. clash
            (and_both l (eq-eqb (id x.holds) (id a.holds) (sym (eqb-true (id a.holds) (id x.holds) h)))) f)
            (λ h. ap not h)),
      ))
      xs (any-All (λ (x : Place A). named id (id a.holds) x.holds) xs
      (sym (any-map (named id (id a.holds)) held xs) ∙ n)))
      (sym (pairs_where-pairs (is_live id) (apart id) xs) ∙ e)
