-- Tests and changes over a list. Nothing here knows what the list holds.
use Rattle.std.specs.Prelude.{Bool, true, false, not, ◌&&◌, ◌||◌, cond, List, [], ◌∷◌, ◌++◌, ℕ, zero, suc, ◌+◌, ◌-◌}
use Rattle.std.specs.Prelude.{length, replicate}
use Rattle.std.proofs.Math.Option.{Option, some, none}

-- x before the others, or not
abbrev pub cons_if : {A : Type 0} → Bool → A → List A → List A
cons_if true x xs = x ∷ xs
cons_if false x xs = xs

module _ {A : Type 0} (p : A → Bool) where
  -- every member passes the test
  unfoldable pub all : List A → Bool
  all [] = true
  all (x ∷ xs) = p x && all xs

  -- some member passes
  unfoldable pub any : List A → Bool
  any [] = false
  any (x ∷ xs) = p x || any xs

  -- how many pass
  unfoldable pub count : List A → ℕ
  count [] = 0
  count (x ∷ xs) = cond (p x) 1 0 + count xs

  -- the index of the first that passes, or the length
  unfoldable pub find : List A → ℕ
  find [] = 0
  find (x ∷ xs) = cond (p x) 0 (suc (find xs))

  -- the first that passes
  unfoldable pub first : List A → Option A
  first [] = none
  first (x ∷ xs) = cond (p x) (some x) (first xs)

  -- those that pass, in order
  unfoldable pub keep : List A → List A
  keep [] = []
  keep (x ∷ xs) = cons_if (p x) x (keep xs)

  -- those before the first that fails
  unfoldable pub leading : List A → List A
  leading [] = []
  leading (x ∷ xs) = cond (p x) (x ∷ leading xs) []

  -- all but the first that passes
  unfoldable pub drop_first : List A → List A
  drop_first [] = []
  drop_first (x ∷ xs) = cond (p x) xs (x ∷ drop_first xs)

  -- those that pass are changed by g
  unfoldable pub change : (A → A) → List A → List A
  change g [] = []
  change g (x ∷ xs) = cond (p x) (g x) x ∷ change g xs

  -- the first that passes is replaced
  unfoldable pub replace_first : A → List A → List A
  replace_first a [] = []
  replace_first a (x ∷ xs) = cond (p x) (a ∷ xs) (x ∷ replace_first a xs)

-- every two members, an earlier and a later one, pass the test
unfoldable pub pairs : {A : Type 0} → (A → A → Bool) → List A → Bool
pairs r [] = true
pairs r (x ∷ xs) = all (r x) xs && pairs r xs

-- the same of every member that passes a test and every later one
unfoldable pub pairs_where : {A : Type 0} → (A → Bool) → (A → A → Bool) → List A → Bool
pairs_where p r [] = true
pairs_where p r (x ∷ xs) = (not (p x) || all (r x) xs) && pairs_where p r xs

unfoldable pub sum : {A : Type 0} → (A → ℕ) → List A → ℕ
sum f [] = 0
sum f (x ∷ xs) = f x + sum f xs

-- there is something
abbrev pub is_some : {A : Type 0} → Option A → Bool
is_some none = false
is_some (some a) = true

-- n numbers from k on
unfoldable pub range : ℕ → ℕ → List ℕ
range k zero = []
range k (suc n) = k ∷ range (suc k) n

-- the list followed by as many d as make its length n
unfoldable pub padded : {A : Type 0} → A → ℕ → List A → List A
padded d n xs = xs ++ replicate (n - length xs) d

-- P holds of every member
abbrev pub All : {A : Type 0} → (A → Type 0) → List A → Type 0
All P [] = Unit {0}
All P (x ∷ xs) = P x × All P xs
