-- A test of every number below n, as an iterator over a range makes it. Assumes nothing.
use Prim.Native.Nat.{ℕ, zero, suc}
use mathlib.Core.Path.{◌≡◌, refl, ap, ◌∙◌}
use mathlib.Core.Bool.{Bool, ◌&&◌}
use mathlib.Core.List.{List, [], ◌∷◌}
use Rattle.std.proofs.Common.{add-one}
use Rattle.std.specs.List.{list_all, range_with_len}
use Rattle.lists.specs.Lists.{all, range}

same-range : (k n : ℕ) → range_with_len k n ≡ range k n
unfolding range
same-range k zero = refl
same-range k (suc n) = ap (λ l. k ∷ l) (ap (λ m. range_with_len m n) (add-one k) ∙ same-range (suc k) n)

same-all : (f : ℕ → Bool) (l : List ℕ) → list_all f l ≡ all f l
unfolding all
same-all f [] = refl
same-all f (x ∷ l) = ap (λ b. f x && b) (same-all f l)

pub all-range : (f : ℕ → Bool) (n : ℕ) → list_all f (range_with_len 0 n) ≡ all f (range 0 n)
all-range f n = same-all f (range_with_len 0 n) ∙ ap (all f) (same-range 0 n)
