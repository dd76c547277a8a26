-- The words of an answer, case by case. Assumes nothing.
use Prim.Native.Nat.{ℕ}
use mathlib.Core.Path.{◌≡◌, sym, ap, ◌∙◌}
use mathlib.Core.List.{List}
use Rattle.limits.specs.Limits.{answer_words}
use Rattle.lists.specs.Lists.{padded}

-- the enum is this case
pub words-case : {A : Type 0} (f : A → List ℕ) (a k : A) → a ≡ k → (ws : List ℕ) → ws ≡ padded 0 answer_words (f k)
    → ws ≡ padded 0 answer_words (f a)
words-case f a k e ws h = h ∙ ap (λ x. padded 0 answer_words (f x)) (sym e)
