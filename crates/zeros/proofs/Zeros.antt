-- What is put together by `or` is zero exactly if each part is; and a list taken block by block. Assumes nothing.
use Rattle.std.proofs.Common.{◌≡◌, ◌∙◌, sym, ap, ℕ, ◌+◌, ◌<◌, Bool, true, false, ◌&&◌, List, length, take, drop, get_or}
use Rattle.std.proofs.Common.{take-append-drop}
use Rattle.std.specs.List.{IsSplitAt}
use lib.Bits.{bit_or}
use Rattle.lists.specs.Lists.{all}
use Rattle.lists.proofs.Bits.{or-zero}
use Rattle.lists.proofs.Lists.{all_append}
use Rattle.lists.proofs.Loops.{all-next}
use Rattle.zeros.specs.Zeros.{is_nought}

pub or_nought : (a b : ℕ) → is_nought (bit_or a b) ≡ (is_nought a && is_nought b)
unfolding is_nought
or_nought = or-zero

module _ {A : Type 0} (f : A → Bool) (xs : List A) where
  -- element i is read
  pub all-more : (i : ℕ) (x : A) → i < length xs → x ≡ get_or xs i x
      → all f (take (i + 1) xs) ≡ (all f (take i xs) && f x)
  all-more i x h e = all-next f x xs i h ∙ ap (λ y. all f (take i xs) && f y) (sym e)

  module _ (n : ℕ) (front behind : List A) (cut : IsSplitAt xs n front behind) where
    parts : all f xs ≡ (all f front && all f behind)
    parts =
        rw (cut.1, cut.2) (ap (all f) (sym (take-append-drop n xs)) ∙ all_append f (take n xs) (drop n xs))

    pub all-front : true ≡ all f front → all f xs ≡ all f behind
    all-front e = rw (← e) at parts

    pub not-front : false ≡ all f front → all f xs ≡ false
    not-front e = rw (← e) at parts
