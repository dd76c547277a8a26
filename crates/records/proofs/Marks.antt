-- What is pending in a queue before the first record: its marks. Over plain variables.
use mathlib.Core.Path.{◌≡◌, sym, ap, ◌∙◌}
use mathlib.Core.Bool.{false, ◌||◌, or-false}
use mathlib.Core.List.{List, []}
use Prim.Native.Nat.{ℕ, ◌^◌, ◌<◌}
use lib.ListN.{length, get_or}
use Rattle.limits.specs.Limits.{signals}
use Rattle.lists.specs.Lists.{any}
use Rattle.lists.proofs.Index.{get_d-mapped}
use Rattle.sigset.specs.declared.SigSet.{SigSet}
use Rattle.sigset.specs.Set.{has, set_of, union}
use Rattle.sigset.proofs.Laws.{has-set, is_set}
use Rattle.rules.specs.Types.{Queue}
use Rattle.rules.specs.Store.{Place}
use Rattle.soundness.specs.Check.{seen_by, seen_sets}

module _ {A : Type 0} (queue : A → Queue) where
  pub marks-only : (x : Place A) → x.marks.0 < 2 ^ signals → seen_by queue [] x ≡ x.marks.0
  unfolding seen_by union any
  marks-only x l =
      ap (λ (a : SigSet). a.0)
      (sym (is_set x.marks (λ s. has x.marks s || has (set_of (λ t. false)) s) l
      (λ s g. sym (ap (λ b. has x.marks s || b) (has-set (λ t. false) s g) ∙ or-false (has x.marks s)))))

  -- what is marked at a place
  pub marks-at : (xs : List (Place A)) (d : Place A) (i w : ℕ) → i < length xs → w ≡ (get_or xs i d).marks.0
      → w < 2 ^ signals
      → w ≡ get_or (seen_sets queue xs []) i 0
  unfolding seen_sets
  marks-at xs d i w h k l =
      k ∙ sym (get_d-mapped (seen_by queue []) xs i d 0 h ∙ marks-only (get_or xs i d) (rw k at l))
