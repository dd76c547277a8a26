-- The first slot that passes, as `position` over the places finds it. Assumes nothing.
use Rattle.std.proofs.Common.{◌≡◌, refl, sym, ap, ◌∙◌, ℕ, suc, ◌+◌, ◌<◌, Bool, true, false, not, cond, List, [], ◌∷◌}
use Rattle.std.proofs.Common.{length, get_or, arith, Option, Some, None, add-zero, zero-add, ap₂}
use Rattle.std.specs.declared.ops.Range.{Range}
use Rattle.std.specs.Fn.{Called}
use Rattle.std.specs.Iterator.{YieldsThen}
use Rattle.std.specs.List.{FoldsTo, position_or_len, range_with_len}
use Rattle.std.specs.Option.{MatchOption, unwrap_or}
use Rattle.std.proofs.iter.Yields.{nat_range_steps}
use Rattle.std.proofs.lemmas.Iterator.{YieldsList-from_range}
use Rattle.std.proofs.lemmas.Iterator.Search.{position_from_yields_List}
use Rattle.std.proofs.lemmas.List.FromFn.{length-range_with_len}
use denote.Param.Members.{Mut}
use lib.Dec.{ltb}
use native.Mathlib.Decide.{dec_le}
use borrow.Author.Tests.{lt-ltb, le-ltb}
use Rattle.lists.proofs.Loops.{find-le}
use native.Mathlib.Nat.{sub-zero}
use Rattle.lists.specs.Lists.{find, leading}
use Rattle.lists.proofs.Bools.{split}

-- the first that fails stands behind those in front that pass
pub find-leading : {A : Type 0} (p : A → Bool) (xs : List A) → find (λ x. not (p x)) xs ≡ length (leading p xs)
unfolding find leading
find-leading p [] = refl
find-leading p (x ∷ xs) = split (p x) (λ e. rw e (ap suc (find-leading p xs))) (λ e. rw e refl)

module _ {A : Type 0} (p : A → Bool) (d : A) where
  -- a test of the places is a test of what stands there
  position-find : (test : ℕ → Bool) (xs : List A) (a : ℕ) → ((i : ℕ) → i < length xs → test (a + i) ≡ p (get_or xs i d))
      → position_or_len test (range_with_len a (length xs)) ≡ find p xs
  unfolding find
  position-find test [] a h = refl
  position-find test (x ∷ xs) a h =
      let here : test a ≡ p x = ap test (sym (add-zero a)) ∙ h 0 (omega arith) in
      let rest : position_or_len test (range_with_len (a + 1) (length xs)) ≡ find p xs =
      position-find test xs (a + 1) (λ i k. ap test (omega arith) ∙ h (suc i) (omega arith)) in
      split (p x)
      (λ e. rw (here, e) refl)
      (λ e. rw (here, e) (omega (arith, rest)))

  module _ {F : Type 0} (g : Mut F (ℕ × Unit {0}) Bool) (f : F) (u : Range ℕ) (n : ℕ) (r : Option ℕ) where
    pub places-find : (test : ℕ → Bool) (xs : List A) → length xs ≡ n → ((i : ℕ) → i < n → test i ≡ p (get_or xs i d))
        → ((ys : List ℕ) × (o : Option ℕ) × (j : F) × YieldsThen nat_range_steps (record { start = 0; end = n }) ys o u
        × FoldsTo (λ p x q. Called g p (x, tt) false q) f ys j
        × MatchOption o (r ≡ None) (λ x. (r ≡ Some (length ys)) × ((h : F) × Called g j (x, tt) true h)))
        → ((x : ℕ) (b : Bool) (q : F) → Called g f (x, tt) b q → (q ≡ f) × (b ≡ test x))
        → unwrap_or r n ≡ find p xs
    places-find test xs e h ran calls =
        let k : position_or_len test (range_with_len 0 n) ≡ find p xs =
        ap (λ m. position_or_len test (range_with_len 0 m)) (sym e)
        ∙ position-find test xs 0 (λ i j. ap test (zero-add i) ∙ h i (omega arith)) in
        let z : r ≡ cond (ltb (find p xs) n) (Some (find p xs)) None =
        position_from_yields_List test u f r ran (YieldsList-from_range 0 n n refl (sub-zero n)) calls
        ∙ ap₂ (λ a b. cond (ltb a b) (Some a) None) k (length-range_with_len 0 n) in
        ap (λ o. unwrap_or o n) z
        ∙ elim (dec_le n (find p xs)) [
          | yes g ↦ rw (le-ltb (find p xs) n g) (omega (arith, find-le p xs))
          | no g ↦ rw (lt-ltb (find p xs) n (omega (arith, g))) refl
        ]
