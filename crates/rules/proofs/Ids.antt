-- Ids that are 0 or met once: no two live members have one id exactly if a function of the id tells each its index,
-- as the search for the first does.
-- Assumes nothing.
use Prim.Native.Nat.{ℕ, ◌≤◌, ◌<◌}
use mathlib.Core.Path.{◌≡◌, refl, sym, ap, ◌∙◌}
use mathlib.Core.Bool.{Bool, true, false, not, ◌&&◌, ◌||◌}
use mathlib.Core.List.{List, map}
use native.Mathlib.Omega.{arith}
use lib.Dec.{eqb}
use lib.ListN.{length, get_or}
use borrow.Author.Tests.{eqb-true, eq-eqb, not-true}
use Rattle.lists.specs.Lists.{count, find, pairs, pairs_where}
use Rattle.lists.proofs.Bools.{split, clash, and-fst, and-snd, and_both, imp-by}
use Rattle.lists.proofs.Lists.{count_map, pairs-imp, pairs_where-pairs, pairs-count}
use Rattle.lists.proofs.Loops.{pairs-at}
use Rattle.lists.proofs.Finds.{find_first, find-map}
use Rattle.lists.proofs.Index.{pairs-each}
use Rattle.rules.specs.Store.{Place, held}
use Rattle.rules.specs.Sound.{is_live, apart}
use Rattle.rules.proofs.Cleared.{no-id}

-- 0 is nobody's id
pub free-unnamed : (n i : ℕ) → eqb i 0 ≡ true → (not (eqb n 0) && eqb i n) ≡ false
free-unnamed n i z = ap (λ (m : ℕ). not (eqb n 0) && eqb m n) (eqb-true i 0 z) ∙ no-id n

pub named_live : (n i : ℕ) → (not (eqb n 0) && eqb i n) ≡ true → eqb i 0 ≡ false
named_live n i e = split (eqb i 0) (λ z. clash e (free-unnamed n i z)) (λ z. z)

module _ {B : Type 0} (id : B → ℕ) where
  -- x has the id n, and 0 is no id
  abbrev pub named : ℕ → B → Bool
  named n x = not (eqb n 0) && eqb (id x) n

  abbrev pub is_named : B → Bool
  is_named x = not (eqb (id x) 0)

  abbrev pub unlike : B → B → Bool
  unlike x y = not (eqb (id x) (id y))

  abbrev pub distinct : List B → Bool
  distinct xs = pairs_where is_named unlike xs

  abbrev unlike_named : B → B → Bool
  unlike_named x y = not (is_named x) || unlike x y

  named_self : (x : B) → is_named x ≡ true → named (id x) x ≡ true
  named_self x e = and_both e (eq-eqb (id x) (id x) refl)

  named-twice : (n : ℕ) (x y : B) → unlike_named x y ≡ true → not (named n x && named n y) ≡ true
  named-twice n x y h =
      split (named n x && named n y)
      (λ e.
      let ex : named n x ≡ true = and-fst (named n x) (named n y) e in
      let p : id x ≡ n = eqb-true (id x) n (and-snd (not (eqb n 0)) (eqb (id x) n) ex) in
      let q : id y ≡ n =
      eqb-true (id y) n (and-snd (not (eqb n 0)) (eqb (id y) n) (and-snd (named n x) (named n y) e)) in
      let z : eqb n 0 ≡ false = not-true (eqb n 0) (and-fst (not (eqb n 0)) (eqb (id x) n) ex) in
      let f : unlike_named x y ≡ false = rw (p, q, z, eq-eqb n n refl) in
      clash h f)
      (λ e. ap not e)

  module _ (xs : List B) where
    distinct-pairs : distinct xs ≡ true → pairs unlike_named xs ≡ true
    distinct-pairs e = sym (pairs_where-pairs is_named unlike xs) ∙ e

    pub one-named : distinct xs ≡ true → (n : ℕ) → count (named n) xs ≤ 1
    one-named e n =
        pairs-count (named n) xs
        (pairs-imp unlike_named (λ x y. not (named n x && named n y)) (named-twice n) xs (distinct-pairs e))

    module _ (d : B) where
      pub distinct-first : distinct xs ≡ true → (i : ℕ) → i < length xs → is_named (get_or xs i d) ≡ true
          → find (named (id (get_or xs i d))) xs ≡ i
      distinct-first e i h l =
          let n : ℕ = id (get_or xs i d) in
          let s : named n (get_or xs i d) ≡ true = named_self (get_or xs i d) l in
          find_first (named n) d xs i h s
          (λ j k.
          split (named n (get_or xs j d))
          (λ t. clash (named-twice n (get_or xs j d) (get_or xs i d)
          (pairs-at unlike_named d xs j i k h (distinct-pairs e)))
          (ap not (and_both t s)))
          (λ t. t))

      -- by any function that tells each its index
      pub told-distinct : (s : ℕ → ℕ)
          → ((i : ℕ) → i < length xs → is_named (get_or xs i d) ≡ true → s (id (get_or xs i d)) ≡ i)
          → distinct xs ≡ true
      told-distinct s f =
          pairs_where-pairs is_named unlike xs
          ∙ pairs-each unlike_named d xs
          (λ i j k h.
          imp-by (is_named (get_or xs i d))
          (λ l.
          split (eqb (id (get_or xs i d)) (id (get_or xs j d)))
          (λ t.
          let p : id (get_or xs i d) ≡ id (get_or xs j d) = eqb-true (id (get_or xs i d)) (id (get_or xs j d)) t in
          let m : is_named (get_or xs j d) ≡ true = ap (λ (n : ℕ). not (eqb n 0)) (sym p) ∙ l in
          let a : s (id (get_or xs j d)) ≡ j = f j h m in
          let b : s (id (get_or xs j d)) ≡ i = ap s (sym p) ∙ f i (omega arith) l in
          absurd (omega arith))
          (λ t. ap not t)))

-- ---- the same of places, by the ids of what they hold

module _ {A : Type 0} (id : A → ℕ) (xs : List (Place A)) where
  abbrev id_of : Place A → ℕ
  id_of x = id x.holds

  pub one-held : pairs_where (is_live id) (apart id) xs ≡ true → (n : ℕ) → count (named id n) (map held xs) ≤ 1
  one-held e n = rw count_map (one-named id_of xs e n)

  module _ (d : Place A) where
    pub distinct-held : pairs_where (is_live id) (apart id) xs ≡ true → (i : ℕ) → i < length xs
        → is_live id (get_or xs i d) ≡ true
        → find (named id (id (get_or xs i d).holds)) (map held xs) ≡ i
    distinct-held e i h l = find-map (named id (id (get_or xs i d).holds)) held xs ∙ distinct-first id_of xs d e i h l

    pub told-apart : (s : ℕ → ℕ)
        → ((i : ℕ) → i < length xs → is_live id (get_or xs i d) ≡ true → s (id (get_or xs i d).holds) ≡ i)
        → pairs_where (is_live id) (apart id) xs ≡ true
    told-apart s f = told-distinct id_of xs d s f
