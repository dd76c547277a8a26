-- Laws of a look-up by hints. Every hint is a place, so what is found has the id, whichever it is; where no two
-- places have one id, it is the place that a search finds. Assumes nothing.
use Prim.Native.Nat.{ℕ, ◌≤◌, ◌<◌}
use mathlib.Core.Path.{◌≡◌, refl, sym, ap, subst, ◌∙◌}
use mathlib.Core.Bool.{true, false, not, ◌&&◌}
use mathlib.Core.List.{List}
use native.Mathlib.Omega.{arith}
use lib.Dec.{eqb}
use lib.ListN.{length, get_or, replicate, get_or-replicate}
use borrow.Author.Tests.{eqb-true, eq-eqb, not-true}
use Rattle.lists.specs.Lists.{any, count, find}
use Rattle.lists.proofs.Bools.{split, clash, and-fst, and-snd, and_both, and_left}
use Rattle.lists.proofs.Lists.{Fail, All-every, All-any, pairs-count}
use Rattle.lists.proofs.Loops.{any_here, find-le, find-any, find_at}
use Rattle.lists.proofs.Finds.{find_absent}
use Rattle.lists.proofs.Index.{pairs-each, find-only}
use Rattle.hints.specs.Hints.{hint_slots, first_slot, second_slot, is_id, Hinted, seek}

-- ---- slots and ids

pub first_below : (id : ℕ) → first_slot id < hint_slots
unfolding first_slot
first_below id = omega arith

pub second_below : (id : ℕ) → second_slot id < hint_slots
unfolding second_slot
second_below id = omega arith

-- 0 is nobody's id
pub none-zero : (n : ℕ) (ids : List ℕ) → n ≡ 0 → any (is_id n) ids ≡ false
unfolding is_id
none-zero n ids e =
    All-any (is_id n) ids (All-every (Fail (is_id n)) (λ id. and_left (eqb id n) (ap not (eq-eqb n 0 e))) ids)

id-self : (n : ℕ) → eqb n 0 ≡ false → is_id n n ≡ true
unfolding is_id
id-self n z = and_both (ap not z) (eq-eqb n n refl)

id-is : (n id : ℕ) → is_id n id ≡ true → id ≡ n
unfolding is_id
id-is n id e = eqb-true id n (and-snd (not (eqb n 0)) (eqb id n) e)

id-live : (n id : ℕ) → is_id n id ≡ true → eqb n 0 ≡ false
unfolding is_id
id-live n id e = not-true (eqb n 0) (and-fst (not (eqb n 0)) (eqb id n) e)

-- hints that are all zero name the first place
pub none-hinted : (places : ℕ) → 1 ≤ places → Hinted places (replicate hint_slots 0)
none-hinted places h slot l = rw (get_or-replicate {A = ℕ} hint_slots slot 0 0 l) h

-- ---- a look-up

-- where each hint is believed, or none
module _ (hints ids : List ℕ) (n : ℕ) where
  abbrev near : ℕ
  near = get_or hints (first_slot n) 0

  abbrev far : ℕ
  far = get_or hints (second_slot n) 0

  pub seek-first : is_id n (get_or ids near 0) ≡ true → seek hints ids n ≡ near
  unfolding seek
  seek-first e = rw e

  pub seek-second : is_id n (get_or ids near 0) ≡ false → is_id n (get_or ids far 0) ≡ true → seek hints ids n ≡ far
  unfolding seek
  seek-second e f = rw (e, f)

  pub seek-last : is_id n (get_or ids near 0) ≡ false → is_id n (get_or ids far 0) ≡ false
      → seek hints ids n ≡ find (is_id n) ids
  unfolding seek
  seek-last e f = rw (e, f)

module _ (hints ids : List ℕ) (n : ℕ) (all : Hinted (length ids) hints) where
  abbrev Believed : ℕ → Type 0
  Believed at = (at < length ids) × (is_id n (get_or ids at 0) ≡ true)

  by-hint : {P : Type 0} → (Believed (seek hints ids n) → P) → (seek hints ids n ≡ find (is_id n) ids → P) → P
  by-hint h k =
      let a = all (first_slot n) (first_below n) in
      let b = all (second_slot n) (second_below n) in
      split (is_id n (get_or ids (get_or hints (first_slot n) 0) 0))
      (λ e. h (subst Believed (sym (seek-first hints ids n e)) (a, e)))
      (λ e.
      split (is_id n (get_or ids (get_or hints (second_slot n) 0) 0))
      (λ f. h (subst Believed (sym (seek-second hints ids n e f)) (b, f)))
      (λ f. k (seek-last hints ids n e f)))

  pub seek-le : seek hints ids n ≤ length ids
  seek-le = by-hint (λ b. omega arith) (λ e. omega (arith, find-le (is_id n) ids))

  -- what is found has the id
  pub seek_found : seek hints ids n < length ids → is_id n (get_or ids (seek hints ids n) 0) ≡ true
  seek_found h = by-hint (λ b. b.1) (λ e. rw e (find_at (is_id n) 0 ids (omega arith)))

  -- something is found exactly if somebody has it
  pub seek-some : any (is_id n) ids ≡ true → seek hints ids n < length ids
  seek-some a = by-hint (λ b. b.0) (λ e. omega (arith, find-any (is_id n) ids a))

  pub seek-none : seek hints ids n ≡ length ids → any (is_id n) ids ≡ false
  seek-none z = split (any (is_id n) ids) (λ a. absurd (omega (arith, seek-some a))) (λ a. a)

  pub seek-absent : any (is_id n) ids ≡ false → seek hints ids n ≡ length ids
  seek-absent a =
      by-hint (λ b. clash (any_here (is_id n) 0 ids (seek hints ids n) b.0 b.1) a)
      (λ e. e ∙ find_absent (is_id n) ids a)

  -- where no two have one id, it is the search
  pub seek-find : count (is_id n) ids ≤ 1 → seek hints ids n ≡ find (is_id n) ids
  seek-find c = by-hint (λ b. sym (find-only (is_id n) 0 ids (seek hints ids n) c b.0 b.1)) (λ e. e)

-- ---- ids of which no two are equal

-- every live place is what some function tells of its id
pub selves-one : (ids : List ℕ) (s : ℕ → ℕ)
    → ((i : ℕ) → i < length ids → eqb (get_or ids i 0) 0 ≡ false → s (get_or ids i 0) ≡ i) → (n : ℕ)
    → count (is_id n) ids ≤ 1
selves-one ids s h n =
    pairs-count (is_id n) ids
    (pairs-each (λ x y. not (is_id n x && is_id n y)) 0 ids
    (λ i j k l.
    split (is_id n (get_or ids i 0) && is_id n (get_or ids j 0))
    (λ e.
    let p = and-fst (is_id n (get_or ids i 0)) (is_id n (get_or ids j 0)) e in
    let q = and-snd (is_id n (get_or ids i 0)) (is_id n (get_or ids j 0)) e in
    let a : s n ≡ i = self i (omega arith) p in
    let b : s n ≡ j = self j l q in
    absurd (omega arith))
    (λ e. ap not e)))
  where
    self : (i : ℕ) → i < length ids → is_id n (get_or ids i 0) ≡ true → s n ≡ i
    self i k e =
        let z = id-is n (get_or ids i 0) e in rw z at (h i k (rw z (id-live n (get_or ids i 0) e)))

-- each live place finds itself
pub one-selves : (hints ids : List ℕ) → Hinted (length ids) hints → ((n : ℕ) → count (is_id n) ids ≤ 1)
    → (i : ℕ) → i < length ids → eqb (get_or ids i 0) 0 ≡ false
    → seek hints ids (get_or ids i 0) ≡ i
one-selves hints ids all c i h z =
    let n : ℕ = get_or ids i 0 in
    seek-find hints ids n all (c n) ∙ find-only (is_id n) 0 ids i (c n) h (id-self n z)
