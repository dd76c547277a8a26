-- What is noted of the places in passing, one place after the other. Assumes nothing.
use Prim.Native.Nat.{ℕ, ◌+◌, ◌<◌}
use mathlib.Core.Path.{◌≡◌, refl, sym, ap, ◌∙◌}
use mathlib.Core.Bool.{Bool, true, false, not, ◌&&◌, ◌||◌, or-true, or-false}
use mathlib.Core.List.{List, map}
use native.Mathlib.Nat.{not-suc-le-zero}
use native.Mathlib.Omega.{arith}
use lib.Dec.{eqb}
use lib.ListN.{length, get_or, set, take, replicate, length-map, get_or-replicate}
use lib.Seq.{get_or-set_same, get_or-set_other, take_all}
use borrow.Author.Tests.{eqb-true, eqb-false, eq-eqb, ne_eqb}
use Rattle.limits.specs.Limits.{process_places, thread_places}
use Rattle.lists.specs.Lists.{all, any, find, range}
use Rattle.lists.proofs.Bools.{split, clash, same_test, and-fst, and-snd, and_both}
use Rattle.lists.proofs.Loops.{any_next, find-any, find_at}
use Rattle.lists.proofs.Index.{find-only, all-below, below_all}
use Rattle.sigset.specs.declared.SigSet.{SigSet}
use Rattle.sigset.specs.Set.{empty}
use Rattle.rules.specs.Types.{Process, Thread, no_process, no_thread}
use Rattle.rules.specs.View.{is_process, belongs_to}
use Rattle.rules.specs.Store.{Place, held, free_process, free_thread}
use Rattle.rules.specs.Sound.{is_live, process_id, thread_id, zero_thread}
use Rattle.tables.proofs.Places.{held_at}
use Rattle.soundness.specs.Check.{one_place, ignored_by, owner_place, thread_ok, thread_ok_at, has_thread_at}
use Rattle.soundness.specs.Check.{have_threads}
use Rattle.places.specs.Notes.{IgnoredNoted, OwnersNoted, ThreadedNoted, threaded_by}

-- ---- a note for each live place, where the note goes to the place itself

module _ {A B : Type 0} (id : A → ℕ) (d : Place A) (b : B) (xs : List (Place A)) (value : Place A → B) where
  abbrev Noted : (n : ℕ) → List B → Type 0
  Noted n notes = (i : ℕ) → i < n → is_live id (get_or xs i d) ≡ true → get_or notes i b ≡ value (get_or xs i d)

  noted-none : (notes : List B) → Noted 0 notes
  noted-none notes i h = absurd (not-suc-le-zero h)

  module _ (n : ℕ) (notes : List B) (k : Noted n notes) where
    noted_more : (v : B) → n < length notes → (is_live id (get_or xs n d) ≡ true → v ≡ value (get_or xs n d))
        → Noted (n + 1) (set notes n v)
    noted_more v l e i h live =
        split (eqb i n)
        (λ s.
        let z : i ≡ n = eqb-true i n s in
        rw (z, get_or-set_same notes n v b l) (e (rw (← z) live)))
        (λ s.
        let z = eqb-false i n s in
        rw (get_or-set_other notes n i v b z) (k i (omega (arith, z)) live))

    noted-free : is_live id (get_or xs n d) ≡ false → Noted (n + 1) notes
    noted-free free i h live =
        split (eqb i n) (λ s. let z : i ≡ n = eqb-true i n s in clash live (rw z free))
        (λ s. let z = eqb-false i n s in k i (omega (arith, z)) live)

pub ignored-none : (xs : List (Place Process)) (notes : List SigSet) → IgnoredNoted xs 0 notes
ignored-none xs = noted-none process_id free_process empty xs (λ x. ignored_by x.holds)

pub ignored-more : (xs : List (Place Process)) (n : ℕ) (notes : List SigSet) → IgnoredNoted xs n notes
    → (v : SigSet) → n < length notes
    → (is_live process_id (get_or xs n free_process) ≡ true → v ≡ ignored_by (get_or xs n free_process).holds)
    → IgnoredNoted xs (n + 1) (set notes n v)
ignored-more xs = noted_more process_id free_process empty xs (λ x. ignored_by x.holds)

module _ (xs : List (Place Process)) (ys : List (Place Thread)) where
  pub owners-none : (notes : List ℕ) → OwnersNoted xs ys 0 notes
  owners-none = noted-none thread_id free_thread 0 ys (owner_place (map held xs))

  pub owners-more : (n : ℕ) (notes : List ℕ) → OwnersNoted xs ys n notes → (v : ℕ) → n < length notes
      → (is_live thread_id (get_or ys n free_thread) ≡ true → v ≡ owner_place (map held xs) (get_or ys n free_thread))
      → OwnersNoted xs ys (n + 1) (set notes n v)
  owners-more = noted_more thread_id free_thread 0 ys (owner_place (map held xs))

  pub owners-free : (n : ℕ) (notes : List ℕ) → OwnersNoted xs ys n notes
      → is_live thread_id (get_or ys n free_thread) ≡ false
      → OwnersNoted xs ys (n + 1) notes
  owners-free = noted-free thread_id free_thread 0 ys (owner_place (map held xs))

-- ---- which processes have a thread

one-note : (notes : List Bool) (owner i : ℕ) → i < length notes
    → get_or (set notes owner true) i false ≡ (get_or notes i false || eqb i owner)
one-note notes owner i h =
    split (eqb i owner)
    (λ e.
    let z : i ≡ owner = eqb-true i owner e in
    rw (e, ← z, get_or-set_same notes i true false h) (sym (or-true (get_or notes i false))))
    (λ e.
    rw (e, get_or-set_other notes owner i true false (eqb-false i owner e)) (sym (or-false (get_or notes i false))))

module _ (xs : List (Place Process)) (ys : List (Place Thread)) where
  pub threaded-none : ThreadedNoted xs ys 0 (replicate process_places false)
  unfolding any
  threaded-none i h live = get_or-replicate {A = Bool} process_places i false false h

  module _ (place : ℕ → ℕ) (one : one_place (map held xs)) (lx : length xs ≡ process_places)
      (n : ℕ) (h : n < length ys) (ok : thread_ok_at place xs ys n ≡ true) where
    abbrev it : Place Thread
    it = get_or ys n free_thread

    abbrev owner : ℕ
    owner = owner_place (map held xs) it

    -- the thread is of the process in a live place exactly if that place is its owner's
    theirs : (i : ℕ) → i < length xs → is_live process_id (get_or xs i free_process) ≡ true
        → belongs_to (get_or xs i free_process).holds.id it.holds ≡ (not (eqb it.holds.id 0) && eqb i owner)
    unfolding thread_ok_at thread_ok owner_place belongs_to is_process zero_thread
    theirs i k live =
        let p : ℕ = it.holds.process in
        let x : Process = (get_or xs i free_process).holds in
        let at : get_or (map held xs) i no_process ≡ x = held_at xs i free_process in
        let inside : i < length (map held xs) = rw (length-map xs held) k in
        ap (λ (b : Bool). b && eqb p x.id) live
        ∙ split (eqb it.holds.id 0)
        (λ z.
        let none : p ≡ 0 = eqb-true p 0 (and-fst (eqb p 0) _ (rw z at ok)) in
        rw (z, none) (ne_eqb 0 x.id (λ e. clash live (ap not (eq-eqb x.id 0 (sym e))))))
        (λ z.
        let owned : any (is_process p) (map held xs) ≡ true =
        and-fst (any (is_process p) (map held xs)) _ (rw z at ok) in
        rw z
        (same_test (eqb p x.id) (eqb i (find (is_process p) (map held xs)))
        (λ e.
        let same : p ≡ x.id = eqb-true p x.id e in
        let mine : is_process p (get_or (map held xs) i no_process) ≡ true =
        rw (at, same) (and_both live (eq-eqb x.id x.id refl)) in
        eq-eqb i (find (is_process p) (map held xs))
        (sym (find-only (is_process p) no_process (map held xs) i (one p) inside mine)))
        (λ e.
        let here : i ≡ find (is_process p) (map held xs) = eqb-true i (find (is_process p) (map held xs)) e in
        let mine : is_process p x ≡ true =
        ap (is_process p) (sym at ∙ ap (λ (j : ℕ). get_or (map held xs) j no_process) here)
        ∙ find_at (is_process p) no_process (map held xs) (find-any (is_process p) (map held xs) owned) in
        eq-eqb p x.id (sym (eqb-true x.id p (and-snd (not (eqb p 0)) (eqb x.id p) mine))))))

    -- and so is what is noted of the first n threads, and of one more
    one_more : (i : ℕ) → i < process_places → is_live process_id (get_or xs i free_process) ≡ true
        → any (belongs_to (get_or xs i free_process).holds.id) (take (n + 1) (map held ys))
        ≡ (any (belongs_to (get_or xs i free_process).holds.id) (take n (map held ys))
        || (not (eqb it.holds.id 0) && eqb i owner))
    one_more i b live =
        let inside : n < length (map held ys) = rw (length-map ys held) h in
        let id : ℕ = (get_or xs i free_process).holds.id in
        any_next (belongs_to id) no_thread (map held ys) n inside
        ∙ ap (λ (c : Bool). any (belongs_to id) (take n (map held ys)) || c)
        (ap (belongs_to id) (held_at ys n free_thread) ∙ theirs i (omega arith) live)

    module _ (notes : List Bool) (k : ThreadedNoted xs ys n notes) where
      pub threaded-more : length notes ≡ process_places → is_live thread_id it ≡ true
          → ThreadedNoted xs ys (n + 1) (set notes owner true)
      threaded-more ln there i b live =
          one-note notes owner i (omega arith)
          ∙ ap (λ (c : Bool). c || eqb i owner) (k i b live)
          ∙ sym (one_more i b live ∙ rw there)

      pub threaded-free : is_live thread_id it ≡ false → ThreadedNoted xs ys (n + 1) notes
      threaded-free free i b live = k i b live ∙ sym (one_more i b live ∙ rw free (or-false _))

  pub threaded-all : length ys ≡ thread_places → (notes : List Bool) → ThreadedNoted xs ys thread_places notes
      → all (threaded_by xs notes) (range 0 process_places) ≡ have_threads xs ys
  unfolding have_threads has_thread_at threaded_by
  threaded-all ly notes k =
      let same : (i : ℕ) → i < process_places → threaded_by xs notes i ≡ has_thread_at xs ys i =
      λ i h. split (is_live process_id (get_or xs i free_process))
      (λ live.
      ap (λ (b : Bool). not (is_live process_id (get_or xs i free_process)) || b)
      (k i h live
      ∙ ap (any (belongs_to (get_or xs i free_process).holds.id))
      (take_all thread_places (map held ys) (rw (length-map ys held) (omega arith)))))
      (λ free. rw free) in
      same_test (all (threaded_by xs notes) (range 0 process_places))
      (all (has_thread_at xs ys) (range 0 process_places))
      (λ e.
      all-below (has_thread_at xs ys) process_places
      (λ i h. sym (same i h) ∙ below_all (threaded_by xs notes) process_places e i h))
      (λ e.
      all-below (threaded_by xs notes) process_places
      (λ i h. same i h ∙ below_all (has_thread_at xs ys) process_places e i h))
