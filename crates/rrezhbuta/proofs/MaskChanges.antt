-- A mask call leaves a row of records with at most one mask changed,
-- and the mask that code reads of the words is that one. Assumes nothing.
use Prim.Native.Nat.{ℕ, ◌<◌}
use mathlib.Core.Path.{◌≡◌, refl, sym, ap, ◌∙◌}
use mathlib.Core.Bool.{true, not}
use mathlib.Core.List.{List, [], ◌∷◌, ◌++◌, map}
use mathlib.Core.Option.{Option, some, none}
use native.Mathlib.Omega.{arith}
use lib.Dec.{eqb, ltb}
use lib.ListN.{length, get_or, set, length-set, length-map, get_or-map, get_or-eq_default}
use lib.Seq.{get_or-set_same, set-get_or, set_out}
use borrow.Author.Tests.{eqb-true, eqb-false, ltb-true, ltb-false, not-false}
use Rattle.limits.specs.Limits.{thread_places, thread_mask}
use Rattle.lists.specs.Lists.{find}
use Rattle.lists.specs.Rows.{flat}
use Rattle.lists.proofs.Bools.{split}
use Rattle.lists.proofs.Loops.{find-same}
use Rattle.lists.proofs.Finds.{find-map, find_absent, find-some, some-inside, any-none}
use Rattle.std.specs.Prelude.{Some, None, position}
use Rattle.lists.proofs.Index.{map-set}
use Rattle.sigset.specs.declared.SigSet.{SigSet}
use Rattle.sigset.specs.Set.{bits, empty}
use Rattle.rules.specs.Types.{Thread as Held, sigmask}
use Rattle.rules.specs.View.{is_thread, live_thread, the_thread}
use Rattle.rules.specs.Store.{Place, held, free_thread, amend, apply, apply_all, with_mask as held_mask}
use Rattle.rules.specs.Actions.{new_mask, mask_changes}
use Rattle.rules.specs.Refusals.{is_clear, rows, no_thread_live}
use Rattle.rules.specs.Calls.{changes}
use Rattle.rules.proofs.Marks.{thread-named}
use Rattle.tables.specs.Tables.{thread_to, threads_of, thread_words_of, thread_at, held_threads, has_thread_id}
use Rattle.tables.proofs.Words.{length-threads_of, length-held_threads, thread-words-back, thread-words-forth}
use Rattle.tables.proofs.Places.{find-live-thread}
use Rattle.sound.specs.Lent.{Lent, lent, decoded, view_of, sound_tables}
use Rattle.answers.specs.Step.{encoded, refusal_on, step_on}
use Rattle.answers.proofs.Endings.{accepted-step, accepted-tables-sound, accepted-rows, refused-tables}
use Rattle.effects.proofs.Places.{thread-changed}
use Rattle.threads.specs.declared.Thread.{Thread}
use Rattle.threads.specs.Records.{no_thread, with_mask, has_id, with_mask_at, record_to, words_of, records_of}
use Rattle.threads.proofs.Words.{table-long, records-back}
use Rattle.rrezhbuta.specs.Entry.{mask_in}

-- ---- a row of records, as the places that its words say

-- the place of a record
abbrev place_of : Thread → Place Held
place_of t = record { holds = record { id = t.id; process = t.process; mask = t.mask }; marks = t.marks }

places-words : (ts : List Thread) → thread_words_of (map place_of ts) ≡ words_of ts
unfolding thread_words_of words_of flat thread_to record_to
places-words [] = refl
places-words (t ∷ ts) = ap (λ l. record_to t ++ l) (places-words ts)

module _ (ts : List Thread) (e : length ts ≡ thread_places) where
  words-places : threads_of (words_of ts) ≡ map place_of ts
  words-places = ap threads_of (sym (places-words ts))
      ∙ thread-words-forth (map place_of ts) (length-map ts place_of ∙ e)

  place_found : (n : ℕ) → find (has_thread_id n) (held_threads (words_of ts)) ≡ find (has_id n) ts
  unfolding has_thread_id
  place_found n =
      ap (λ xs. find (has_thread_id n) (map held xs)) words-places
      ∙ find-map (has_thread_id n) held (map place_of ts)
      ∙ find-map (λ x. has_thread_id n x.holds) place_of ts

-- ---- one mask changed

-- the mask of the first record with that id
abbrev mask_of : List Thread → ℕ → SigSet
mask_of ts n = (get_or ts (find (has_id n) ts) no_thread).mask

mask-words : (ts : List Thread) → length ts ≡ thread_places → (n : ℕ) → mask_in (words_of ts) n ≡ mask_of ts n
unfolding mask_in
mask-words ts e n =
    ap (λ i. (thread_at (words_of ts) i).holds.mask) (place_found ts e n)
    ∙ ap (λ xs. (get_or xs (find (has_id n) ts) free_thread).holds.mask) (words-places ts e)
    ∙ ap (λ (x : Place Held). x.holds.mask) (get_or-map place_of ts (find (has_id n) ts) no_thread)

module _ (n : ℕ) (m : SigSet) (ts : List Thread) where
  mask-changed-length : length (with_mask_at n m ts) ≡ length ts
  unfolding with_mask_at
  mask-changed-length = length-set ts (find (has_id n) ts) _

  -- the mask that it then has, put where it was before
  mask-changed-again : with_mask_at n (mask_of (with_mask_at n m ts) n) ts ≡ with_mask_at n m ts
  unfolding with_mask_at
  mask-changed-again =
      let i = find (has_id n) ts in
      let t = get_or ts i no_thread in
      split (ltb i (length ts))
      (λ l.
      ap (λ k. set ts i (with_mask (get_or (set ts i (with_mask m t)) k no_thread).mask t))
      (find-same (has_id n) no_thread ts i (with_mask m t) refl)
      ∙ ap (λ (x : Thread). set ts i (with_mask x.mask t))
      (get_or-set_same ts i (with_mask m t) no_thread (ltb-true i (length ts) l)))
      (λ l. let o = ltb-false i (length ts) l in set_out ts i _ o ∙ sym (set_out ts i _ o))

-- the mask that it has
mask-changed-own : (n : ℕ) (ts : List Thread) → with_mask_at n (mask_of ts n) ts ≡ ts
unfolding with_mask_at
mask-changed-own n ts = set-get_or ts (find (has_id n) ts) no_thread

-- the row, by its words after the change
row-after : (ts : List Thread) → length ts ≡ thread_places → (ws : List ℕ) (n : ℕ) (m : SigSet)
    → ws ≡ words_of (with_mask_at n m ts)
    → with_mask_at n (mask_in ws n) ts ≡ records_of (length ts) ws
row-after ts e ws n m h =
    let us = with_mask_at n m ts in
    let k = mask-changed-length n m ts in
    ap (λ x. with_mask_at n (mask_in x n) ts) h
    ∙ ap (λ x. with_mask_at n x ts) (mask-words us (k ∙ e) n)
    ∙ mask-changed-again n m ts
    ∙ sym (records-back us)
    ∙ ap (λ i. records_of i (words_of us)) k
    ∙ ap (records_of (length ts)) (sym h)

-- where the words are as they were
pub row_same : (ts : List Thread) → length ts ≡ thread_places → (n : ℕ)
    → with_mask_at n (mask_in (words_of ts) n) ts ≡ records_of (length ts) (words_of ts)
row_same ts e n = row-after ts e (words_of ts) n (mask_of ts n) (ap words_of (sym (mask-changed-own n ts)))

-- ---- the call

module _ (ps tb pb : List ℕ) (ts : List Thread) (e : length ts ≡ thread_places) (t way : ℕ) where
  abbrev before : Lent
  before = lent ps (words_of ts) tb pb

  abbrev after : Option SigSet → List ℕ
  after set = (step_on (sigmask t way set) before).0.threads

  same_after : (set : Option SigSet) → after set ≡ words_of ts
      → with_mask_at t (mask_in (after set) t) ts ≡ records_of (length ts) (after set)
  same_after set h = ap (λ ws. with_mask_at t (mask_in ws t) ts) h ∙ row_same ts e t
      ∙ ap (records_of (length ts)) (sym h)

  -- without a set
  none_after : refusal_on (sigmask t way none) before ≡ 0 → after none ≡ words_of ts
  unfolding encoded decoded changes mask_changes apply_all
  none_after a =
      ap (λ x. x.0.threads) (accepted-step (sigmask t way none) before a)
      ∙ thread-words-back (words_of ts) (table-long ts e)

  -- with one: the rules' change of the live thread
  module _ (m : SigSet) (s : sound_tables (lent ps (words_of ts) tb pb) ≡ true)
      (live : live_thread (view_of before) t ≡ true) where
    abbrev masked : Place Held → Place Held
    masked x = record { holds = held_mask m x.holds; marks = x.marks }

    live-found : find (is_thread t) (held_threads (words_of ts)) ≡ find (has_id t) ts
    live-found =
        find-live-thread (held_threads (words_of ts)) t (ap not (thread-named (decoded before) t live))
        ∙ place_found ts e t

    amended : thread_words_of (amend (is_thread t) (held_mask m) (threads_of (words_of ts)))
        ≡ words_of (with_mask_at t m ts)
    unfolding with_mask_at
    amended =
        let i = find (has_id t) ts in
        ap thread_words_of
        (thread-changed before s t live masked
        ∙ ap (λ k. set (threads_of (words_of ts)) k (masked (thread_at (words_of ts) k))) live-found
        ∙ ap (λ xs. set xs i (masked (get_or xs i free_thread))) (words-places ts e)
        ∙ ap (λ x. set (map place_of ts) i (masked x)) (get_or-map place_of ts i no_thread)
        ∙ sym (map-set place_of ts i (with_mask m (get_or ts i no_thread))))
        ∙ places-words (with_mask_at t m ts)

  some_after : (m : SigSet) → refusal_on (sigmask t way (some m)) before ≡ 0
      → after (some m) ≡ words_of (with_mask_at t (new_mask (the_thread (view_of before) t).mask way m) ts)
  unfolding encoded decoded changes mask_changes apply_all apply is_clear rows no_thread_live
  some_after m a =
      let c = sigmask t way (some m) in
      ap (λ x. x.0.threads) (accepted-step c before a)
      ∙ amended (new_mask (the_thread (view_of before) t).mask way m) (accepted-tables-sound c before refl a)
      (not-false (live_thread (view_of before) t) (accepted-rows c before a).1.0)

  accepted-after : (set : Option SigSet) → refusal_on (sigmask t way set) before ≡ 0
      → with_mask_at t (mask_in (after set) t) ts ≡ records_of (length ts) (after set)
  accepted-after none a = same_after none (none_after a)
  accepted-after (some m) a =
      row-after ts e (after (some m)) t (new_mask (the_thread (view_of before) t).mask way m) (some_after m a)

-- whatever the store: the row after the call is the row before it, with the mask that the thread then has
pub mask-row : (ps tb pb : List ℕ) (ts : List Thread) → length ts ≡ thread_places → (t way : ℕ) (set : Option SigSet)
    → with_mask_at t (mask_in (step_on (sigmask t way set) (lent ps (words_of ts) tb pb)).0.threads t) ts
    ≡ records_of (length ts) (step_on (sigmask t way set) (lent ps (words_of ts) tb pb)).0.threads
mask-row ps tb pb ts e t way set =
    let c = sigmask t way set in
    let l = lent ps (words_of ts) tb pb in
    split (eqb (refusal_on c l) 0)
    (λ a. accepted-after ps tb pb ts e t way set (eqb-true (refusal_on c l) 0 a))
    (λ r. same_after ps tb pb ts e t way set
    (sym (ap (λ (x : Lent). x.threads) (refused-tables c l (eqb-false (refusal_on c l) 0 r)))))

-- ---- the mask of the thread with an id, by what the search answers

module _ (ws : List ℕ) (n : ℕ) where
  pub mask-absent : position (has_thread_id n) (held_threads ws) ≡ None → empty ≡ mask_in ws n
  unfolding mask_in
  mask-absent z =
      let far : find (has_thread_id n) (held_threads ws) ≡ length (held_threads ws) =
      find_absent (has_thread_id n) (held_threads ws) (any-none (has_thread_id n) (held_threads ws) z) in
      sym (ap (λ (x : Place Held). x.holds.mask)
      (get_or-eq_default (threads_of ws) free_thread
      (omega (arith, length-threads_of ws, length-held_threads ws))))

  module _ (place : ℕ) (here : position (has_thread_id n) (held_threads ws) ≡ Some place) where
    pub mask-held : (w : ℕ) → w ≡ get_or (thread_to (thread_at ws place)) thread_mask 0 → bits w ≡ mask_in ws n
    unfolding mask_in thread_to
    mask-held w h =
        ap bits h
        ∙ ap (λ i. (thread_at ws i).holds.mask) (sym (find-some (has_thread_id n) (held_threads ws) place here))

    pub mask-inside : place < thread_places
    mask-inside =
        let inside = some-inside (has_thread_id n) (held_threads ws) place here in
        omega (arith, length-held_threads ws)
