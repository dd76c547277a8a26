-- Who can take something: the thread in a place, the search, and the answer. Assumes nothing.
use Prim.Native.Nat.{ℕ, ◌<◌, ◌≤◌}
use mathlib.Core.Path.{◌≡◌, refl, sym, ap, subst, ◌∙◌}
use mathlib.Core.Bool.{Bool, true, false, not, ◌&&◌}
use mathlib.Core.List.{List, [], ◌∷◌}
use lib.Dec.{eqb}
use lib.ListN.{length, get_or}
use borrow.Author.Tests.{eqb-true, eq-eqb, ne_eqb, not-true}
use Rattle.limits.specs.Limits.{thread_places, thread_id, thread_process, largest_id}
use Rattle.lists.specs.Lists.{find}
use Rattle.lists.proofs.Bools.{split, clash, and-fst, and-snd, and_both, and_left, and_right}
use Rattle.lists.proofs.Lists.{All-at, first-none}
use Rattle.lists.proofs.Loops.{all-at, any_here, find_at, first-find}
use Rattle.lists.proofs.Finds.{found_inside, found-any, absent-any}
use Rattle.types.specs.declared.Reply.TheVariants.{Taker}
use Rattle.std.specs.Prelude.{Some, None, position}
use native.Mathlib.Omega.{arith}
use Rattle.lists.proofs.Finds.{some-inside}
use Rattle.rules.specs.Types.{Thread, no_thread, who}
use Rattle.rules.specs.View.{View, is_thread, belongs_to, live_thread, the_thread}
use Rattle.rules.specs.Store.{Place, free_thread, view}
use Rattle.rules.specs.Sound.{if_free, is_live, zero_thread}
use Rattle.rules.specs.Sound as sounds
use Rattle.rules.specs.Taking.{next_signal, can_take_some, who_answer, taker}
use Rattle.rules.specs.Refusals.{esrch, is_clear, no_process_live, rows}
use Rattle.rules.specs.Calls.{reply}
use Rattle.rules.proofs.Facts.{thread-id}
use Rattle.rules.proofs.Marks.{free-of-nobody}
use Rattle.rules.proofs.FoundByKey.{own-thread}
use Rattle.rules.proofs.ClausesByTable.{parts}
use Rattle.tables.specs.Tables.{threads_of, held_threads, thread_at, thread_to}
use Rattle.tables.proofs.Words.{length-threads_of, length-held_threads}
use Rattle.tables.proofs.Places.{held_at}
use Rattle.sound.specs.Lent.{Lent, decoded, view_of, sound_tables}
use Rattle.sound.proofs.Facts.{store-sound}
use Rattle.types.specs.Answers as said
use Rattle.answers.specs.Step.{refusal_on, rows_on, step_on}
use Rattle.answers.proofs.Endings.{rows-given, answer-after}
use Rattle.answers.proofs.Rows.{live-process}
use Rattle.view.proofs.Fields.{id-fits}

-- ---- what a place says

abbrev pub thread_in : (ts : List ℕ) → ℕ → Thread
thread_in ts place = get_or (held_threads ts) place no_thread

module _ (ts : List ℕ) (place w : ℕ) where
  in_place : (thread_at ts place).holds ≡ thread_in ts place
  in_place = sym (held_at (threads_of ts) place free_thread)

  pub id-read : w ≡ get_or (thread_to (thread_at ts place)) thread_id 0 → w ≡ (thread_in ts place).id
  unfolding thread_to
  id-read e = e ∙ ap (λ (t : Thread). t.id) in_place

  pub owner-read : w ≡ get_or (thread_to (thread_at ts place)) thread_process 0 → w ≡ (thread_in ts place).process
  unfolding thread_to
  owner-read e = e ∙ ap (λ (t : Thread). t.process) in_place

pub owned : (p : ℕ) (t : Thread) → (p ≡ 0 → ⊥) → t.process ≡ p → belongs_to p t ≡ true
unfolding belongs_to
owned p t n e = and_both (ap not (ne_eqb p 0 n)) (eq-eqb t.process p e)

-- ---- can it take something?

module _ (v : View) (p : ℕ) (t : Thread) where
  pub nobody-takes : p ≡ 0 → false ≡ can_take_some v p t
  unfolding can_take_some belongs_to
  nobody-takes e = sym (and_left (not (eqb (next_signal v t) 0)) (and_left (eqb t.process p) (ap not (eq-eqb p 0 e))))

  pub other-takes : (t.process ≡ p → ⊥) → false ≡ can_take_some v p t
  unfolding can_take_some belongs_to
  other-takes n = sym (and_left (not (eqb (next_signal v t) 0)) (and_right (not (eqb p 0)) (ne_eqb t.process p n)))

  own-takes : belongs_to p t ≡ true → (s : ℕ) → s ≡ next_signal v t → not (eqb s 0) ≡ can_take_some v p t
  unfolding can_take_some
  own-takes b s e = ap (λ (n : ℕ). not (eqb n 0)) e ∙ sym (ap (λ (x : Bool). x && not (eqb (next_signal v t) 0)) b)

  takes-own : can_take_some v p t ≡ true → belongs_to p t ≡ true
  unfolding can_take_some
  takes-own e = and-fst (belongs_to p t) (not (eqb (next_signal v t) 0)) e

-- ---- the thread in a place of a sound store

-- a thread of a process is live, is found by its id, and the id fits
module _ (l : Lent) (e : sound_tables l ≡ true) (place p : ℕ) (h : place < thread_places)
    (b : belongs_to p (thread_in l.threads place) ≡ true) where
  inside : place < length (threads_of l.threads)
  inside = rw length-threads_of h

  not-nobody : eqb (thread_at l.threads place).holds.process 0 ≡ false
  unfolding belongs_to
  not-nobody =
      let o : (thread_at l.threads place).holds.process ≡ p =
      ap (λ (t : Thread). t.process) (in_place l.threads place 0)
      ∙ eqb-true (thread_in l.threads place).process p
      (and-snd (not (eqb p 0)) (eqb (thread_in l.threads place).process p) b) in
      ap (λ (n : ℕ). eqb n 0) o
      ∙ not-true (eqb p 0) (and-fst (not (eqb p 0)) (eqb (thread_in l.threads place).process p) b)

  named : eqb (thread_at l.threads place).holds.id 0 ≡ false
  unfolding decoded
  named =
      split (eqb (thread_at l.threads place).holds.id 0)
      (λ z.
      clash
      (free-of-nobody (thread_at l.threads place)
      (all-at (if_free sounds.thread_id zero_thread) free_thread (threads_of l.threads) place inside
      (parts (decoded l) (store-sound l e)).thread_free) z)
      not-nobody)
      (λ z. z)

  place-live : live_thread (view_of l) (thread_in l.threads place).id ≡ true
  unfolding live_thread view decoded is_thread
  place-live =
      any_here (is_thread (thread_in l.threads place).id) no_thread (held_threads l.threads) place
      (rw length-held_threads h)
      (and_both (ap not (ap (λ (t : Thread). eqb t.id 0) (sym (in_place l.threads place 0)) ∙ named))
      (eq-eqb (thread_in l.threads place).id (thread_in l.threads place).id refl))

  place-thread : the_thread (view_of l) (thread_in l.threads place).id ≡ thread_in l.threads place
  unfolding decoded
  place-thread =
      ap (λ (t : Thread). the_thread (view_of l) t.id) (sym (in_place l.threads place 0))
      ∙ All-at (λ (x : Place Thread). is_live sounds.thread_id x ≡ true → the_thread (view_of l) x.holds.id ≡ x.holds)
      (threads_of l.threads) place free_thread inside
      (own-thread (decoded l) (store-sound l e)) (ap not named)
      ∙ in_place l.threads place 0

  -- the id as it was read
  module _ (w : ℕ) (i : w ≡ (thread_in l.threads place).id) where
    pub id-live : live_thread (view_of l) w ≡ true
    id-live = ap (live_thread (view_of l)) i ∙ place-live

    pub id-small : w ≤ largest_id
    id-small =
        id-fits w (thread_in l.threads place).id i
        (thread-id (decoded l) (store-sound l e) (thread_in l.threads place).id place-live)

    pub id-takes : (s : ℕ) → s ≡ next_signal (view_of l) (the_thread (view_of l) w)
        → not (eqb s 0) ≡ can_take_some (view_of l) p (thread_in l.threads place)
    id-takes s n =
        own-takes (view_of l) p (thread_in l.threads place) b s
        (n ∙ ap (next_signal (view_of l)) (ap (the_thread (view_of l)) i ∙ place-thread))

-- ---- who

-- a place that a search found is one of the table's
pub not-all : (p : Thread → Bool) (ws : List ℕ) (k : ℕ) → position p (held_threads ws) ≡ Some k → k ≡ thread_places → ⊥
not-all p ws k h z =
    let i = some-inside p (held_threads ws) k h in
    omega (arith, length-held_threads ws)

module _ (l : Lent) (p n : ℕ) (e : n ≡ rows_on (esrch (no_process_live (view_of l) p) ∷ []) l) where
  pub who-refusal : n ≡ refusal_on (who p) l
  unfolding is_clear rows
  who-refusal = e ∙ sym (rows-given (who p) l refl)

  module _ (z : n ≡ 0) where
    pub who-sound : sound_tables l ≡ true
    who-sound = (live-process l p n e z).sound

    module _ (place : ℕ) (f : place ≡ find (can_take_some (view_of l) p) (held_threads l.threads)) where
      pub who-none : place ≡ thread_places → said.Accepted (Taker None) ≡ (step_on (who p) l).1
      unfolding reply taker who_answer view decoded
      who-none y =
          answer-after (who p) l (sym who-refusal ∙ z) (Taker None)
          (sym (ap (who_answer (view_of l)) (first-none (can_take_some (view_of l) p) (held_threads l.threads)
          (absent-any (can_take_some (view_of l) p) no_thread (held_threads l.threads) thread_places place
          (length-held_threads l.threads) f y))))

      module _ (y : (place ≡ thread_places → ⊥)) where
        pub who-inside : place < thread_places
        who-inside =
            found_inside (can_take_some (view_of l) p) no_thread (held_threads l.threads) thread_places place
            (length-held_threads l.threads) f y

        who-owns : belongs_to p (thread_in l.threads place) ≡ true
        who-owns =
            takes-own (view_of l) p (thread_in l.threads place)
            (ap (λ (k : ℕ). can_take_some (view_of l) p (thread_in l.threads k)) f
            ∙ find_at (can_take_some (view_of l) p) no_thread (held_threads l.threads)
            (rw length-held_threads (subst (λ (k : ℕ). k < thread_places) f who-inside)))

        module _ (w : ℕ) (i : w ≡ (thread_in l.threads place).id) where
          pub who-fits : w ≤ largest_id
          who-fits = id-small l who-sound place p who-inside who-owns w i

          pub who-takes : said.Accepted (Taker (Some w)) ≡ (step_on (who p) l).1
          unfolding reply taker who_answer view decoded
          who-takes =
              answer-after (who p) l (sym who-refusal ∙ z) (Taker (Some w))
              (ap (λ (k : ℕ). Taker (Some k)) (i ∙ ap (λ (k : ℕ). (thread_in l.threads k).id) f)
              ∙ sym (ap (who_answer (view_of l)) (first-find (can_take_some (view_of l) p) no_thread
              (held_threads l.threads)
              (found-any (can_take_some (view_of l) p) no_thread (held_threads l.threads) thread_places place
              (length-held_threads l.threads) f y))))
