-- The pass over the records of a buffer, turn by turn: what is so far good stays so, or all is not. Assumes nothing.
use Prim.Native.Nat.{ℕ, ◌+◌, ◌≤◌, ◌<◌}
use mathlib.Core.Path.{◌≡◌, refl, sym, ◌∙◌}
use mathlib.Core.Bool.{Bool, true, false, ◌&&◌}
use mathlib.Core.List.{List, [], map}
use native.Mathlib.Omega.{arith}
use lib.Dec.{eqb}
use lib.ListN.{length, get_or, take, length-map}
use borrow.Author.Tests.{not-true}
use Rattle.limits.specs.Limits.{process_places, thread_places}
use Rattle.lists.specs.Lists.{all, any, count, pairs}
use Rattle.lists.proofs.Bools.{split, and-fst, and-snd, and_both, and_left, and_right, and_cases}
use Rattle.lists.proofs.Loops.{find-any, against, all_more, all-fails, pairs-more, pairs-fails}
use Rattle.lists.proofs.Index.{below_all}
use Rattle.types.specs.declared.Siginfo.{Siginfo}
use Rattle.types.specs.Values.{no_siginfo}
use Rattle.rules.specs.Types.{Process, Thread, Queue}
use Rattle.rules.specs.View.{is_process, is_thread, thread_queue, same_queue, queue_of, live_process}
use Rattle.rules.specs.Store.{Place, Store, held, free_process, free_thread, view}
use Rattle.rules.specs.Sound.{is_live, thread_id, aimed_at_thread, aimed_at_process}
use Rattle.rules.proofs.Aimed.{thread-live, thread-process-live, thread-queue, thread-queue-one, process-live}
use Rattle.rules.proofs.Aimed.{process-queue, process-queue-one}
use Rattle.rules.proofs.Marks.{process-below, thread-below}
use Rattle.soundness.specs.Check.{places_view, seen_by, seen_sets, own_queue, one_place, is_fresh, once, process_place}
use Rattle.soundness.specs.Check.{thread_place, thread_record_ok, process_record_ok, thread_record_good}
use Rattle.soundness.specs.Check.{process_record_good, thread_records_ok, process_records_ok, processes_ok, thread_ok}
use Rattle.soundness.specs.Check.{thread_ok_at, threads_ok, places_ok}
use Rattle.soundness.specs.Pass.{Pass, AddsUp, thread_pass, process_pass}
use Rattle.soundness.proofs.Passes.{fresh-is, seen_step, tally-step}
use Rattle.soundness.proofs.Regrouped.{processes-one, threads-one}

-- ---- any test of records: good is what is aimed and not marked, and fresh what is neither marked nor met before

module _ (aimed unmarked : Siginfo → Bool) where
  abbrev good : Siginfo → Bool
  good r = aimed r && unmarked r

  abbrev passed : List Siginfo → Bool
  passed rs = all good rs && pairs once rs

  passed_none : passed [] ≡ true
  unfolding all pairs
  passed_none = refl

  module _ (rs : List Siginfo) (i : ℕ) (r : Siginfo) (l : i < length rs) (e : r ≡ get_or rs i no_siginfo) where
    bad-fails : good r ≡ false → passed rs ≡ false
    bad-fails g = and_left (pairs once rs) (all-fails good no_siginfo rs i l (rw e at g))

    module _ (fresh : Bool) (f : fresh ≡ (unmarked r && all (against once r) (take i rs))) where
      passed-more : aimed r ≡ true → fresh ≡ true → passed (take i rs) ≡ true → passed (take (i + 1) rs) ≡ true
      passed-more k t s =
          let u : unmarked r ≡ true = and-fst (unmarked r) _ (sym f ∙ t) in
          let a : all (against once r) (take i rs) ≡ true = and-snd (unmarked r) _ (sym f ∙ t) in
          let g : good r ≡ true = and_both k u in
          and_both
          (all_more good no_siginfo rs i l (and-fst (all good (take i rs)) _ s) (rw e at g))
          (pairs-more once no_siginfo rs i l (and-snd (all good (take i rs)) _ s) (rw e at a))

      stale-fails : fresh ≡ false → passed rs ≡ false
      stale-fails t =
          and_cases (unmarked r) (all (against once r) (take i rs)) (sym f ∙ t)
          (λ a. bad-fails (and_right (aimed r) a))
          (λ a. and_right (all good rs) (pairs-fails once no_siginfo rs i l (rw e at a)))

-- ---- any buffer

-- what a record tells that is aimed at a place of ys: no other place has its queue, and one place of xs its process
record Told {A : Type 0} (queue : A → Queue) (d : Place A) (xs : List (Place Process)) (ys : List (Place A)) (at : ℕ)
    (r : Siginfo) : Type 0 where
  inside : at < length ys
  theirs : same_queue (queue (get_or ys at d).holds) (queue_of r) ≡ true
  alone : count (λ (y : Place A). same_queue (queue y.holds) (queue_of r)) ys ≤ 1
  one : count (is_process r.process) (map held xs) ≤ 1
  there : any (is_process r.process) (map held xs) ≡ true

module _ {A : Type 0} (queue : A → Queue) (d : Place A) (xs : List (Place Process)) (ys : List (Place A))
    (aimed : Siginfo → Bool) (place : Siginfo → ℕ) where
  abbrev unmarked : Siginfo → Bool
  unmarked r = is_fresh (seen_sets queue ys []) (place r) r.signal

  abbrev pass : Pass
  pass =
      record {
        processes = map held xs;
        aimed = aimed;
        process = process_place xs;
        queue = place;
        seen = seen_sets queue ys;
        ok = passed aimed unmarked;
      }

  adds-up : (n : ℕ) → n ≤ thread_places → length xs ≡ process_places → length ys ≡ n
      → ((r : Siginfo) → aimed r ≡ true → Told queue d xs ys (place r) r)
      → AddsUp n pass
  unfolding seen_sets process_place
  adds-up n few many long told =
      record {
        few = few;
        many = length-map xs held ∙ many;
        long = λ rs. length-map ys (seen_by queue rs) ∙ long;
        none = passed_none aimed unmarked;
        fails =
            λ rs i r h b.
            split (aimed r)
            (λ k. stale-fails aimed unmarked rs i r h.0 h.1 _ (fresh rs i r k) (rw k at b))
            (λ k. bad-fails aimed unmarked rs i r h.0 h.1 (and_left _ k));
        more = λ rs i r h k. passed-more aimed unmarked rs i r h.0 h.1 _ (fresh rs i r k) k;
        counted =
            λ rs i r h k.
            tally-step (map held xs) rs i r h.0 h.1 (told r k).one
            (find-any (is_process r.process) (map held xs) (told r k).there);
        noticed =
            λ rs i r h k.
            seen_step queue d ys (place r) (told r k).inside r (told r k).theirs rs i h.0 h.1 (told r k).alone;
      }
    where
      fresh : (rs : List Siginfo) (i : ℕ) (r : Siginfo) → aimed r ≡ true
          → is_fresh (seen_sets queue ys (take i rs)) (place r) r.signal
          ≡ (unmarked r && all (against once r) (take i rs))
      fresh rs i r k = fresh-is queue d ys (place r) (told r k).inside r (told r k).theirs (take i rs)

-- ---- the two buffers, their places sound

module _ (process thread : ℕ → ℕ) (xs : List (Place Process)) (ys : List (Place Thread))
    (lx : length xs ≡ process_places) (ly : length ys ≡ thread_places) (k : places_ok process thread xs ys ≡ true) where
  abbrev store : Store
  store = record { processes = xs; threads = ys; thread_buffer = []; process_buffer = [] }

  pub one-process : one_place (map held xs)
  unfolding places_ok
  one-process = processes-one process xs lx (and-fst (processes_ok process xs) _ k)

  threads-good : threads_ok thread xs ys ≡ true
  unfolding places_ok
  threads-good = and-fst (threads_ok thread xs ys) _ (and-snd (processes_ok process xs) _ k)

  pub one-thread : (n : ℕ) → count (is_thread n) (map held ys) ≤ 1
  one-thread = threads-one thread xs ys ly threads-good

  -- the process of a live thread
  pub owned : (i : ℕ) → i < thread_places → is_live thread_id (get_or ys i free_thread) ≡ true
      → any (is_process (get_or ys i free_thread).holds.process) (map held xs) ≡ true
  unfolding threads_ok thread_ok_at thread_ok
  owned i l live =
      and-fst (any (is_process (get_or ys i free_thread).holds.process) (map held xs)) _
      (rw (not-true (eqb (get_or ys i free_thread).holds.id 0) live) at
      (below_all (thread_ok_at thread xs ys) thread_places threads-good i l))

  thread-told : (r : Siginfo) → thread_record_ok xs ys r ≡ true
      → Told thread_queue free_thread xs ys (thread_place ys r) r
  unfolding thread_record_ok thread_place live_process view
  thread-told r h =
      let aimed : aimed_at_thread (places_view xs ys) r ≡ true = and-fst (aimed_at_thread (places_view xs ys) r) _ h in
      record {
        inside = thread-below store r.thread (thread-live store r aimed);
        theirs = thread-queue store r aimed;
        alone = thread-queue-one store r aimed (one-thread r.thread);
        one = one-process r.process;
        there = thread-process-live store r aimed;
      }

  pub thread-adds-up : AddsUp thread_places (thread_pass xs ys)
  unfolding thread_records_ok thread_record_good
  thread-adds-up =
      adds-up thread_queue free_thread xs ys (thread_record_ok xs ys) (thread_place ys) thread_places
      (omega arith) lx ly thread-told

  process-told : (r : Siginfo) → process_record_ok xs r ≡ true
      → Told own_queue free_process xs xs (process_place xs r) r
  unfolding process_record_ok process_place live_process view
  process-told r h =
      let aimed : aimed_at_process (places_view xs []) r ≡ true =
      and-fst (aimed_at_process (places_view xs []) r) _ h in
      let st : Store = record { processes = xs; threads = []; thread_buffer = []; process_buffer = [] } in
      record {
        inside = process-below st r.process (process-live st r aimed);
        theirs = process-queue st r aimed;
        alone = process-queue-one st r aimed (one-process r.process);
        one = one-process r.process;
        there = process-live st r aimed;
      }

  pub process-adds-up : AddsUp process_places (process_pass xs)
  unfolding process_records_ok process_record_good
  process-adds-up =
      adds-up own_queue free_process xs xs (process_record_ok xs) (process_place xs) process_places
      (omega arith) lx lx process-told
