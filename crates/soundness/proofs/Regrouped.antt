-- The test in the order in which it is made is the rules' test. Assumes nothing.
use Prim.Native.Nat.{ℕ, ◌≤◌, ◌<◌}
use mathlib.Core.Path.{◌≡◌, sym, ◌∙◌}
use mathlib.Core.Bool.{true}
use mathlib.Core.List.{List, map}
use native.Mathlib.Omega.{arith}
use lib.ListN.{length, get_or}
use Rattle.limits.specs.Limits.{process_places, thread_places}
use Rattle.lists.specs.Lists.{count, find, pairs_where, All}
use Rattle.lists.proofs.Bools.{same_test, and-fst, and-snd, and_both}
use Rattle.lists.proofs.Lists.{Pass, All-imp, All-both, All-at, All-each, all-All, All-all}
use Rattle.lists.proofs.Loops.{all-at}
use Rattle.lists.proofs.Index.{all-below, below_all}
use Rattle.rules.specs.Types.{Process, Thread}
use Rattle.rules.specs.View.{is_process, is_thread}
use Rattle.rules.specs.Store.{Place, Store, held, free_process, free_thread, used, view}
use Rattle.rules.specs.Sound.{is_live, apart, if_live, if_free, process_id, thread_id, actions_long, lengths_right}
use Rattle.rules.specs.Sound.{zero_thread}
use Rattle.rules.specs.Sound.{has_thread, rest_zero, aimed_at_thread, aimed_at_process, within_limit, limit_kept, sound}
use Rattle.rules.proofs.Ids.{one-held, distinct-held, told-apart}
use Rattle.rules.proofs.ClausesByTable.{Lengths, lengths-of}
use Rattle.rules.proofs.ClausesByPlace.{OwnProcess, GoodProcess, GoodThread, Good, HaveThreads, good, have-threads}
use Rattle.rules.proofs.ClausesByPlace.{good-sound}
use Rattle.soundness.specs.Check.{process_ok_at, processes_ok, thread_ok_at, threads_ok, has_thread_at}
use Rattle.soundness.specs.Check.{have_threads, places_ok}
use Rattle.soundness.specs.Check.{thread_records_ok, process_records_ok, records_ok, checked}
use Rattle.soundness.proofs.Places.{process-own, process-told, process-ok, thread-good, thread-told, thread-ok}
use Rattle.soundness.proofs.Records.{Tells, GoodRecords, thread-records, process-records, within-limit}

-- ---- ids that are found where they are differ, so each is met once

module _ (process : ℕ → ℕ) (xs : List (Place Process)) (long : length xs ≡ process_places)
    (k : processes_ok process xs ≡ true) where
  processes-apart : pairs_where (is_live process_id) (apart process_id) xs ≡ true
  unfolding processes_ok process_ok_at
  processes-apart =
      told-apart process_id xs free_process process
      (λ i h l.
      process-told process i (get_or xs i free_process)
      (below_all (process_ok_at process xs) process_places k i (omega arith)) l)

  pub processes-one : (n : ℕ) → count (is_process n) (map held xs) ≤ 1
  unfolding is_process
  processes-one = one-held process_id xs processes-apart

module _ (thread : ℕ → ℕ) (xs : List (Place Process)) (ys : List (Place Thread)) (long : length ys ≡ thread_places)
    (k : threads_ok thread xs ys ≡ true) where
  threads-apart : pairs_where (is_live thread_id) (apart thread_id) ys ≡ true
  unfolding threads_ok thread_ok_at
  threads-apart =
      told-apart thread_id ys free_thread thread
      (λ i h l.
      thread-told thread (map held xs) i (get_or ys i free_thread)
      (below_all (thread_ok_at thread xs ys) thread_places k i (omega arith)) l)

  pub threads-one : (n : ℕ) → count (is_thread n) (map held ys) ≤ 1
  unfolding is_thread
  threads-one = one-held thread_id ys threads-apart

-- ---- each part of the test, and what it tells

module _ (process thread : ℕ → ℕ) (st : Store) (l : Lengths st)
    (by-process : (n : ℕ) → count (is_process n) (map held st.processes) ≤ 1
    → process n ≡ find (is_process n) (map held st.processes))
    (by-thread : (n : ℕ) → count (is_thread n) (map held st.threads) ≤ 1
    → thread n ≡ find (is_thread n) (map held st.threads)) where
  abbrev GoodProcesses : Type 0
  GoodProcesses = All OwnProcess st.processes
      × (pairs_where (is_live process_id) (apart process_id) st.processes ≡ true)

  abbrev GoodThreads : Type 0
  GoodThreads = All (GoodThread st) st.threads
      × (pairs_where (is_live thread_id) (apart thread_id) st.threads ≡ true)

  processes-tell : Tells (processes_ok process st.processes) GoodProcesses
  unfolding processes_ok process_ok_at is_process
  processes-tell = (
    λ k. (
      All-each OwnProcess st.processes free_process
          (λ i h.
          process-own process i (get_or st.processes i free_process)
          (all-at actions_long free_process st.processes i h l.actions)
          (below_all (process_ok_at process st.processes) process_places k i (omega (arith, l.processes)))),
      processes-apart process st.processes l.processes k,
    ),
    λ g.
        all-below (process_ok_at process st.processes) process_places
        (λ i h.
        let x : Place Process = get_or st.processes i free_process in
        let inside : i < length st.processes = omega (arith, l.processes) in
        process-ok process i x (All-at OwnProcess st.processes i free_process inside g.0)
        (λ e. by-process x.holds.id (one-held process_id st.processes g.1 x.holds.id)
        ∙ distinct-held process_id st.processes free_process g.1 i inside e)),
  )

  threads-tell : Tells (threads_ok thread st.processes st.threads) GoodThreads
  unfolding threads_ok thread_ok_at is_thread view
  threads-tell = (
    λ k. (
      All-each (GoodThread st) st.threads free_thread
          (λ i h.
          thread-good thread st i (get_or st.threads i free_thread)
          (below_all (thread_ok_at thread st.processes st.threads) thread_places k i (omega (arith, l.threads)))),
      threads-apart thread st.processes st.threads l.threads k,
    ),
    λ g.
        all-below (thread_ok_at thread st.processes st.threads) thread_places
        (λ i h.
        let x : Place Thread = get_or st.threads i free_thread in
        let inside : i < length st.threads = omega (arith, l.threads) in
        thread-ok thread st i x (All-at (GoodThread st) st.threads i free_thread inside g.0)
        (λ e. by-thread x.holds.id (one-held thread_id st.threads g.1 x.holds.id)
        ∙ distinct-held thread_id st.threads free_thread g.1 i inside e)),
  )

  have-threads-tell : Tells (have_threads st.processes st.threads) (HaveThreads st)
  unfolding have_threads has_thread_at has_thread view
  have-threads-tell = (
    λ k.
        All-each (Pass (if_live process_id (has_thread (view st)))) st.processes free_process
        (λ i h.
        below_all (has_thread_at st.processes st.threads) process_places k i (omega (arith, l.processes))),
    λ g.
        all-below (has_thread_at st.processes st.threads) process_places
        (λ i h.
        All-at (Pass (if_live process_id (has_thread (view st)))) st.processes i free_process
        (omega (arith, l.processes)) g),
  )

  -- the records, where the places are good
  module _ (p : GoodProcesses) (t : GoodThreads) where
    threads-of : Tells (thread_records_ok st.processes st.threads (used st.thread_buffer))
        (GoodRecords st (aimed_at_thread (view st)) (used st.thread_buffer))
    unfolding is_thread
    threads-of = thread-records st (one-held thread_id st.threads t.1) (used st.thread_buffer)

    processes-of : Tells (process_records_ok st.processes (used st.process_buffer))
        (GoodRecords st (aimed_at_process (view st)) (used st.process_buffer))
    unfolding is_process
    processes-of =
        process-records st (one-held process_id st.processes p.1)
        (All-all (if_free thread_id zero_thread) st.threads
        (All-imp (GoodThread st) (Pass (if_free thread_id zero_thread)) (λ x k. k.own.free) st.threads t.0))
        (used st.process_buffer)

  -- ---- the whole test

  checked-sound : checked process thread st ≡ true → sound st ≡ true
  unfolding checked places_ok records_ok limit_kept
  checked-sound e =
      let xs = st.processes in
      let k = and-fst (places_ok process thread xs st.threads) _ e in
      let k1 = and-snd (processes_ok process xs) _ k in
      let e1 = and-snd (places_ok process thread xs st.threads) _ e in
      let e2 = and-snd (rest_zero st.thread_buffer) _ e1 in
      let r = and-snd (rest_zero st.process_buffer) _ e2 in
      let r1 = and-snd (thread_records_ok xs st.threads (used st.thread_buffer)) _ r in
      let p = processes-tell.0 (and-fst (processes_ok process xs) _ k) in
      let t = threads-tell.0 (and-fst (threads_ok thread xs st.threads) _ k1) in
      let a = (threads-of p t).0 (and-fst (thread_records_ok xs st.threads (used st.thread_buffer)) _ r) in
      let b = (processes-of p t).0 (and-fst (process_records_ok xs (used st.process_buffer)) _ r1) in
      let m = sym (within-limit st l.processes) ∙ and-snd (process_records_ok xs (used st.process_buffer)) _ r1 in
      good-sound st
      (record {
        processes_long = l.processes;
        processes =
            All-imp (λ x. OwnProcess x × Pass (if_live process_id (within_limit st)) x) (GoodProcess st)
            (λ x h. record { own = h.0; limit = h.1 }) xs
            (All-both OwnProcess (Pass (if_live process_id (within_limit st))) xs p.0
            (all-All (if_live process_id (within_limit st)) xs m));
        process_apart = p.1;
        threads_long = l.threads;
        threads = t.0;
        thread_apart = t.1;
        thread_buffer =
            record {
              laid =
                  record { long = l.thread_slots; rest = and-fst (rest_zero st.thread_buffer) _ e1; once = a.1 };
              records = a.0;
            };
        process_buffer =
            record {
              laid =
                  record { long = l.process_slots; rest = and-fst (rest_zero st.process_buffer) _ e2; once = b.1 };
              records = b.0;
            };
      })
      (have-threads-tell.0 (and-snd (threads_ok thread xs st.threads) _ k1))

  good-checked : Good st → HaveThreads st → checked process thread st ≡ true
  unfolding checked places_ok records_ok limit_kept
  good-checked g h =
      let p : GoodProcesses =
      (All-imp (GoodProcess st) OwnProcess (λ x k. k.own) st.processes g.processes, g.process_apart) in
      let t : GoodThreads = (g.threads, g.thread_apart) in
      and_both (and_both (processes-tell.1 p) (and_both (threads-tell.1 t) (have-threads-tell.1 h)))
      (and_both g.thread_buffer.laid.rest
      (and_both g.process_buffer.laid.rest
      (and_both ((threads-of p t).1 (g.thread_buffer.records, g.thread_buffer.laid.once))
      (and_both ((processes-of p t).1 (g.process_buffer.records, g.process_buffer.laid.once))
      (within-limit st l.processes
      ∙ All-all (if_live process_id (within_limit st)) st.processes
      (All-imp (GoodProcess st) (Pass (if_live process_id (within_limit st))) (λ x k. k.limit) st.processes
      g.processes))))))

pub regrouped : (process thread : ℕ → ℕ) (st : Store)
    → ((n : ℕ) → count (is_process n) (map held st.processes) ≤ 1
    → process n ≡ find (is_process n) (map held st.processes))
    → ((n : ℕ) → count (is_thread n) (map held st.threads) ≤ 1
    → thread n ≡ find (is_thread n) (map held st.threads))
    → lengths_right st ≡ true
    → checked process thread st ≡ sound st
regrouped process thread st f g n =
    same_test (checked process thread st) (sound st)
    (checked-sound process thread st (lengths-of st n) f g)
    (λ e. good-checked process thread st (lengths-of st n) f g (good st e) (have-threads st e))
