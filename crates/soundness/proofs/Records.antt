-- One record, and the records of a buffer: the tests as they are made pass exactly if the rules' clauses of records
-- hold, where the ids are distinct and free places zero; and the limit. Assumes nothing.
use Prim.Native.Nat.{ℕ, ◌+◌, ◌≤◌, ◌<◌}
use mathlib.Core.Path.{◌≡◌, sym, ap, ap₂, ◌∙◌, fun_ext}
use mathlib.Core.Bool.{Bool, true, not, ◌&&◌, ◌||◌, and-false}
use mathlib.Core.List.{List, [], map}
use lib.Dec.{eqb, leb}
use lib.ListN.{length, get_or, length-map, get_or-map}
use borrow.Author.Tests.{eqb-true, le-leb, not-true}
use native.Mathlib.Omega.{arith}
use Rattle.limits.specs.Limits.{process_places, record_limit}
use Rattle.lists.specs.Lists.{all, count, pairs, pairs_where, All}
use Rattle.lists.proofs.Bools.{split, same_test, and-fst, and-snd, and_both, and-imp, not-and}
use Rattle.lists.proofs.Lists.{Pass, Fail, All-imp, all-All, All-all, All-any, none-count, leading-passes}
use Rattle.lists.proofs.Lists.{pairs_where-pairs}
use Rattle.lists.proofs.Loops.{all-at}
use Rattle.lists.proofs.Index.{all-each, all-below, below_all, get_d-mapped}
use Rattle.sigset.specs.Set.{has}
use Rattle.types.specs.declared.Siginfo.{Siginfo}
use Rattle.rules.specs.Types.{Process, Queue}
use Rattle.rules.specs.Signals.{is_signal, standard}
use Rattle.rules.specs.View.{is_process, is_thread, same_queue, queue_of, thread_queue, live_process, live_thread}
use Rattle.rules.specs.View.{the_process}
use Rattle.rules.specs.View.{the_thread}
use Rattle.rules.specs.Store.{Place, Store, held, free_process, free_thread, in_use, used, mark_in, of_process}
use Rattle.rules.specs.Store.{queued_in}
use Rattle.rules.specs.Store.{view}
use Rattle.rules.specs.Sound.{if_live, if_free, process_id, thread_id, zero_thread, names_live, aimed_at_thread}
use Rattle.rules.specs.Sound.{aimed_at_process}
use Rattle.rules.specs.Sound.{record_not_ignored, is_standard, not_twice, not_marked_too, within_limit, limit_kept}
use Rattle.rules.proofs.ClausesByPlace.{GoodRecord}
use Rattle.rules.proofs.Aimed.{thread-live, thread-owner, process-live, process-own}
use Rattle.rules.proofs.Signals.{standard-is}
use Rattle.rules.proofs.Marks.{process_with, thread_with, process-below, thread-below, process-marks, thread-marks}
use Rattle.soundness.specs.Check.{tallies, seen_sets, own_queue, is_fresh, once, process_place, thread_place}
use Rattle.soundness.specs.Check.{thread_record_ok, process_record_ok, thread_record_good, process_record_good}
use Rattle.soundness.specs.Check.{thread_records_ok, process_records_ok, within_at, all_within}
use Rattle.soundness.proofs.Passes.{fresh-marks}

-- ---- a standard signal is pending once

once-where : (x y : Siginfo) → once x y ≡ (not (is_standard x) || not_twice x y)
unfolding once is_standard not_twice
once-where x y =
    let same : Bool = same_queue (queue_of x) (queue_of y) in
    ap not
    (split (eqb x.signal y.signal)
    (λ e. ap (λ (s : ℕ). standard s && (eqb x.signal y.signal && same))
    (sym (eqb-true x.signal y.signal e)))
    (λ e. rw e (and-false (standard y.signal) ∙ sym (and-false (standard x.signal)))))
    ∙ not-and (standard x.signal) (eqb x.signal y.signal && same)

pairs-once : (rs : List Siginfo) → pairs once rs ≡ pairs_where is_standard not_twice rs
pairs-once rs =
    ap (λ (f : Siginfo → Siginfo → Bool). pairs f rs) (fun_ext (λ x. fun_ext (λ y. once-where x y)))
    ∙ sym (pairs_where-pairs is_standard not_twice rs)

-- ---- a record is not marked too

module _ (st : Store) (r : Siginfo) where
  -- by the marks of its place
  marked-too : (b : Bool) → mark_in st (queue_of r) r.signal ≡ (is_signal r.signal && b)
      → not (standard r.signal && b) ≡ not_marked_too st r
  unfolding not_marked_too is_standard
  marked-too b m =
      ap not (and-imp (standard r.signal) (λ t. sym (m ∙ ap (λ (a : Bool). a && b) (standard-is r.signal t))))
      ∙ not-and (standard r.signal) (mark_in st (queue_of r) r.signal)

  thread-unmarked : aimed_at_thread (view st) r ≡ true → count (is_thread r.thread) (map held st.threads) ≤ 1
      → is_fresh (seen_sets thread_queue st.threads []) (thread_place st.threads r) r.signal ≡ not_marked_too st r
  unfolding thread_place
  thread-unmarked e c =
      fresh-marks thread_queue free_thread st.threads (thread_place st.threads r)
      (thread-below st r.thread (thread-live st r e)) r.signal
      ∙ marked-too (has (thread_with st r.thread).marks r.signal)
      (thread-marks st (queue_of r) (thread-live st r e) r.signal (thread-owner st r e) c)

  process-unmarked : aimed_at_process (view st) r ≡ true
      → count (is_process r.process) (map held st.processes) ≤ 1
      → all (if_free thread_id zero_thread) st.threads ≡ true
      → is_fresh (seen_sets own_queue st.processes []) (process_place st.processes r) r.signal ≡ not_marked_too st r
  unfolding process_place
  process-unmarked e c z =
      fresh-marks own_queue free_process st.processes (process_place st.processes r)
      (process-below st r.process (process-live st r e)) r.signal
      ∙ marked-too (has (process_with st r.process).marks r.signal)
      (ap (λ (q : Queue). mark_in st q r.signal) (process-own st r e)
      ∙ process-marks st r.process (process-live st r e) r.signal c z)

-- ---- one record, and the records of a buffer

-- a test passes exactly if P holds
abbrev pub Tells : Bool → Type 0 → Type 0
Tells b P = (b ≡ true → P) × (P → b ≡ true)

module _ (st : Store) (aims : Siginfo → Bool) where
  -- the clauses of a record are named here alone
  record-tells : (fresh : Bool) (r : Siginfo) → (aims r ≡ true → fresh ≡ not_marked_too st r)
      → Tells ((aims r && record_not_ignored (view st) r) && fresh) (GoodRecord st aims r)
  record-tells fresh r f = (
    λ e.
        let ok = and-fst (aims r && record_not_ignored (view st) r) fresh e in
        let aimed = and-fst (aims r) (record_not_ignored (view st) r) ok in
        record {
          aimed = aimed;
          unmarked = sym (f aimed) ∙ and-snd (aims r && record_not_ignored (view st) r) fresh e;
          not-ignored = and-snd (aims r) (record_not_ignored (view st) r) ok;
        },
    λ g. and_both (and_both g.aimed g.not-ignored) (f g.aimed ∙ g.unmarked),
  )

  abbrev pub GoodRecords : List Siginfo → Type 0
  GoodRecords rs = All (GoodRecord st aims) rs × (pairs_where is_standard not_twice rs ≡ true)

  records-tell : (good : Siginfo → Bool) → ((r : Siginfo) → Tells (good r) (GoodRecord st aims r)) → (rs : List Siginfo)
      → Tells (all good rs && pairs once rs) (GoodRecords rs)
  records-tell good h rs = (
    λ e. (
      All-imp (Pass good) (GoodRecord st aims) (λ r. (h r).0) rs (all-All good rs (and-fst (all good rs) _ e)),
      sym (pairs-once rs) ∙ and-snd (all good rs) _ e,
    ),
    λ g.
        and_both (All-all good rs (All-imp (GoodRecord st aims) (Pass good) (λ r. (h r).1) rs g.0))
        (pairs-once rs ∙ g.1),
  )

module _ (st : Store) where
  module _ (one : (n : ℕ) → count (is_thread n) (map held st.threads) ≤ 1) where
    thread-record : (r : Siginfo)
        → Tells (thread_record_good st.processes st.threads r) (GoodRecord st (aimed_at_thread (view st)) r)
    unfolding thread_record_good thread_record_ok aimed_at_thread names_live record_not_ignored live_process live_thread
        the_process
        the_thread view
    thread-record r =
        record-tells st (aimed_at_thread (view st)) _ r (λ e. thread-unmarked st r e (one r.thread))

    pub thread-records : (rs : List Siginfo)
        → Tells (thread_records_ok st.processes st.threads rs) (GoodRecords st (aimed_at_thread (view st)) rs)
    unfolding thread_records_ok
    thread-records =
        records-tell st (aimed_at_thread (view st)) (thread_record_good st.processes st.threads) thread-record

  module _ (one : (n : ℕ) → count (is_process n) (map held st.processes) ≤ 1)
      (free : all (if_free thread_id zero_thread) st.threads ≡ true) where
    process-record : (r : Siginfo)
        → Tells (process_record_good st.processes r) (GoodRecord st (aimed_at_process (view st)) r)
    unfolding process_record_good process_record_ok aimed_at_process names_live record_not_ignored live_process
        the_process view
    process-record r =
        record-tells st (aimed_at_process (view st)) _ r (λ e. process-unmarked st r e (one r.process) free)

    pub process-records : (rs : List Siginfo)
        → Tells (process_records_ok st.processes rs) (GoodRecords st (aimed_at_process (view st)) rs)
    unfolding process_records_ok
    process-records = records-tell st (aimed_at_process (view st)) (process_record_good st.processes) process-record

-- ---- the counts

-- a record in use names a process other than 0
unnamed : (l : List Siginfo) → count (of_process 0) (used l) ≡ 0
unfolding used in_use
unnamed l =
    none-count (of_process 0) (used l)
    (All-any (of_process 0) (used l)
    (All-imp (Pass in_use) (Fail (of_process 0)) (λ r e. not-true (eqb r.process 0) e) (used l)
    (leading-passes in_use l)))

tally-at : (xs : List (Place Process)) (rs : List Siginfo) (i : ℕ) → i < length xs
    → get_or (tallies (map held xs) rs) i 0 ≡ count (of_process (get_or xs i free_process).holds.id) rs
unfolding tallies
tally-at xs rs i h =
    let f : Process → ℕ = λ p. count (of_process p.id) rs in
    let l : i < length (map held xs) = rw (length-map xs held) h in
    get_d-mapped f (map held xs) i free_process.holds 0 l ∙ ap f (get_or-map held xs i free_process)

module _ (st : Store) where
  no-queued : queued_in st 0 ≡ 0
  unfolding queued_in
  no-queued = omega (arith, unnamed st.thread_buffer, unnamed st.process_buffer)

  within-live : (x : Place Process) → within_limit st x ≡ if_live process_id (within_limit st) x
  within-live x =
      split (eqb x.holds.id 0)
      (λ e.
      let z : queued_in st x.holds.id ≡ 0 = ap (queued_in st) (eqb-true x.holds.id 0 e) ∙ no-queued in
      rw e (le-leb (queued_in st x.holds.id) record_limit (omega arith)))
      (λ e. rw e)

  abbrev thread_tally : List ℕ
  thread_tally = tallies (map held st.processes) (used st.thread_buffer)

  abbrev process_tally : List ℕ
  process_tally = tallies (map held st.processes) (used st.process_buffer)

  within-at : (i : ℕ) → i < length st.processes
      → within_at thread_tally process_tally i
      ≡ if_live process_id (within_limit st) (get_or st.processes i free_process)
  unfolding within_at queued_in
  within-at i h =
      ap₂ (λ (m n : ℕ). leb (m + n) record_limit) (tally-at st.processes (used st.thread_buffer) i h)
      (tally-at st.processes (used st.process_buffer) i h)
      ∙ within-live (get_or st.processes i free_process)

  pub within-limit : length st.processes ≡ process_places → all_within thread_tally process_tally ≡ limit_kept st
  unfolding all_within limit_kept
  within-limit n =
      same_test (all_within thread_tally process_tally) (limit_kept st)
      (λ a.
      all-each (if_live process_id (within_limit st)) free_process st.processes
      (λ i h. sym (within-at i h) ∙ below_all (within_at thread_tally process_tally) process_places a i (omega arith)))
      (λ a.
      all-below (within_at thread_tally process_tally) process_places
      (λ i h.
      let l : i < length st.processes = omega arith in
      within-at i l ∙ all-at (if_live process_id (within_limit st)) free_process st.processes i l a))
