-- The test of soundness in the order in which it is made: place by place, then record by record.
-- proofs/Regrouped shows that it is the rules' test. Crates places, records and sound make it.
use Rattle.std.specs.Prelude.{ℕ, ◌+◌, ◌≤◌, Bool, not, ◌&&◌, cond, List, [], map, eqb, leb, get_or, set}
use Rattle.limits.specs.Limits.{process_places, process_words, thread_places, thread_words, buffer_records}
use Rattle.limits.specs.Limits.{record_limit}
use Rattle.limits.specs.Limits.{si_queue}
use Rattle.lists.specs.Lists.{all, any, count, find, pairs, range}
use Rattle.zeros.specs.Zeros.{is_nought}
use Rattle.hints.specs.Hints.{ids_of, seek}
use Rattle.sigset.specs.declared.SigSet.{SigSet}
use Rattle.sigset.specs.Set.{bits, has, set_of, union, intersect, of_signal}
use Rattle.types.specs.declared.Action.{Action}
use Rattle.types.specs.declared.Siginfo.{Siginfo}
use Rattle.rules.specs.Types.{Process, Thread, Queue, no_process}
use Rattle.rules.specs.Signals.{standard, ignored}
use Rattle.rules.specs.View.{View, is_process, is_thread, belongs_to, same_queue, queue_of, process_queue, thread_queue}
use Rattle.rules.specs.View.{in_queue, action_of}
use Rattle.rules.specs.Store.{Place, Store, held, free_process, free_thread, of_process, used, view}
use Rattle.rules.specs.Sound.{if_live, process_id, zero_thread, good_id, fields_fit, unmasked}
use Rattle.rules.specs.Sound.{action_unmasked, flags_known, kill_stop_default, nameable, rest_zero}
use Rattle.rules.specs.Sound.{aimed_at_thread, aimed_at_process, record_not_ignored}
use Rattle.tables.specs.Tables.{process_to}

-- ---- what is pending against what is ignored

-- the signals that a process ignores
unfoldable pub ignored_by : Process → SigSet
ignored_by p = set_of (λ s. ignored (action_of p s) s)

-- no member in common
unfoldable pub disjoint : SigSet → SigSet → Bool
disjoint a b = eqb (intersect a b).0 0

-- ---- one process place

unfoldable pub head_ok : Place Process → Bool
head_ok x = good_id x.holds.id && (fields_fit x && unmasked x.marks)

unfoldable pub action_ok : Action → Bool
action_ok a = action_unmasked a && flags_known a

-- `place` says where an id is found
module _ (place : ℕ → ℕ) where
  -- a live process is found where it is, so no two places have its id
  unfoldable pub live_process_ok : ℕ → Place Process → Bool
  live_process_ok i x =
      head_ok x
      && (eqb (place x.holds.id) i
      && (kill_stop_default x && (all action_ok x.holds.actions && disjoint x.marks (ignored_by x.holds))))

  unfoldable pub process_ok : ℕ → Place Process → Bool
  process_ok i x = cond (eqb x.holds.id 0) (all is_nought (process_to x)) (live_process_ok i x)

-- ---- one thread place

-- the place of a thread's process, and that process
unfoldable pub owner_place : List Process → Place Thread → ℕ
owner_place ps x = find (is_process x.holds.process) ps

unfoldable pub owner_of : List Process → Place Thread → Process
owner_of ps x = get_or ps (owner_place ps x) no_process

module _ (place : ℕ → ℕ) where
  -- a live thread whose process ignores these signals
  unfoldable pub live_thread_ok : SigSet → ℕ → Place Thread → Bool
  live_thread_ok ignores i x =
      good_id x.holds.id
      && (unmasked x.holds.mask
      && (unmasked x.marks && (eqb (place x.holds.id) i && disjoint x.marks ignores)))

  unfoldable pub thread_ok : List Process → ℕ → Place Thread → Bool
  thread_ok ps i x =
      cond (eqb x.holds.id 0) (zero_thread x)
      (any (is_process x.holds.process) ps && live_thread_ok (ignored_by (owner_of ps x)) i x)

-- ---- all places

-- where the ids of the two tables are found, by the hints
abbrev pub process_by : (hints words : List ℕ) → ℕ → ℕ
process_by hints ws = seek hints (ids_of process_words process_places ws)

abbrev pub thread_by : (hints words : List ℕ) → ℕ → ℕ
thread_by hints ws = seek hints (ids_of thread_words thread_places ws)

module _ (place : ℕ → ℕ) (xs : List (Place Process)) where
  unfoldable pub process_ok_at : ℕ → Bool
  process_ok_at i = process_ok place i (get_or xs i free_process)

  unfoldable pub processes_ok : Bool
  processes_ok = all process_ok_at (range 0 process_places)

module _ (place : ℕ → ℕ) (xs : List (Place Process)) (ys : List (Place Thread)) where
  unfoldable pub thread_ok_at : ℕ → Bool
  thread_ok_at i = thread_ok place (map held xs) i (get_or ys i free_thread)

  unfoldable pub threads_ok : Bool
  threads_ok = all thread_ok_at (range 0 thread_places)

module _ (xs : List (Place Process)) (ys : List (Place Thread)) where
  -- a live process has a thread
  unfoldable pub has_thread_at : ℕ → Bool
  has_thread_at i = if_live process_id (λ x. any (belongs_to x.holds.id) (map held ys)) (get_or xs i free_process)

  unfoldable pub have_threads : Bool
  have_threads = all has_thread_at (range 0 process_places)

  -- what a record is held against: the places alone
  abbrev pub places_view : View
  places_view = view (record { processes = xs; threads = ys; thread_buffer = []; process_buffer = [] })

unfoldable pub places_ok : (process thread : ℕ → ℕ) → List (Place Process) → List (Place Thread) → Bool
places_ok process thread xs ys = processes_ok process xs && (threads_ok thread xs ys && have_threads xs ys)

-- ---- the records of a buffer, oldest first

-- a record is queued, names a signal that it may, and is not ignored by its process
unfoldable pub is_delivered : (ignores : SigSet) → Siginfo → Bool
is_delivered ignores r = nameable r.signal && (eqb r.code si_queue && not (has ignores r.signal))

-- no two places have one process
abbrev pub one_place : List Process → Type 0
one_place ps = (n : ℕ) → count (is_process n) ps ≤ 1

-- how many records each process has
unfoldable pub tallies : List Process → List Siginfo → List ℕ
tallies ps rs = map (λ (p : Process). count (of_process p.id) rs) ps

-- each far from overflowing
abbrev pub small_counts : List ℕ → Type 0
small_counts counts = (p : ℕ) → get_or counts p 0 ≤ buffer_records

-- the signals that are pending in each queue, by a mark or by one of the records
module _ {A : Type 0} (queue : A → Queue) where
  unfoldable pub seen_by : List Siginfo → Place A → ℕ
  seen_by rs x = (union x.marks (set_of (λ s. any (in_queue (queue x.holds) s) rs))).0

  unfoldable pub seen_sets : List (Place A) → List Siginfo → List ℕ
  seen_sets xs rs = map (seen_by rs) xs

abbrev pub own_queue : Process → Queue
own_queue p = process_queue p.id

-- a standard signal is not yet in the set of its queue
unfoldable pub is_fresh : List ℕ → ℕ → ℕ → Bool
is_fresh seen q s = not (standard s && has (bits (get_or seen q 0)) s)

-- one record more for the process at a place
unfoldable pub bumped : List ℕ → ℕ → List ℕ
bumped counts p = set counts p (get_or counts p 0 + 1)

-- one signal more in the set at a place
unfoldable pub noted : List ℕ → ℕ → ℕ → List ℕ
noted seen q s = set seen q (union (bits (get_or seen q 0)) (of_signal s)).0

-- a record and an earlier one are not of one standard signal and queue
unfoldable pub once : Siginfo → Siginfo → Bool
once earlier later =
    not
    (standard later.signal && (eqb earlier.signal later.signal && same_queue (queue_of earlier) (queue_of later)))

-- the place that a record names
unfoldable pub process_place : List (Place Process) → Siginfo → ℕ
process_place xs r = find (is_process r.process) (map held xs)

unfoldable pub thread_place : List (Place Thread) → Siginfo → ℕ
thread_place ys r = find (is_thread r.thread) (map held ys)

-- a record is well aimed and not ignored; one aimed at a process is held against no thread
unfoldable pub thread_record_ok : List (Place Process) → List (Place Thread) → Siginfo → Bool
thread_record_ok xs ys r = aimed_at_thread (places_view xs ys) r && record_not_ignored (places_view xs ys) r

unfoldable pub process_record_ok : List (Place Process) → Siginfo → Bool
process_record_ok xs r = aimed_at_process (places_view xs []) r && record_not_ignored (places_view xs []) r

-- and not marked too
unfoldable pub thread_record_good : List (Place Process) → List (Place Thread) → Siginfo → Bool
thread_record_good xs ys r = thread_record_ok xs ys r
    && is_fresh (seen_sets thread_queue ys []) (thread_place ys r) r.signal

unfoldable pub process_record_good : List (Place Process) → Siginfo → Bool
process_record_good xs r = process_record_ok xs r && is_fresh (seen_sets own_queue xs []) (process_place xs r) r.signal

unfoldable pub thread_records_ok : List (Place Process) → List (Place Thread) → List Siginfo → Bool
thread_records_ok xs ys rs = all (thread_record_good xs ys) rs && pairs once rs

unfoldable pub process_records_ok : List (Place Process) → List Siginfo → Bool
process_records_ok xs rs = all (process_record_good xs) rs && pairs once rs

-- both counts of a place within the limit
unfoldable pub within_at : List ℕ → List ℕ → ℕ → Bool
within_at cs ds i = leb (get_or cs i 0 + get_or ds i 0) record_limit

unfoldable pub all_within : List ℕ → List ℕ → Bool
all_within cs ds = all (within_at cs ds) (range 0 process_places)

-- ---- the whole test

unfoldable pub records_ok : (xs : List (Place Process)) (ys : List (Place Thread)) (rs qs : List Siginfo) → Bool
records_ok xs ys rs qs =
    thread_records_ok xs ys rs
    && (process_records_ok xs qs && all_within (tallies (map held xs) rs) (tallies (map held xs) qs))

unfoldable pub checked : (process thread : ℕ → ℕ) → Store → Bool
checked process thread st =
    places_ok process thread st.processes st.threads
    && (rest_zero st.thread_buffer
    && (rest_zero st.process_buffer
    && records_ok st.processes st.threads (used st.thread_buffer) (used st.process_buffer)))
