-- "A store is sound when": one test, a clause for each of the paper's, in its order.
use Rattle.std.specs.Prelude.{ℕ, Bool, not, ◌&&◌, ◌||◌, List, eqb, leb, length, drop}
use Rattle.std.specs.Int.Bits.{bit_and}
use Rattle.limits.specs.Limits.{process_places, thread_places, buffer_records, signals, record_limit, largest_id}
use Rattle.limits.specs.Limits.{largest_user, known_flags, si_queue, SIGKILL, SIGSTOP}
use Rattle.lists.specs.Lists.{all, any, pairs_where, range}
use Rattle.sigset.specs.declared.SigSet.{SigSet}
use Rattle.sigset.specs.Set.{has, is_unmaskable}
use Rattle.types.specs.declared.Action.{Action}
use Rattle.types.specs.declared.Siginfo.{Siginfo}
use Rattle.rules.specs.Types.{Process, Thread}
use Rattle.rules.specs.Signals.{is_signal, standard, ignored}
use Rattle.rules.specs.View.{View, same_queue, queue_of, action_of, belongs_to, live_process, live_thread, the_process}
use Rattle.rules.specs.View.{the_thread, thread_action}
use Rattle.rules.specs.Store.{Place, Store, used, mark_in, queued_in, view}

-- the second where the first holds
abbrev pub implies : Bool → Bool → Bool
implies a b = not a || b

module _ {A : Type 0} (id : A → ℕ) where
  abbrev pub is_live : Place A → Bool
  is_live x = not (eqb (id x.holds) 0)

  -- a live place passes the test
  abbrev pub if_live : (Place A → Bool) → Place A → Bool
  if_live p x = implies (is_live x) (p x)

  -- a free place passes the test
  abbrev pub if_free : (Place A → Bool) → Place A → Bool
  if_free p x = implies (not (is_live x)) (p x)

  abbrev pub apart : Place A → Place A → Bool
  apart x y = not (eqb (id x.holds) (id y.holds))

abbrev pub process_id : Process → ℕ
process_id p = p.id

abbrev pub thread_id : Thread → ℕ
thread_id t = t.id

-- ---- "a lent table has another length than above"

unfoldable pub actions_long : Place Process → Bool
actions_long x = eqb (length x.holds.actions) signals

unfoldable pub lengths_right : Store → Bool
lengths_right st =
    eqb (length st.processes) process_places
    && (all actions_long st.processes
    && (eqb (length st.threads) thread_places
    && (eqb (length st.thread_buffer) buffer_records
    && eqb (length st.process_buffer) buffer_records)))

-- ---- "free places (id 0) are all zero"

unfoldable pub is_default : Action → Bool
is_default a = eqb a.handler 0 && (eqb a.flags 0 && eqb a.mask.0 0)

unfoldable pub zero_process : Place Process → Bool
zero_process x =
    eqb x.holds.real 0
    && (eqb x.holds.effective 0
    && (eqb x.holds.saved 0
    && (eqb x.holds.session 0
    && (eqb x.holds.stopped 0
    && (eqb x.marks.0 0
    && all is_default x.holds.actions)))))

unfoldable pub zero_thread : Place Thread → Bool
zero_thread x = eqb x.holds.process 0 && (eqb x.holds.mask.0 0 && eqb x.marks.0 0)

unfoldable pub free_zero : Store → Bool
free_zero st = all (if_free process_id zero_process) st.processes && all (if_free thread_id zero_thread) st.threads

-- ---- "live ids are 1 to 2,147,483,647 and distinct within each table"

unfoldable pub good_id : ℕ → Bool
good_id n = leb 1 n && leb n largest_id

abbrev pub good_process_id : Place Process → Bool
good_process_id x = good_id x.holds.id

abbrev pub good_thread_id : Place Thread → Bool
good_thread_id x = good_id x.holds.id

unfoldable pub ids_in_range : Store → Bool
ids_in_range st = all (if_live process_id good_process_id) st.processes
    && all (if_live thread_id good_thread_id) st.threads

unfoldable pub ids_distinct : Store → Bool
ids_distinct st =
    pairs_where (is_live process_id) (apart process_id) st.processes
    && pairs_where (is_live thread_id) (apart thread_id) st.threads

-- ---- a field is a value of its kind: user ids and session ids are 32-bit numbers, "stopped or not" is 1 or 0

unfoldable pub good_user : ℕ → Bool
good_user n = leb n largest_user

unfoldable pub fields_fit : Place Process → Bool
fields_fit x =
    good_user x.holds.real
    && (good_user x.holds.effective
    && (good_user x.holds.saved && (good_user x.holds.session && leb x.holds.stopped 1)))

unfoldable pub fields_in_range : Store → Bool
fields_in_range st = all fields_fit st.processes

-- ---- "each thread belongs to a live process and each live process has a thread"

unfoldable pub belongs : View → Place Thread → Bool
belongs v x = live_process v x.holds.process

unfoldable pub has_thread : View → Place Process → Bool
has_thread v x = any (belongs_to x.holds.id) v.threads

unfoldable pub threads_owned : Store → Bool
threads_owned st = all (if_live thread_id (belongs (view st))) st.threads

unfoldable pub processes_have_threads : Store → Bool
processes_have_threads st = all (if_live process_id (has_thread (view st))) st.processes

-- ---- "no mask, mark or action mask holds 9 or 19, whose actions are the named default"

unfoldable pub unmasked : SigSet → Bool
unmasked m = not (has m SIGKILL || has m SIGSTOP)

unfoldable pub action_unmasked : Action → Bool
action_unmasked a = unmasked a.mask

unfoldable pub process_unmasked : Place Process → Bool
process_unmasked x = unmasked x.marks && all action_unmasked x.holds.actions

unfoldable pub thread_unmasked : Place Thread → Bool
thread_unmasked x = unmasked x.holds.mask && unmasked x.marks

unfoldable pub nothing_unmaskable : Store → Bool
nothing_unmaskable st = all process_unmasked st.processes && all thread_unmasked st.threads

unfoldable pub kill_stop_default : Place Process → Bool
kill_stop_default x = is_default (action_of x.holds SIGKILL) && is_default (action_of x.holds SIGSTOP)

unfoldable pub unmaskable_default : Store → Bool
unmaskable_default st = all kill_stop_default st.processes

-- ---- "flags hold only the four bits"

unfoldable pub flags_known : Action → Bool
flags_known a = eqb (bit_and a.flags known_flags) a.flags

unfoldable pub process_flags_known : Place Process → Bool
process_flags_known x = all flags_known x.holds.actions

unfoldable pub all_flags_known : Store → Bool
all_flags_known st = all process_flags_known st.processes

-- ---- "records are laid out as above and name a signal other than 9 and 19, a live process,
--      and 0 or a live thread of it as the buffer asks"

unfoldable pub is_zero : Siginfo → Bool
is_zero r =
    eqb r.process 0
    && (eqb r.thread 0
    && (eqb r.signal 0 && (eqb r.code 0 && (eqb r.sender 0 && (eqb r.uid 0 && eqb r.value 0)))))

-- "Used records come first, oldest first; the rest is zero."
unfoldable pub rest_zero : List Siginfo → Bool
rest_zero slots = all is_zero (drop (length (used slots)) slots)

unfoldable pub nameable : ℕ → Bool
nameable s = is_signal s && not (is_unmaskable s)

unfoldable pub names_live : View → Siginfo → Bool
names_live v r = eqb r.code si_queue && (nameable r.signal && live_process v r.process)

unfoldable pub aimed_at_thread : View → Siginfo → Bool
aimed_at_thread v r = names_live v r && (live_thread v r.thread && eqb (the_thread v r.thread).process r.process)

unfoldable pub aimed_at_process : View → Siginfo → Bool
aimed_at_process v r = names_live v r && eqb r.thread 0

unfoldable pub records_laid_out : Store → Bool
records_laid_out st =
    rest_zero st.thread_buffer
    && (rest_zero st.process_buffer
    && (all (aimed_at_thread (view st)) (used st.thread_buffer)
    && all (aimed_at_process (view st)) (used st.process_buffer)))

-- ---- "no process has over 32"

abbrev pub within_limit : Store → Place Process → Bool
within_limit st x = leb (queued_in st x.holds.id) record_limit

unfoldable pub limit_kept : Store → Bool
limit_kept st = all (if_live process_id (within_limit st)) st.processes

-- ---- "a standard signal is pending at most once in a queue, mark or record"

unfoldable pub is_standard : Siginfo → Bool
is_standard r = standard r.signal

-- two records are not of one queue and signal
unfoldable pub not_twice : Siginfo → Siginfo → Bool
not_twice a b = not (eqb a.signal b.signal && same_queue (queue_of a) (queue_of b))

unfoldable pub not_marked_too : Store → Siginfo → Bool
not_marked_too st r = implies (is_standard r) (not (mark_in st (queue_of r) r.signal))

unfoldable pub pending_once : Store → Bool
pending_once st =
    pairs_where is_standard not_twice (used st.thread_buffer)
    && (pairs_where is_standard not_twice (used st.process_buffer)
    && (all (not_marked_too st) (used st.thread_buffer) && all (not_marked_too st) (used st.process_buffer)))

-- ---- "nothing pending has an ignored action, by choice or by default"

unfoldable pub record_not_ignored : View → Siginfo → Bool
record_not_ignored v r = not (ignored (action_of (the_process v r.process) r.signal) r.signal)

abbrev pub mark_not_ignored : SigSet → (ℕ → Action) → ℕ → Bool
mark_not_ignored marks actions s = implies (has marks s) (not (ignored (actions s) s))

unfoldable pub marks_not_ignored : SigSet → (ℕ → Action) → Bool
marks_not_ignored marks actions = all (mark_not_ignored marks actions) (range 1 signals)

abbrev pub process_not_ignored : Place Process → Bool
process_not_ignored x = marks_not_ignored x.marks (action_of x.holds)

abbrev pub thread_not_ignored : View → Place Thread → Bool
thread_not_ignored v x = marks_not_ignored x.marks (thread_action v x.holds)

unfoldable pub nothing_ignored : Store → Bool
nothing_ignored st =
    all (if_live process_id process_not_ignored) st.processes
    && (all (if_live thread_id (thread_not_ignored (view st))) st.threads
    && (all (record_not_ignored (view st)) (used st.thread_buffer)
    && all (record_not_ignored (view st)) (used st.process_buffer)))

-- ---- the test

unfoldable pub sound : Store → Bool
sound st =
    lengths_right st
    && (free_zero st
    && (ids_in_range st
    && (ids_distinct st
    && (fields_in_range st
    && (threads_owned st
    && (processes_have_threads st
    && (nothing_unmaskable st
    && (unmaskable_default st
    && (all_flags_known st
    && (records_laid_out st
    && (limit_kept st
    && (pending_once st
    && nothing_ignored st))))))))))))
