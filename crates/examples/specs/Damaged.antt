-- Soundness, clause by clause: for each clause stores that it alone refuses, and stores at the edge that none refuses.
-- Two parts have none of their own, since they follow from what stands beside them:
-- that a live id is at least 1, and that the thread is live of which a record names the process.
use Rattle.std.specs.Prelude.{ℕ, suc, ◌-◌, ◌≡◌, refl, Bool, true, not, cond, List, [], ◌∷◌, ◌++◌, map, eqb}
use Rattle.std.specs.Prelude.{take as firsts, replicate}
use Rattle.limits.specs.Limits.{process_places, thread_places, buffer_records, signals, record_limit, largest_id}
use Rattle.limits.specs.Limits.{largest_user, known_flags, si_queue, sig_ign, sa_siginfo, SIGKILL, SIGSTOP, SIGCHLD}
use Rattle.limits.specs.Limits.{EFAULT}
use Rattle.lists.specs.Lists.{range}
use Rattle.sigset.specs.declared.SigSet.{SigSet}
use Rattle.sigset.specs.Set.{bits, empty}
use Rattle.types.specs.declared.Action.{Action}
use Rattle.types.specs.declared.Siginfo.{Siginfo}
use Rattle.types.specs.Values.{default_action}
use Rattle.rules.specs.Types.{Process, Thread, Queue, kill, sigqueue, clear}
use Rattle.rules.specs.View.{Change, new_process, new_thread, set_stopped, set_action, set_mask, set_mark, append}
use Rattle.rules.specs.View.{process_queue, is_process}
use Rattle.rules.specs.Store.{Store, cleared, with_action, amend, map_marks, is_free_process, is_free_thread}
use Rattle.rules.specs.Store.{on_processes}
use Rattle.rules.specs.Store.{on_threads, on_buffer, apply_all}
use Rattle.rules.specs.Sound.{lengths_right, free_zero, ids_in_range, ids_distinct, fields_in_range, threads_owned}
use Rattle.rules.specs.Sound.{processes_have_threads, nothing_unmaskable, unmaskable_default, all_flags_known}
use Rattle.rules.specs.Sound.{records_laid_out}
use Rattle.rules.specs.Sound.{limit_kept, pending_once, nothing_ignored}
use Rattle.rules.specs.Calls.{run, step}
use Rattle.rules.specs.Computing.{computing}
use Rattle.examples.specs.Cases.{times}
use Rattle.examples.specs.Words.{adds, refused, done}

-- what each clause says of a store, in the order of `sound`
unfoldable pub verdicts : Store → List Bool
verdicts st =
    lengths_right st ∷ free_zero st ∷ ids_in_range st ∷ ids_distinct st ∷ fields_in_range st ∷ threads_owned st
    ∷ processes_have_threads st ∷ nothing_unmaskable st ∷ unmaskable_default st ∷ all_flags_known st
    ∷ records_laid_out st
    ∷ limit_kept st ∷ pending_once st ∷ nothing_ignored st ∷ []

abbrev clause_count : ℕ
clause_count = 14

-- every clause but number k passes, counted from 0
unfoldable pub only_fails : ℕ → List Bool
only_fails k = map (λ n. not (eqb n k)) (range 0 clause_count)

-- ---- the sample and what is made of it

-- processes 100 and 1 with a thread each;
-- a mark of 2, a record of 3 in the thread's queue and one of 40 in the process's
unfoldable pub sample : Store
sample =
    (run
    (adds 100 1000 1000 1000 7 200 empty ∷ adds 1 0 0 0 1 2 empty ∷ kill 100 100 0 2 ∷ sigqueue 100 100 200 3 1
    ∷ sigqueue 100 100 0 40 1 ∷ [])
    cleared).0

unfoldable pub changed : List Change → Store
changed cs = apply_all cs sample

-- the sample with one record more in the buffer of that queue, whatever the record says
unfoldable pub besides : Queue → Siginfo → Store
besides q r = on_buffer q (λ rs. rs ++ (r ∷ [])) sample

abbrev on_thread_slots : (List Siginfo → List Siginfo) → Store → Store
on_thread_slots g st =
    record {
      processes = st.processes;
      threads = st.threads;
      thread_buffer = g st.thread_buffer;
      process_buffer = st.process_buffer;
    }

abbrev on_process_slots : (List Siginfo → List Siginfo) → Store → Store
on_process_slots g st =
    record {
      processes = st.processes;
      threads = st.threads;
      thread_buffer = st.thread_buffer;
      process_buffer = g st.process_buffer;
    }

-- a process with these fields and the default actions
abbrev process_of : (id real effective saved session stopped : ℕ) → Process
process_of n r e s i b =
    record {
      id = n;
      real = r;
      effective = e;
      saved = s;
      session = i;
      stopped = b;
      actions = replicate signals default_action;
    }

abbrev fewer_actions : Process → Process
fewer_actions p =
    record {
      id = p.id;
      real = p.real;
      effective = p.effective;
      saved = p.saved;
      session = p.session;
      stopped = p.stopped;
      actions = firsts (signals - 1) p.actions;
    }

abbrev acting : (handler flags mask : ℕ) → Action
acting h f m = record { handler = h; flags = f; mask = bits m }

abbrev thread_of : (id process : ℕ) → Thread
thread_of n p = record { id = n; process = p; mask = empty }

-- process 101 with these user ids, this session and this state, and its thread 201
abbrev another : (real effective saved session stopped : ℕ) → List Change
another r e s i b = new_process (process_of 101 r e s i b) ∷ new_thread (thread_of 201 101) ∷ []

abbrev info_of : (process thread signal code : ℕ) → Siginfo
info_of p t s code = record { process = p; thread = t; signal = s; code = code; sender = 9; uid = 9; value = 9 }

-- a queued record of process 100
abbrev info : (thread signal : ℕ) → Siginfo
info t s = info_of 100 t s si_queue

-- the sample with these fields, and no process, in the slot behind the records of the process buffer
abbrev behind : (thread signal code sender uid value : ℕ) → Store
behind t s code sender uid value =
    besides (process_queue 100)
    (record { process = 0; thread = t; signal = s; code = code; sender = sender; uid = uid; value = value })

abbrev thread_queue : Queue
thread_queue = record { process = 100; thread = 200 }

-- ---- a clause, by its number, and a store that it alone refuses

pub record Damage : Type 0 where
  pub clause : ℕ
  pub store : Store

abbrev damage : ℕ → Store → Damage
damage k st = record { clause = k; store = st }

abbrev by : ℕ → List Change → Damage
by k cs = damage k (changed cs)

abbrev lengths : List Damage
lengths =
    -- one process place too few
    damage 0 (on_processes (firsts (process_places - 1)) sample)
    -- one action of a process too few
    ∷ damage 0 (on_processes (amend (is_process 100) fewer_actions) sample)
    -- one thread place too few
    ∷ damage 0 (on_threads (firsts (thread_places - 1)) sample)
    -- one slot of either buffer too few
    ∷ damage 0 (on_thread_slots (firsts (buffer_records - 1)) sample)
    ∷ damage 0 (on_process_slots (firsts (buffer_records - 1)) sample)
    ∷ []

abbrev free_places : List Damage
free_places =
    -- a free process place with a user id of each kind, a session, a state, an action
    by 1 (new_process (process_of 0 1 0 0 0 0) ∷ [])
    ∷ by 1 (new_process (process_of 0 0 1 0 0 0) ∷ [])
    ∷ by 1 (new_process (process_of 0 0 0 1 0 0) ∷ [])
    ∷ by 1 (new_process (process_of 0 0 0 0 1 0) ∷ [])
    ∷ by 1 (new_process (process_of 0 0 0 0 0 1) ∷ [])
    ∷ by 1 (new_process (with_action 10 (acting 5000 0 0) (process_of 0 0 0 0 0 0)) ∷ [])
    -- a free thread place with a process, with a mask
    ∷ by 1 (new_thread (thread_of 0 100) ∷ [])
    ∷ by 1 (new_thread (record { id = 0; process = 0; mask = bits 1 }) ∷ [])
    -- marks in free places of either table
    ∷ damage 1 (on_processes (map_marks (λ (p : Process) (m : SigSet). cond (is_free_process p) (bits 1) m)) sample)
    ∷ damage 1 (on_threads (map_marks (λ (t : Thread) (m : SigSet). cond (is_free_thread t) (bits 1) m)) sample)
    ∷ []

abbrev ids : List Damage
ids =
    -- a process id and a thread id over the largest
    by 2 (new_process (process_of (suc largest_id) 0 0 0 0 0) ∷ new_thread (thread_of 201 (suc largest_id)) ∷ [])
    ∷ by 2 (new_thread (thread_of (suc largest_id) 100) ∷ [])
    -- a process id twice, a thread id twice
    ∷ by 3 (new_process (process_of 100 0 0 0 0 0) ∷ [])
    ∷ by 3 (new_thread (thread_of 2 100) ∷ [])
    ∷ []

abbrev process_fields : List Damage
process_fields =
    -- user ids and a session that are too wide
    by 4 (another (suc largest_user) 0 0 0 0)
    ∷ by 4 (another 0 (suc largest_user) 0 0 0)
    ∷ by 4 (another 0 0 (suc largest_user) 0 0)
    ∷ by 4 (another 0 0 0 (suc largest_user) 0)
    -- neither stopped nor not
    ∷ by 4 (another 0 0 0 0 2)
    -- a thread of nobody; a process without a thread
    ∷ by 5 (new_thread (thread_of 201 101) ∷ [])
    ∷ by 6 (new_process (process_of 101 0 0 0 0 0) ∷ [])
    ∷ []

-- what 9 and 19 may not be in, and their actions
abbrev unmaskables : List Damage
unmaskables =
    -- in a mark of a process, of a thread
    by 7 (set_mark (process_queue 100) SIGKILL ∷ [])
    ∷ by 7 (set_mark (process_queue 100) SIGSTOP ∷ [])
    ∷ by 7 (set_mark thread_queue SIGKILL ∷ [])
    ∷ by 7 (set_mark thread_queue SIGSTOP ∷ [])
    -- in an action mask
    ∷ by 7 (set_action 100 10 (acting 5000 0 256) ∷ [])
    ∷ by 7 (set_action 100 10 (acting 5000 0 262144) ∷ [])
    -- in a mask
    ∷ by 7 (set_mask 200 (bits 256) ∷ [])
    ∷ by 7 (set_mask 200 (bits 262144) ∷ [])
    -- a handler, flags, a mask for either
    ∷ by 8 (set_action 100 SIGKILL (acting 5000 0 0) ∷ [])
    ∷ by 8 (set_action 100 SIGSTOP (acting 5000 0 0) ∷ [])
    ∷ by 8 (set_action 100 SIGKILL (acting 0 sa_siginfo 0) ∷ [])
    ∷ by 8 (set_action 100 SIGSTOP (acting 0 0 1) ∷ [])
    -- a flag that is not known
    ∷ by 9 (set_action 100 10 (acting 5000 1 0) ∷ [])
    ∷ []

abbrev records : List Damage
records =
    -- the rest of either buffer is not zero
    damage 10 (besides thread_queue (info_of 0 200 40 si_queue))
    ∷ damage 10 (besides (process_queue 100) (info_of 0 0 40 si_queue))
    -- any field of it
    ∷ damage 10 (behind 1 0 0 0 0 0)
    ∷ damage 10 (behind 0 1 0 0 0 0)
    ∷ damage 10 (behind 0 0 1 0 0 0)
    ∷ damage 10 (behind 0 0 0 1 0 0)
    ∷ damage 10 (behind 0 0 0 0 1 0)
    ∷ damage 10 (behind 0 0 0 0 0 1)
    -- another code; a signal that is none, or 9 or 19
    ∷ by 10 (append (info_of 100 0 40 0) ∷ [])
    ∷ by 10 (append (info 0 0) ∷ [])
    ∷ by 10 (append (info 0 (suc signals)) ∷ [])
    ∷ by 10 (append (info 0 SIGKILL) ∷ [])
    ∷ by 10 (append (info 200 SIGSTOP) ∷ [])
    -- a process that is not live
    ∷ by 10 (append (info_of 101 0 40 si_queue) ∷ [])
    -- in the thread buffer: no thread, one that is not live, another process's
    ∷ damage 10 (besides thread_queue (info 0 40))
    ∷ by 10 (append (info 201 40) ∷ [])
    ∷ by 10 (append (info 2 40) ∷ [])
    -- in the process buffer: a thread
    ∷ damage 10 (besides (process_queue 100) (info 200 40))
    -- 33 records, in both buffers together
    ∷ by 11 (times (record_limit - 1) (append (info 0 40) ∷ []))
    ∷ by 11 (times (record_limit - 1) (append (info 200 40) ∷ []))
    ∷ []

abbrev pendings : List Damage
pendings =
    -- a standard signal twice among the records of a thread's queue, of a process's
    by 12 (append (info 200 3) ∷ [])
    ∷ by 12 (append (info 0 5) ∷ append (info 0 5) ∷ [])
    -- as mark and record in a thread's queue, in a process's
    ∷ by 12 (set_mark thread_queue 3 ∷ [])
    ∷ by 12 (append (info 0 2) ∷ [])
    -- ignored by default: a mark of a process, of a thread, a record in either buffer
    ∷ by 13 (set_mark (process_queue 100) SIGCHLD ∷ [])
    ∷ by 13 (set_mark thread_queue SIGCHLD ∷ [])
    ∷ by 13 (append (info 200 SIGCHLD) ∷ [])
    ∷ by 13 (append (info 0 SIGCHLD) ∷ [])
    -- ignored by choice: a mark, a record in either buffer
    ∷ by 13 (set_action 100 2 (acting sig_ign 0 0) ∷ [])
    ∷ by 13 (set_action 100 3 (acting sig_ign 0 0) ∷ [])
    ∷ by 13 (set_action 100 40 (acting sig_ign 0 0) ∷ [])
    ∷ []

abbrev caught : Damage → List Bool
caught d = verdicts d.store

abbrev expected : Damage → List Bool
expected d = only_fails d.clause

abbrev Needed : List Damage → Type 0
Needed ds = map caught ds ≡ map expected ds

-- no clause follows from the others
pub lengths-needed : Needed lengths
unfolding verdicts only_fails sample computing
lengths-needed = refl

pub free-needed : Needed free_places
unfolding verdicts only_fails changed sample computing
free-needed = refl

pub ids-needed : Needed ids
unfolding verdicts only_fails changed sample computing
ids-needed = refl

pub fields-needed : Needed process_fields
unfolding verdicts only_fails changed sample computing
fields-needed = refl

pub unmaskables-needed : Needed unmaskables
unfolding verdicts only_fails changed sample computing
unmaskables-needed = refl

pub records-needed : Needed records
unfolding verdicts only_fails changed besides sample times computing
records-needed = refl

pub pendings-needed : Needed pendings
unfolding verdicts only_fails changed sample computing
pendings-needed = refl

-- ---- at the edge: the largest id and user id, all known flags, every maskable signal, 32 records

abbrev edges : List (List Change)
edges =
    []
    ∷ (new_process (process_of largest_id largest_user largest_user largest_user largest_user 0)
    ∷ new_thread (thread_of largest_id largest_id) ∷ [])
    ∷ (set_stopped 100 1 ∷ set_action 100 10 (acting 18446744073709551615 known_flags 18446744073709289215)
    ∷ set_mask 200 (bits 18446744073709289215) ∷ [])
    ∷ times (record_limit - 2) (append (info 0 40) ∷ []) ∷ []

abbrev passed : List Change → List Bool
passed cs = verdicts (changed cs)

pub edges-pass : map passed edges ≡ map (λ _. replicate clause_count true) edges
unfolding verdicts changed sample times computing
edges-pass = refl

-- what is not sound is refused with 14 before anything else, and can be cleared; a table of another length cannot
pub unsound-refused : (step (kill 0 0 0 65) (changed (set_stopped 100 2 ∷ []))).1 ≡ refused EFAULT
unfolding changed sample computing
unsound-refused = refl

pub unsound-cleared : step clear (changed (set_stopped 100 2 ∷ [])) ≡ (cleared, done)
unfolding changed sample computing
unsound-cleared = refl

pub short-refused : (step clear (on_threads (firsts (thread_places - 1)) sample)).1 ≡ refused EFAULT
unfolding sample computing
short-refused = refl
