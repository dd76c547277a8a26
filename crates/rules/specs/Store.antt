-- "The tables": the store as the lent tables say it, its view, and each change on it.
use Rattle.std.specs.Prelude.{ℕ, ◌+◌, ◌-◌, Bool, not, ◌&&◌, ◌||◌, cond, List, [], ◌∷◌, ◌++◌, map, eqb, set, replicate}
use Rattle.limits.specs.Limits.{process_places, thread_places, buffer_records}
use Rattle.lists.specs.Lists.{any, first, keep, leading, drop_first, change, replace_first, count, padded}
use Rattle.sigset.specs.declared.SigSet.{SigSet}
use Rattle.sigset.specs.Set.{has, union, without, of_signal, empty}
use Rattle.types.specs.declared.Action.{Action}
use Rattle.types.specs.declared.Siginfo.{Siginfo}
use Rattle.types.specs.Values.{no_siginfo}
use Rattle.rules.specs.Types.{Process, Thread, Queue, no_process, no_thread}
use Rattle.rules.specs.Signals.{is_signal}
use Rattle.rules.specs.View.{View, Change, forget, new_process, new_thread, remove_process, remove_thread, set_stopped}
use Rattle.rules.specs.View.{set_action, set_mask, set_mark, clear_mark, append, drop_oldest, discard, is_process}
use Rattle.rules.specs.View.{is_thread, belongs_to, same_queue, process_queue, thread_queue, queue_of, in_queue}

-- a place of a table: what it holds, and its marks
pub record Place (A : Type 0) : Type 0 where
  pub holds : A
  pub marks : SigSet

pub record Store : Type 0 where
  pub processes : List (Place Process)
  pub threads : List (Place Thread)
  -- every slot of each buffer, "one for records aimed at a thread, one for records aimed at a process"
  pub thread_buffer : List Siginfo
  pub process_buffer : List Siginfo

abbrev pub free_process : Place Process
free_process = record { holds = no_process; marks = empty }

abbrev pub free_thread : Place Thread
free_thread = record { holds = no_thread; marks = empty }

-- all zero
unfoldable pub cleared : Store
cleared =
    record {
      processes = replicate process_places free_process;
      threads = replicate thread_places free_thread;
      thread_buffer = replicate buffer_records no_siginfo;
      process_buffer = replicate buffer_records no_siginfo;
    }

-- ---- what is there

-- a slot in use names a process
unfoldable pub in_use : Siginfo → Bool
in_use r = not (eqb r.process 0)

-- "Used records come first, oldest first"
unfoldable pub used : List Siginfo → List Siginfo
used slots = leading in_use slots

-- the records of the buffer that has the queue
unfoldable pub records_for : Queue → Store → List Siginfo
records_for q st = used (cond (eqb q.thread 0) st.process_buffer st.thread_buffer)

abbrev pub process_mark : Queue → ℕ → Place Process → Bool
process_mark q s x = same_queue q (process_queue x.holds.id) && has x.marks s

abbrev pub thread_mark : Queue → ℕ → Place Thread → Bool
thread_mark q s x = same_queue q (thread_queue x.holds) && has x.marks s

unfoldable pub mark_in : Store → Queue → ℕ → Bool
mark_in st q s = is_signal s && (any (process_mark q s) st.processes || any (thread_mark q s) st.threads)

abbrev pub of_process : ℕ → Siginfo → Bool
of_process p r = eqb r.process p

-- how many records a process has pending, "its threads' queues counted in"
unfoldable pub queued_in : Store → ℕ → ℕ
queued_in st p = count (of_process p) (used st.thread_buffer) + count (of_process p) (used st.process_buffer)

abbrev pub held : {A : Type 0} → Place A → A
held x = x.holds

unfoldable pub view : Store → View
view st =
    record {
      processes = map held st.processes;
      threads = map held st.threads;
      marks = mark_in st;
      oldest = λ q s. first (in_queue q s) (records_for q st);
      queued = queued_in st;
    }

-- ---- the changes

abbrev pub with_stopped : ℕ → Process → Process
with_stopped b p =
    record {
      id = p.id;
      real = p.real;
      effective = p.effective;
      saved = p.saved;
      session = p.session;
      stopped = b;
      actions = p.actions;
    }

abbrev pub with_action : ℕ → Action → Process → Process
with_action s a p =
    record {
      id = p.id;
      real = p.real;
      effective = p.effective;
      saved = p.saved;
      session = p.session;
      stopped = p.stopped;
      actions = set p.actions (s - 1) a;
    }

abbrev pub with_mask : SigSet → Thread → Thread
with_mask m t = record { id = t.id; process = t.process; mask = m }

module _ {A : Type 0} where
  -- what passes the test is amended, its marks stay
  abbrev pub amend : (A → Bool) → (A → A) → List (Place A) → List (Place A)
  amend p g =
      change (λ (x : Place A). p x.holds) (λ (x : Place A). record { holds = g x.holds; marks = x.marks })

  -- the places of what passes the test become free
  abbrev pub vacate : Place A → (A → Bool) → List (Place A) → List (Place A)
  vacate free p = change (λ (x : Place A). p x.holds) (λ _. free)

  -- "What is added goes into the lowest free place, freed ones included"
  abbrev pub fill : (A → Bool) → A → List (Place A) → List (Place A)
  fill is_free a = replace_first (λ (x : Place A). is_free x.holds) (record { holds = a; marks = empty })

  -- the marks change, by what the place holds
  abbrev pub map_marks : (A → SigSet → SigSet) → List (Place A) → List (Place A)
  map_marks g = map (λ (x : Place A). record { holds = x.holds; marks = g x.holds x.marks })

abbrev pub is_free_process : Process → Bool
is_free_process p = eqb p.id 0

abbrev pub is_free_thread : Thread → Bool
is_free_thread t = eqb t.id 0

abbrev pub on_processes : (List (Place Process) → List (Place Process)) → Store → Store
on_processes g st =
    record {
      processes = g st.processes;
      threads = st.threads;
      thread_buffer = st.thread_buffer;
      process_buffer = st.process_buffer;
    }

abbrev pub on_threads : (List (Place Thread) → List (Place Thread)) → Store → Store
on_threads g st =
    record {
      processes = st.processes;
      threads = g st.threads;
      thread_buffer = st.thread_buffer;
      process_buffer = st.process_buffer;
    }

abbrev pub on_marks : (Queue → SigSet → SigSet) → Store → Store
on_marks g st =
    record {
      processes = map_marks (λ (p : Process). g (process_queue p.id)) st.processes;
      threads = map_marks (λ (t : Thread). g (thread_queue t)) st.threads;
      thread_buffer = st.thread_buffer;
      process_buffer = st.process_buffer;
    }

-- the records change; "the rest is zero"
unfoldable pub on_slots : (List Siginfo → List Siginfo) → List Siginfo → List Siginfo
on_slots g slots = padded no_siginfo buffer_records (g (used slots))

abbrev pub on_buffers : (List Siginfo → List Siginfo) → Store → Store
on_buffers g st =
    record {
      processes = st.processes;
      threads = st.threads;
      thread_buffer = on_slots g st.thread_buffer;
      process_buffer = on_slots g st.process_buffer;
    }

-- the buffer that has the queue changes
abbrev pub on_buffer : Queue → (List Siginfo → List Siginfo) → Store → Store
on_buffer q g st =
    record {
      processes = st.processes;
      threads = st.threads;
      thread_buffer = cond (eqb q.thread 0) st.thread_buffer (on_slots g st.thread_buffer);
      process_buffer = cond (eqb q.thread 0) (on_slots g st.process_buffer) st.process_buffer;
    }

-- the records that a discard leaves
abbrev pub left_by : ℕ → SigSet → Siginfo → Bool
left_by p signals r = not (eqb r.process p && has signals r.signal)

unfoldable pub apply : Change → Store → Store
apply forget st = cleared
apply (new_process p) st = on_processes (fill is_free_process p) st
apply (new_thread t) st = on_threads (fill is_free_thread t) st
apply (remove_process n) st =
    on_processes (vacate free_process (is_process n))
    (on_threads (vacate free_thread (belongs_to n)) (on_buffers (keep (λ (r : Siginfo). not (eqb r.process n))) st))
apply (remove_thread n) st =
    on_threads (vacate free_thread (is_thread n)) (on_buffers (keep (λ (r : Siginfo). not (eqb r.thread n))) st)
apply (set_stopped n b) st = on_processes (amend (is_process n) (with_stopped b)) st
apply (set_action n s a) st = on_processes (amend (is_process n) (with_action s a)) st
apply (set_mask n m) st = on_threads (amend (is_thread n) (with_mask m)) st
apply (set_mark q s) st = on_marks (λ q' m. cond (same_queue q' q) (union m (of_signal s)) m) st
apply (clear_mark q s) st = on_marks (λ q' m. cond (same_queue q' q) (without m (of_signal s)) m) st
apply (append r) st = on_buffer (queue_of r) (λ rs. rs ++ (r ∷ [])) st
apply (drop_oldest q s) st = on_buffer q (drop_first (in_queue q s)) st
apply (discard p signals) st =
    on_buffers (keep (left_by p signals)) (on_marks (λ q m. cond (eqb q.process p) (without m signals) m) st)

unfoldable pub apply_all : List Change → Store → Store
apply_all [] st = st
apply_all (c ∷ cs) st = apply_all cs (apply c st)
