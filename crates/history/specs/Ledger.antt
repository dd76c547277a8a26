-- Demand 3's ledger. It "gets the calls' arguments and which were refused, nothing of the tables":
-- no type here has a table in it.
use Rattle.std.specs.Prelude.{ℕ, Bool, false, not, ◌&&◌, cond, eqb, length, replicate}
use mathlib.Core.List.{List, [], ◌∷◌, ◌++◌, map, head?}
use Rattle.limits.specs.Limits.{process_places, thread_places, signals}
use Rattle.lists.specs.Lists.{change, keep, range, replace_first, sum}
use Rattle.types.specs.declared.Siginfo.{Siginfo}
use Rattle.types.specs.Answers.{Answer}
use Rattle.types.specs.Answers.{Refused, Accepted}
use Rattle.rules.specs.Types.{Process, Thread, Queue, Call, no_process, no_thread}
use Rattle.rules.specs.View.{View, Change, forget, new_process, new_thread, remove_process, remove_thread, set_stopped}
use Rattle.rules.specs.View.{set_action, set_mask, set_mark, clear_mark, append, drop_oldest, discard, is_process}
use Rattle.rules.specs.View.{is_thread}
use Rattle.rules.specs.View.{belongs_to, same_queue, process_queue, thread_queue}
use Rattle.rules.specs.Store.{with_stopped, with_action, with_mask, is_free_process, is_free_thread}
use Rattle.rules.specs.Refusals.{refusal, rows}
use Rattle.rules.specs.Calls.{reply}

-- ---- what it holds

-- how many sends were kept, taken and discarded
pub record Counts : Type 0 where
  pub kept : ℕ
  pub taken : ℕ
  pub discarded : ℕ

-- "for each queue and signal a list of sends and a mark, and counts"
pub record Line : Type 0 where
  -- oldest first
  pub sends : List Siginfo
  pub mark : Bool
  pub counts : Counts

pub record Ledger : Type 0 where
  -- "processes (all ids, stopped or not, actions), threads (id, process, mask)",
  -- in the places that the rule on adding gives them
  pub processes : List Process
  pub threads : List Thread
  pub lines : Queue → ℕ → Line
  -- the counts of all queues and signals together
  pub total : Counts

abbrev pub no_counts : Counts
no_counts = record { kept = 0; taken = 0; discarded = 0 }

abbrev pub no_line : Line
no_line = record { sends = []; mark = false; counts = no_counts }

-- "It starts empty"
unfoldable pub empty_ledger : Ledger
empty_ledger =
    record {
      processes = replicate process_places no_process;
      threads = replicate thread_places no_thread;
      lines = λ _ _. no_line;
      total = no_counts;
    }

-- ---- what is read there

-- the queues of the processes and of the threads that are live
unfoldable pub queues : Ledger → List Queue
queues l =
    map (λ (p : Process). process_queue p.id) (keep (λ (p : Process). not (is_free_process p)) l.processes)
    ++ map thread_queue (keep (λ (t : Thread). not (is_free_thread t)) l.threads)

-- how many sends are pending in the queues and of the signals that pass a test
unfoldable pub pending_where : Ledger → (Queue → ℕ → Bool) → ℕ
pending_where l p = sum (λ q. sum (λ s. cond (p q s) (length (l.lines q s).sends) 0) (range 1 signals)) (queues l)

-- the queues of a process, its threads' counted in
abbrev pub of_process : ℕ → Queue → ℕ → Bool
of_process n q s = eqb q.process n

-- what the rules read: they read the tables by the same view
unfoldable pub ledger_view : Ledger → View
ledger_view l =
    record {
      processes = l.processes;
      threads = l.threads;
      marks = λ q s. (l.lines q s).mark;
      oldest = λ q s. head? (l.lines q s).sends;
      queued = λ n. pending_where l (of_process n);
    }

-- what it says that a call is refused with, 0 where it is not: the rows below 14
unfoldable pub ledger_refusal : Ledger → Call → ℕ
ledger_refusal l c = refusal (rows (ledger_view l) c)

-- what it says that a call answers
unfoldable pub ledger_answer : Ledger → Call → Answer
ledger_answer l c = cond (eqb (ledger_refusal l c) 0) (Accepted (reply (ledger_view l) c))
    (Refused (ledger_refusal l c))

-- ---- parts of it changed

abbrev pub on_processes : (List Process → List Process) → Ledger → Ledger
on_processes g l = record { processes = g l.processes; threads = l.threads; lines = l.lines; total = l.total }

abbrev pub on_threads : (List Thread → List Thread) → Ledger → Ledger
on_threads g l = record { processes = l.processes; threads = g l.threads; lines = l.lines; total = l.total }

-- the lines that pass the test change
abbrev pub on_lines : (Queue → ℕ → Bool) → (Line → Line) → Ledger → Ledger
on_lines p g l =
    record {
      processes = l.processes;
      threads = l.threads;
      lines = λ q s. cond (p q s) (g (l.lines q s)) (l.lines q s);
      total = l.total;
    }

abbrev pub with_total : Counts → Ledger → Ledger
with_total n l = record { processes = l.processes; threads = l.threads; lines = l.lines; total = n }

abbrev pub with_mark : Bool → Line → Line
with_mark b x = record { sends = x.sends; mark = b; counts = x.counts }

-- the line of the queue and the signal
abbrev pub is_at : Queue → ℕ → Queue → ℕ → Bool
is_at q s q' s' = same_queue q' q && eqb s' s

-- ---- "others do there what demand 2's rules say": the processes and threads

unfoldable pub place : Change → Ledger → Ledger
place forget l =
    on_processes (λ _. replicate process_places no_process) (on_threads (λ _. replicate thread_places no_thread) l)
place (new_process p) l = on_processes (replace_first is_free_process p) l
place (new_thread t) l = on_threads (replace_first is_free_thread t) l
place (remove_process n) l =
    on_processes (change (is_process n) (λ _. no_process)) (on_threads (change (belongs_to n) (λ _. no_thread)) l)
place (remove_thread n) l = on_threads (change (is_thread n) (λ _. no_thread)) l
place (set_stopped n b) l = on_processes (change (is_process n) (with_stopped b)) l
place (set_action n s a) l = on_processes (change (is_process n) (with_action s a)) l
place (set_mask n m) l = on_threads (change (is_thread n) (with_mask m)) l
-- of its lists the ledger has words of its own (Acts)
place (set_mark q s) l = l
place (clear_mark q s) l = l
place (append r) l = l
place (drop_oldest q s) l = l
place (discard n set) l = l

unfoldable pub place_all : List Change → Ledger → Ledger
place_all [] l = l
place_all (c ∷ cs) l = place_all cs (place c l)
