-- The process and the thread that an id names in the lent words;
-- the rules' the_process and the_thread, each by its own table.
use Rattle.std.specs.Prelude.{ℕ, List}
use Rattle.std.proofs.Math.Option.{get_or}
use Rattle.lists.specs.Lists.{first}
use Rattle.rules.specs.Types.{Process, Thread, no_process, no_thread}
use Rattle.rules.specs.View.{is_process, is_thread}
use Rattle.tables.specs.Tables.{held_processes, held_threads}

abbrev pub process_named : (ps : List ℕ) → ℕ → Process
process_named ps n = get_or (first (is_process n) (held_processes ps)) no_process

abbrev pub thread_named : (ts : List ℕ) → ℕ → Thread
thread_named ts n = get_or (first (is_thread n) (held_threads ts)) no_thread
