-- The four lent tables as one, what they say as the rules' store, and when they are sound: their lengths in words
-- and bytes, and the rules' test.
use Rattle.std.specs.Prelude.{ℕ, ◌≡◌, Bool, true, ◌&&◌, List, eqb, length}
use Rattle.limits.specs.Limits.{process_table, thread_table, buffer_bytes}
use Rattle.rules.specs.Types.{Queue}
use Rattle.rules.specs.View.{View, live_process, live_thread}
use Rattle.rules.specs.Store.{Store, view}
use Rattle.rules.specs.Sound.{sound}
use Rattle.rules.specs.Fitting.{live_queue}
use Rattle.queue.specs.Queue.{slots_of}
use Rattle.tables.specs.Tables.{processes_of, threads_of}

pub record Lent : Type 0 where
  pub processes : List ℕ
  pub threads : List ℕ
  pub thread_buffer : List ℕ
  pub process_buffer : List ℕ

abbrev pub lent : (ps ts tb pb : List ℕ) → Lent
lent ps ts tb pb = record { processes = ps; threads = ts; thread_buffer = tb; process_buffer = pb }

-- what the tables say, whatever they hold
unfoldable pub decoded : Lent → Store
decoded l =
    record {
      processes = processes_of l.processes;
      threads = threads_of l.threads;
      thread_buffer = slots_of l.thread_buffer;
      process_buffer = slots_of l.process_buffer;
    }

-- and what the rules read of it
abbrev pub view_of : Lent → View
view_of l = view (decoded l)

-- "a lent table has another length than above" where this is false
unfoldable pub lengths_are : Lent → Bool
lengths_are l =
    eqb (length l.processes) process_table
    && (eqb (length l.threads) thread_table
    && (eqb (length l.thread_buffer) buffer_bytes && eqb (length l.process_buffer) buffer_bytes))

-- where this is false, errno 14 is given
unfoldable pub sound_tables : Lent → Bool
sound_tables l = lengths_are l && sound (decoded l)

-- ---- what those ask who read for one thread, process or queue: sound tables in which it is live

pub record WithThread (thread : ℕ) (l : Lent) : Type 0 where
  pub sound : sound_tables l ≡ true
  pub live : live_thread (view_of l) thread ≡ true

pub record WithProcess (process : ℕ) (l : Lent) : Type 0 where
  pub sound : sound_tables l ≡ true
  pub live : live_process (view_of l) process ≡ true

pub record WithQueue (queue : Queue) (l : Lent) : Type 0 where
  pub sound : sound_tables l ≡ true
  pub live : live_queue (view_of l) queue ≡ true
