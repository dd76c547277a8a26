-- What sound tables give a call: their lengths, buffers laid out, a sound store (and with it every fact of the rules'
-- Facts), room. Assumes nothing.
use mathlib.Core.Path.{◌≡◌}
use mathlib.Core.Bool.{true, ◌&&◌}
use Prim.Native.Nat.{ℕ, ◌≤◌, ◌<◌}
use lib.Dec.{eqb}
use lib.ListN.{length}
use borrow.Author.Tests.{eqb-true, eq-eqb}
use Rattle.limits.specs.Limits.{process_table, thread_table, buffer_records}
use Rattle.limits.specs.Limits.{buffer_bytes}
use Rattle.limits.specs.Limits.{record_limit}
use Rattle.lists.specs.Lists.{any, count, find}
use Rattle.lists.proofs.Bools.{and-fst, and-snd, and_both}
use Rattle.rules.specs.View.{is_process, is_thread, live_process, live_thread, the_process, the_thread}
use Rattle.rules.specs.Store.{queued_in, view}
use Rattle.rules.specs.Sound.{sound}
use Rattle.rules.proofs.Facts as rule
use Rattle.rules.proofs.Marks.{the-process, the-thread}
use Rattle.rules.proofs.Room as rooms
use Rattle.queue.specs.Queue.{records_of, is_laid}
use Rattle.tables.specs.Tables.{held_processes, held_threads, process_at, thread_at, LiveProcess, LiveThread}
use Rattle.sound.specs.Lent.{Lent, decoded, view_of, lengths_are, sound_tables}

-- ---- lengths

module _ (l : Lent) (e : lengths_are l ≡ true) where
  pub right-processes : length l.processes ≡ process_table
  unfolding lengths_are
  right-processes =
      eqb-true (length l.processes) process_table (and-fst (eqb (length l.processes) process_table) _ e)

  pub right-threads : length l.threads ≡ thread_table
  unfolding lengths_are
  right-threads =
      eqb-true (length l.threads) thread_table
      (and-fst (eqb (length l.threads) thread_table) _ (and-snd (eqb (length l.processes) process_table) _ e))

  right-buffers : (eqb (length l.thread_buffer) buffer_bytes && eqb (length l.process_buffer) buffer_bytes) ≡ true
  unfolding lengths_are
  right-buffers =
      and-snd (eqb (length l.threads) thread_table) _ (and-snd (eqb (length l.processes) process_table) _ e)

  pub right-thread-buffer : length l.thread_buffer ≡ buffer_bytes
  right-thread-buffer =
      eqb-true (length l.thread_buffer) buffer_bytes
      (and-fst (eqb (length l.thread_buffer) buffer_bytes) (eqb (length l.process_buffer) buffer_bytes) right-buffers)

  pub right-process-buffer : length l.process_buffer ≡ buffer_bytes
  right-process-buffer =
      eqb-true (length l.process_buffer) buffer_bytes
      (and-snd (eqb (length l.thread_buffer) buffer_bytes) (eqb (length l.process_buffer) buffer_bytes) right-buffers)

-- tables that are as long as those
-- each table is as long as it was
pub record AsLong (l l' : Lent) : Type 0 where
  pub processes : length l'.processes ≡ length l.processes
  pub threads : length l'.threads ≡ length l.threads
  pub thread_buffer : length l'.thread_buffer ≡ length l.thread_buffer
  pub process_buffer : length l'.process_buffer ≡ length l.process_buffer

pub as_long : (l l' : Lent) → AsLong l l' → lengths_are l ≡ true → lengths_are l' ≡ true
unfolding lengths_are
as_long l l' s e = rw (s.processes, s.threads, s.thread_buffer, s.process_buffer) e

module _ (l : Lent) (e : sound_tables l ≡ true) where
  pub right-lengths : lengths_are l ≡ true
  unfolding sound_tables
  right-lengths = and-fst (lengths_are l) _ e

  pub store-sound : sound (decoded l) ≡ true
  unfolding sound_tables
  store-sound = and-snd (lengths_are l) _ e

  pub processes-long : length l.processes ≡ process_table
  processes-long = right-processes l right-lengths

  pub threads-long : length l.threads ≡ thread_table
  threads-long = right-threads l right-lengths

  pub thread-buffer-long : length l.thread_buffer ≡ buffer_bytes
  thread-buffer-long = right-thread-buffer l right-lengths

  pub process-buffer-long : length l.process_buffer ≡ buffer_bytes
  process-buffer-long = right-process-buffer l right-lengths

  -- ---- buffers

  pub thread-buffer-laid : is_laid l.thread_buffer ≡ true
  unfolding is_laid decoded
  thread-buffer-laid =
      and_both (eq-eqb (length l.thread_buffer) buffer_bytes thread-buffer-long)
      (rule.thread-rest (decoded l) store-sound)

  pub process-buffer-laid : is_laid l.process_buffer ≡ true
  unfolding is_laid decoded
  process-buffer-laid =
      and_both (eq-eqb (length l.process_buffer) buffer_bytes process-buffer-long)
      (rule.process-rest (decoded l) store-sound)

  -- a process below its limit finds a free slot in either buffer
  pub room : (p : ℕ) → live_process (view_of l) p ≡ true → queued_in (decoded l) p < record_limit
      → (length (records_of l.thread_buffer) < buffer_records) × (length (records_of l.process_buffer) < buffer_records)
  unfolding records_of decoded
  room p live q = rooms.room (decoded l) store-sound p live q

  -- ---- places

  pub one-process : (n : ℕ) → count (is_process n) (held_processes l.processes) ≤ 1
  unfolding decoded view
  one-process = rule.one-process (decoded l) store-sound

  pub one-thread : (n : ℕ) → count (is_thread n) (held_threads l.threads) ≤ 1
  unfolding decoded view
  one-thread = rule.one-thread (decoded l) store-sound

-- ---- a live id is found, and what is found is the one that the rules mean; this asks no soundness

module _ (l : Lent) where
  pub process-listed : (n : ℕ) → live_process (view_of l) n ≡ true
      → any (is_process n) (held_processes l.processes) ≡ true
  unfolding live_process view decoded
  process-listed n live = live

  pub thread-listed : (n : ℕ) → live_thread (view_of l) n ≡ true → any (is_thread n) (held_threads l.threads) ≡ true
  unfolding live_thread view decoded
  thread-listed n live = live

  pub process-present : sound_tables l ≡ true → (n : ℕ) → live_process (view_of l) n ≡ true
      → LiveProcess n l.processes
  process-present e n live = (processes-long l e, process-listed n live)

  pub thread-present : sound_tables l ≡ true → (n : ℕ) → live_thread (view_of l) n ≡ true → LiveThread n l.threads
  thread-present e n live = (threads-long l e, thread-listed n live)

  pub process-there : (n : ℕ)
      → the_process (view_of l) n ≡ (process_at l.processes (find (is_process n) (held_processes l.processes))).holds
  unfolding decoded
  process-there n = the-process (decoded l) n

  pub thread-there : (n : ℕ)
      → the_thread (view_of l) n ≡ (thread_at l.threads (find (is_thread n) (held_threads l.threads))).holds
  unfolding decoded
  thread-there n = the-thread (decoded l) n
