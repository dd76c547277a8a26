-- One call as a host makes it: its tables, of which the thread table is a row of records, and the words that it lends
-- for the answer.
use Rattle.std.specs.Prelude.{ℕ, ◌||◌, cond, List, eqb, length}
use Rattle.limits.specs.Limits.{thread_places, call_sigmask, call_sigreturn}
use Rattle.lists.specs.Lists.{find}
use Rattle.sigset.specs.declared.SigSet.{SigSet}
use Rattle.tables.specs.Tables.{thread_at, held_threads, has_thread_id}
use Rattle.sound.specs.Lent.{Lent, lent}
use Rattle.looking.specs.Looks.{look_bytes, look_slot}
use Rattle.boundary.specs.declared.Arguments.{Arguments}
use Rattle.boundary.specs.Boundary.{Served, served}
use Rattle.threads.specs.declared.Thread.{Thread}
use Rattle.threads.specs.Records.{with_mask_at, words_of, records_of}

-- what a host holds
pub record Host : Type 0 where
  pub processes : List ℕ
  pub thread_buffer : List ℕ
  pub process_buffer : List ℕ
  pub answer : List ℕ
  pub threads : List Thread

abbrev pub host : (ps tb pb out : List ℕ) → List Thread → Host
host ps tb pb out ts = record { processes = ps; thread_buffer = tb; process_buffer = pb; answer = out; threads = ts }

-- the tables that it lends, in words
abbrev pub lent_records : (ps tb pb : List ℕ) → List Thread → Lent
lent_records ps tb pb ts = lent ps (words_of ts) tb pb

abbrev pub lent_by : Host → Lent
lent_by h = lent_records h.processes h.thread_buffer h.process_buffer h.threads

-- what it holds once it is served, its row as long as before, and what is returned
unfoldable pub handed_back : (records : ℕ) → Served → Host × ℕ
handed_back n s = (
  host s.tables.processes s.tables.thread_buffer s.tables.process_buffer s.words
      (records_of n s.tables.threads),
  s.errno,
)

-- one call: what the host holds after it, and what is returned
unfoldable pub call_on : (number : ℕ) → Arguments → Host → Host × ℕ
call_on n g h = handed_back (length h.threads) (served n g h.answer (lent_by h))

-- the mask of the first thread with that id, in words; empty where none has it
unfoldable pub mask_in : List ℕ → ℕ → SigSet
mask_in ws n = (thread_at ws (find (has_thread_id n) (held_threads ws))).holds.mask

-- the row after a call that left these words: of a mask call and of a return from a handler,
-- the row before it with that mask
unfoldable pub row_after : (number thread : ℕ) → List ℕ → List Thread → List Thread
row_after n t ws ts =
    cond (eqb n call_sigmask || eqb n call_sigreturn) (with_mask_at t (mask_in ws t) ts) (records_of thread_places ws)

-- the bytes that a look hands back
unfoldable pub look_at : (ps tb pb : List ℕ) (ts : List Thread) (thread : ℕ) → List ℕ
look_at ps tb pb ts thread = look_bytes thread (lent_records ps tb pb ts)

-- the number of its slot, for a host that cannot be handed a part
unfoldable pub slot_at : (ps tb pb : List ℕ) (ts : List Thread) (thread : ℕ) → ℕ
slot_at ps tb pb ts thread = look_slot thread (lent_records ps tb pb ts)
