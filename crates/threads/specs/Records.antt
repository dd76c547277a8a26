-- A row of thread records: searched by id, one mask changed, and its words.
use Rattle.std.specs.Prelude.{ℕ, ◌*◌, Bool, List, [], ◌∷◌, eqb, get_or, set}
use Rattle.std.proofs.lemmas.List.Edits.{sets}
use Rattle.limits.specs.Limits.{thread_id, thread_process, thread_mask, thread_marks, thread_words}
use Rattle.lists.specs.Lists.{find}
use Rattle.lists.specs.Rows.{rows, flat}
use Rattle.sigset.specs.declared.SigSet.{SigSet}
use Rattle.sigset.specs.Set.{bits, empty}
use Rattle.threads.specs.declared.Thread.{Thread}

-- what a free place holds
abbrev pub no_thread : Thread
no_thread = record { id = 0; process = 0; mask = empty; marks = empty }

abbrev pub with_mask : SigSet → Thread → Thread
with_mask m t = record { id = t.id; process = t.process; mask = m; marks = t.marks }

abbrev pub has_id : ℕ → Thread → Bool
has_id n t = eqb t.id n

-- the first record with that id has another mask; where none has it, `set` past the end changes nothing
unfoldable pub with_mask_at : ℕ → SigSet → List Thread → List Thread
with_mask_at n m ts = set ts (find (has_id n) ts) (with_mask m (get_or ts (find (has_id n) ts) no_thread))

-- a record is four words, "id, process id, mask, marks"
unfoldable pub record_to : Thread → List ℕ
record_to t = t.id ∷ t.process ∷ t.mask.0 ∷ t.marks.0 ∷ []

unfoldable pub record_from : List ℕ → Thread
record_from l =
    record {
      id = get_or l thread_id 0;
      process = get_or l thread_process 0;
      mask = bits (get_or l thread_mask 0);
      marks = bits (get_or l thread_marks 0);
    }

-- the words of a table with those of one record changed
unfoldable pub with_record : (i : ℕ) → Thread → List ℕ → List ℕ
with_record i t ws = sets ws (i * thread_words) (record_to t)

-- a row of records as words, and n rows of words as records
unfoldable pub words_of : List Thread → List ℕ
words_of ts = flat record_to ts

unfoldable pub records_of : ℕ → List ℕ → List Thread
records_of n ws = rows record_from thread_words n ws
