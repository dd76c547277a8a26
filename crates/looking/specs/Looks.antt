-- What a look hands back: the slot by its number, and its bytes.
use Rattle.std.specs.Prelude.{ℕ, suc, ◌+◌, cond, List, []}
use Rattle.limits.specs.Limits.{buffer_records, record_bytes}
use Rattle.lists.specs.Rows.{row}
use Rattle.rules.specs.Calls.{Part, empty_part, thread_slot, process_slot, look_part}
use Rattle.sound.specs.Lent.{Lent, decoded, lengths_are}

-- a part by number: 0 for the empty one, then the slots of the thread buffer from 1 on,
-- then those of the process buffer
unfoldable pub slot_number : Part → ℕ
slot_number empty_part = 0
slot_number (thread_slot k) = suc k
slot_number (process_slot k) = suc (buffer_records + k)

-- 0 of tables with a wrong length
unfoldable pub look_slot : (thread : ℕ) → Lent → ℕ
look_slot t l =
    cond (lengths_are l) (slot_number (look_part t (decoded l))) 0

-- the bytes of a part
unfoldable pub part_bytes : Lent → Part → List ℕ
part_bytes l empty_part = []
part_bytes l (thread_slot k) = row record_bytes l.thread_buffer k
part_bytes l (process_slot k) = row record_bytes l.process_buffer k

-- nothing of tables with a wrong length
unfoldable pub look_bytes : (thread : ℕ) → Lent → List ℕ
look_bytes t l =
    cond (lengths_are l) (part_bytes l (look_part t (decoded l))) []
