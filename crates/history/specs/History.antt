-- A list of what a host does, from a `clear` on, and what the ledger is told of it.
use Rattle.std.specs.Prelude.{ℕ, zero, suc, ◌-◌, Bool, true, not, ◌&&◌, cond, List, [], ◌∷◌, eqb, ltb, length}
use Rattle.limits.specs.Limits.{EINVAL, buffer_records, record_bytes, call_clear}
use Rattle.lists.specs.Rows.{row}
use Rattle.siginfo.specs.Bytes.{bytes_of}
use Rattle.types.specs.Answers.{Answer}
use Rattle.types.specs.Answers.{Refused}
use Rattle.rules.specs.Types.{Thread, Call, look, Next, no_next, next_mark, next_record}
use Rattle.rules.specs.View.{the_thread}
use Rattle.rules.specs.Taking.{next}
use Rattle.rules.specs.Machine.{is_u32, is_u64}
use Rattle.boundary.specs.declared.Arguments.{Arguments}
use Rattle.boundary.specs.Boundary.{accepted, numbered}
use Rattle.threads.specs.declared.Thread as records
use Rattle.rrezhbuta.specs.Entry.{Host, host, call_on}
use Rattle.history.specs.Ledger.{Ledger, empty_ledger, ledger_view, ledger_refusal, ledger_answer}
use Rattle.history.specs.Acts.{Act, turns, take_turns, acts_of}

-- ---- the ledger with all acts so far

-- what it is told of a call: its arguments, and whether it was refused
pub record Entry : Type 0 where
  pub call : Call
  pub refused : Bool

pub record Book : Type 0 where
  pub ledger : Ledger
  -- the latest first
  pub acts : List Act

-- "It starts empty"
abbrev pub empty_book : Book
empty_book = record { ledger = empty_ledger; acts = [] }

-- put before the earlier ones, one after the other
unfoldable pub onto : List Act → List Act → List Act
onto [] xs = xs
onto (b ∷ bs) xs = onto bs (b ∷ xs)

-- the turns of a call that is not refused
unfoldable pub entered : Call → Book → Book
entered c b =
    record {
      ledger = take_turns (turns (ledger_view b.ledger) c) b.ledger;
      acts = onto (acts_of (turns (ledger_view b.ledger) c) b.ledger) b.acts;
    }

-- "A refused call leaves it alone; others do there what demand 2's rules say."
unfoldable pub enter : Entry → Book → Book
enter e b = cond e.refused b (entered e.call b)

-- ---- what a host does

pub data Item : Type 0 where
  -- a call by its number, with its raw arguments and words for the answer, of any length and content
  call : (number : ℕ) → Arguments → (answer : List ℕ) → Item
  -- a look by slot
  slot_look : (thread : ℕ) → Item

-- the host with these words for the answer
abbrev pub lending : (answer : List ℕ) → Host → Host
lending out h = host h.processes h.thread_buffer h.process_buffer out h.threads

-- "Each gets the tables as the one before left them; nobody else writes them."
unfoldable pub host_after : Item → Host → Host
host_after (call n g out) h = (call_on n g (lending out h)).0
-- it is lent the tables to read only
host_after (slot_look t) h = h

-- "Its ledger gets the calls' arguments and which were refused, nothing of the tables": refused is what returns an
-- errno; a number that is no call's, or too few words for an answer, tells it nothing
unfoldable pub told : Item → Host → Book → Book
told (call n g out) h b =
    cond (accepted n (length out))
    (enter (record { call = numbered n g; refused = not (eqb (call_on n g (lending out h)).1 0) }) b) b
told (slot_look t) h b = b

-- ---- after a list

pub record Past : Type 0 where
  pub host : Host
  pub book : Book

unfoldable pub after : List Item → Past → Past
after [] p = p
after (x ∷ xs) p =
    after xs (record { host = host_after x p.host; book = told x p.host p.book })

-- "Start from a cleared store": a `clear` on whatever the host holds, with the ledger empty then
unfoldable pub cleared : Arguments → Host → Past
cleared g h = record { host = (call_on call_clear g h).0; book = empty_book }

-- the numbers have their widths: six of 32 bits, three of 64
unfoldable pub machine_arguments : Arguments → Bool
machine_arguments g =
    is_u32 g.a
    && (is_u32 g.b
    && (is_u32 g.c
    && (is_u32 g.d && (is_u32 g.e && (is_u32 g.f && (is_u64 g.x && (is_u64 g.y && is_u64 g.z)))))))

unfoldable pub machine_item : Item → Bool
machine_item (call n g out) = machine_arguments g
machine_item (slot_look t) = true

-- ---- what is read of the host, and in the ledger

-- a record of the row, without its marks
abbrev pub row_thread : records.Thread → Thread
row_thread t = record { id = t.id; process = t.process; mask = t.mask }

-- the answer that the ledger says a call by its number has: 22 where there is no such call, or no room for the answer
unfoldable pub heard : Ledger → (number : ℕ) → Arguments → (room : ℕ) → Answer
heard k n g room = cond (accepted n room) (ledger_answer k (numbered n g)) (Refused EINVAL)

-- the bytes of what is next: of a send its record's, else none
unfoldable pub next_bytes : Next → List ℕ
next_bytes no_next = []
next_bytes (next_mark q s) = []
next_bytes (next_record q s r) = bytes_of r

-- the bytes that the ledger says a look hands back: "a refused look is the empty part too"
unfoldable pub looked_bytes : Ledger → (thread : ℕ) → List ℕ
looked_bytes k t =
    cond (eqb (ledger_refusal k (look t)) 0) (next_bytes (next (ledger_view k) (the_thread (ledger_view k) t))) []

-- the bytes of a slot by its number: none of 0, then the thread buffer's slots, then the process buffer's
unfoldable pub bytes_at : Host → (slot : ℕ) → List ℕ
bytes_at h zero = []
bytes_at h (suc n) =
    cond (ltb n buffer_records) (row record_bytes h.thread_buffer n)
    (row record_bytes h.process_buffer (n - buffer_records))
