-- "A record is 32 bytes, little-endian": numbers of any width as bytes, the bytes of one record,
-- and those of a row of slots.
use Rattle.std.specs.Prelude.{ℕ, zero, suc, ◌+◌, ◌*◌, ◌/◌, ◌%◌, ◌^◌, ◌<◌, List, [], ◌∷◌, ◌++◌, take, drop}
use Rattle.limits.specs.Limits.{record_process, record_thread, record_signal, record_code, record_sender, record_uid}
use Rattle.limits.specs.Limits.{record_value, record_bytes}
use Rattle.lists.specs.Lists.{All}
use Rattle.lists.specs.Rows.{rows, flat}
use Rattle.types.specs.declared.Siginfo.{Siginfo}

-- ---- numbers

-- the widths of a field
abbrev pub u32_bytes : ℕ
u32_bytes = 4

abbrev pub u64_bytes : ℕ
u64_bytes = 8

-- the number that the bytes spell, lowest byte first
unfoldable pub le : List ℕ → ℕ
le [] = 0
le (b ∷ bs) = b + 256 * le bs

-- the n lowest bytes of x, lowest first
unfoldable pub encode : ℕ → ℕ → List ℕ
encode zero x = []
encode (suc n) x = (x % 256) ∷ encode n (x / 256)

-- every element is a byte
abbrev pub Bytes : List ℕ → Type 0
Bytes b = All (λ x. x < 256) b

-- ---- one record

-- "process id 4, thread id 4 (0 in the process buffer), signal 4, code 4 (-1, queued), sender id 4,
-- sender real user id 4, value 8"
unfoldable pub siginfo_of : List ℕ → Siginfo
siginfo_of b =
    record {
      process = le (take u32_bytes (drop record_process b));
      thread = le (take u32_bytes (drop record_thread b));
      signal = le (take u32_bytes (drop record_signal b));
      code = le (take u32_bytes (drop record_code b));
      sender = le (take u32_bytes (drop record_sender b));
      uid = le (take u32_bytes (drop record_uid b));
      value = le (take u64_bytes (drop record_value b));
    }

unfoldable pub bytes_of : Siginfo → List ℕ
bytes_of r =
    encode u32_bytes r.process
    ++ (encode u32_bytes r.thread
    ++ (encode u32_bytes r.signal
    ++ (encode u32_bytes r.code
    ++ (encode u32_bytes r.sender
    ++ (encode u32_bytes r.uid
    ++ encode u64_bytes r.value)))))

-- its fields are machine numbers of their widths
pub record Fits (r : Siginfo) : Type 0 where
  pub process : r.process < 256 ^ u32_bytes
  pub thread : r.thread < 256 ^ u32_bytes
  pub signal : r.signal < 256 ^ u32_bytes
  pub code : r.code < 256 ^ u32_bytes
  pub sender : r.sender < 256 ^ u32_bytes
  pub uid : r.uid < 256 ^ u32_bytes
  pub value : r.value < 256 ^ u64_bytes

-- ---- a row of n slots

unfoldable pub slots : ℕ → List ℕ → List Siginfo
slots n b = rows siginfo_of record_bytes n b

unfoldable pub slot_bytes : List Siginfo → List ℕ
slot_bytes rs = flat bytes_of rs
