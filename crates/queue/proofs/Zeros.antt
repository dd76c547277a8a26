-- Slots that are zero: a record is, exactly if all its bytes are. Assumes nothing.
use Prim.Native.Nat.{ℕ, ◌+◌, ◌-◌, ◌*◌, ◌≤◌}
use mathlib.Core.Path.{◌≡◌, sym, ap, ap₂, ◌∙◌}
use mathlib.Core.Bool.{Bool, ◌&&◌}
use mathlib.Core.List.{List}
use native.Mathlib.Omega.{arith}
use lib.Dec.{eqb}
use lib.ListN.{length, take, drop, length-drop}
use lib.Seq.{take_all}
use Rattle.limits.specs.Limits.{record_process, record_thread, record_signal, record_code, record_sender, record_uid}
use Rattle.limits.specs.Limits.{record_value, record_bytes, buffer_records, buffer_bytes}
use Rattle.lists.specs.Lists.{all}
use Rattle.lists.proofs.Lists.{all_append}
use Rattle.lists.proofs.Rows.{all-rows-from}
use Rattle.zeros.specs.Zeros.{is_nought}
use Rattle.siginfo.specs.Bytes.{u32_bytes, u64_bytes, le, siginfo_of, slots}
use Rattle.siginfo.proofs.Numbers.{le-zero}
use Rattle.siginfo.proofs.Slots.{part-rest}
use Rattle.rules.specs.Sound.{is_zero}
use Rattle.queue.specs.Queue.{slots_of}

number-zero : (bs : List ℕ) → eqb (le bs) 0 ≡ all is_nought bs
unfolding is_nought
number-zero bs = le-zero bs

-- a field, and the bytes behind it
field-zero : (l : List ℕ) (at n : ℕ) {rest : Bool} → rest ≡ all is_nought (drop (at + n) l)
    → (eqb (le (take n (drop at l))) 0 && rest) ≡ all is_nought (drop at l)
field-zero l at n e =
    ap₂ (λ a b. a && b) (number-zero (take n (drop at l))) e
    ∙ sym (all_append is_nought (take n (drop at l)) (drop (at + n) l))
    ∙ ap (all is_nought) (part-rest l at n)

record-zero : (l : List ℕ) → length l ≡ record_bytes → is_zero (siginfo_of l) ≡ all is_nought l
unfolding is_zero siginfo_of
record-zero l e =
    field-zero l record_process u32_bytes
    (field-zero l record_thread u32_bytes
    (field-zero l record_signal u32_bytes
    (field-zero l record_code u32_bytes
    (field-zero l record_sender u32_bytes
    (field-zero l record_uid u32_bytes
    (number-zero (take u64_bytes (drop record_value l))
    ∙ ap (all is_nought) (take_all u64_bytes (drop record_value l) (rw length-drop (omega arith)))))))))

-- the slots from a place on, as code looks at their bytes
pub slots-zero : (b : List ℕ) (from : ℕ) → length b ≡ buffer_bytes → from ≤ buffer_records
    → all is_nought (take (length b - from * record_bytes) (drop (from * record_bytes) b))
    ≡ all is_zero (drop from (slots_of b))
unfolding slots_of slots
slots-zero b from e h =
    ap (all is_nought)
    (take_all (length b - from * record_bytes) (drop (from * record_bytes) b) (rw length-drop (omega arith)))
    ∙ sym (all-rows-from siginfo_of record_bytes is_zero is_nought record-zero buffer_records b from e h)
