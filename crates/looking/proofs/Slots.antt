-- What the number that a look gives tells: the buffer, the slot in it, and the bytes. Assumes nothing.
use Prim.Native.Nat.{ℕ, suc, ◌+◌, ◌-◌, ◌≤◌, ◌<◌}
use mathlib.Core.Path.{◌≡◌, refl, sym, ap, subst}
use mathlib.Core.Bool.{Bool, true}
use mathlib.Core.List.{List, []}
use mathlib.Core.Option.{some}
use native.Mathlib.Omega.{arith}
use lib.Dec.{eqb}
use lib.ListN.{length}
use Rattle.limits.specs.Limits.{buffer_records, buffer_bytes, record_bytes}
use Rattle.lists.specs.Lists.{find, first}
use Rattle.lists.specs.Rows.{row}
use Rattle.lists.proofs.Bools.{split}
use Rattle.lists.proofs.Lists.{some_first}
use Rattle.lists.proofs.Loops.{find-any}
use Rattle.types.specs.declared.Siginfo.{Siginfo}
use Rattle.rules.specs.Types.{Queue, Next, no_next, next_mark, next_record, look}
use Rattle.rules.specs.View.{in_queue, the_thread}
use Rattle.rules.specs.Store.{records_for, view}
use Rattle.rules.specs.Taking.{next}
use Rattle.rules.specs.Refusals.{refusal_of}
use Rattle.rules.specs.Calls.{Part, slot_of, part_of, look_part}
use Rattle.rules.proofs.Asking.{next-record}
use Rattle.queue.specs.Queue.{records_of}
use Rattle.queue.proofs.Buffer.{in_buffer}
use Rattle.sound.specs.Lent.{Lent, decoded, view_of, lengths_are}
use Rattle.sound.proofs.Facts.{right-thread-buffer, right-process-buffer}
use Rattle.looking.specs.Looks.{slot_number, look_slot, part_bytes, look_bytes}

-- the bytes are those of a slot of a buffer
pub record Held (b : List ℕ) (k : ℕ) (bs : List ℕ) : Type 0 where
  pub inside : (length b ≡ buffer_bytes) × (k < buffer_records)
  pub bytes : row record_bytes b k ≡ bs

-- a number and the bytes, in each of the three ranges
pub record Told (l : Lent) (n : ℕ) (bs : List ℕ) : Type 0 where
  pub nothing : n ≡ 0 → [] ≡ bs
  pub own : (n ≡ 0 → ⊥) → n ≤ buffer_records → Held l.thread_buffer (n - 1) bs
  pub shared : buffer_records < n → Held l.process_buffer (n - 1 - buffer_records) bs

held : (b : List ℕ) (k m : ℕ) → m ≡ k → length b ≡ buffer_bytes → k < buffer_records → Held b m (row record_bytes b k)
held b k m w e i = record { inside = (e, omega arith); bytes = ap (row record_bytes b) w }

-- ---- a part of each kind

module _ (l : Lent) where
  told-nothing : Told l 0 []
  told-nothing = record { nothing = λ z. refl; own = λ z h. absurd (z refl); shared = λ h. absurd (omega arith) }

  told-own : (k : ℕ) → length l.thread_buffer ≡ buffer_bytes → k < buffer_records
      → Told l (suc k) (row record_bytes l.thread_buffer k)
  told-own k e i =
      record {
        nothing = λ z. absurd (omega arith);
        own = λ z h. held l.thread_buffer k (suc k - 1) (omega arith) e i;
        shared = λ h. absurd (omega arith);
      }

  told-shared : (k : ℕ) → length l.process_buffer ≡ buffer_bytes → k < buffer_records
      → Told l (suc (buffer_records + k)) (row record_bytes l.process_buffer k)
  told-shared k e i =
      record {
        nothing = λ z. absurd (omega arith);
        own = λ z h. absurd (omega arith);
        shared = λ h. held l.process_buffer k (suc (buffer_records + k) - 1 - buffer_records) (omega arith) e i;
      }

-- ---- the part that a look gives

record-inside : (b : List ℕ) (p : Siginfo → Bool) (r : Siginfo) → first p (records_of b) ≡ some r
    → find p (records_of b) < buffer_records
record-inside b p r e = in_buffer b (find p (records_of b))
    (find-any p (records_of b) (some_first p (records_of b) r e))

module _ (l : Lent) (a : lengths_are l ≡ true) where
  abbrev ToldOf : Part → Type 0
  ToldOf p = Told l (slot_number p) (part_bytes l p)

  told-slot : (q : Queue) (s : ℕ) (r : Siginfo) → first (in_queue q s) (records_for q (decoded l)) ≡ some r
      → ToldOf (slot_of (decoded l) q s)
  unfolding slot_of records_for records_of decoded slot_number part_bytes
  told-slot q s r e =
      split (eqb q.thread 0)
      (λ z.
      rw z
      (told-shared l _ (right-process-buffer l a) (record-inside l.process_buffer (in_queue q s) r (rw z at e))))
      (λ z.
      rw z
      (told-own l _ (right-thread-buffer l a) (record-inside l.thread_buffer (in_queue q s) r (rw z at e))))

  told-next : (x : Next)
      → ((q : Queue) (s : ℕ) (r : Siginfo) → x ≡ next_record q s r
      → first (in_queue q s) (records_for q (decoded l)) ≡ some r)
      → ToldOf (part_of (decoded l) x)
  unfolding part_of slot_number part_bytes
  told-next no_next h = told-nothing l
  told-next (next_mark q s) h = told-nothing l
  told-next (next_record q s r) h = told-slot q s r (h q s r refl)

  told_part : (t : ℕ) → ToldOf (look_part t (decoded l))
  unfolding look_part view slot_number part_bytes
  told_part t =
      split (eqb (refusal_of (decoded l) (look t)) 0)
      (λ z.
      rw z
      (told-next (next (view_of l) (the_thread (view_of l) t))
      (λ q s r e. (next-record (view_of l) (the_thread (view_of l) t) q s r e).1)))
      (λ z. rw z (told-nothing l))

pub told : (t : ℕ) (l : Lent) (n : ℕ) → n ≡ look_slot t l → Told l n (look_bytes t l)
unfolding look_slot look_bytes
told t l n e =
    subst (λ (m : ℕ). Told l m (look_bytes t l)) (sym e)
    (split (lengths_are l) (λ a. rw a (told_part l a t)) (λ a. rw a (told-nothing l)))
