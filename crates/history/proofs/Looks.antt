-- The bytes that a look hands back are those of the oldest send that the ledger has there. Assumes nothing.
use Prim.Native.Nat.{ℕ, ◌+◌, ◌-◌, ◌<◌, ◌≤◌}
use mathlib.Core.Path.{◌≡◌, refl, sym, ap, ap₂, ◌∙◌}
use mathlib.Core.Bool.{Bool, true, false, cond}
use mathlib.Core.List.{List, []}
use mathlib.Core.Option.{Option, some, get_or}
use native.Mathlib.Omega.{arith}
use lib.Dec.{eqb}
use lib.ListN.{length}
use borrow.Author.Tests.{lt-ltb, le-ltb}
use Rattle.limits.specs.Limits.{buffer_records, record_bytes}
use Rattle.lists.specs.Lists.{find, first}
use Rattle.lists.specs.Rows.{row}
use Rattle.lists.proofs.Bools.{split, cond-true, cond-false}
use Rattle.lists.proofs.Finds.{get_d-find, any-inside}
use Rattle.lists.proofs.Lists.{All-every, some_first}
use Rattle.lists.proofs.Rows.{row-flat}
use Rattle.types.specs.declared.Siginfo.{Siginfo}
use Rattle.types.specs.Values.{no_siginfo}
use Rattle.siginfo.specs.Bytes.{bytes_of, slot_bytes}
use Rattle.siginfo.proofs.Slots.{length-bytes_of}
use Rattle.rules.specs.Types.{Queue, Next, no_next, next_mark, next_record, look}
use Rattle.rules.specs.View.{View, in_queue, the_thread}
use Rattle.rules.specs.Store.{Store, used, records_for, view}
use Rattle.rules.specs.Refusals.{refusal_of}
use Rattle.rules.specs.Taking.{next}
use Rattle.rules.specs.Calls.{empty_part, thread_slot, process_slot, slot_of, part_of, look_part}
use Rattle.rules.proofs.Asking.{next-record}
use Rattle.rules.proofs.Slots.{length-used, used-at}
use Rattle.sound.specs.Lent.{Lent, decoded, lengths_are}
use Rattle.answers.specs.Step.{encoded}
use Rattle.looking.specs.Looks.{slot_number, look_slot, part_bytes, look_bytes}
use Rattle.queue.specs.Queue.{slots_of}
use Rattle.queue.proofs.Buffer.{length-slots_of}
use Rattle.rrezhbuta.specs.Entry.{Host, lent_by, look_at, slot_at}
use Rattle.history.specs.Ledger.{Ledger}
use Rattle.history.specs.History.{next_bytes, looked_bytes, bytes_at}
use Rattle.history.proofs.Answered.{same-refusal}
use Rattle.history.proofs.Holds.{Holds, same_view}

-- ---- one buffer

-- the bytes of the slot in which the first record that passes stands
slot-bytes : (p : Siginfo → Bool) (slots : List Siginfo) (r : Siginfo) → first p (used slots) ≡ some r
    → row record_bytes (slot_bytes slots) (find p (used slots)) ≡ bytes_of r
unfolding slot_bytes
slot-bytes p slots r e =
    let i : find p (used slots) < length (used slots) =
    any-inside p (used slots) (length (used slots)) refl (some_first p (used slots) r e) in
    row-flat bytes_of record_bytes no_siginfo slots (find p (used slots)) (All-every _ length-bytes_of slots)
    (omega (arith, length-used slots))
    ∙ ap bytes_of
    (sym (used-at slots (find p (used slots)) no_siginfo i) ∙ sym (get_d-find p no_siginfo (used slots))
    ∙ ap (λ (o : Option Siginfo). get_or o no_siginfo) e)

-- ---- the tables, as the words and bytes of what they say

module _ (l : Lent) (w : encoded (decoded l) ≡ l) where
  abbrev st : Store
  st = decoded l

  record-bytes : (q : Queue) (s : ℕ) (r : Siginfo) → first (in_queue q s) (records_for q st) ≡ some r
      → part_bytes l (slot_of st q s) ≡ bytes_of r
  unfolding slot_of records_for part_bytes encoded
  record-bytes q s r e =
      split (eqb q.thread 0)
      (λ z.
      rw z
      (ap (λ (x : Lent). row record_bytes x.process_buffer (find (in_queue q s) (used st.process_buffer))) (sym w)
      ∙ slot-bytes (in_queue q s) st.process_buffer r (rw z at e)))
      (λ z.
      rw z
      (ap (λ (x : Lent). row record_bytes x.thread_buffer (find (in_queue q s) (used st.thread_buffer))) (sym w)
      ∙ slot-bytes (in_queue q s) st.thread_buffer r (rw z at e)))

  next-bytes : (n : Next)
      → ((q : Queue) (s : ℕ) (r : Siginfo) → n ≡ next_record q s r → first (in_queue q s) (records_for q st) ≡ some r)
      → part_bytes l (part_of st n) ≡ next_bytes n
  unfolding part_of part_bytes next_bytes
  next-bytes no_next h = refl
  next-bytes (next_mark q s) h = refl
  next-bytes (next_record q s r) h = record-bytes q s r (h q s r refl)

  -- a look's part, whether it is refused or not
  module _ (t : ℕ) where
    abbrev upcoming : Next
    upcoming = next (view st) (the_thread (view st) t)

    part_bytes_lem : (b : Bool) → part_bytes l (cond b (part_of st upcoming) empty_part)
        ≡ cond b (next_bytes upcoming) []
    unfolding view part_bytes
    part_bytes_lem true = next-bytes upcoming (λ q s r e. (next-record (view st) (the_thread (view st) t) q s r e).1)
    part_bytes_lem false = refl

    pub same-look : (k : Ledger) → lengths_are l ≡ true → Holds st k → look_bytes t l ≡ looked_bytes k t
    unfolding look_bytes look_part looked_bytes
    same-look k a h =
        cond-true (part_bytes l (look_part t st)) [] a
        ∙ part_bytes_lem (eqb (refusal_of st (look t)) 0)
        ∙ ap₂ (λ (n : ℕ) (v : View). cond (eqb n 0) (next_bytes (next v (the_thread v t))) [])
        (same-refusal st k h (look t)) (same_view st k h)

-- ---- the slot by its number

length-slots : (b : List ℕ) → length (used (slots_of b)) ≤ buffer_records
length-slots b = omega (arith, length-used (slots_of b), length-slots_of b)

module _ (h : Host) where
  abbrev lies : Store
  lies = decoded (lent_by h)

  thread-slot : (i : ℕ) → i < buffer_records
      → bytes_at h (slot_number (thread_slot i)) ≡ part_bytes (lent_by h) (thread_slot i)
  unfolding bytes_at slot_number part_bytes
  thread-slot i l = cond-true _ _ (lt-ltb i buffer_records l)

  process-slot : (i : ℕ) → bytes_at h (slot_number (process_slot i)) ≡ part_bytes (lent_by h) (process_slot i)
  unfolding bytes_at slot_number part_bytes
  process-slot i =
      let n : (buffer_records + i) - buffer_records ≡ i = omega arith in
      cond-false _ _ (le-ltb (buffer_records + i) buffer_records (omega arith))
      ∙ ap (row record_bytes h.process_buffer) n

  -- a record that is found stands in a slot
  found-slot : (q : Queue) (s : ℕ) (r : Siginfo) → first (in_queue q s) (records_for q lies) ≡ some r
      → bytes_at h (slot_number (slot_of lies q s)) ≡ part_bytes (lent_by h) (slot_of lies q s)
  unfolding slot_of records_for decoded
  found-slot q s r e =
      split (eqb q.thread 0)
      (λ z. rw z (process-slot (find (in_queue q s) (used (slots_of h.process_buffer)))))
      (λ z.
      let rs : List Siginfo = used (slots_of h.thread_buffer) in
      rw z (thread-slot (find (in_queue q s) rs)
      (omega (
        arith,
        any-inside (in_queue q s) rs (length rs) refl (some_first (in_queue q s) rs r (rw z at e)),
        length-slots h.thread_buffer,
      ))))

  next-slot : (n : Next)
      → ((q : Queue) (s : ℕ) (r : Siginfo) → n ≡ next_record q s r → first (in_queue q s) (records_for q lies) ≡ some r)
      → bytes_at h (slot_number (part_of lies n)) ≡ part_bytes (lent_by h) (part_of lies n)
  unfolding part_of part_bytes slot_number bytes_at
  next-slot no_next k = refl
  next-slot (next_mark q s) k = refl
  next-slot (next_record q s r) k = found-slot q s r (k q s r refl)

  -- the slot that a look names has the bytes that it hands back
  pub same-slot : (t : ℕ) → lengths_are (lent_by h) ≡ true
      → bytes_at h (slot_at h.processes h.thread_buffer h.process_buffer h.threads t)
      ≡ look_at h.processes h.thread_buffer h.process_buffer h.threads t
  unfolding slot_at look_slot look_at look_bytes look_part view
  same-slot t a =
      ap (bytes_at h) (cond-true (slot_number (look_part t lies)) 0 a)
      ∙ part-slot (eqb (refusal_of lies (look t)) 0)
      ∙ sym (cond-true (part_bytes (lent_by h) (look_part t lies)) [] a)
    where
      coming : Next
      coming = next (view lies) (the_thread (view lies) t)

      part-slot : (b : Bool) → bytes_at h (slot_number (cond b (part_of lies coming) empty_part))
          ≡ part_bytes (lent_by h) (cond b (part_of lies coming) empty_part)
      part-slot true = next-slot coming (λ q s r e. (next-record (view lies) (the_thread (view lies) t) q s r e).1)
      part-slot false = unfold slot_number bytes_at part_bytes in refl
