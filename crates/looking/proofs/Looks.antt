-- A look: the slot that is given, by its number, and the answer. Assumes nothing.
use Prim.Native.Nat.{ℕ, ◌+◌, ◌≤◌}
use mathlib.Core.Path.{◌≡◌, refl, sym, ap, ◌∙◌}
use mathlib.Core.Bool.{Bool, true, cond}
use mathlib.Core.List.{List, [], ◌∷◌}
use mathlib.Core.Option.{some}
use native.Mathlib.Nat.{le_trans}
use native.Mathlib.Numerals.{add-one}
use borrow.Author.Tests.{eq-eqb, ne_eqb}
use Rattle.limits.specs.Limits.{EFAULT, buffer_records}
use Rattle.lists.specs.Lists.{find, any}
use Rattle.lists.proofs.Bools.{split}
use Rattle.lists.proofs.Lists.{some_first}
use Rattle.lists.proofs.Loops.{find-le}
use Rattle.types.specs.declared.Siginfo.{Siginfo}
use Rattle.types.specs.declared.Reply.TheVariants.{Looked}
use Rattle.rules.specs.Types.{Next, look}
use Rattle.rules.specs.View.{queue_of, in_queue, the_thread}
use Rattle.rules.specs.Store.{Store, records_for, view}
use Rattle.rules.specs.Taking.{next}
use Rattle.rules.specs.Refusals.{esrch, is_clear, no_thread_live, rows, refusal_of}
use Rattle.rules.specs.Calls.{part_of, slot_of, look_part, reply}
use Rattle.rules.proofs.Asking.{next-record}
use Rattle.queue.specs.Queue.{records_of}
use Rattle.queue.proofs.Buffer.{length-records_of}
use Rattle.sound.specs.Lent.{Lent, decoded, view_of, lengths_are, WithThread}
use Rattle.types.specs.declared.Pending as declared
use Rattle.types.specs.declared.Pending.TheVariants as case
use Rattle.std.specs.Prelude.{Some, None, Option as Maybe}
use Rattle.types.specs.Answers as said
use Rattle.answers.specs.Answers.{next_from, next_of}
use Rattle.answers.specs.Step.{refusal_on, rows_on, step_on}
use Rattle.answers.proofs.Told.{told-next}
use Rattle.answers.proofs.Endings.{rows-given, accepted-long, accepted-rules, answer-after}
use Rattle.answers.proofs.Rows.{live-thread}
use Rattle.looking.specs.Looks.{slot_number, look_slot}

-- ---- what a look gives

module _ (t : ℕ) (l : Lent) where
  refused-slot : (refusal_on (look t) l ≡ 0 → ⊥) → look_slot t l ≡ 0
  unfolding look_slot look_part slot_number refusal_on
  refused-slot n =
      split (lengths_are l)
      (λ a. rw (
        a,
        ne_eqb (refusal_of (decoded l) (look t)) 0
            (λ z. n (ap (λ (b : Bool). cond b (refusal_of (decoded l) (look t)) EFAULT) a ∙ z)),
      )) (λ a. rw a)

  accepted-slot : refusal_on (look t) l ≡ 0
      → look_slot t l ≡ slot_number (part_of (decoded l) (next (view_of l) (the_thread (view_of l) t)))
  unfolding look_slot look_part
  accepted-slot e =
      rw (accepted-long (look t) l e, eq-eqb (refusal_of (decoded l) (look t)) 0 (accepted-rules (look t) l e))

-- a place that code found in a buffer
pub found-small : (b : List ℕ) (p : Siginfo → Bool) (k : ℕ) → k ≡ find p (records_of b) → k ≤ buffer_records
found-small b p k g = rw g (le_trans (find-le p (records_of b)) (length-records_of b))

-- what is no record has no slot
no-slot : (st : Store) (r : Maybe declared.Pending) → ((x : Siginfo) → r ≡ Some (case.Record x) → ⊥)
    → 0 ≡ slot_number (part_of st (next_of r))
unfolding next_of next_from part_of slot_number
no-slot st None n = refl
no-slot st (Some (case.Mark p q s)) n = refl
no-slot st (Some (case.Record x)) n = absurd (n x refl)

module _ (l : Lent) (t n : ℕ) (e : n ≡ rows_on (esrch (no_thread_live (view_of l) t) ∷ []) l) where
  pub look-refusal : n ≡ refusal_on (look t) l
  unfolding is_clear rows
  look-refusal = e ∙ sym (rows-given (look t) l refl)

  pub slot-refused : (n ≡ 0 → ⊥) → 0 ≡ look_slot t l
  slot-refused z = sym (refused-slot t l (λ y. z (look-refusal ∙ y)))

  module _ (z : n ≡ 0) where
    pub look-with : WithThread t l
    look-with = live-thread l t n e z

    -- what is next, as it was found
    module _ (r : Maybe declared.Pending) (f : next_of r ≡ next (view_of l) (the_thread (view_of l) t)) where
      pub look-answered : said.Accepted (Looked r) ≡ (step_on (look t) l).1
      unfolding reply
      look-answered = answer-after (look t) l (sym look-refusal ∙ z) (Looked r) (ap Looked (told-next r f))

      slot-of-next : slot_number (part_of (decoded l) (next_of r)) ≡ look_slot t l
      slot-of-next =
          ap (λ (x : Next). slot_number (part_of (decoded l) x)) f ∙ sym (accepted-slot t l (sym look-refusal ∙ z))

      pub slot-none : ((x : Siginfo) → r ≡ Some (case.Record x) → ⊥) → 0 ≡ look_slot t l
      slot-none h = no-slot (decoded l) r h ∙ slot-of-next

      -- a record is the oldest of its queue and signal, in the buffer that has the queue
      module _ (x : Siginfo) (h : r ≡ Some (case.Record x)) where
        oldest : (view_of l).oldest (queue_of x) x.signal ≡ some x
        unfolding next_of next_from
        oldest =
            (next-record (view_of l) (the_thread (view_of l) t) (queue_of x) x.signal x (sym f ∙ ap next_of h)).1

        pub found-shared : x.thread ≡ 0 → any (in_queue (queue_of x) x.signal) (records_of l.process_buffer) ≡ true
        unfolding view decoded records_for records_of
        found-shared y =
            some_first (in_queue (queue_of x) x.signal) (records_of l.process_buffer) x
            (rw (eq-eqb x.thread 0 y) at oldest)

        pub found-own : (x.thread ≡ 0 → ⊥) → any (in_queue (queue_of x) x.signal) (records_of l.thread_buffer) ≡ true
        unfolding view decoded records_for records_of
        found-own y =
            some_first (in_queue (queue_of x) x.signal) (records_of l.thread_buffer) x
            (rw (ne_eqb x.thread 0 y) at oldest)

        module _ (k : ℕ) where
          pub slot-shared : x.thread ≡ 0 → k ≡ find (in_queue (queue_of x) x.signal) (records_of l.process_buffer)
              → buffer_records + k + 1 ≡ look_slot t l
          unfolding next_of next_from part_of slot_of slot_number records_for records_of decoded
          slot-shared y g = rw (g, add-one) (rw (h, eq-eqb x.thread 0 y) at slot-of-next)

          pub slot-own : (x.thread ≡ 0 → ⊥) → k ≡ find (in_queue (queue_of x) x.signal) (records_of l.thread_buffer)
              → k + 1 ≡ look_slot t l
          unfolding next_of next_from part_of slot_of slot_number records_for records_of decoded
          slot-own y g = rw (g, add-one) (rw (h, ne_eqb x.thread 0 y) at slot-of-next)
