-- A row of another length than the table's: every call is refused with 14 and leaves everything as it was,
-- and a look is the empty part. Assumes nothing.
use Prim.Native.Nat.{ℕ}
use mathlib.Core.Path.{◌≡◌, sym, ap, ◌∙◌}
use mathlib.Core.Bool.{Bool, false, ◌&&◌, cond}
use mathlib.Core.List.{List, []}
use native.Mathlib.Omega.{arith}
use lib.Dec.{eqb}
use lib.ListN.{length}
use borrow.Author.Tests.{ne_eqb}
use Rattle.limits.specs.Limits.{EFAULT, EINVAL, thread_places, thread_table, process_table, buffer_bytes, call_clear}
use Rattle.lists.proofs.Rows.{nil-of}
use Rattle.lists.proofs.Bools.{split, and_left, and_right, cond-true, cond-false}
use Rattle.types.specs.Answers.{Answer}
use Rattle.types.specs.Answers.{Refused}
use Rattle.sound.specs.Lent.{Lent, lent, decoded, lengths_are, sound_tables}
use Rattle.answers.specs.Step.{committed, step_on}
use Rattle.rules.specs.Calls.{step, look_part}
use Rattle.rules.specs.Sound.{sound}
use Rattle.looking.specs.Looks.{part_bytes, look_bytes, slot_number, look_slot}
use Rattle.boundary.specs.declared.Arguments.{Arguments}
use Rattle.boundary.specs.Boundary.{numbered, errno_of, written, usable, accepted, serve_on, served_by}
use Rattle.boundary.specs.Boundary.{served}
use Rattle.threads.specs.declared.Thread.{Thread}
use Rattle.threads.specs.Records.{words_of}
use Rattle.threads.proofs.Words.{words-length, records-back}
use Rattle.rrezhbuta.specs.Entry.{Host, host, handed_back, call_on, look_at, slot_at}

module _ (ps tb pb : List ℕ) (ts : List Thread) (o : length ts ≡ thread_places → ⊥) where
  abbrev before : Lent
  before = lent ps (words_of ts) tb pb

  short : lengths_are (lent ps (words_of ts) tb pb) ≡ false
  unfolding lengths_are
  short =
      let g : length (words_of ts) ≡ thread_table → ⊥ = λ e. o (omega (arith, e, words-length ts)) in
      and_right (eqb (length ps) process_table)
      (and_left (eqb (length tb) buffer_bytes && eqb (length pb) buffer_bytes)
      (ne_eqb (length (words_of ts)) thread_table g))

  unusable : (n : ℕ) → usable n before ≡ false
  unfolding usable sound_tables
  unusable n =
      split (eqb n call_clear)
      (λ e. cond-true (lengths_are (lent ps (words_of ts) tb pb)) (sound_tables (lent ps (words_of ts) tb pb)) e
      ∙ short)
      (λ e. cond-false (lengths_are (lent ps (words_of ts) tb pb)) (sound_tables (lent ps (words_of ts) tb pb)) e
      ∙ and_left (sound (decoded (lent ps (words_of ts) tb pb))) short)

  no-look-here : (thread : ℕ) (r : List ℕ) → length r ≡ 0 → r ≡ look_at ps tb pb ts thread
  unfolding look_at look_bytes
  no-look-here thread r e = nil-of r e
      ∙ sym (cond-false (part_bytes before (look_part thread (decoded before))) [] short)

  no-slot-here : (thread : ℕ) → 0 ≡ slot_at ps tb pb ts thread
  unfolding slot_at look_slot
  no-slot-here thread = sym (cond-false (slot_number (look_part thread (decoded before))) 0 short)

  module _ (out : List ℕ) (number : ℕ) (g : Arguments) where
    abbrev refusal : Lent × Answer
    refusal = (before, Refused EFAULT)

    refused-here : serve_on number g (length out) before ≡ refusal
    unfolding serve_on step_on
    refused-here =
        split (accepted number (length out))
        (λ t.
        cond-true (step_on (numbered number g) before) (before, Refused (cond (usable number before) EINVAL EFAULT)) t
        ∙ cond-false (committed before (step (numbered number g) (decoded before))) refusal short)
        (λ t.
        cond-false (step_on (numbered number g) before) (before, Refused (cond (usable number before) EINVAL EFAULT)) t
        ∙ ap (λ (k : Bool). (before, Refused (cond k EINVAL EFAULT))) (unusable number))

    wrong-length-here : (host ps tb pb out ts, EFAULT) ≡ call_on number g (host ps tb pb out ts)
    unfolding call_on handed_back served served_by errno_of written
    wrong-length-here =
        ap (λ (us : List Thread). (host ps tb pb out us, EFAULT)) (sym (records-back ts))
        ∙ ap (λ (k : Lent × Answer). handed_back (length ts) (served_by out k)) (sym refused-here)

pub wrong-length : (h : Host) (number : ℕ) (g : Arguments) → (length h.threads ≡ thread_places → ⊥)
    → (h, EFAULT) ≡ call_on number g h
wrong-length h number g o =
    wrong-length-here h.processes h.thread_buffer h.process_buffer h.threads o h.answer number g

pub no-look : (ps tb pb : List ℕ) (ts : List Thread) (thread : ℕ) (r : List ℕ) → (length ts ≡ thread_places → ⊥)
    → length r ≡ 0 → r ≡ look_at ps tb pb ts thread
no-look ps tb pb ts thread r o e = no-look-here ps tb pb ts o thread r e

pub no_slot : (ps tb pb : List ℕ) (ts : List Thread) (thread : ℕ) → (length ts ≡ thread_places → ⊥)
    → 0 ≡ slot_at ps tb pb ts thread
no_slot ps tb pb ts thread o = no-slot-here ps tb pb ts o thread
