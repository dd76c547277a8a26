-- A call on the lent tables is the rules' call on what they say, and cleared tables say the cleared store.
-- Assumes nothing.
use Prim.Native.Nat.{◌*◌}
use mathlib.Core.Path.{◌≡◌, refl, sym, ap, ◌∙◌}
use mathlib.Core.Bool.{true, false, not}
use mathlib.Core.List.{List}
use lib.Dec.{eqb}
use lib.ListN.{length, replicate}
use borrow.Author.Tests.{eqb-true, eq-eqb}
use Rattle.limits.specs.Limits.{signals, buffer_records, buffer_bytes, record_bytes, process_places, process_words}
use Rattle.limits.specs.Limits.{process_table, thread_places, thread_words, thread_table, EFAULT}
use Rattle.lists.specs.Lists.{All}
use Rattle.lists.specs.Rows.{flat}
use Rattle.lists.proofs.Bools.{split, and_both, cond-true, cond-false}
use Rattle.lists.proofs.Lists.{Pass, All-imp, all-All}
use Rattle.lists.proofs.Rows.{flat-replicate}
use Rattle.types.specs.declared.Siginfo.{Siginfo}
use Rattle.types.specs.Values.{no_siginfo}
use Rattle.siginfo.specs.Bytes.{Fits, encode, bytes_of, slots, slot_bytes}
use Rattle.siginfo.proofs.Slots.{slots-slot_bytes, length-slot_bytes}
use Rattle.types.specs.Answers.{Refused}
use Rattle.rules.specs.Types.{Call, clear}
use Rattle.rules.specs.Store.{Store, free_process, free_thread, cleared, apply, apply_all}
use Rattle.rules.specs.Sound.{actions_long, sound}
use Rattle.rules.specs.Refusals.{refusal, rows, is_clear, fault, table, refusal_of}
use Rattle.rules.specs.Machine.{machine}
use Rattle.rules.specs.Calls.{changes, step, is_refused}
use Rattle.rules.proofs.ClausesByTable.{Lengths, parts}
use Rattle.rules.proofs.Steps.{accepted-step}
use Rattle.rules.proofs.Refused.{refused-by-table, refused-keeps}
use Rattle.rules.proofs.StaysSound.{step-sound}
use Rattle.rules.proofs.Cleared.{sound-cleared}
use Rattle.tables.specs.Tables.{process_to, thread_to, process_words_of, thread_words_of}
use Rattle.tables.proofs.Words.{ActionsLong, words-forth, thread-words-forth, length-process_words_of}
use Rattle.tables.proofs.Words.{length-thread_words_of, free-process-words, free-thread-words}
use Rattle.queue.specs.Queue.{slots_of}
use Rattle.sound.specs.Lent.{Lent, lent, decoded, lengths_are, sound_tables}
use Rattle.sound.proofs.Facts.{right-lengths, store-sound}
use Rattle.answers.specs.Step.{encoded, committed, step_on}
use Rattle.answers.proofs.Endings.{places-right}
use Rattle.history.proofs.Widths.{Widths, widths-cleared, widths-step}

-- ---- a store to words and bytes, and back

-- a buffer whose records have their widths
slots-forth : (rs : List Siginfo) → length rs ≡ buffer_records → All Fits rs → slots_of (slot_bytes rs) ≡ rs
unfolding slots_of
slots-forth rs e f = ap (λ n. slots n (slot_bytes rs)) (sym e) ∙ slots-slot_bytes rs f

module _ (st : Store) (e : sound st ≡ true) where
  long : Lengths st
  long = (parts st e).lengths

  actions-long : All ActionsLong st.processes
  unfolding actions_long
  actions-long =
      All-imp (Pass actions_long) ActionsLong (λ x h. eqb-true (length x.holds.actions) signals h) st.processes
      (all-All actions_long st.processes long.actions)

  -- a sound store whose records have their widths is what its words and bytes say
  pub decoded-encoded : Widths st → decoded (encoded st) ≡ st
  unfolding encoded decoded
  decoded-encoded w =
      let p = words-forth st.processes long.processes actions-long in
      let t = thread-words-forth st.threads long.threads in
      let b = slots-forth st.thread_buffer long.thread_slots w.thread_buffer in
      let c = slots-forth st.process_buffer long.process_slots w.process_buffer in
      λ i. record { processes = p i; threads = t i; thread_buffer = b i; process_buffer = c i }

  pub long-encoded : lengths_are (encoded st) ≡ true
  unfolding encoded lengths_are
  long-encoded =
      let b : (rs : List Siginfo) → length rs ≡ buffer_records → eqb (length (slot_bytes rs)) buffer_bytes ≡ true =
      λ rs h. eq-eqb (length (slot_bytes rs)) buffer_bytes (length-slot_bytes rs ∙ ap (λ n. n * record_bytes) h) in
      and_both (eq-eqb _ process_table (length-process_words_of st.processes long.processes actions-long))
      (and_both (eq-eqb _ thread_table (length-thread_words_of st.threads long.threads))
      (and_both (b st.thread_buffer long.thread_slots) (b st.process_buffer long.process_slots)))

-- ---- a call

module _ (c : Call) (l : Lent) (h : lengths_are l ≡ true) where
  -- tables of the right lengths: nothing but the rules decides
  on-long : step_on c l ≡ committed l (step c (decoded l))
  unfolding step_on
  on-long = cond-true (committed l (step c (decoded l))) (l, Refused EFAULT) h

  pub answer-on : (step_on c l).1 ≡ (step c (decoded l)).1
  unfolding committed
  answer-on = ap (λ x. x.1) on-long

  -- the tables after it: the same where it is refused, else what the rules' step says
  refused-on : is_refused (step c (decoded l)).1 ≡ true → (step_on c l).0 ≡ l
  unfolding committed
  refused-on r = ap (λ x. x.0) on-long ∙ cond-true l (encoded (step c (decoded l)).0) r

  accepted-on : is_refused (step c (decoded l)).1 ≡ false → (step_on c l).0 ≡ encoded (step c (decoded l)).0
  unfolding committed
  accepted-on r = ap (λ x. x.0) on-long ∙ cond-false l (encoded (step c (decoded l)).0) r

module _ (c : Call) (l : Lent) (u : machine c ≡ true) (e : sound_tables l ≡ true) (w : Widths (decoded l)) where
  right : lengths_are l ≡ true
  right = right-lengths l e

  before-sound : sound (decoded l) ≡ true
  before-sound = store-sound l e

  after-sound : sound (step c (decoded l)).0 ≡ true
  after-sound = step-sound c (decoded l) u before-sound

  -- the tables after it say the store after it
  pub decoded-on : decoded (step_on c l).0 ≡ (step c (decoded l)).0
  decoded-on =
      split (is_refused (step c (decoded l)).1)
      (λ r. ap decoded (refused-on c l right r) ∙ sym (refused-keeps c (decoded l) r))
      (λ r. ap decoded (accepted-on c l right r)
      ∙ decoded-encoded (step c (decoded l)).0 after-sound (widths-step c (decoded l) u before-sound w))

  -- they are its words and bytes
  pub encoded-on : encoded (decoded l) ≡ l → encoded (decoded (step_on c l).0) ≡ (step_on c l).0
  encoded-on h =
      split (is_refused (step c (decoded l)).1)
      (λ r. ap (λ (m : Lent). encoded (decoded m)) (refused-on c l right r) ∙ h ∙ sym (refused-on c l right r))
      (λ r. ap encoded decoded-on ∙ sym (accepted-on c l right r))

  -- and are sound again
  pub sound-on : sound_tables (step_on c l).0 ≡ true
  unfolding sound_tables
  sound-on =
      and_both
      (split (is_refused (step c (decoded l)).1)
      (λ r. ap lengths_are (refused-on c l right r) ∙ right)
      (λ r. ap lengths_are (accepted-on c l right r) ∙ long-encoded (step c (decoded l)).0 after-sound))
      (ap sound decoded-on ∙ after-sound)

-- ---- cleared tables

-- all zero: what clearing leaves of any tables of the right lengths
unfoldable pub cleared_tables : Lent
cleared_tables =
    lent (replicate process_table 0) (replicate thread_table 0) (replicate buffer_bytes 0) (replicate buffer_bytes 0)

-- a free slot is all zero
free-slot-bytes : bytes_of no_siginfo ≡ replicate record_bytes 0
unfolding bytes_of encode
free-slot-bytes = refl

-- the words and bytes of the cleared store are zero, row by row
pub encoded-cleared : encoded cleared ≡ cleared_tables
unfolding encoded cleared cleared_tables process_words_of thread_words_of slot_bytes
encoded-cleared =
    let p : flat process_to (replicate process_places free_process) ≡ replicate process_table 0 =
    flat-replicate process_to free_process process_words 0 free-process-words process_places in
    let t : flat thread_to (replicate thread_places free_thread) ≡ replicate thread_table 0 =
    flat-replicate thread_to free_thread thread_words 0 free-thread-words thread_places in
    let b : flat bytes_of (replicate buffer_records no_siginfo) ≡ replicate buffer_bytes 0 =
    flat-replicate bytes_of no_siginfo record_bytes 0 free-slot-bytes buffer_records in
    λ i. lent (p i) (t i) (b i) (b i)

pub decoded-cleared : decoded cleared_tables ≡ cleared
decoded-cleared = ap decoded (sym encoded-cleared) ∙ decoded-encoded cleared sound-cleared widths-cleared

pub sound-cleared_tables : sound_tables cleared_tables ≡ true
unfolding sound_tables
sound-cleared_tables =
    and_both (ap lengths_are (sym encoded-cleared) ∙ long-encoded cleared sound-cleared)
    (ap sound decoded-cleared ∙ sound-cleared)

-- what tables say has the right number of places, and clearing asks no more
pub clear-accepted : (l : Lent) → refusal_of (decoded l) clear ≡ 0
unfolding refusal_of table refusal fault is_clear rows
clear-accepted l = rw (places-right l)

-- clearing leaves all zero, whatever was there
pub clear-clears : (l : Lent) → lengths_are l ≡ true → (step_on clear l).0 ≡ cleared_tables
unfolding changes apply_all apply
clear-clears l h =
    let e = clear-accepted l in
    accepted-on clear l h (refused-by-table clear (decoded l) ∙ ap (λ n. not (eqb n 0)) e)
    ∙ ap encoded (accepted-step clear (decoded l) e)
    ∙ encoded-cleared
