-- A call on the words of the records is the call on the records: what the host holds after it, and what is returned.
-- Assumes nothing.
use Prim.Native.Nat.{ℕ}
use mathlib.Core.Path.{◌≡◌, refl, sym, ap, subst, ◌∙◌}
use mathlib.Core.Bool.{cond, ◌||◌}
use mathlib.Core.List.{List}
use mathlib.Core.Option.{some}
use lib.Dec.{eqb}
use lib.ListN.{length}
use borrow.Author.Tests.{eqb-true, eqb-false}
use Rattle.limits.specs.Limits.{EFAULT, EINVAL, thread_places, call_sigmask, call_sigreturn, sig_setmask}
use Rattle.lists.proofs.Bools.{split, or_cases, cond-true, cond-false}
use Rattle.sigset.specs.Set.{bits}
use Rattle.types.specs.Answers.{Answer}
use Rattle.types.specs.Answers.{Refused}
use Rattle.rules.specs.Types.{Call}
use Rattle.sound.specs.Lent.{Lent, lent}
use Rattle.answers.specs.Step.{refusal_on, step_on}
use Rattle.answers.proofs.Endings.{accepted-step, refused-tables}
use Rattle.masks.proofs.Masks.{return-is}
use Rattle.boundary.specs.declared.Arguments.{Arguments}
use Rattle.boundary.specs.Boundary.{where_given, calls_of, numbered, errno_of, usable, accepted, serve_on}
use Rattle.boundary.specs.Boundary.{Served, served_by, served}
use Rattle.threads.specs.declared.Thread.{Thread}
use Rattle.threads.specs.Records.{with_mask_at, words_of, records_of}
use Rattle.threads.proofs.Words.{records-back}
use Rattle.rrezhbuta.specs.Entry.{Host, host, lent_by, handed_back, call_on, mask_in, row_after}
use Rattle.rrezhbuta.proofs.MaskChanges.{mask-row, row_same}

-- ---- refused: the tables are as they were

step_kept : (c : Call) (l : Lent) → (errno_of (step_on c l).1 ≡ 0 → ⊥) → l ≡ (step_on c l).0
unfolding errno_of
step_kept c l n =
    split (eqb (refusal_on c l) 0)
    (λ a. absurd (n (ap (λ (x : Lent × Answer). errno_of x.1) (accepted-step c l (eqb-true (refusal_on c l) 0 a)))))
    (λ r. refused-tables c l (eqb-false (refusal_on c l) 0 r))

module _ (h : Host) (g : Arguments) (number : ℕ) where
  abbrev after : Lent × Answer
  after = serve_on number g (length h.answer) (lent_by h)

  abbrev answered : Lent × Answer
  answered = step_on (numbered number g) (lent_by h)

  abbrev turned : Lent × Answer
  turned = (lent_by h, Refused (cond (usable number (lent_by h)) EINVAL EFAULT))

  -- the call, or none
  served-by {ℓ} : (P : Lent × Answer → Type ℓ) → P answered → P turned → P after
  unfolding serve_on
  served-by P p q =
      split (accepted number (length h.answer))
      (λ t. subst P (sym (cond-true answered turned t)) p) (λ t. subst P (sym (cond-false answered turned t)) q)

  served-kept : (errno_of after.1 ≡ 0 → ⊥) → lent_by h ≡ after.0
  served-kept =
      served-by (λ o. (errno_of o.1 ≡ 0 → ⊥) → lent_by h ≡ o.0) (step_kept (numbered number g) (lent_by h)) (λ n. refl)

-- ---- of a mask call, and of a return from a handler, one mask is changed at most

module _ (h : Host) (g : Arguments) (n : length h.threads ≡ thread_places) where
  -- the row after the call is the row before it, with the mask that the thread then has
  Row : Lent × Answer → Type 0
  Row o =
      with_mask_at g.a (mask_in o.0.threads g.a) h.threads ≡ records_of (length h.threads) o.0.threads

  mask-served : Row (after h g call_sigmask)
  unfolding Row numbered calls_of
  mask-served =
      served-by h g call_sigmask Row
      (mask-row h.processes h.thread_buffer h.process_buffer h.threads n g.a g.b
      (where_given g.c (bits g.x)))
      (row_same h.threads n g.a)

  return-served : Row (after h g call_sigreturn)
  unfolding Row numbered calls_of
  return-served =
      served-by h g call_sigreturn Row
      (subst Row (return-is (lent_by h) g.a (bits g.x))
      (mask-row h.processes h.thread_buffer h.process_buffer h.threads n g.a sig_setmask
      (some (bits g.x))))
      (row_same h.threads n g.a)

  -- so the row that is handed back is the one of the words
  row-served : (number : ℕ) → row_after number g.a (after h g number).0.threads h.threads
      ≡ records_of (length h.threads) (after h g number).0.threads
  unfolding row_after Row
  row-served number =
      let ws = (after h g number).0.threads in
      split (eqb number call_sigmask || eqb number call_sigreturn)
      (λ t. cond-true (with_mask_at g.a (mask_in ws g.a) h.threads) (records_of thread_places ws) t
      ∙ or_cases (eqb number call_sigmask) (eqb number call_sigreturn) t
      (λ e. subst (λ (k : ℕ). Row (after h g k)) (sym (eqb-true number call_sigmask e)) mask-served)
      (λ e. subst (λ (k : ℕ). Row (after h g k)) (sym (eqb-true number call_sigreturn e)) return-served))
      (λ t. cond-false (with_mask_at g.a (mask_in ws g.a) h.threads) (records_of thread_places ws) t
      ∙ ap (λ (i : ℕ). records_of i ws) (sym n))

-- ---- what code does by what the call on words promises

module _ (number : ℕ) (g : Arguments) (h : Host) (n : length h.threads ≡ thread_places) (s : Served)
    (e : s ≡ served number g h.answer
    (lent h.processes (words_of h.threads) h.thread_buffer h.process_buffer)) where
  handed : (rs : List Thread) → rs ≡ records_of (length h.threads) s.tables.threads
      → (host s.tables.processes s.tables.thread_buffer s.tables.process_buffer s.words rs, s.errno)
      ≡ call_on number g h
  unfolding call_on handed_back
  handed rs k =
      ap (λ (us : List Thread).
      (host s.tables.processes s.tables.thread_buffer s.tables.process_buffer s.words us, s.errno)) k
      ∙ ap (handed_back (length h.threads)) e

  is-after : s.tables ≡ (after h g number).0
  unfolding served served_by
  is-after = ap (λ (x : Served). x.tables) e

  -- the row that `hand_back` leaves
  pub worked : (rs : List Thread) → rs ≡ row_after number g.a s.tables.threads h.threads
      → (host s.tables.processes s.tables.thread_buffer s.tables.process_buffer s.words rs, s.errno)
      ≡ call_on number g h
  worked rs k =
      handed rs
      (k ∙ subst (λ (l : Lent). row_after number g.a l.threads h.threads
      ≡ records_of (length h.threads) l.threads) (sym is-after) (row-served h g n number))

  -- a refusal, where the row stays
  pub refused : (s.errno ≡ 0 → ⊥)
      → (
        host s.tables.processes s.tables.thread_buffer s.tables.process_buffer s.words h.threads,
        s.errno,
      )
      ≡ call_on number g h
  unfolding served served_by
  refused f =
      handed h.threads
      (sym (records-back h.threads)
      ∙ ap (λ (l : Lent). records_of (length h.threads) l.threads)
      (served-kept h g number (λ z. f (ap (λ (x : Served). x.errno) e ∙ z)) ∙ sym is-after))
