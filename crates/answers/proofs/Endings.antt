-- How a call ends: refused, or accepted with the tables that the rules' changes leave.
-- One law for every call. Assumes nothing.
use Prim.Native.Nat.{ℕ}
use mathlib.Core.Path.{◌≡◌, refl, sym, ap, ◌∙◌}
use mathlib.Core.Bool.{Bool, true, false, cond, true≢false}
use mathlib.Core.List.{List, []}
use Rattle.std.specs.Prelude.{Result, Ok, Err, is_err, IsErrAnd}
use Rattle.std.proofs.lemmas.Result.{err_from_is_err_and}
use lib.Dec.{eqb}
use Rattle.limits.specs.Limits.{EFAULT}
use Rattle.lists.specs.Lists.{All}
use Rattle.lists.proofs.Bools.{split, clash, and_both}
use Rattle.siginfo.specs.Bytes.{Bytes}
use Rattle.types.specs.declared.Reply.{Reply}
use Rattle.types.specs.declared.Errno.{Errno}
use Rattle.types.specs.declared.Errno.TheVariants as errno
use Rattle.types.specs.Answers.{Answer, Refused, Accepted, number, answer_of, refused_by}
use Rattle.rules.specs.Types.{Call}
use Rattle.rules.specs.View.{Change}
use Rattle.rules.specs.Store.{apply_all}
use Rattle.rules.specs.Sound.{sound, lengths_right}
use Rattle.rules.specs.Refusals.{Row, refusal, rows, is_clear, fault, table, refusal_of}
use Rattle.rules.specs.Calls.{changes, reply, stages, run_stages, finish, step, is_refused}
use Rattle.rules.proofs.RefusalTable.{Off, accepted-off, accepted-sound}
use Rattle.rules.proofs.Refused.{refused-number}
use Rattle.rules.proofs.ClausesByTable.{lengths-by}
use Rattle.tables.specs.Tables.{processes_of, threads_of, process_words_of, thread_words_of}
use Rattle.tables.proofs.Words.{length-processes_of, length-threads_of, all-actions_long, words_back, thread-words-back}
use Rattle.queue.proofs.Buffer.{length-slots_of, buffer-is}
use Rattle.sound.specs.Lent.{Lent, lent, decoded, view_of, lengths_are, sound_tables}
use Rattle.sound.proofs.Facts.{AsLong, as_long, right-processes, right-threads, right-thread-buffer}
use Rattle.sound.proofs.Facts.{right-process-buffer}
use Rattle.answers.specs.Step.{encoded, refusal_on, rows_on, committed, step_on}

-- ---- words and bytes are determined by what they say

pub words_of : (l : Lent) → lengths_are l ≡ true → Bytes l.thread_buffer → Bytes l.process_buffer
    → encoded (decoded l) ≡ l
unfolding encoded decoded
words_of l e bt bp =
    let a : process_words_of (processes_of l.processes) ≡ l.processes =
    words_back l.processes (right-processes l e) in
    let b : thread_words_of (threads_of l.threads) ≡ l.threads =
    thread-words-back l.threads (right-threads l e) in
    let c = buffer-is l.thread_buffer (right-thread-buffer l e) bt in
    let d = buffer-is l.process_buffer (right-process-buffer l e) bp in
    λ i. lent (a i) (b i) (sym c i) (sym d i)

-- ---- errno 14: the tables' lengths, and the store's soundness but for clearing

-- what the tables say has the right number of places and slots, whatever they hold
pub places-right : (l : Lent) → lengths_right (decoded l) ≡ true
unfolding decoded
places-right l =
    lengths-by (decoded l)
    (record {
      processes = length-processes_of l.processes;
      actions = all-actions_long l.processes;
      threads = length-threads_of l.threads;
      thread_slots = length-slots_of l.thread_buffer;
      process_slots = length-slots_of l.process_buffer;
    })

-- ---- the rows in order, as code tries them

pub rows-fault : (rs : List Row) (l : Lent) → sound_tables l ≡ false → EFAULT ≡ rows_on rs l
unfolding rows_on
rows-fault rs l e = rw e

pub rows-sound : (rs : List Row) (l : Lent) → sound_tables l ≡ true → (n : ℕ) → n ≡ refusal rs → n ≡ rows_on rs l
unfolding rows_on
rows-sound rs l e n h = rw e h

module _ (c : Call) (l : Lent) where
  -- of a call other than clearing
  pub rows-given : is_clear c ≡ false → refusal_on c l ≡ rows_on (rows (view_of l) c) l
  unfolding refusal_on rows_on sound_tables refusal_of table refusal fault
  rows-given k = split (lengths_are l) (λ a. rw (a, k) (split (sound (decoded l)) (λ s. rw s) (λ s. rw s))) (λ a. rw a)

  pub accepted-long : refusal_on c l ≡ 0 → lengths_are l ≡ true
  unfolding refusal_on
  accepted-long e =
      split (lengths_are l) (λ a. a) (λ a.
      clash (ap (λ (n : ℕ). eqb n 0) (sym (ap (λ (b : Bool). cond b (refusal_of (decoded l) c) EFAULT) a) ∙ e)) refl)

  pub accepted-rules : refusal_on c l ≡ 0 → refusal_of (decoded l) c ≡ 0
  unfolding refusal_on
  accepted-rules e = sym (ap (λ (b : Bool). cond b (refusal_of (decoded l) c) EFAULT) (accepted-long e)) ∙ e

  pub accepted-tables-sound : is_clear c ≡ false → refusal_on c l ≡ 0 → sound_tables l ≡ true
  unfolding sound_tables
  accepted-tables-sound k e = and_both (accepted-long e) (accepted-sound (decoded l) c k (accepted-rules e))

  -- no row below 14 applies
  pub accepted-rows : refusal_on c l ≡ 0 → All Off (rows (view_of l) c)
  unfolding table
  accepted-rows e = (accepted-off (decoded l) c (accepted-rules e)).1

  -- ---- refused

  module _ (n : (refusal_on c l ≡ 0 → ⊥)) where
    refused-step : step_on c l ≡ (l, Refused (refusal_on c l))
    unfolding step_on committed refusal_on is_refused
    refused-step =
        split (lengths_are l)
        (λ a.
        let r : refusal_on c l ≡ refusal_of (decoded l) c =
        ap (λ (b : Bool). cond b (refusal_of (decoded l) c) EFAULT) a in
        let s : (step c (decoded l)).1 ≡ Refused (refusal_of (decoded l) c) = refused-number c (decoded l)
        (λ z. n (r ∙ z)) in
        rw (a, s))
        (λ a. rw a)

    pub refused-tables : l ≡ (step_on c l).0
    refused-tables = sym (ap (λ x. x.0) refused-step)

    pub refused-answer : Refused (refusal_on c l) ≡ (step_on c l).1
    refused-answer = sym (ap (λ x. x.1) refused-step)

  -- ---- accepted

  module _ (e : refusal_on c l ≡ 0) where
    step_is : step c (decoded l) ≡ (apply_all (changes (view_of l) c) (decoded l), Accepted (reply (view_of l) c))
    unfolding step finish stages run_stages
    step_is = ap (λ (n : ℕ). finish n c (decoded l)) (accepted-rules e)

    pub accepted-step : step_on c l
        ≡ (encoded (apply_all (changes (view_of l) c) (decoded l)), Accepted (reply (view_of l) c))
    unfolding step_on committed is_refused
    accepted-step = rw (accepted-long e, step_is)

    -- the tables after it, from what they say
    pub tables_after : (m : Lent) → lengths_are m ≡ true → Bytes m.thread_buffer → Bytes m.process_buffer
        → decoded m ≡ apply_all (changes (view_of l) c) (decoded l) → m ≡ (step_on c l).0
    tables_after m a bt bp h = sym (words_of m a bt bp) ∙ ap encoded h ∙ sym (ap (λ x. x.0) accepted-step)

    -- a call that changes nothing
    pub tables-same : Bytes l.thread_buffer → Bytes l.process_buffer → changes (view_of l) c ≡ [] → l ≡ (step_on c l).0
    unfolding apply_all
    tables-same bt bp h =
        tables_after l (accepted-long e) bt bp (sym (ap (λ (cs : List Change). apply_all cs (decoded l)) h))

    -- of a call that only answers, all there is to show
    pub answer-after : (a : Reply) → a ≡ reply (view_of l) c → Accepted a ≡ (step_on c l).1
    answer-after a h = ap Accepted h ∙ sym (ap (λ x. x.1) accepted-step)

-- ---- both, the tables and the answer

-- the parts of what a call promises
pub tables-of : {m : Lent} {a : Answer} {s : Lent × Answer} → (m, a) ≡ s → m ≡ s.0
tables-of e = ap (λ x. x.0) e

pub answer-of : {m : Lent} {a : Answer} {s : Lent × Answer} → (m, a) ≡ s → a ≡ s.1
answer-of e = ap (λ x. x.1) e

-- ---- by what code hands back

-- no errno has the number 0
pub number-some : (e : Errno) → number e ≡ 0 → ⊥
number-some errno.EPERM h = clash (ap (λ (n : ℕ). eqb n 0) h) refl
number-some errno.ESRCH h = clash (ap (λ (n : ℕ). eqb n 0) h) refl
number-some errno.EAGAIN h = clash (ap (λ (n : ℕ). eqb n 0) h) refl
number-some errno.EFAULT h = clash (ap (λ (n : ℕ). eqb n 0) h) refl
number-some errno.EEXIST h = clash (ap (λ (n : ℕ). eqb n 0) h) refl
number-some errno.EINVAL h = clash (ap (λ (n : ℕ). eqb n 0) h) refl

pub err-number : {A : Type 0} (r : Result A Errno) → is_err r ≡ true → refused_by r ≡ 0 → ⊥
err-number (Ok a) e z = absurd (true≢false (sym e))
err-number (Err x) e z = number-some x z

pub ok-number : {A : Type 0} (r : Result A Errno) → is_err r ≡ false → refused_by r ≡ 0
ok-number (Ok a) e = refl
ok-number (Err x) e = absurd (true≢false e)

module _ (c : Call) (l : Lent) where
  -- by the number that code has of the refusal
  pub refused-ends : (n : ℕ) → n ≡ refusal_on c l → (n ≡ 0 → ⊥) → (l, Refused n) ≡ step_on c l
  refused-ends n r z =
      let k : refusal_on c l ≡ 0 → ⊥ = λ e. z (r ∙ e) in
      λ i. (refused-tables c l k i, (ap Refused r ∙ refused-answer c l k) i)

  -- by the check that code makes before anything else
  module _ {A : Type 0} (r : Result A Errno) (h : refused_by r ≡ refusal_on c l) where
    -- `?` hands its refusal back
    pub turned-away : (z : Result Reply Errno) (e : Errno) → r ≡ Err e → IsErrAnd z (λ d. d ≡ e)
        → (l, answer_of z) ≡ step_on c l
    turned-away z e k g =
        let p = err_from_is_err_and z g in
        ap (λ x. (l, answer_of x)) (p.1 ∙ ap Err p.2) ∙ refused-ends (number e) (ap refused_by (sym k) ∙ h)
        (number-some e)

    pub let-through : {a : A} → r ≡ Ok a → refusal_on c l ≡ 0
    let-through k = sym h ∙ ap refused_by k

  module _ (e : refusal_on c l ≡ 0) (a : Reply) (h : a ≡ reply (view_of l) c) where
    pub same_ends : Bytes l.thread_buffer → Bytes l.process_buffer → changes (view_of l) c ≡ []
        → (l, Accepted a) ≡ step_on c l
    same_ends bt bp k = λ i. (tables-same c l e bt bp k i, answer-after c l e a h i)

    pub accepted-ends : (m : Lent) → AsLong l m → Bytes m.thread_buffer → Bytes m.process_buffer
        → decoded m ≡ apply_all (changes (view_of l) c) (decoded l) → (m, Accepted a) ≡ step_on c l
    accepted-ends m s bt bp k =
        λ i. (tables_after c l e m (as_long l m s (accepted-long c l e)) bt bp k i, answer-after c l e a h i)
