-- What is next in a queue, and what a thread takes next, from what was read. Assumes nothing.
use Prim.Native.Nat.{ℕ, ◌<◌, ◌≤◌}
use mathlib.Core.Path.{◌≡◌, refl, sym, ap, ap₂, subst, ◌∙◌}
use mathlib.Core.Bool.{Bool, true, false}
use mathlib.Core.List.{List}
use mathlib.Core.Option.{some}
use native.Mathlib.Omega.{arith}
use lib.Dec.{eqb}
use lib.ListN.{length, get_or}
use borrow.Author.Tests.{eqb-true, ne_eqb, eq-eqb}
use Rattle.limits.specs.Limits.{record_bytes}
use Rattle.lists.specs.Lists.{find, first}
use Rattle.lists.specs.Rows.{row}
use Rattle.lists.proofs.Bools.{and-fst, and-snd, cond-true, cond-false}
use Rattle.lists.proofs.Lists.{first-none}
use Rattle.lists.proofs.Loops.{any-find, find_at, first-find, find-le}
use Rattle.lists.proofs.Finds.{absent-any}
use Rattle.sigset.specs.declared.SigSet.{SigSet}
use Rattle.sigset.specs.Set.{Signal, has, set_of}
use Rattle.sigset.proofs.Laws.{has-set, lowest_of-found}
use Rattle.types.specs.declared.Siginfo.{Siginfo}
use Rattle.types.specs.Values.{no_siginfo}
use Rattle.siginfo.specs.Bytes.{siginfo_of}
use Rattle.rules.specs.Types.{Thread, Queue, Next, no_next, next_record}
use Rattle.rules.specs.View.{View, process_queue, thread_queue, target_queue, queue_of, same_queue, in_queue}
use Rattle.rules.specs.View.{live_thread}
use Rattle.rules.specs.View.{the_thread, pending_in}
use Rattle.rules.specs.Store.{used, records_for, view}
use Rattle.rules.specs.Taking.{can_take_signal, next_signal, next_queue, next_in, next}
use Rattle.rules.proofs.Marks.{queue-same, thread-named}
use Rattle.queue.specs.Queue.{slots_of, records_of}
use Rattle.queue.proofs.Buffer.{record-read}
use Rattle.sound.specs.Lent.{Lent, decoded, view_of}
use Rattle.std.specs.Prelude.{Some, None}
use Rattle.types.specs.declared.Pending as declared
use Rattle.types.specs.declared.Pending.TheVariants as case
use Rattle.answers.specs.Answers.{next_from, next_of}
use Rattle.view.specs.Named.{thread_named}
use Rattle.next.specs.Nexts.{is_next_in}
use Rattle.view.proofs.Live.{own_is, shared-is}

-- ---- in one queue

-- a record of the queue and the signal names both
pub record-names : (q : Queue) (s : ℕ) (r : Siginfo) → in_queue q s r ≡ true
    → next_record (queue_of r) r.signal r ≡ next_record q s r
unfolding in_queue
record-names q s r e =
    ap₂ (λ (a : Queue) (n : ℕ). next_record a n r)
    (sym (queue-same q (queue_of r) (and-fst (same_queue q (queue_of r)) (eqb r.signal s) e)))
    (eqb-true r.signal s (and-snd (same_queue q (queue_of r)) (eqb r.signal s) e))

module _ (b : List ℕ) (q : Queue) (s k n : ℕ) (e : k ≡ find (in_queue q s) (records_of b))
    (m : n ≡ length (records_of b)) where
  pub record-next : k < n → (r : Siginfo) → r ≡ siginfo_of (row record_bytes b k)
      → is_next_in q s (records_of b) (case.Record r)
  unfolding next_from next_in
  record-next h r f v =
      let i : find (in_queue q s) (records_of b) < length (records_of b) = omega (arith, e, m) in
      let at : get_or (records_of b) (find (in_queue q s) (records_of b)) no_siginfo ≡ r =
      ap (λ (j : ℕ). get_or (records_of b) j no_siginfo) (sym e) ∙ record-read b k no_siginfo (omega (arith, m))
      ∙ sym f in
      record-names q s r (ap (in_queue q s) (sym at) ∙ find_at (in_queue q s) no_siginfo (records_of b) i)
      ∙ sym (ap (next_in v q s)
      (first-find (in_queue q s) no_siginfo (records_of b) (any-find (in_queue q s) no_siginfo (records_of b) i)
      ∙ ap some at))

  pub mark-next : n ≤ k → is_next_in q s (records_of b) (case.Mark q.process q.thread s)
  unfolding next_from next_in
  mark-next h v =
      let i : k ≡ n = omega (arith, e, m, find-le (in_queue q s) (records_of b)) in
      sym (ap (next_in v q s)
      (first-none (in_queue q s) (records_of b) (absent-any (in_queue q s) no_siginfo (records_of b) n k (sym m) e i)))

-- the buffer that has the queue
module _ (l : Lent) (p : ℕ) where
  pub oldest-own : (t s : ℕ) → eqb t 0 ≡ false
      → first (in_queue (target_queue p t) s) (records_of l.thread_buffer) ≡ (view_of l).oldest (target_queue p t) s
  unfolding view decoded records_for records_of
  oldest-own t s n =
      ap (λ (x : List Siginfo). first (in_queue (target_queue p t) s) (used x))
      (sym (cond-false (slots_of l.process_buffer) (slots_of l.thread_buffer) n))

  pub oldest-shared : (s : ℕ)
      → first (in_queue (target_queue p 0) s) (records_of l.process_buffer) ≡ (view_of l).oldest (target_queue p 0) s
  unfolding view decoded records_for records_of
  oldest-shared s = refl

-- ---- of a thread

-- where something is
abbrev in-queue : View → Thread → Next
in-queue v th =
    next_in v (next_queue v th (next_signal v th)) (next_signal v th)
    (v.oldest (next_queue v th (next_signal v th)) (next_signal v th))

module _ (v : View) (th : Thread) (s : ℕ) (e : s ≡ next_signal v th) where
  pub nothing-next : s ≡ 0 → next_of None ≡ next v th
  unfolding next_of next
  nothing-next z = rw (eq-eqb (next_signal v th) 0 (sym e ∙ z))

  module _ (n : (s ≡ 0 → ⊥)) where
    pub next-is-signal : Signal s
    unfolding next_signal
    next-is-signal = subst Signal (sym e) (lowest_of-found (can_take_signal v th) (λ z. n (e ∙ z))).0

    pub next-from : (q : Queue) → next_queue v th s ≡ q → next_in v q s (v.oldest q s) ≡ next v th
    unfolding next
    next-from q h =
        ap (λ (a : Queue). next_in v a s (v.oldest a s)) (sym h)
        ∙ ap (λ (x : ℕ). next_in v (next_queue v th x) x (v.oldest (next_queue v th x) x)) e
        ∙ sym (cond-false no_next (in-queue v th) (ne_eqb (next_signal v th) 0 (λ z. n (e ∙ z))))

module _ (l : Lent) (t p s : ℕ) (live : live_thread (view_of l) t ≡ true) (o : p ≡ (thread_named l.threads t).process)
    (e : s ≡ next_signal (view_of l) (the_thread (view_of l) t)) (n : (s ≡ 0 → ⊥)) (r : declared.Pending) where
  module _ (own : SigSet) (b : Bool) (h : own ≡ set_of (pending_in (view_of l) (target_queue p t)))
      (k : b ≡ has own s) where
    pends : pending_in (view_of l) (thread_queue (the_thread (view_of l) t)) s ≡ b
    pends =
        ap (λ (q : Queue). pending_in (view_of l) q s) (own_is l t p o live)
        ∙ sym
        (k ∙ ap (λ (x : SigSet). has x s) h
        ∙ has-set (pending_in (view_of l) (target_queue p t)) s
        (next-is-signal (view_of l) (the_thread (view_of l) t) s e n))

    queue-own : b ≡ true → next_queue (view_of l) (the_thread (view_of l) t) s ≡ target_queue p t
    unfolding next_queue
    queue-own y =
        cond-true (thread_queue (the_thread (view_of l) t)) (process_queue (the_thread (view_of l) t).process)
        (pends ∙ y)
        ∙ own_is l t p o live

    queue-shared : b ≡ false → next_queue (view_of l) (the_thread (view_of l) t) s ≡ target_queue p 0
    unfolding next_queue
    queue-shared y =
        cond-false (thread_queue (the_thread (view_of l) t)) (process_queue (the_thread (view_of l) t).process)
        (pends ∙ y)
        ∙ shared-is l t p o

    pub own-next : b ≡ true → is_next_in (target_queue p t) s (records_of l.thread_buffer) r
        → next_of (Some r) ≡ next (view_of l) (the_thread (view_of l) t)
    unfolding next_of
    own-next y f =
        f (view_of l) ∙ ap (next_in (view_of l) (target_queue p t) s)
        (oldest-own l p t s (thread-named (decoded l) t live))
        ∙ next-from (view_of l) (the_thread (view_of l) t) s e n (target_queue p t) (queue-own y)

    pub shared-next : b ≡ false → is_next_in (target_queue p 0) s (records_of l.process_buffer) r
        → next_of (Some r) ≡ next (view_of l) (the_thread (view_of l) t)
    unfolding next_of
    shared-next y f =
        f (view_of l) ∙ ap (next_in (view_of l) (target_queue p 0) s) (oldest-shared l p s)
        ∙ next-from (view_of l) (the_thread (view_of l) t) s e n (target_queue p 0) (queue-shared y)
