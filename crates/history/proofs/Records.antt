-- The records of a queue and a signal after each change of the buffers. Assumes nothing.
use Prim.Native.Nat.{ℕ}
use mathlib.Core.Path.{◌≡◌, refl, sym, ap, ap₂, ◌∙◌, subst}
use mathlib.Core.Bool.{Bool, true, false, not, ◌&&◌, cond}
use mathlib.Core.List.{List, [], ◌∷◌, ◌++◌, tail, append-nil}
use lib.Dec.{eqb}
use borrow.Author.Tests.{eqb-true}
use Rattle.limits.specs.Limits.{si_queue}
use Rattle.lists.specs.Lists.{all, keep, drop_first}
use Rattle.lists.proofs.Bools.{split, and-fst, and-snd}
use Rattle.lists.proofs.Lists.{keep-yes, keep-no, keep_append, keep_all, keep-none, keep-drop_first}
use Rattle.lists.proofs.Lists.{keep-drop_first-other, all_end}
use Rattle.lists.proofs.Sublists.{Within, drop_first-within}
use Rattle.types.specs.declared.Siginfo.{Siginfo}
use Rattle.rules.specs.Types.{Queue}
use Rattle.rules.specs.View.{append, drop_oldest, same_queue, queue_of, in_queue}
use Rattle.rules.specs.Store.{Store, view, in_use, used, records_for, on_slots, apply}
use Rattle.rules.specs.Fitting.{admits, fits}
use Rattle.rules.proofs.PendingSound.{admitted}
use Rattle.rules.proofs.Marks.{queue-same, process-named}
use Rattle.rules.proofs.Slots.{used-in_use, used-after, used-within, in_use-within}
use Rattle.queue.proofs.Signals.{eqb_comm}
use Rattle.history.specs.Ledger.{is_at}

-- ---- a record of a queue and a signal

module _ (q : Queue) (s : ℕ) (r : Siginfo) (e : in_queue q s r ≡ true) where
  pub of-queue : queue_of r ≡ q
  unfolding in_queue
  of-queue = sym (queue-same q (queue_of r) (and-fst (same_queue q (queue_of r)) (eqb r.signal s) e))

  pub of-signal : r.signal ≡ s
  unfolding in_queue
  of-signal = eqb-true r.signal s (and-snd (same_queue q (queue_of r)) (eqb r.signal s) e)

pub at-queue : (q q' : Queue) (s s' : ℕ) → is_at q s q' s' ≡ true → q' ≡ q
at-queue q q' s s' e = queue-same q' q (and-fst (same_queue q' q) (eqb s' s) e)

pub at-signal : (q q' : Queue) (s s' : ℕ) → is_at q s q' s' ≡ true → s' ≡ s
at-signal q q' s s' e = eqb-true s' s (and-snd (same_queue q' q) (eqb s' s) e)

-- ---- both buffers lose the records that a test of queues and signals names

module _ (p : Queue → ℕ → Bool) (left : Siginfo → Bool)
    (h : (r : Siginfo) → left r ≡ not (p (queue_of r) r.signal)) where
  left_here : (q : Queue) (s : ℕ) (r : Siginfo) → in_queue q s r ≡ true → left r ≡ not (p q s)
  left_here q s r e = h r ∙ ap₂ (λ (a : Queue) (b : ℕ). not (p a b)) (of-queue q s r e) (of-signal q s r e)

  pub keep_left : (q : Queue) (s : ℕ) (rs : List Siginfo)
      → keep (in_queue q s) (keep left rs) ≡ cond (p q s) [] (keep (in_queue q s) rs)
  keep_left q s rs =
      split (p q s)
      (λ e. rw e (keep-none (in_queue q s) left (λ r i. left_here q s r i ∙ ap not e) rs))
      (λ e. rw e (keep_all (in_queue q s) left (λ r i. left_here q s r i ∙ ap not e) rs))

-- the buffer that has a queue, where both change alike
pub both-buffers : (g : List Siginfo → List Siginfo) → ((rs : List Siginfo) → Within (g rs) rs)
    → (b : Bool) (pb tb : List Siginfo)
    → used (cond b (on_slots g pb) (on_slots g tb)) ≡ g (used (cond b pb tb))
both-buffers g w true pb tb = used-within g w pb
both-buffers g w false pb tb = used-within g w tb

-- ---- one buffer changes

module _ (g : List Siginfo → List Siginfo) (u : (slots : List Siginfo) → all in_use (g (used slots)) ≡ true)
    (pb tb : List Siginfo) where
  -- b: the queue that is read is a process's; c: the queue that changes is
  abbrev buffer_of : Bool → Bool → List Siginfo
  buffer_of b c = cond b (cond c (on_slots g pb) pb) (cond c tb (on_slots g tb))

  same-buffer : (b : Bool) → used (buffer_of b b) ≡ g (used (cond b pb tb))
  same-buffer true = used-after g pb (u pb)
  same-buffer false = used-after g tb (u tb)

  -- what does not see the change
  other-buffer : (f : List Siginfo → List Siginfo) → ((rs : List Siginfo) → f (g rs) ≡ f rs) → (b c : Bool)
      → f (used (buffer_of b c)) ≡ f (used (cond b pb tb))
  other-buffer f h true true = ap f (used-after g pb (u pb)) ∙ h (used pb)
  other-buffer f h true false = refl
  other-buffer f h false true = refl
  other-buffer f h false false = ap f (used-after g tb (u tb)) ∙ h (used tb)

-- a record that fits names a live process
pub fitting-used : (st : Store) (r : Siginfo) → fits (view st) (append r) ≡ true → in_use r ≡ true
unfolding fits in_use
fitting-used st r f =
    let a : admits (view st) (queue_of r) r.signal ≡ true =
    and-fst (admits (view st) (queue_of r) r.signal) _ (and-snd (eqb r.code si_queue) _ f) in
    ap not (process-named st r.process (admitted st (queue_of r) r.signal a).process)

-- a record at the end
module _ (r : Siginfo) (n : in_use r ≡ true) (st : Store) where
  abbrev added : List Siginfo → List Siginfo
  added rs = rs ++ (r ∷ [])

  added-in_use : (slots : List Siginfo) → all in_use (added (used slots)) ≡ true
  added-in_use slots = all_end in_use (used slots) r (used-in_use slots) n

  pub append-records : (q : Queue) (s : ℕ)
      → keep (in_queue q s) (records_for q (apply (append r) st))
      ≡ cond (in_queue q s r) (keep (in_queue q s) (records_for q st) ++ (r ∷ []))
      (keep (in_queue q s) (records_for q st))
  unfolding records_for apply keep
  append-records q s =
      split (in_queue q s r)
      (λ e.
      rw e
      (ap (keep (in_queue q s))
      (subst (λ (k : Queue).
      used (buffer_of added added-in_use st.process_buffer st.thread_buffer (eqb q.thread 0) (eqb k.thread 0))
      ≡ added (used (cond (eqb q.thread 0) st.process_buffer st.thread_buffer)))
      (sym (of-queue q s r e))
      (same-buffer added added-in_use st.process_buffer st.thread_buffer (eqb q.thread 0)))
      ∙ keep_append (in_queue q s) (used (cond (eqb q.thread 0) st.process_buffer st.thread_buffer)) (r ∷ [])
      ∙ ap (λ (x : List Siginfo).
      keep (in_queue q s) (used (cond (eqb q.thread 0) st.process_buffer st.thread_buffer)) ++ x)
      (keep-yes (in_queue q s) r [] e)))
      (λ e.
      rw e
      (other-buffer added added-in_use st.process_buffer st.thread_buffer (keep (in_queue q s))
      (λ rs. keep_append (in_queue q s) rs (r ∷ [])
      ∙ ap (λ (x : List Siginfo). keep (in_queue q s) rs ++ x) (keep-no (in_queue q s) r [] e)
      ∙ append-nil (keep (in_queue q s) rs))
      (eqb q.thread 0) (eqb r.thread 0)))

-- the oldest goes
module _ (q : Queue) (s : ℕ) (st : Store) where
  abbrev rest : List Siginfo → List Siginfo
  rest = drop_first (in_queue q s)

  rest-in_use : (slots : List Siginfo) → all in_use (rest (used slots)) ≡ true
  rest-in_use = in_use-within rest (drop_first-within (in_queue q s))

  apart : (q' : Queue) (s' : ℕ) (r : Siginfo) → is_at q s q' s' ≡ false → in_queue q s r ≡ true → in_queue q' s' r
      ≡ false
  unfolding in_queue
  apart q' s' r e i =
      ap₂ (λ (a : Queue) (b : ℕ). same_queue q' a && eqb b s') (of-queue q s r i) (of-signal q s r i)
      ∙ ap (λ (b : Bool). same_queue q' q && b) (eqb_comm s s') ∙ e

  pub drop-records : (q' : Queue) (s' : ℕ)
      → keep (in_queue q' s') (records_for q' (apply (drop_oldest q s) st))
      ≡ cond (is_at q s q' s') (tail (keep (in_queue q' s') (records_for q' st)))
      (keep (in_queue q' s') (records_for q' st))
  unfolding records_for apply
  drop-records q' s' =
      split (is_at q s q' s')
      (λ e.
      rw e
      (subst (λ (k : Queue). keep (in_queue k s')
      (used (buffer_of rest rest-in_use st.process_buffer st.thread_buffer (eqb k.thread 0) (eqb q.thread 0)))
      ≡ tail (keep (in_queue k s') (used (cond (eqb k.thread 0) st.process_buffer st.thread_buffer))))
      (sym (at-queue q q' s s' e))
      (subst (λ (n : ℕ). keep (in_queue q n)
      (used (buffer_of rest rest-in_use st.process_buffer st.thread_buffer (eqb q.thread 0) (eqb q.thread 0)))
      ≡ tail (keep (in_queue q n) (used (cond (eqb q.thread 0) st.process_buffer st.thread_buffer))))
      (sym (at-signal q q' s s' e))
      (ap (keep (in_queue q s)) (same-buffer rest rest-in_use st.process_buffer st.thread_buffer (eqb q.thread 0))
      ∙ keep-drop_first (in_queue q s) _))))
      (λ e.
      rw e
      (other-buffer rest rest-in_use st.process_buffer st.thread_buffer (keep (in_queue q' s'))
      (keep-drop_first-other (in_queue q s) (in_queue q' s') (λ r i. apart q' s' r e i))
      (eqb q'.thread 0) (eqb q.thread 0)))
