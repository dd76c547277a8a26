-- What all places have, the place that is looked for has. Assumes nothing.
use Prim.Native.Nat.{ℕ, ◌≤◌}
use mathlib.Core.Path.{◌≡◌, sym, ap, ap₂, ◌∙◌}
use mathlib.Core.Bool.{Bool, true, false, not}
use mathlib.Core.List.{List, map}
use native.Mathlib.Omega.{arith}
use lib.Dec.{eqb}
use borrow.Author.Tests.{eqb-true, not-true}
use Rattle.limits.specs.Limits.{signals}
use Rattle.lists.specs.Lists.{all, count, find, range}
use Rattle.lists.proofs.Bools.{split, clash, and-fst, and-snd, imp_use, imp-by}
use Rattle.lists.proofs.Lists.{Pass, Fail, All-imp, all-All, All-all, All-any, all_get_d, none-count}
use Rattle.lists.proofs.Loops.{all-at, All-range, All-range-at}
use Rattle.sigset.specs.declared.SigSet.{SigSet}
use Rattle.sigset.specs.Set.{has, bits}
use Rattle.types.specs.declared.Action.{Action}
use Rattle.types.specs.declared.Siginfo.{Siginfo}
use Rattle.types.specs.Values.{default_action}
use Rattle.rules.specs.Types.{Process, Thread}
use Rattle.rules.specs.Signals.{is_signal, ignored}
use Rattle.rules.specs.View.{is_process, is_thread, queue_of, live_process, live_thread}
use Rattle.rules.specs.Store.{Place, Store, held, free_process, free_thread, of_process, mark_in, view}
use Rattle.rules.specs.Sound.{if_live, is_live, process_id, thread_id, is_default, is_standard, not_marked_too}
use Rattle.rules.specs.Sound.{mark_not_ignored, marks_not_ignored}
use Rattle.rules.proofs.Marks.{process_with, thread_with, process-below, thread-below, process-is, thread-is}
use Rattle.rules.proofs.Marks.{process-named, thread-named}
use Rattle.rules.proofs.Signals.{is-signal, signal-is}

-- ---- single values

abbrev action_with : (handler flags mask : ℕ) → Action
action_with h f m = record { handler = h; flags = f; mask = bits m }

pub default-is : (a : Action) → is_default a ≡ true → a ≡ default_action
unfolding is_default
default-is a e =
    let e1 = and-snd (eqb a.handler 0) _ e in
    let h : a.handler ≡ 0 = eqb-true a.handler 0 (and-fst (eqb a.handler 0) _ e) in
    let f : a.flags ≡ 0 = eqb-true a.flags 0 (and-fst (eqb a.flags 0) _ e1) in
    let m : a.mask.0 ≡ 0 = eqb-true a.mask.0 0 (and-snd (eqb a.flags 0) _ e1) in
    ap₂ (λ (x y : ℕ). action_with x y a.mask.0) h f ∙ ap (action_with 0 0) m

-- a signal that is marked is not ignored
pub not-ignored-at : (m : SigSet) (f : ℕ → Action) → marks_not_ignored m f ≡ true → (s : ℕ) → is_signal s ≡ true
    → has m s ≡ true → ignored (f s) s ≡ false
unfolding marks_not_ignored
not-ignored-at m f e s g h =
    let l : 1 ≤ s = (is-signal s g).low in
    let u : s ≤ signals = (is-signal s g).high in
    not-true (ignored (f s) s)
    (imp_use (has m s) (not (ignored (f s) s))
    (All-range-at (Pass (mark_not_ignored m f)) 1 signals s l (omega arith)
    (all-All (mark_not_ignored m f) (range 1 signals) e)) h)

-- marks are not ignored if each of them is
pub not-ignored-by : (m : SigSet) (f : ℕ → Action)
    → ((s : ℕ) → is_signal s ≡ true → has m s ≡ true → ignored (f s) s ≡ false) → marks_not_ignored m f ≡ true
unfolding marks_not_ignored
not-ignored-by m f h =
    All-all (mark_not_ignored m f) (range 1 signals)
    (All-range (Pass (mark_not_ignored m f)) 1 signals
    (λ s l u. imp-by (has m s) (λ k. ap not (h s (signal-is s (record { low = l; high = omega arith })) k))))

-- a standard signal of a record is not marked in its queue
pub not-marked : (st : Store) (r : Siginfo) → not_marked_too st r ≡ true → is_standard r ≡ true
    → mark_in st (queue_of r) r.signal ≡ false
unfolding not_marked_too
not-marked st r e k =
    not-true (mark_in st (queue_of r) r.signal) (imp_use (is_standard r) (not (mark_in st (queue_of r) r.signal)) e k)

-- ---- the place that is looked for, by a test that all places pass

module _ (st : Store) where
  -- found or not, if a free place passes it
  pub every-process : (f : Place Process → Bool) → f free_process ≡ true → all f st.processes ≡ true → (n : ℕ)
      → f (process_with st n) ≡ true
  every-process f z a n = all_get_d f st.processes (find (is_process n) (map held st.processes)) free_process z a

  pub every-thread : (f : Place Thread → Bool) → f free_thread ≡ true → all f st.threads ≡ true → (n : ℕ)
      → f (thread_with st n) ≡ true
  every-thread f z a n = all_get_d f st.threads (find (is_thread n) (map held st.threads)) free_thread z a

  -- found, if live places pass it
  pub live-process-has : (f : Place Process → Bool) → all (if_live process_id f) st.processes ≡ true → (n : ℕ)
      → live_process (view st) n ≡ true
      → f (process_with st n) ≡ true
  live-process-has f a n l =
      imp_use (is_live process_id (process_with st n)) (f (process_with st n))
      (all-at (if_live process_id f) free_process st.processes (find (is_process n) (map held st.processes))
      (process-below st n l) a)
      (ap (λ (k : ℕ). not (eqb k 0)) (process-is st n l) ∙ ap not (process-named st n l))

  pub live-thread-has : (f : Place Thread → Bool) → all (if_live thread_id f) st.threads ≡ true → (n : ℕ)
      → live_thread (view st) n ≡ true
      → f (thread_with st n) ≡ true
  live-thread-has f a n l =
      imp_use (is_live thread_id (thread_with st n)) (f (thread_with st n))
      (all-at (if_live thread_id f) free_thread st.threads (find (is_thread n) (map held st.threads))
      (thread-below st n l) a)
      (ap (λ (k : ℕ). not (eqb k 0)) (thread-is st n l) ∙ ap not (thread-named st n l))

  -- records that are aimed at live processes are none of a process that is not
  pub none-queued : (aimed : Siginfo → Bool)
      → ((r : Siginfo) → aimed r ≡ true → live_process (view st) r.process ≡ true) → (rs : List Siginfo)
      → all aimed rs ≡ true → (p : ℕ) → live_process (view st) p ≡ false → count (of_process p) rs ≡ 0
  none-queued aimed h rs a p n =
      none-count (of_process p) rs
      (All-any (of_process p) rs
      (All-imp (Pass aimed) (Fail (of_process p))
      (λ r e.
      split (of_process p r)
      (λ k. clash (ap (live_process (view st)) (sym (eqb-true r.process p k)) ∙ h r e) n)
      (λ k. k))
      rs (all-All aimed rs a)))
