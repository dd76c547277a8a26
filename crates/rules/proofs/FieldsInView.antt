-- What is in view after a process is stopped or continued, after a new action, and after a new mask:
-- one entry differs, the rest is the same. Assumes nothing.
use Prim.Native.Nat.{ℕ, ◌-◌, ◌<◌}
use mathlib.Core.Path.{◌≡◌, refl, sym, ap, ap₂, subst, ◌∙◌}
use mathlib.Core.Bool.{Bool, true, false, not, ◌&&◌, ◌||◌}
use mathlib.Core.List.{List, map}
use mathlib.Core.Option.{Option, get_or}
use native.Mathlib.Omega.{arith}
use lib.Dec.{eqb}
use lib.ListN.{length}
use lib.Seq.{get_or-set_same, get_or-set_other}
use borrow.Author.Tests.{eqb-true, eq-eqb}
use Rattle.limits.specs.Limits.{signals}
use Rattle.lists.specs.Lists.{any, first, change}
use Rattle.lists.proofs.Bools.{split, clash, and-snd, and_right, cond-true}
use Rattle.lists.proofs.Lists.{any-changed, map-change}
use Rattle.lists.proofs.Changes.{first-changed, first-apart}
use Rattle.sigset.specs.declared.SigSet.{SigSet}
use Rattle.sigset.specs.Set.{Signal, has}
use Rattle.types.specs.declared.Action.{Action}
use Rattle.types.specs.Values.{default_action}
use Rattle.rules.specs.Types.{Process, Thread, Queue, no_process, no_thread}
use Rattle.rules.specs.Signals.{is_signal}
use Rattle.rules.specs.View.{View, set_stopped, set_mask, is_process, is_thread, same_queue, process_queue}
use Rattle.rules.specs.View.{target_queue}
use Rattle.rules.specs.View.{action_of, live_process, live_thread, the_process, the_thread}
use Rattle.rules.specs.Store.{Place, Store, held, free_process, free_thread, records_for, process_mark, thread_mark}
use Rattle.rules.specs.Store.{mark_in, queued_in, view, amend, on_processes, on_threads, with_stopped, with_action}
use Rattle.rules.specs.Store.{with_mask, apply}
use Rattle.rules.specs.Sound.{process_id, thread_id}
use Rattle.rules.proofs.Cleared.{no-id}
use Rattle.rules.proofs.Ids.{named}
use Rattle.rules.proofs.Marks.{first-held, where-passes}

-- w is v with g done to the process n
pub record ProcessAmended (v w : View) (n : ℕ) (g : Process → Process) : Type 0 where
  pub live : (k : ℕ) → live_process w k ≡ live_process v k
  pub own : live_process v n ≡ true → the_process w n ≡ g (the_process v n)
  pub other : (k : ℕ) → eqb k n ≡ false → the_process w k ≡ the_process v k
  pub threads : w.threads ≡ v.threads
  pub thread_live : (k : ℕ) → live_thread w k ≡ live_thread v k
  pub thread : (k : ℕ) → the_thread w k ≡ the_thread v k
  pub marks : (q : Queue) (s : ℕ) → w.marks q s ≡ v.marks q s
  pub oldest : (q : Queue) (s : ℕ) → w.oldest q s ≡ v.oldest q s
  pub queued : (k : ℕ) → w.queued k ≡ v.queued k

-- w is v with g done to the thread n
pub record ThreadAmended (v w : View) (n : ℕ) (g : Thread → Thread) : Type 0 where
  pub live : (k : ℕ) → live_thread w k ≡ live_thread v k
  pub own : live_thread v n ≡ true → the_thread w n ≡ g (the_thread v n)
  pub other : (k : ℕ) → eqb k n ≡ false → the_thread w k ≡ the_thread v k
  pub processes : w.processes ≡ v.processes
  pub process_live : (k : ℕ) → live_process w k ≡ live_process v k
  pub process : (k : ℕ) → the_process w k ≡ the_process v k
  pub marks : (q : Queue) (s : ℕ) → w.marks q s ≡ v.marks q s
  pub oldest : (q : Queue) (s : ℕ) → w.oldest q s ≡ v.oldest q s
  pub queued : (k : ℕ) → w.queued k ≡ v.queued k

-- one id at most is an entry's
pub two-ids : (k n i : ℕ) → eqb k n ≡ false → (not (eqb n 0) && eqb i n) ≡ true → (not (eqb k 0) && eqb i k) ≡ false
two-ids k n i f e =
    and_right (not (eqb k 0))
    (split (eqb i k)
    (λ h. clash (eq-eqb k n (sym (eqb-true i k h) ∙ eqb-true i n (and-snd (not (eqb n 0)) (eqb i n) e))) f)
    (λ h. h))

-- what g keeps is the same of every entry, if g is done to the n-th alone
pub kept-but-one : {A B : Type 0} (t t' : ℕ → A) (n : ℕ) (g : A → A) (f : A → B) → ((a : A) → f (g a) ≡ f a)
    → t' n ≡ g (t n)
    → ((k : ℕ) → eqb k n ≡ false → t' k ≡ t k) → (k : ℕ) → f (t' k) ≡ f (t k)
kept-but-one t t' n g f h own other k =
    split (eqb k n)
    (λ e. subst (λ (j : ℕ). f (t' j) ≡ f (t j)) (sym (eqb-true k n e)) (ap f own ∙ h (t n)))
    (λ e. ap f (other k e))

-- ---- places whose values are amended

abbrev pub with : {A : Type 0} → (A → A) → Place A → Place A
with g x = record { holds = g x.holds; marks = x.marks }

module _ {A : Type 0} (p : A → Bool) (g : A → A) (xs : List (Place A)) where
  pub held-amended : map held (amend p g xs) ≡ change p g (map held xs)
  held-amended = map-change held p (with g) g (λ x. refl) xs

-- g is done to what has the id n, and keeps every id
module _ {A : Type 0} (id : A → ℕ) (n : ℕ) (g : A → A) (i : (a : A) → id (g a) ≡ id a) (xs : List (Place A)) where
  abbrev before : List A
  before = map held xs

  abbrev after : List A
  after = map held (amend (named id n) g xs)

  same-named : (k : ℕ) (a : A) → named id k (g a) ≡ named id k a
  same-named k a = ap (λ (m : ℕ). not (eqb k 0) && eqb m k) (i a)

  live-amended : (k : ℕ) → any (named id k) after ≡ any (named id k) before
  live-amended k =
      ap (any (named id k)) (held-amended (named id n) g xs)
      ∙ any-changed (named id k) (named id n) g before (λ a _. same-named k a)

  own-amended : (d : Place A) → named id n d.holds ≡ false → any (named id n) before ≡ true
      → get_or (first (named id n) after) d.holds ≡ g (get_or (first (named id n) before) d.holds)
  own-amended d z l =
      ap (λ (ys : List A). get_or (first (named id n) ys) d.holds) (held-amended (named id n) g xs)
      ∙ first-changed (named id n) (named id n) g d.holds (λ a _. same-named n a) z before
      ∙ cond-true (g (get_or (first (named id n) before) d.holds))
      (get_or (first (named id n) before) d.holds)
      (ap (named id n) (first-held d (named id n) xs) ∙ where-passes d (named id n) xs l)

  other-amended : (k : ℕ) → eqb k n ≡ false → first (named id k) after ≡ first (named id k) before
  other-amended k f =
      ap (first (named id k)) (held-amended (named id n) g xs)
      ∙ first-apart (named id k) (named id n) g
      (λ a t. (two-ids k n (id a) f t, same-named k a ∙ two-ids k n (id a) f t)) before

-- ---- a process

module _ (st : Store) (n : ℕ) (g : Process → Process) (i : (p : Process) → (g p).id ≡ p.id) where
  abbrev after_process : Store
  after_process = on_processes (amend (is_process n) g) st

  process-live-kept : (k : ℕ) → live_process (view after_process) k ≡ live_process (view st) k
  unfolding live_process view is_process
  process-live-kept = live-amended process_id n g i st.processes

  process-own : live_process (view st) n ≡ true → the_process (view after_process) n ≡ g (the_process (view st) n)
  unfolding live_process the_process view is_process
  process-own = own-amended process_id n g i st.processes free_process (no-id n)

  process-other : (k : ℕ) → eqb k n ≡ false → the_process (view after_process) k ≡ the_process (view st) k
  unfolding the_process view is_process
  process-other k f =
      ap (λ (o : Option Process). get_or o no_process) (other-amended process_id n g i st.processes k f)

  process-marks-kept : (q : Queue) (s : ℕ) → mark_in after_process q s ≡ mark_in st q s
  unfolding mark_in
  process-marks-kept q s =
      ap (λ (b : Bool). is_signal s && (b || any (thread_mark q s) st.threads))
      (any-changed (process_mark q s) (λ (x : Place Process). is_process n x.holds) (with g) st.processes
      (λ x _. ap (λ (m : ℕ). same_queue q (process_queue m) && has x.marks s) (i x.holds)))

  pub process-amended : ProcessAmended (view st) (view after_process) n g
  unfolding view live_thread the_thread records_for queued_in
  process-amended =
      record {
        live = process-live-kept;
        own = process-own;
        other = process-other;
        threads = refl;
        thread_live = λ k. refl;
        thread = λ k. refl;
        marks = process-marks-kept;
        oldest = λ q s. refl;
        queued = λ k. refl;
      }

-- ---- a thread

module _ (st : Store) (n : ℕ) (g : Thread → Thread) (i : (t : Thread) → (g t).id ≡ t.id)
    (o : (t : Thread) → (g t).process ≡ t.process) where
  abbrev after_thread : Store
  after_thread = on_threads (amend (is_thread n) g) st

  thread-live-kept : (k : ℕ) → live_thread (view after_thread) k ≡ live_thread (view st) k
  unfolding live_thread view is_thread
  thread-live-kept = live-amended thread_id n g i st.threads

  thread-own : live_thread (view st) n ≡ true → the_thread (view after_thread) n ≡ g (the_thread (view st) n)
  unfolding live_thread the_thread view is_thread
  thread-own = own-amended thread_id n g i st.threads free_thread (no-id n)

  thread-other : (k : ℕ) → eqb k n ≡ false → the_thread (view after_thread) k ≡ the_thread (view st) k
  unfolding the_thread view is_thread
  thread-other k f = ap (λ (a : Option Thread). get_or a no_thread) (other-amended thread_id n g i st.threads k f)

  thread-marks-kept : (q : Queue) (s : ℕ) → mark_in after_thread q s ≡ mark_in st q s
  unfolding mark_in
  thread-marks-kept q s =
      ap (λ (b : Bool). is_signal s && (any (process_mark q s) st.processes || b))
      (any-changed (thread_mark q s) (λ (x : Place Thread). is_thread n x.holds) (with g) st.threads
      (λ x _. ap (λ (k : Queue). same_queue q k && has x.marks s) (ap₂ target_queue (o x.holds) (i x.holds))))

  pub thread-amended : ThreadAmended (view st) (view after_thread) n g
  unfolding view live_process the_process records_for queued_in
  thread-amended =
      record {
        live = thread-live-kept;
        own = thread-own;
        other = thread-other;
        processes = refl;
        process_live = λ k. refl;
        process = λ k. refl;
        marks = thread-marks-kept;
        oldest = λ q s. refl;
        queued = λ k. refl;
      }

-- ---- the actions of a process with a new one for s

module _ (p : Process) (s : ℕ) where
  pub action-own : (a : Action) → length p.actions ≡ signals → Signal s → action_of (with_action s a p) s ≡ a
  unfolding action_of
  action-own a l f =
      let h : s - 1 < length p.actions = omega (arith, f.low, f.high) in
      get_or-set_same p.actions (s - 1) a default_action h

  pub action-other : (k : ℕ) (a : Action) → Signal s → Signal k → (k ≡ s → ⊥)
      → action_of (with_action s a p) k ≡ action_of p k
  unfolding action_of
  action-other k a f g d =
      get_or-set_other p.actions (s - 1) (k - 1) a default_action (λ z. d (omega (arith, f.low, g.low)))

-- ---- the changes

module _ (st : Store) where
  pub set_stopped-amended : (n b : ℕ) → ProcessAmended (view st) (view (apply (set_stopped n b) st)) n (with_stopped b)
  unfolding apply
  set_stopped-amended n b = process-amended st n (with_stopped b) (λ p. refl)

  pub set_mask-amended : (n : ℕ) (m : SigSet) → ThreadAmended (view st) (view (apply (set_mask n m) st)) n (with_mask m)
  unfolding apply
  set_mask-amended n m = thread-amended st n (with_mask m) (λ t. refl) (λ t. refl)
