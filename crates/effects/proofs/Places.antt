-- A change of the one place that passes a test is a store there. Assumes nothing.
use Prim.Native.Nat.{ℕ, ◌≤◌}
use mathlib.Core.Path.{◌≡◌, sym, ap, ◌∙◌}
use mathlib.Core.Bool.{Bool, true, false, cond}
use mathlib.Core.List.{List, map, map-id}
use lib.ListN.{set}
use Rattle.lists.specs.Lists.{any, count, find, change, replace_first, All}
use Rattle.lists.proofs.Bools.{cond-true, cond-false}
use Rattle.lists.proofs.Lists.{All-imp, count_map}
use Rattle.lists.proofs.Loops.{change-set, replace_first-find}
use Rattle.lists.proofs.Finds.{find-map}
use Rattle.lists.proofs.Index.{map-only, map-same-in}
use Rattle.sigset.specs.declared.SigSet.{SigSet}
use Rattle.types.specs.declared.Siginfo.{Siginfo}
use Rattle.rules.specs.Types.{Process, Thread}
use Rattle.rules.specs.View.{is_process, is_thread, live_process, live_thread}
use Rattle.rules.specs.Store.{Place, held, free_process, free_thread, map_marks, view}
use Rattle.rules.proofs.Marks.{place_where, where_below, where-passes}
use Rattle.queue.specs.Queue.{slots_of}
use Rattle.tables.specs.Tables.{processes_of, threads_of, held_processes, held_threads, process_at, thread_at}
use Rattle.sound.specs.Lent.{Lent, decoded, view_of, sound_tables}
use Rattle.sound.proofs.Facts.{one-process, one-thread}

-- the marks change where the test passes
abbrev pub marks_where : {A : Type 0} → (A → Bool) → (SigSet → SigSet) → List (Place A) → List (Place A)
marks_where t h = map_marks (λ a m. cond (t a) (h m) m)

-- a place with its marks changed
abbrev pub with_marks : {A : Type 0} → (SigSet → SigSet) → Place A → Place A
with_marks h x = record { holds = x.holds; marks = h x.marks }

module _ {A : Type 0} (t : A → Bool) (h : SigSet → SigSet) (x : Place A) where
  abbrev with_marks_if : Place A
  with_marks_if = record { holds = x.holds; marks = cond (t x.holds) (h x.marks) x.marks }

  marks-kept : t x.holds ≡ false → with_marks_if ≡ x
  marks-kept f = ap (λ m. record { holds = x.holds; marks = m }) (cond-false (h x.marks) x.marks f)

module _ {A : Type 0} (d : Place A) (p : A → Bool) (xs : List (Place A)) (live : any p (map held xs) ≡ true)
    (one : count p (map held xs) ≤ 1) where
  abbrev passes : Place A → Bool
  passes x = p x.holds

  few : count passes xs ≤ 1
  few = rw (count_map p held xs) at one

  pub changed-place : (g : Place A → Place A)
      → change passes g xs ≡ set xs (find p (map held xs)) (g (place_where d p xs))
  changed-place g =
      change-set passes g d xs (find p (map held xs)) few (where_below d p xs live) (where-passes d p xs live)

  -- a test of marks that only those can pass
  pub marked-place : (t : A → Bool) (h : SigSet → SigSet) → ((a : A) → p a ≡ false → t a ≡ false)
      → t (place_where d p xs).holds ≡ true
      → marks_where t h xs ≡ set xs (find p (map held xs)) (with_marks h (place_where d p xs))
  marked-place t h n y =
      map-only passes d (λ x. x) (with_marks_if t h) (λ x f. marks-kept t h x (n x.holds f)) xs
      (find p (map held xs)) few (where_below d p xs live)
      (where-passes d p xs live)
      ∙ ap (λ xs'. set xs' (find p (map held xs)) (with_marks_if t h (place_where d p xs))) (map-id xs)
      ∙ ap (λ m. set xs (find p (map held xs)) (record { holds = (place_where d p xs).holds; marks = m }))
      (cond-true (h (place_where d p xs).marks) (place_where d p xs).marks y)

pub unmarked-places : {A : Type 0} (t : A → Bool) (h : SigSet → SigSet) (xs : List (Place A))
    → All (λ x. t x.holds ≡ false) xs → marks_where t h xs ≡ xs
unmarked-places {A} t h xs n =
    map-same-in (with_marks_if t h) (λ x. x) xs
    (All-imp (λ (x : Place A). t x.holds ≡ false) (λ x. with_marks_if t h x ≡ x) (λ x f. marks-kept t h x f) xs n)
    ∙ map-id xs

-- the first place that passes is filled
pub filled-place : {A : Type 0} (p : A → Bool) (a : Place A) (xs : List (Place A))
    → set xs (find p (map held xs)) a ≡ replace_first (λ x. p x.holds) a xs
filled-place p a xs = ap (λ i. set xs i a) (find-map p held xs) ∙ sym (replace_first-find (λ x. p x.holds) a xs)

-- ---- the store, by its four tables

module _ (l : Lent) where
  pub with_all : {xs : List (Place Process)} {ys : List (Place Thread)} {rs qs : List Siginfo}
      → processes_of l.processes ≡ xs → threads_of l.threads ≡ ys
      → slots_of l.thread_buffer ≡ rs → slots_of l.process_buffer ≡ qs
      → decoded l ≡ record { processes = xs; threads = ys; thread_buffer = rs; process_buffer = qs }
  unfolding decoded
  with_all p t r q = λ i. record { processes = p i; threads = t i; thread_buffer = r i; process_buffer = q i }

-- ---- the place of a live process or thread in sound tables

module _ (l : Lent) (e : sound_tables l ≡ true) where
  module _ (n : ℕ) (live : live_process (view_of l) n ≡ true) where
    pub process-changed : (g : Place Process → Place Process)
        → change (λ (x : Place Process). is_process n x.holds) g (processes_of l.processes)
        ≡ set (processes_of l.processes) (find (is_process n) (held_processes l.processes))
        (g (process_at l.processes (find (is_process n) (held_processes l.processes))))
    unfolding live_process view decoded
    process-changed = changed-place free_process (is_process n) (processes_of l.processes) live (one-process l e n)

  module _ (n : ℕ) (live : live_thread (view_of l) n ≡ true) where
    pub thread-changed : (g : Place Thread → Place Thread)
        → change (λ (x : Place Thread). is_thread n x.holds) g (threads_of l.threads)
        ≡ set (threads_of l.threads) (find (is_thread n) (held_threads l.threads))
        (g (thread_at l.threads (find (is_thread n) (held_threads l.threads))))
    unfolding live_thread view decoded
    thread-changed = changed-place free_thread (is_thread n) (threads_of l.threads) live (one-thread l e n)
