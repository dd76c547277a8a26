-- Marks read, changed and stored at a place are those of the place with its marks changed;
-- and a turn of the loops over the threads of a process. Assumes nothing.
use Prim.Native.Nat.{ℕ, ◌+◌, ◌≤◌, ◌<◌}
use mathlib.Core.Path.{◌≡◌, sym, ap, ◌∙◌}
use mathlib.Core.Bool.{true, false, not, ◌&&◌, cond}
use mathlib.Core.List.{List, map}
use native.Mathlib.Omega.{arith}
use lib.Dec.{eqb}
use lib.ListN.{length, get_or, set}
use borrow.Author.Tests.{eq-eqb, ne_eqb}
use Rattle.limits.specs.Limits.{process_marks, thread_process, thread_marks, thread_places, thread_table}
use Rattle.lists.specs.Lists.{find}
use Rattle.lists.proofs.Bools.{cond-true, cond-false}
use Rattle.lists.proofs.Lists.{change-map}
use Rattle.lists.proofs.Loops.{mapped, mapped-none, mapped-step, mapped-skip, mapped-done}
use Rattle.sigset.specs.declared.SigSet.{SigSet}
use Rattle.sigset.specs.Set.{bits}
use Rattle.rules.specs.Types.{Process, Thread}
use Rattle.rules.specs.View.{is_process, is_thread, belongs_to}
use Rattle.rules.specs.Store.{Place, free_thread, vacate}
use Rattle.tables.specs.Tables.{processes_of, threads_of, held_processes, held_threads, process_at, thread_at, head_to}
use Rattle.tables.specs.Tables.{headed}
use Rattle.tables.specs.Tables.{thread_to, thread_from, with_field, with_thread_field}
use Rattle.tables.proofs.Words.{length-threads_of}
use Rattle.effects.specs.declared.Marking.{Marking}
use Rattle.effects.specs.Effects.{marked_by, with_marking, with_marking_of}

-- ---- one place: u is the word that was read, m what it became

module _ (how : Marking) (u : ℕ) (m : SigSet) (e : m ≡ marked_by how (bits u)) where
  process-marked : (x : Place Process) → u ≡ get_or (head_to x) process_marks 0
      → with_field process_marks m.0 x ≡ with_marking how x
  unfolding with_field headed head_to with_marking
  process-marked x k =
      ap (λ (n : SigSet). record { holds = x.holds; marks = n }) (e ∙ ap (λ w. marked_by how (bits w)) k)

  thread-marked : (x : Place Thread) → u ≡ get_or (thread_to x) thread_marks 0
      → with_thread_field thread_marks m.0 x ≡ with_marking how x
  unfolding with_thread_field thread_from thread_to with_marking
  thread-marked x k =
      ap (λ (n : SigSet). record { holds = x.holds; marks = n }) (e ∙ ap (λ w. marked_by how (bits w)) k)

  module _ (ws ws' : List ℕ) (n place : ℕ) where
    pub process-marks-changed : place ≡ find (is_process n) (held_processes ws)
        → u ≡ get_or (head_to (process_at ws place)) process_marks 0
        → processes_of ws' ≡ set (processes_of ws) place (with_field process_marks m.0 (process_at ws place))
        → processes_of ws' ≡ set (processes_of ws) (find (is_process n) (held_processes ws))
        (with_marking how (process_at ws (find (is_process n) (held_processes ws))))
    process-marks-changed here k z =
        z ∙ ap (set (processes_of ws) place) (process-marked (process_at ws place) k)
        ∙ ap (λ i. set (processes_of ws) i (with_marking how (process_at ws i))) here

    pub thread-marks-changed : place ≡ find (is_thread n) (held_threads ws)
        → u ≡ get_or (thread_to (thread_at ws place)) thread_marks 0
        → threads_of ws' ≡ set (threads_of ws) place (with_thread_field thread_marks m.0 (thread_at ws place))
        → threads_of ws' ≡ set (threads_of ws) (find (is_thread n) (held_threads ws))
        (with_marking how (thread_at ws (find (is_thread n) (held_threads ws))))
    thread-marks-changed here k z =
        z ∙ ap (set (threads_of ws) place) (thread-marked (thread_at ws place) k)
        ∙ ap (λ i. set (threads_of ws) i (with_marking how (thread_at ws i))) here

-- ---- a loop over all threads: those below i are as f leaves them; w is the process that was read

module _ (f : Place Thread → Place Thread) where
  pub record Passing (ts₀ ts : List ℕ) (i : ℕ) : Type 0 where
    pub below : i ≤ thread_places
    pub long : length ts ≡ thread_table
    pub changed : threads_of ts ≡ mapped f i (threads_of ts₀)

  pub passing-start : (ts : List ℕ) → length ts ≡ thread_table → Passing ts ts 0
  passing-start ts l = record { below = omega arith; long = l; changed = mapped-none f (threads_of ts) }

  pub passing-done : (ts₀ ts : List ℕ) (i : ℕ) → thread_places ≤ i → Passing ts₀ ts i
      → threads_of ts ≡ map f (threads_of ts₀)
  passing-done ts₀ ts i h k = k.changed ∙ mapped-done f (threads_of ts₀) i (omega (arith, length-threads_of ts₀))

  module _ (ts₀ ts : List ℕ) (i : ℕ) (k : Passing ts₀ ts i) (h : i < thread_places) (ts' : List ℕ) where
    pub passing_step : (t : Place Thread) → t ≡ f (thread_at ts i) → length ts' ≡ length ts
        → threads_of ts' ≡ set (threads_of ts) i t → Passing ts₀ ts' (i + 1)
    passing_step t e l z =
        let h₀ : i < length (threads_of ts₀) = omega (arith, length-threads_of ts₀) in
        record {
          below = omega arith;
          long = l ∙ k.long;
          changed = mapped-step f free_thread (threads_of ts₀) (threads_of ts) i h₀ k.changed (threads_of ts') t e z;
        }

    pub passing-skip : f (thread_at ts i) ≡ thread_at ts i → ts' ≡ ts → Passing ts₀ ts' (i + 1)
    passing-skip e z =
        let h₀ : i < length (threads_of ts₀) = omega (arith, length-threads_of ts₀) in
        record {
          below = omega arith;
          long = ap length z ∙ k.long;
          changed = ap threads_of z ∙ mapped-skip f free_thread (threads_of ts₀) (threads_of ts) i h₀ k.changed e;
        }

module _ (p w : ℕ) (x : Place Thread) (e : w ≡ get_or (thread_to x) thread_process 0) where
  module _ (how : Marking) where
    pub marks-changed-here : (u : ℕ) (m : SigSet) → w ≡ p → u ≡ get_or (thread_to x) thread_marks 0
        → m ≡ marked_by how (bits u)
        → with_thread_field thread_marks m.0 x ≡ with_marking_of p how x
    unfolding with_marking_of thread_to
    marks-changed-here u m z k d =
        thread-marked how u m d x k ∙ sym (cond-true (with_marking how x) x (eq-eqb x.holds.process p (sym e ∙ z)))

    pub marks-changed-not : (w ≡ p → ⊥) → with_marking_of p how x ≡ x
    unfolding with_marking_of thread_to
    marks-changed-not z = cond-false (with_marking how x) x (ne_eqb x.holds.process p (λ d. z (e ∙ d)))

-- ---- the places of the threads of a process

-- where it is a thread of the process
abbrev pub vacated_of : ℕ → Place Thread → Place Thread
vacated_of p x = cond (belongs_to p x.holds) free_thread x

pub vacated-all : (p : ℕ) (xs : List (Place Thread)) → map (vacated_of p) xs ≡ vacate free_thread (belongs_to p) xs
vacated-all p xs = sym (change-map (λ (x : Place Thread). belongs_to p x.holds) (λ _. free_thread) xs)

module _ (p w : ℕ) (x : Place Thread) (e : w ≡ get_or (thread_to x) thread_process 0) where
  belongs-test : belongs_to p x.holds ≡ (not (eqb p 0) && eqb w p)
  unfolding belongs_to thread_to
  belongs-test = ap (λ k. not (eqb p 0) && eqb k p) (sym e)

  pub vacated-here : (not (eqb p 0) && eqb w p) ≡ true → free_thread ≡ vacated_of p x
  vacated-here z = sym (cond-true free_thread x (belongs-test ∙ z))

  pub vacated-not : (not (eqb p 0) && eqb w p) ≡ false → vacated_of p x ≡ x
  vacated-not z = cond-false free_thread x (belongs-test ∙ z)
