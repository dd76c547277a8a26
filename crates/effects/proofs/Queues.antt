-- The marks of one queue, or of all queues of a process, changed in the tables are what the rules' change makes of
-- the store. Assumes nothing.
use Prim.Native.Nat.{ℕ}
use mathlib.Core.Path.{◌≡◌, refl, sym, ap, ap₂, subst, fun_ext, ◌∙◌}
use mathlib.Core.Bool.{Bool, true, false, not, ◌&&◌, and-true}
use mathlib.Core.List.{List, map}
use lib.Dec.{eqb}
use lib.ListN.{set}
use borrow.Author.Tests.{eq-eqb}
use Rattle.lists.specs.Lists.{find, keep}
use Rattle.lists.proofs.Bools.{split, clash, and_both, cond_map}
use Rattle.lists.proofs.Lists.{Pass, All-imp, All-every, all-All}
use Rattle.sigset.specs.declared.SigSet.{SigSet}
use Rattle.sigset.specs.Set.{without, of_signal}
use Rattle.rules.specs.Types.{Process, Thread, Queue}
use Rattle.rules.specs.View.{is_process, is_thread, same_queue, process_queue, thread_queue, target_queue, live_process}
use Rattle.rules.specs.View.{live_thread, the_thread, set_mark, clear_mark, discard}
use Rattle.rules.specs.Store.{Place, Store, held, free_process, free_thread, on_slots, on_marks, view, apply}
use Rattle.rules.specs.Sound.{if_free, thread_id, zero_thread, sound}
use Rattle.rules.specs.Fitting.{live_queue, fits}
use Rattle.rules.proofs.Facts.{one-process, one-thread}
use Rattle.rules.proofs.Marks.{process_with, thread_with, the-thread, process-is, thread-is, process-named}
use Rattle.rules.proofs.Marks.{thread-named}
use Rattle.rules.proofs.Marks.{queue-same, same_queue_lem, same-comm, not-of-process, not-of-thread}
use Rattle.rules.proofs.ClausesByTable.{parts}
use Rattle.rules.proofs.Queues.{target-process, target-thread, target-owner, queue-target}
use Rattle.queue.specs.Queue.{slots_of, is_left}
use Rattle.queue.specs.declared.Discarded.TheVariants.{OfSignals}
use Rattle.tables.specs.Tables.{processes_of, threads_of, held_processes, held_threads, process_at, thread_at}
use Rattle.sound.specs.Lent.{Lent, lent, decoded, view_of, sound_tables}
use Rattle.sound.proofs.Facts.{store-sound}
use Rattle.effects.specs.declared.Marking.{Marking}
use Rattle.effects.specs.declared.Marking.TheVariants.{Adding, Removing}
use Rattle.effects.specs.Effects.{marked_by, with_marking, with_marking_of, marking}
use Rattle.effects.proofs.Places.{marks_where, with_marks, marked-place, unmarked-places, with_all}

-- ---- a sound store

module _ (st : Store) (e : sound st ≡ true) (h : SigSet → SigSet) where
  module _ (n : ℕ) (live : live_process (view st) n ≡ true) where
    -- the places whose queues are of the process: one
    pub marks-of-id : marks_where (λ (p : Process). eqb p.id n) h st.processes
        ≡ set st.processes (find (is_process n) (map held st.processes)) (with_marks h (process_with st n))
    unfolding live_process view is_process
    marks-of-id =
        marked-place free_process (is_process n) st.processes live (one-process st e n)
        (λ (p : Process). eqb p.id n) h
        (λ a f. sym (ap (λ b. not b && eqb a.id n) (process-named st n live)) ∙ f)
        (eq-eqb (process_with st n).holds.id n (process-is st n live))

    own-queue : (p : Process) → same_queue (process_queue p.id) (process_queue n) ≡ eqb p.id n
    unfolding same_queue
    own-queue p = and-true (eqb p.id n)

    pub process-marks-set : marks_where (λ (p : Process). same_queue (process_queue p.id) (process_queue n)) h
        st.processes
        ≡ set st.processes (find (is_process n) (map held st.processes)) (with_marks h (process_with st n))
    process-marks-set = ap (λ (t : Process → Bool). marks_where t h st.processes) (fun_ext own-queue) ∙ marks-of-id

    pub thread-marks-kept : marks_where (λ (t : Thread). same_queue (thread_queue t) (process_queue n)) h st.threads
        ≡ st.threads
    thread-marks-kept =
        unmarked-places (λ (t : Thread). same_queue (thread_queue t) (process_queue n)) h st.threads
        (All-imp (Pass (if_free thread_id zero_thread))
        (λ (y : Place Thread). same_queue (thread_queue y.holds) (process_queue n) ≡ false)
        (λ y f. same-comm (thread_queue y.holds) (process_queue n) ∙ not-of-process st n live y f)
        st.threads (all-All (if_free thread_id zero_thread) st.threads (parts st e).thread_free))

  module _ (q : Queue) (live : live_thread (view st) q.thread ≡ true)
      (owner : (the_thread (view st) q.thread).process ≡ q.process) where
    pub thread-marks-set : marks_where (λ (t : Thread). same_queue (thread_queue t) q) h st.threads
        ≡ set st.threads (find (is_thread q.thread) (map held st.threads))
        (with_marks h (thread_with st q.thread))
    unfolding live_thread view is_thread
    thread-marks-set =
        marked-place free_thread (is_thread q.thread) st.threads live (one-thread st e q.thread)
        (λ (t : Thread). same_queue (thread_queue t) q) h
        (λ a f.
        split (same_queue (thread_queue a) q)
        (λ k. clash (and_both (ap not (thread-named st q.thread live))
        (eq-eqb a.id q.thread (ap (λ (b : Queue). b.thread) (queue-same (thread_queue a) q k)))) f)
        (λ k. k))
        (same_queue_lem (thread_queue (thread_with st q.thread).holds) q
        (ap₂ target_queue (ap (λ (t : Thread). t.process) (sym (the-thread st q.thread)) ∙ owner)
        (thread-is st q.thread live)))

    pub process-marks-kept : marks_where (λ (p : Process). same_queue (process_queue p.id) q) h st.processes
        ≡ st.processes
    process-marks-kept =
        unmarked-places (λ (p : Process). same_queue (process_queue p.id) q) h st.processes
        (All-every (λ (x : Place Process). same_queue (process_queue x.holds.id) q ≡ false)
        (λ x. same-comm (process_queue x.holds.id) q ∙ not-of-thread st q live x)
        st.processes)

-- ---- the tables: one queue, the process's own where the thread is 0

module _ (l : Lent) (e : sound_tables l ≡ true) (n t : ℕ) (live : live_queue (view_of l) (target_queue n t) ≡ true)
    (how : Marking) where
  abbrev st : Store
  st = decoded l

  pub process-store : t ≡ 0 → (ps' : List ℕ)
      → processes_of ps' ≡ set (processes_of l.processes) (find (is_process n) (held_processes l.processes))
      (with_marking how (process_at l.processes (find (is_process n) (held_processes l.processes))))
      → decoded (lent ps' l.threads l.thread_buffer l.process_buffer)
      ≡ on_marks (marking how (target_queue n t)) st
  unfolding decoded with_marking
  process-store z ps' k =
      let x = target-process (view st) n t (queue-target (view st) n t live) in
      let s = store-sound l e in
      subst (λ (i : ℕ). decoded (lent ps' l.threads l.thread_buffer l.process_buffer)
      ≡ on_marks (marking how (target_queue n i)) st)
      (sym z)
      (with_all (lent ps' l.threads l.thread_buffer l.process_buffer)
      (k ∙ sym (process-marks-set st s (marked_by how) n x)) (sym (thread-marks-kept st s (marked_by how) n x)) refl
      refl)

  pub thread-store : eqb t 0 ≡ false → (ts' : List ℕ)
      → threads_of ts' ≡ set (threads_of l.threads) (find (is_thread t) (held_threads l.threads))
      (with_marking how (thread_at l.threads (find (is_thread t) (held_threads l.threads))))
      → decoded (lent l.processes ts' l.thread_buffer l.process_buffer)
      ≡ on_marks (marking how (target_queue n t)) st
  unfolding decoded with_marking
  thread-store z ts' k =
      let q = target_queue n t in
      let b = queue-target (view st) n t live in
      let x = target-thread (view st) n t b z in
      let o = target-owner (view st) n t b z in
      let s = store-sound l e in
      with_all (lent l.processes ts' l.thread_buffer l.process_buffer)
      (sym (process-marks-kept st s (marked_by how) q x o))
      (k ∙ sym (thread-marks-set st s (marked_by how) q x o)) refl refl

-- ---- a signal marked or unmarked in a queue

module _ (q : Queue) (s : ℕ) (o : SigSet) (alone : o ≡ of_signal s) (st st' : Store) where
  pub mark-set : st' ≡ on_marks (marking (Adding o) q) st → st' ≡ apply (set_mark q s) st
  unfolding apply marked_by
  mark-set e = e ∙ ap (λ (u : SigSet). on_marks (marking (Adding u) q) st) alone

  pub mark-cleared : st' ≡ on_marks (marking (Removing o) q) st → st' ≡ apply (clear_mark q s) st
  unfolding apply marked_by
  mark-cleared e = e ∙ ap (λ (u : SigSet). on_marks (marking (Removing u) q) st) alone

-- ---- the tables: all queues of a process

threads-marks-changed : (n : ℕ) (how : Marking) (xs : List (Place Thread))
    → map (with_marking_of n how) xs ≡ marks_where (λ (t : Thread). eqb t.process n) (marked_by how) xs
unfolding with_marking_of with_marking
threads-marks-changed n how xs =
    ap (λ (f : Place Thread → Place Thread). map f xs)
    (fun_ext (λ x. sym (cond_map (λ m. record { holds = x.holds; marks = m }) (eqb x.holds.process n)
    (marked_by how x.marks) x.marks)))

module _ (l : Lent) (e : sound_tables l ≡ true) (n : ℕ) (signals : SigSet)
    (f : fits (view_of l) (discard n signals) ≡ true) where
  pub discard-store : (ps' ts' tb' pb' : List ℕ)
      → processes_of ps' ≡ set (processes_of l.processes) (find (is_process n) (held_processes l.processes))
      (with_marking (Removing signals) (process_at l.processes (find (is_process n) (held_processes l.processes))))
      → threads_of ts' ≡ map (with_marking_of n (Removing signals)) (threads_of l.threads)
      → slots_of tb' ≡ on_slots (keep (is_left (OfSignals n signals))) (slots_of l.thread_buffer)
      → slots_of pb' ≡ on_slots (keep (is_left (OfSignals n signals))) (slots_of l.process_buffer)
      → decoded (lent ps' ts' tb' pb') ≡ apply (discard n signals) (decoded l)
  unfolding apply fits decoded with_marking marked_by is_left
  discard-store ps' ts' tb' pb' p t b q =
      with_all (lent ps' ts' tb' pb')
      (p ∙ sym (marks-of-id (decoded l) (store-sound l e) (λ m. without m signals) n f))
      (t ∙ threads-marks-changed n (Removing signals) (threads_of l.threads))
      b q
