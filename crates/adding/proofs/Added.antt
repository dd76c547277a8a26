-- A process or a thread that is accepted finds a free place, and the tables say what the rules' changes make.
-- Assumes nothing.
use Prim.Native.Nat.{ℕ}
use mathlib.Core.Path.{◌≡◌, refl, sym, ap, ap₂, ◌∙◌}
use mathlib.Core.Bool.{true, false, not, ◌||◌}
use mathlib.Core.List.{List}
use lib.ListN.{length}
use borrow.Author.Tests.{not-false}
use Rattle.limits.specs.Limits.{process_table, thread_table}
use Rattle.lists.specs.Lists.{any, All}
use Rattle.lists.proofs.Bools.{or-fst-false, or-snd-false}
use Rattle.siginfo.specs.Bytes.{Bytes}
use Rattle.sigset.specs.declared.SigSet.{SigSet}
use Rattle.sigset.specs.Set.{maskable}
use Rattle.rules.specs.Types.{add_process, add_thread}
use Rattle.rules.specs.View.{live_thread, the_thread}
use Rattle.rules.specs.Store.{is_free_process, is_free_thread, fill, view, apply, apply_all}
use Rattle.rules.specs.Sound.{good_id}
use Rattle.rules.specs.Adding.{added_process, add_process_changes, add_thread_changes}
use Rattle.rules.specs.Refusals.{rows, is_clear, no_thread_live, no_process_place, no_thread_place}
use Rattle.rules.specs.Calls.{changes, reply}
use Rattle.rules.proofs.RefusalTable.{Off}
use Rattle.tables.specs.Tables.{LiveThread, processes_of, threads_of, held_processes, held_threads}
use Rattle.sound.specs.Lent.{Lent, lent, decoded, view_of, lengths_are, sound_tables}
use Rattle.effects.proofs.Places.{with_all}
use Rattle.sound.proofs.Facts.{right-processes, right-threads, threads-long}
use Rattle.effects.specs.Effects.{thread_of}
use Rattle.view.specs.Named.{thread_named}
use Rattle.types.specs.declared.NewProcess.{NewProcess}
use Rattle.types.specs.declared.Reply.TheVariants.{Done}
use Rattle.types.specs.Answers.{Answer}
use Rattle.types.specs.Answers.{Accepted}
use Rattle.answers.specs.Step.{refusal_on, step_on}
use Rattle.view.proofs.Live.{owner-known}
use Rattle.answers.proofs.Endings.{accepted-long, accepted-rows, accepted-tables-sound, accepted-ends}

-- ---- a process

module _ (l : Lent) (new : NewProcess) (n : ℕ) (r : n ≡ refusal_on (add_process new) l) where
  module _ (z : n ≡ 0) where
    process-long : lengths_are l ≡ true
    process-long = accepted-long (add_process new) l (sym r ∙ z)

    places : (no_process_place (view_of l) || no_thread_place (view_of l)) ≡ false
    unfolding rows
    places = (accepted-rows (add_process new) l (sym r ∙ z)).1.1.0

    pub process-room : (length l.processes ≡ process_table)
        × (any is_free_process (held_processes l.processes) ≡ true)
    unfolding no_process_place view decoded
    process-room = (
      right-processes l process-long,
      not-false (any is_free_process (held_processes l.processes))
          (or-fst-false (not (any is_free_process (held_processes l.processes))) _ places),
    )

    pub first-thread-room : (length l.threads ≡ thread_table) × (any is_free_thread (held_threads l.threads) ≡ true)
    unfolding no_thread_place no_process_place view decoded
    first-thread-room = (
      right-threads l process-long,
      not-false (any is_free_thread (held_threads l.threads))
          (or-snd-false (not (any is_free_process (held_processes l.processes))) _ places),
    )

  abbrev Ends : Answer → Lent → Type 0
  Ends a m = (m, a) ≡ step_on (add_process new) l

  module _ (ps' ts' : List ℕ) (given : SigSet) (g : given ≡ maskable new.mask)
      (p : processes_of ps' ≡ fill is_free_process (added_process new) (processes_of l.processes))
      (t : threads_of ts' ≡ fill is_free_thread (thread_of new.thread new.id given) (threads_of l.threads)) where
    process-made : decoded (lent ps' ts' l.thread_buffer l.process_buffer)
        ≡ apply_all (changes (view_of l) (add_process new))
        (decoded l)
    unfolding decoded changes add_process_changes apply_all apply
    process-made =
        let f : threads_of ts' ≡ fill is_free_thread (thread_of new.thread new.id (maskable new.mask))
        (threads_of l.threads) =
        t ∙ ap (λ (m : SigSet). fill is_free_thread (thread_of new.thread new.id m) (threads_of l.threads)) g in
        with_all (lent ps' ts' l.thread_buffer l.process_buffer) p f refl refl

    pub process-added : n ≡ 0 → length ps' ≡ length l.processes → length ts' ≡ length l.threads
        → Bytes l.thread_buffer → Bytes l.process_buffer
        → Ends (Accepted Done) (lent ps' ts' l.thread_buffer l.process_buffer)
    unfolding reply
    process-added z lp lt bt bp =
        accepted-ends (add_process new) l (sym r ∙ z) Done refl (lent ps' ts' l.thread_buffer l.process_buffer)
        (record { processes = lp; threads = lt; thread_buffer = refl; process_buffer = refl }) bt bp process-made

-- ---- a thread

module _ (l : Lent) (creator id n : ℕ) (r : n ≡ refusal_on (add_thread creator id) l) where
  module _ (z : n ≡ 0) where
    off : All Off (rows (view_of l) (add_thread creator id))
    off = accepted-rows (add_thread creator id) l (sym r ∙ z)

    tables-sound : sound_tables l ≡ true
    unfolding is_clear
    tables-sound = accepted-tables-sound (add_thread creator id) l refl (sym r ∙ z)

    pub creator-owned : LiveThread creator l.threads × (good_id (thread_named l.threads creator).process ≡ true)
    unfolding rows no_thread_live
    creator-owned = owner-known l tables-sound creator (not-false (live_thread (view_of l) creator) off.1.0)

    pub creator-found : LiveThread creator l.threads
    creator-found = creator-owned.0

    pub thread-room : (length l.threads ≡ thread_table) × (any is_free_thread (held_threads l.threads) ≡ true)
    unfolding rows no_thread_place view decoded
    thread-room =
        (threads-long l tables-sound, not-false (any is_free_thread (held_threads l.threads)) off.1.1.1.0)

    module _ (ts' : List ℕ) (process : ℕ) (mask : SigSet) (o : process ≡ (thread_named l.threads creator).process)
        (m : mask ≡ (thread_named l.threads creator).mask)
        (t : threads_of ts' ≡ fill is_free_thread (thread_of id process mask) (threads_of l.threads)) where
      thread-made : decoded (lent l.processes ts' l.thread_buffer l.process_buffer)
          ≡ apply_all (changes (view_of l) (add_thread creator id)) (decoded l)
      unfolding decoded changes add_thread_changes apply_all apply the_thread view
      thread-made =
          let f : threads_of ts' ≡ fill is_free_thread
          (thread_of id (thread_named l.threads creator).process (thread_named l.threads creator).mask)
          (threads_of l.threads) =
          t ∙ ap₂ (λ (k : ℕ) (s : SigSet). fill is_free_thread (thread_of id k s) (threads_of l.threads)) o m in
          with_all (lent l.processes ts' l.thread_buffer l.process_buffer) refl f refl refl

      pub thread-added : length ts' ≡ length l.threads → Bytes l.thread_buffer → Bytes l.process_buffer
          → (lent l.processes ts' l.thread_buffer l.process_buffer, Accepted Done)
          ≡ step_on (add_thread creator id) l
      unfolding reply
      thread-added lt bt bp =
          accepted-ends (add_thread creator id) l (sym r ∙ z) Done refl
          (lent l.processes ts' l.thread_buffer l.process_buffer)
          (record { processes = refl; threads = lt; thread_buffer = refl; process_buffer = refl }) bt bp thread-made
