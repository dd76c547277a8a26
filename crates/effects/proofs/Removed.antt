-- A process or a thread removed, and all cleared: the tables after it are what the rules' change makes of the store.
-- Assumes nothing.
use Prim.Native.Nat.{ℕ}
use mathlib.Core.Path.{◌≡◌, refl, sym, ap, ◌∙◌}
use mathlib.Core.Bool.{true}
use lib.ListN.{set, replicate}
use Rattle.limits.specs.Limits.{process_places, thread_places, buffer_records}
use Rattle.lists.specs.Lists.{find, keep}
use Rattle.types.specs.Values.{no_siginfo}
use Rattle.rules.specs.View.{is_process, is_thread, belongs_to, forget, remove_process, remove_thread}
use Rattle.rules.specs.Store.{free_process, free_thread, vacate, cleared, on_slots, apply}
use Rattle.rules.specs.Fitting.{fits}
use Rattle.queue.specs.Queue.{slots_of, is_left}
use Rattle.queue.specs.declared.Discarded.TheVariants.{OfProcess, OfThread}
use Rattle.tables.specs.Tables.{processes_of, threads_of, held_processes, held_threads}
use Rattle.sound.specs.Lent.{Lent, lent, decoded, view_of, sound_tables}
use Rattle.effects.proofs.Fitted.{removed-live}
use Rattle.effects.proofs.Places.{process-changed, thread-changed, with_all}

module _ (l : Lent) (e : sound_tables l ≡ true) (n place : ℕ) (l' : Lent) where
  pub process-removed : fits (view_of l) (remove_process n) ≡ true
      → place ≡ find (is_process n) (held_processes l.processes)
      → processes_of l'.processes ≡ set (processes_of l.processes) place free_process
      → threads_of l'.threads ≡ vacate free_thread (belongs_to n) (threads_of l.threads)
      → slots_of l'.thread_buffer ≡ on_slots (keep (is_left (OfProcess n))) (slots_of l.thread_buffer)
      → slots_of l'.process_buffer ≡ on_slots (keep (is_left (OfProcess n))) (slots_of l.process_buffer)
      → decoded l' ≡ apply (remove_process n) (decoded l)
  unfolding apply fits decoded is_left
  process-removed f here p t b q =
      with_all l'
      (p ∙ ap (λ i. set (processes_of l.processes) i free_process) here
      ∙ sym (process-changed l e n f (λ _. free_process))) t b q

  pub thread-removed : fits (view_of l) (remove_thread n) ≡ true → place ≡ find (is_thread n) (held_threads l.threads)
      → threads_of l'.threads ≡ set (threads_of l.threads) place free_thread
      → slots_of l'.thread_buffer ≡ on_slots (keep (is_left (OfThread n))) (slots_of l.thread_buffer)
      → slots_of l'.process_buffer ≡ on_slots (keep (is_left (OfThread n))) (slots_of l.process_buffer)
      → decoded (lent l.processes l'.threads l'.thread_buffer l'.process_buffer)
      ≡ apply (remove_thread n) (decoded l)
  unfolding apply decoded is_left
  thread-removed f here t b q =
      let live = removed-live (view_of l) n f in
      with_all (lent l.processes l'.threads l'.thread_buffer l'.process_buffer) refl
      (t ∙ ap (λ i. set (threads_of l.threads) i free_thread) here ∙ sym (thread-changed l e n live (λ _. free_thread)))
      b q

pub all-forgotten : (l l' : Lent) → processes_of l'.processes ≡ replicate process_places free_process
    → threads_of l'.threads ≡ replicate thread_places free_thread
    → slots_of l'.thread_buffer ≡ replicate buffer_records no_siginfo
    → slots_of l'.process_buffer ≡ replicate buffer_records no_siginfo
    → decoded l' ≡ apply forget (decoded l)
unfolding apply cleared
all-forgotten l l' = with_all l'
