-- A field, an action or a mask stored at the place that was found is what the rules' change makes of the store.
-- Assumes nothing.
use Prim.Native.Nat.{ℕ}
use mathlib.Core.Path.{◌≡◌, refl, sym, ap, ◌∙◌}
use mathlib.Core.Bool.{true}
use mathlib.Core.List.{List}
use lib.ListN.{set}
use Rattle.limits.specs.Limits.{process_stopped, thread_mask}
use Rattle.lists.specs.Lists.{find}
use Rattle.sigset.specs.declared.SigSet.{SigSet}
use Rattle.types.specs.declared.Action.{Action}
use Rattle.rules.specs.View.{is_process, is_thread, live_process, live_thread, set_stopped, set_action, set_mask}
use Rattle.rules.specs.Store.{apply}
use Rattle.tables.specs.Tables.{processes_of, threads_of, held_processes, held_threads, process_at, thread_at}
use Rattle.tables.specs.Tables.{with_field}
use Rattle.tables.specs.Tables.{with_thread_field, headed, head_to, thread_from, thread_to, acted}
use Rattle.sound.specs.Lent.{Lent, lent, decoded, view_of, sound_tables}
use Rattle.effects.proofs.Places.{with_all, process-changed, thread-changed}

module _ (l : Lent) (e : sound_tables l ≡ true) (n place : ℕ) where
  module _ (live : live_process (view_of l) n ≡ true) (here : place ≡ find (is_process n) (held_processes l.processes))
      (ps' : List ℕ) where
    pub stopped-store : (b : ℕ) → processes_of ps'
        ≡ set (processes_of l.processes) place (with_field process_stopped b (process_at l.processes place))
        → decoded (lent ps' l.threads l.thread_buffer l.process_buffer) ≡ apply (set_stopped n b) (decoded l)
    unfolding apply decoded with_field headed head_to
    stopped-store b k =
        with_all (lent ps' l.threads l.thread_buffer l.process_buffer)
        (k
        ∙ ap (λ i. set (processes_of l.processes) i (with_field process_stopped b (process_at l.processes i))) here
        ∙ sym (process-changed l e n live (with_field process_stopped b)))
        refl refl refl

    pub action-store : (s : ℕ) (a : Action)
        → processes_of ps' ≡ set (processes_of l.processes) place (acted s a (process_at l.processes place))
        → decoded (lent ps' l.threads l.thread_buffer l.process_buffer) ≡ apply (set_action n s a) (decoded l)
    unfolding apply decoded
    action-store s a k =
        with_all (lent ps' l.threads l.thread_buffer l.process_buffer)
        (k ∙ ap (λ i. set (processes_of l.processes) i (acted s a (process_at l.processes i))) here
        ∙ sym (process-changed l e n live (acted s a)))
        refl refl refl

  module _ (live : live_thread (view_of l) n ≡ true) (here : place ≡ find (is_thread n) (held_threads l.threads))
      (ts' : List ℕ) where
    pub mask-store : (m : SigSet) → threads_of ts' ≡ set (threads_of l.threads) place
        (with_thread_field thread_mask m.0 (thread_at l.threads place))
        → decoded (lent l.processes ts' l.thread_buffer l.process_buffer) ≡ apply (set_mask n m) (decoded l)
    unfolding apply decoded with_thread_field thread_from thread_to
    mask-store m k =
        with_all (lent l.processes ts' l.thread_buffer l.process_buffer) refl
        (k
        ∙ ap (λ i. set (threads_of l.threads) i (with_thread_field thread_mask m.0 (thread_at l.threads i))) here
        ∙ sym (thread-changed l e n live (with_thread_field thread_mask m.0)))
        refl refl
