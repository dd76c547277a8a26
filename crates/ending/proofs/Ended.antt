-- A process or a thread that is ended: the change fits, and the tables say what it makes. Assumes nothing.
use Prim.Native.Nat.{ℕ}
use mathlib.Core.Path.{◌≡◌, refl, sym, ap, ◌∙◌}
use mathlib.Core.Bool.{Bool, true, false, cond}
use mathlib.Core.List.{[], ◌∷◌}
use Rattle.lists.specs.Lists.{any}
use Rattle.siginfo.specs.Bytes.{Bytes}
use Rattle.lists.proofs.Bools.{and_both}
use Rattle.rules.specs.Types.{Thread, end_process, end_thread}
use Rattle.rules.specs.View.{remove_process, remove_thread, live_thread, the_thread}
use Rattle.rules.specs.Store.{Store, view}
use Rattle.rules.specs.Adding.{other_thread, end_thread_changes}
use Rattle.rules.specs.Refusals.{rows, is_clear, esrch, no_process_live, no_thread_live}
use Rattle.rules.specs.Calls.{changes, reply}
use Rattle.rules.specs.Fitting.{fits, fits_all}
use Rattle.rules.proofs.Marks.{the-thread-id}
use Rattle.rules.proofs.TakeFits.{end-thread-fits}
use Rattle.tables.specs.Tables.{held_threads}
use Rattle.sound.specs.Lent.{Lent, decoded, view_of, sound_tables, WithThread}
use Rattle.sound.proofs.Facts.{AsLong, store-sound}
use Rattle.effects.specs.Changes.{Ready, Changed}
use Rattle.effects.proofs.Makes.{ready-as, made_as}
use Rattle.view.specs.Named.{thread_named}
use Rattle.types.specs.declared.Reply.TheVariants.{Done}
use Rattle.types.specs.Answers.{Accepted}
use Rattle.answers.specs.Step.{refusal_on, rows_on, step_on}
use Rattle.answers.proofs.Endings.{rows-given, accepted-ends}
use Rattle.answers.proofs.Rows.{live-process, live-thread}
use Rattle.view.proofs.Live.{owner-is}
use Rattle.ending.specs.Others.{is_other}
use Rattle.ending.proofs.Others.{others-are}

-- ---- a process

module _ (l : Lent) (id n : ℕ) (r : n ≡ rows_on (esrch (no_process_live (view_of l) id) ∷ []) l) where
  pub process-number : n ≡ refusal_on (end_process id) l
  unfolding rows is_clear
  process-number = r ∙ sym (rows-given (end_process id) l refl)

  module _ (z : n ≡ 0) where
    pub process-can-end : Ready (remove_process id ∷ []) l
    unfolding fits fits_all
    process-can-end =
        let h = live-process l id n r z in
        record { sound = h.sound; fit = and_both h.live refl }

    pub process-ended : (m : Lent) → AsLong l m → Bytes m.thread_buffer → Bytes m.process_buffer
        → Changed (remove_process id ∷ []) l m → (m, Accepted Done) ≡ step_on (end_process id) l
    unfolding reply changes
    process-ended m k bt bp d =
        accepted-ends (end_process id) l (sym process-number ∙ z) Done refl m k bt bp d.store

-- ---- a thread

module _ (l : Lent) (e : sound_tables l ≡ true) (thread : ℕ) (live : live_thread (view_of l) thread ≡ true) where
  abbrev st : Store
  st = decoded l

  abbrev it : Thread
  it = the_thread (view st) thread

  module _ (process : ℕ) (o : process ≡ (thread_named l.threads thread).process) (b : Bool)
      (h : b ≡ any (is_other process thread) (held_threads l.threads)) where
    owner : process ≡ it.process
    owner = sym (owner-is l thread process o)

    its-id : thread ≡ it.id
    its-id = sym (the-thread-id st thread live)

    another : b ≡ any (other_thread (view st) it) (view st).threads
    unfolding view decoded
    another = h ∙ others-are (view st) it process thread owner its-id (held_threads l.threads)

    -- the one change
    removal : (x : Bool) → b ≡ x
        → end_thread_changes (view st) it ≡ (cond x (remove_thread thread) (remove_process process) ∷ [])
    unfolding end_thread_changes
    removal x k =
        ap (λ (y : Bool). cond y (remove_thread it.id) (remove_process it.process) ∷ []) (sym another ∙ k)
        ∙ ap (λ (m : ℕ). cond x (remove_thread m) (remove_process it.process) ∷ []) (sym its-id)
        ∙ ap (λ (m : ℕ). cond x (remove_thread thread) (remove_process m) ∷ []) (sym owner)

    ending : Ready (end_thread_changes (view st) it) l
    ending = record { sound = e; fit = end-thread-fits st (store-sound l e) thread live }

    pub thread-ready : b ≡ true → Ready (remove_thread thread ∷ []) l
    thread-ready k = ready-as ending (removal true k)

    pub process-ready : b ≡ false → Ready (remove_process process ∷ []) l
    process-ready k = ready-as ending (removal false k)

    pub thread-removed : b ≡ true → {m : Lent} → Changed (remove_thread thread ∷ []) l m
        → Changed (end_thread_changes (view st) it) l m
    thread-removed k d = made_as d (removal true k)

    pub process-removed : b ≡ false → {m : Lent} → Changed (remove_process process ∷ []) l m
        → Changed (end_thread_changes (view st) it) l m
    process-removed k d = made_as d (removal false k)

module _ (l : Lent) (id n : ℕ) (r : n ≡ rows_on (esrch (no_thread_live (view_of l) id) ∷ []) l) where
  pub thread-number : n ≡ refusal_on (end_thread id) l
  unfolding rows is_clear
  thread-number = r ∙ sym (rows-given (end_thread id) l refl)

  module _ (z : n ≡ 0) where
    pub thread-can-end : WithThread id l
    thread-can-end = live-thread l id n r z

    pub thread-ended : (m : Lent) → AsLong l m → Bytes m.thread_buffer → Bytes m.process_buffer
        → Changed (end_thread_changes (view_of l) (the_thread (view_of l) id)) l m
        → (m, Accepted Done) ≡ step_on (end_thread id) l
    unfolding reply changes
    thread-ended m k bt bp d =
        accepted-ends (end_thread id) l (sym thread-number ∙ z) Done refl m k bt bp d.store
