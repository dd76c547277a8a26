-- A process that is removed is gone with all that it had; one that is stopped is there, and stopped. Assumes nothing.
use Prim.Native.Nat.{ℕ}
use mathlib.Core.Path.{◌≡◌, refl, ap, ap₂, ◌∙◌}
use mathlib.Core.Bool.{Bool, true, false, not, ◌||◌}
use mathlib.Core.List.{List, [], ◌∷◌, map}
use mathlib.Core.Option.{Option}
use lib.Dec.{eqb}
use borrow.Author.Tests.{eq-eqb}
use Rattle.limits.specs.Limits.{SIGCONT}
use Rattle.lists.specs.Lists.{any, is_some, keep}
use Rattle.lists.proofs.Bools.{and_right, and_both, cond-true}
use Rattle.lists.proofs.Lists.{Fail, All-every, All-changed, All-any}
use Rattle.lists.proofs.Sublists.{keep-within}
use Rattle.sigset.specs.Set.{of_signal}
use Rattle.types.specs.declared.Siginfo.{Siginfo}
use Rattle.rules.specs.Types.{Process, Queue}
use Rattle.rules.specs.View.{remove_process, set_stopped, discard, is_process, belongs_to, in_queue, live_process}
use Rattle.rules.specs.View.{the_process}
use Rattle.rules.specs.View.{pending_in}
use Rattle.rules.specs.Store.{Place, Store, held, free_process, free_thread, vacate, records_for, mark_in, view}
use Rattle.rules.specs.Store.{with_stopped, apply, apply_all}
use Rattle.rules.specs.Computing.{computing}
use Rattle.rules.proofs.Cleared.{no-id}
use Rattle.rules.proofs.DiscardPending.{discard-pending}
use Rattle.rules.proofs.FieldsInView.{ProcessAmended, set_stopped-amended}
use Rattle.rules.proofs.PendingInView.{same-live_process, seen-discard-processes}
use Rattle.rules.proofs.Vacated.{held-vacated}
use Rattle.sound.specs.Lent.{Lent, decoded, sound_tables}
use Rattle.history.specs.Demand1.{Ended, Stopped}
use Rattle.history.proofs.Records.{keep_left, both-buffers}
use Rattle.history.proofs.Marks.{remove-process-marks}

-- ---- a process is removed

-- of what passes the test by which places become free nothing is left
none_left : {A : Type 0} (free : Place A) (p : A → Bool) → p free.holds ≡ false → (xs : List (Place A))
    → any p (map held (vacate free p xs)) ≡ false
none_left free p z xs =
    ap (any p) (held-vacated free p xs)
    ∙ All-any p _
    (All-changed (λ _. Unit {0}) (Fail p) p (λ _. free.holds) (λ a _ _. z) (λ a f _. f) (map held xs)
    (All-every (λ _. Unit {0}) (λ _. tt) (map held xs)))

-- neither the process nor a thread, mark or record of it
module _ (st : Store) (n : ℕ) where
  abbrev removed : Store
  removed = apply (remove_process n) st

  no-process : live_process (view removed) n ≡ false
  unfolding live_process view apply is_process
  no-process = none_left free_process (is_process n) (no-id n) st.processes

  no_threads : any (belongs_to n) (view removed).threads ≡ false
  unfolding view apply belongs_to
  no_threads = none_left free_thread (belongs_to n) (no-id n) st.threads

  no-marks : eqb n 0 ≡ false → (q : Queue) (s : ℕ) → q.process ≡ n → mark_in removed q s ≡ false
  no-marks z q s e =
      remove-process-marks st q s n z ∙ and_right (mark_in st q s) (ap not (eq-eqb q.process n e))

  -- the records of other processes are left
  abbrev others : Siginfo → Bool
  others r = not (eqb r.process n)

  removed-records : (q : Queue) → records_for q removed ≡ keep others (records_for q st)
  unfolding records_for apply
  removed-records q =
      both-buffers (keep others) (keep-within others) (eqb q.thread 0) st.process_buffer st.thread_buffer

  no-records : (q : Queue) (s : ℕ) → q.process ≡ n → keep (in_queue q s) (records_for q removed) ≡ []
  no-records q s e =
      ap (keep (in_queue q s)) (removed-records q)
      ∙ keep_left (λ (k : Queue) _. eqb k.process n) others (λ r. refl) q s (records_for q st)
      ∙ cond-true [] (keep (in_queue q s) (records_for q st)) (eq-eqb q.process n e)

-- tables that say the store without it are those of an ended process
pub ended : (l : Lent) (st : Store) (n : ℕ) → sound_tables l ≡ true → eqb n 0 ≡ false
    → decoded l ≡ apply (remove_process n) st → Ended l n
ended l st n s z e =
    record {
      sound = s;
      process = ap (λ (x : Store). live_process (view x) n) e ∙ no-process st n;
      threads = ap (λ (x : Store). any (belongs_to n) (view x).threads) e ∙ no_threads st n;
      marks = λ q s h. ap (λ (x : Store). mark_in x q s) e ∙ no-marks st n z q s h;
      records = λ q s h. ap (λ (x : Store). keep (in_queue q s) (records_for q x)) e ∙ no-records st n q s h;
    }

-- ---- a process is stopped, after its pending CONT are discarded

module _ (st : Store) (p : ℕ) (l : live_process (view st) p ≡ true) where
  abbrev discarded : Store
  discarded = apply (discard p (of_signal SIGCONT)) st

  abbrev halted : Store
  halted = apply_all (discard p (of_signal SIGCONT) ∷ set_stopped p 1 ∷ []) st

  -- a discard leaves the process
  live-discarded : live_process (view discarded) p ≡ true
  live-discarded =
      same-live_process (view discarded) (view st) (seen-discard-processes st p (of_signal SIGCONT)) p ∙ l

  -- then it alone is amended
  amended : ProcessAmended (view discarded) (view halted) p (with_stopped 1)
  unfolding apply_all
  amended = set_stopped-amended discarded p 1

  -- and no CONT is pending in a queue of it
  no-cont : (q : Queue) → q.process ≡ p → pending_in (view halted) q SIGCONT ≡ false
  unfolding pending_in
  no-cont q e =
      ap₂ (λ (o : Option Siginfo) (m : Bool). is_some o || m) (amended.oldest q SIGCONT) (amended.marks q SIGCONT)
      ∙ discard-pending p (of_signal SIGCONT) st q SIGCONT
      ∙ and_right (pending_in (view st) q SIGCONT)
      (ap not (and_both (eq-eqb q.process p e) (unfold computing in refl)))

  -- tables that say that store are those of a stopped process
  pub stopped : (t : Lent) → decoded t ≡ halted → Stopped t p
  stopped t e =
      record {
        live = ap (λ (x : Store). live_process (view x) p) e ∙ amended.live p ∙ live-discarded;
        stopped =
            ap (λ (x : Store). (the_process (view x) p).stopped) e
            ∙ ap (λ (a : Process). a.stopped) (amended.own live-discarded);
        no_cont = λ q h. ap (λ (x : Store). pending_in (view x) q SIGCONT) e ∙ no-cont q h;
      }
