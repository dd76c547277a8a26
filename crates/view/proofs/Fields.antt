-- A live id is found, and the fields of the place that is found are those of whom it names. Assumes nothing.
use Prim.Native.Nat.{ℕ, ◌≤◌}
use mathlib.Core.Path.{◌≡◌, sym, ap, subst, ◌∙◌}
use mathlib.Core.Bool.{true, ◌&&◌, ◌||◌}
use mathlib.Core.List.{List}
use lib.Dec.{eqb, leb}
use lib.ListN.{get_or}
use borrow.Author.Tests.{leb-true}
use Rattle.limits.specs.Limits.{SIGCONT, largest_id, largest_user, process_stopped}
use Rattle.limits.specs.Limits.{process_real, process_effective, process_saved, process_session, thread_process}
use Rattle.limits.specs.Limits.{thread_mask}
use Rattle.lists.specs.Lists.{find}
use Rattle.lists.proofs.Bools.{and-snd}
use Rattle.sigset.specs.Set.{bits}
use Rattle.types.specs.declared.Action.{Action}
use Rattle.rules.specs.Types.{Process, Thread}
use Rattle.rules.specs.View.{is_process, is_thread, action_of}
use Rattle.rules.specs.Store.{free_process, free_thread}
use Rattle.rules.specs.Sound.{good_id, good_user}
use Rattle.rules.specs.Sending.{may_signal}
use Rattle.rules.proofs.Marks.{first-held}
use Rattle.tables.specs.Tables.{processes_of, threads_of, held_processes, held_threads, process_at, thread_at, head_to}
use Rattle.tables.specs.Tables.{thread_to}
use Rattle.view.specs.Named.{process_named, thread_named}

-- ---- what fits 32 bits

pub id-fits : (r n : ℕ) → r ≡ n → good_id n ≡ true → r ≤ largest_id
unfolding good_id
id-fits r n e g =
    subst (λ (k : ℕ). k ≤ largest_id) (sym e) (leb-true n largest_id (and-snd (leb 1 n) (leb n largest_id) g))

pub user-fits : (r n : ℕ) → r ≡ n → good_user n ≡ true → r ≤ largest_user
unfolding good_user
user-fits r n e g = subst (λ (k : ℕ). k ≤ largest_user) (sym e) (leb-true n largest_user g)

module _ (ps : List ℕ) (n place : ℕ) (e : place ≡ find (is_process n) (held_processes ps)) where
  pub process-there : (process_at ps place).holds ≡ process_named ps n
  process-there = ap (λ (k : ℕ). (process_at ps k).holds) e
      ∙ sym (first-held free_process (is_process n) (processes_of ps))

  module _ (r : ℕ) where
    pub stopped-read : r ≡ get_or (head_to (process_at ps place)) process_stopped 0 → r ≡ (process_named ps n).stopped
    unfolding head_to
    stopped-read h = h ∙ ap (λ (p : Process). p.stopped) process-there

    pub real_read : r ≡ get_or (head_to (process_at ps place)) process_real 0 → r ≡ (process_named ps n).real
    unfolding head_to
    real_read h = h ∙ ap (λ (p : Process). p.real) process-there

    pub effective-read : r ≡ get_or (head_to (process_at ps place)) process_effective 0 → r
        ≡ (process_named ps n).effective
    unfolding head_to
    effective-read h = h ∙ ap (λ (p : Process). p.effective) process-there

    pub saved_read : r ≡ get_or (head_to (process_at ps place)) process_saved 0 → r ≡ (process_named ps n).saved
    unfolding head_to
    saved_read h = h ∙ ap (λ (p : Process). p.saved) process-there

    pub session-read : r ≡ get_or (head_to (process_at ps place)) process_session 0 → r ≡ (process_named ps n).session
    unfolding head_to
    session-read h = h ∙ ap (λ (p : Process). p.session) process-there

  pub action-read : (s : ℕ) (a : Action) → a ≡ action_of (process_at ps place).holds s
      → a ≡ action_of (process_named ps n) s
  action-read s a h = h ∙ ap (λ (p : Process). action_of p s) process-there

module _ (ts : List ℕ) (n place : ℕ) (e : place ≡ find (is_thread n) (held_threads ts)) where
  pub thread-there : (thread_at ts place).holds ≡ thread_named ts n
  thread-there = ap (λ (k : ℕ). (thread_at ts k).holds) e ∙ sym (first-held free_thread (is_thread n) (threads_of ts))

  pub owner-read : (r : ℕ) → r ≡ get_or (thread_to (thread_at ts place)) thread_process 0 → r
      ≡ (thread_named ts n).process
  unfolding thread_to
  owner-read r h = h ∙ ap (λ (t : Thread). t.process) thread-there

  pub mask-read : (r : ℕ) → r ≡ get_or (thread_to (thread_at ts place)) thread_mask 0 → bits r
      ≡ (thread_named ts n).mask
  unfolding thread_to
  mask-read r h = ap bits h ∙ ap (λ (t : Thread). t.mask) thread-there

-- ---- permission

pub may_read : (a b : Process) (s real effective target_real target_saved session target_session : ℕ) → real ≡ a.real
    → effective ≡ a.effective
    → target_real ≡ b.real → target_saved ≡ b.saved → session ≡ a.session → target_session ≡ b.session
    → (eqb effective 0
    || ((eqb real target_real || eqb real target_saved)
    || ((eqb effective target_real || eqb effective target_saved) || (eqb s SIGCONT && eqb session target_session))))
    ≡ may_signal a b s
unfolding may_signal
may_read a b s real effective target_real target_saved session target_session e1 e2 e3 e4 e5 e6 =
    rw (e1, e2, e3, e4, e5, e6)
