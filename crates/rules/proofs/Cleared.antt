-- A cleared store: it is sound, nobody lives in it, and what each call is refused with there. Assumes nothing.
use Prim.Native.Nat.{ℕ, zero, suc}
use mathlib.Core.Path.{◌≡◌, refl, ◌∙◌}
use mathlib.Core.Bool.{Bool, true, false, not, ◌&&◌, ◌||◌, cond}
use mathlib.Core.List.{map}
use lib.Dec.{eqb, eqb-zero-suc}
use lib.ListN.{replicate}
use Rattle.limits.specs.Limits.{process_places, thread_places, ESRCH, EINVAL}
use Rattle.lists.specs.Lists.{any}
use Rattle.lists.proofs.Bools.{and_right}
use Rattle.lists.proofs.Lists.{any-map, any-replicate}
use Rattle.rules.specs.Types.{Call, clear, add_process, add_thread, end_process, end_thread, kill, sigqueue}
use Rattle.rules.specs.Types.{sigaction, sigmask, sigpending, look, who, take, sigreturn}
use Rattle.rules.specs.View.{is_process, is_thread, live_process, live_thread}
use Rattle.rules.specs.Store.{Place, held, free_process, free_thread, cleared, view}
use Rattle.rules.specs.Sound.{sound}
use Rattle.rules.specs.Refusals.{refusal, bad_id, over_last, bad_action, bad_way, no_process_live, no_thread_live}
use Rattle.rules.specs.Refusals.{bad_target, no_process_place, no_thread_place, rows, table, refusal_of}
use Rattle.rules.specs.Computing.{computing}
use Rattle.rules.proofs.RefusalTable.{no-fault}

-- ---- what is there

pub sound-cleared : sound cleared ≡ true
unfolding computing
sound-cleared = refl

-- a free place has nobody's id
pub no-id : (n : ℕ) → (not (eqb n 0) && eqb 0 n) ≡ false
no-id zero = refl
no-id (suc n) = and_right (not (eqb (suc n) 0)) (eqb-zero-suc n)

-- none of so many places that hold the same passes a test that this fails
none-held : {A : Type 0} (p : A → Bool) (x : Place A) (n : ℕ) → p x.holds ≡ false
    → any p (map held (replicate n x)) ≡ false
none-held {A} p x n e = any-map p held (replicate n x) ∙ any-replicate (λ (y : Place A). p y.holds) x e n

pub no-process : (n : ℕ) → live_process (view cleared) n ≡ false
unfolding live_process view cleared is_process
no-process n = none-held (is_process n) free_process process_places (no-id n)

pub no-thread : (n : ℕ) → live_thread (view cleared) n ≡ false
unfolding live_thread view cleared is_thread
no-thread n = none-held (is_thread n) free_thread thread_places (no-id n)

places-free : (no_process_place (view cleared) || no_thread_place (view cleared)) ≡ false
unfolding computing
places-free = refl

-- ---- what is refused

-- adding a process is refused for a bad id alone; what names a process or a thread finds none, unless 22 comes first
pub refused_there : Call → ℕ
refused_there clear = 0
refused_there (add_process new) = cond (bad_id new.id || bad_id new.thread) EINVAL 0
refused_there (add_thread creator id) = cond (bad_id id) EINVAL ESRCH
refused_there (end_process id) = ESRCH
refused_there (end_thread id) = ESRCH
refused_there (kill by to t s) = cond (over_last s) EINVAL ESRCH
refused_there (sigqueue by to t s value) = cond (over_last s) EINVAL ESRCH
refused_there (sigaction p s new) = cond (bad_action s new) EINVAL ESRCH
refused_there (sigmask t way set) = cond (bad_way way set) EINVAL ESRCH
refused_there (sigpending t) = ESRCH
refused_there (look t) = ESRCH
refused_there (who p) = ESRCH
refused_there (take t) = ESRCH
refused_there (sigreturn t saved) = ESRCH

by_rows : (c : Call) → refusal (rows (view cleared) c) ≡ refused_there c
unfolding refusal rows refused_there no_process_live no_thread_live bad_target
by_rows clear = refl
by_rows (add_process new) = rw (no-process new.id, no-thread new.thread, places-free)
by_rows (add_thread creator id) = rw (no-thread creator)
by_rows (end_process id) = rw (no-process id)
by_rows (end_thread id) = rw (no-thread id)
by_rows (kill by to t s) = rw (no-process by)
by_rows (sigqueue by to t s value) = rw (no-process by)
by_rows (sigaction p s new) = rw (no-process p)
by_rows (sigmask t way set) = rw (no-thread t)
by_rows (sigpending t) = rw (no-thread t)
by_rows (look t) = rw (no-thread t)
by_rows (who p) = rw (no-process p)
by_rows (take t) = rw (no-thread t)
by_rows (sigreturn t saved) = rw (no-thread t)

-- a call on a cleared store is refused exactly where the rows say
pub on-cleared : (c : Call) → refusal_of cleared c ≡ refused_there c
unfolding refusal_of table refusal
on-cleared c = rw (no-fault c cleared sound-cleared) (by_rows c)
