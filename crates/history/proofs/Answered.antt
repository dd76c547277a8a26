-- A call's refusal and answer are what is read in the ledger; none is 14; room is what the ledger counts.
-- Assumes nothing.
use Prim.Native.Nat.{ℕ, zero, suc, ◌≤◌}
use mathlib.Core.Path.{◌≡◌, refl, sym, ap, ap₂, ◌∙◌}
use mathlib.Core.Bool.{Bool, true, false, not, ◌&&◌, ◌||◌, cond}
use mathlib.Core.List.{[], ◌∷◌}
use native.Mathlib.Omega.{arith}
use lib.Dec.{eqb, leb, eqb-suc-zero}
use borrow.Author.Tests.{eqb-true, eq-eqb, leb-true, le-leb, not-true}
use Rattle.limits.specs.Limits.{record_limit, EAGAIN, EFAULT}
use Rattle.lists.proofs.Bools.{split, same_test, cond-false}
use Rattle.types.specs.Answers.{Refused, Accepted}
use Rattle.types.specs.declared.NewProcess.{NewProcess}
use Rattle.rules.specs.Types.{Call, add_process, add_thread, kill, sigqueue}
use Rattle.rules.specs.View.{View, target_queue, live_process, live_thread}
use Rattle.rules.specs.Store.{Store, view, is_free_process, is_free_thread}
use Rattle.rules.specs.Sound.{good_id}
use Rattle.lists.specs.Lists.{any}
use Rattle.rules.specs.Sending.{generation, needs_record}
use Rattle.rules.specs.Refusals.{refusal, rows, table, refusal_of, bad_id, no_thread_live, no_process_place}
use Rattle.rules.specs.Refusals.{no_thread_place}
use Rattle.rules.specs.Refusals.{no_room, einval, esrch, eperm, eexist, eagain}
use Rattle.rules.specs.Calls.{reply, finish, step}
use Rattle.rules.proofs.Facts.{within-limit}
use Rattle.rules.proofs.RefusalTable.{no-fault, rows-no-fault}
use Rattle.history.specs.Ledger.{Ledger, ledger_view, ledger_refusal, ledger_answer, of_process, pending_where}
use Rattle.boundary.specs.Boundary.{errno_of}
use Rattle.history.proofs.Counted.{same-queued}
use Rattle.history.proofs.Holds.{Holds, same_view}

-- ---- the tables' refusal is the ledger's

module _ (st : Store) (k : Ledger) (h : Holds st k) (c : Call) where
  pub same-refusal : refusal_of st c ≡ ledger_refusal k c
  unfolding refusal_of table refusal ledger_refusal
  same-refusal = cond-false _ _ (no-fault c st h.is_sound) ∙ ap (λ (v : View). refusal (rows v c)) (same_view st k h)

  finished : (n : ℕ) → (finish n c st).1 ≡ cond (eqb n 0) (Accepted (reply (view st) c)) (Refused n)
  unfolding finish
  finished zero = refl
  finished (suc n) = sym (cond-false (Accepted (reply (view st) c)) (Refused (suc n)) (eqb-suc-zero n))

  pub same_answer : (step c st).1 ≡ ledger_answer k c
  unfolding step ledger_answer
  same_answer =
      finished (refusal_of st c)
      ∙ ap₂ (λ (n : ℕ) (v : View). cond (eqb n 0) (Accepted (reply v c)) (Refused n)) same-refusal (same_view st k h)

-- ---- what is returned

module _ (k : Ledger) (c : Call) where
  -- 0 where the ledger accepts, else its errno
  pub returned-refusal : errno_of (ledger_answer k c) ≡ ledger_refusal k c
  unfolding ledger_answer errno_of
  returned-refusal =
      split (eqb (ledger_refusal k c) 0)
      (λ e. rw e (sym (eqb-true (ledger_refusal k c) 0 e)))
      (λ e. rw e)

  pub never-fault : eqb (errno_of (ledger_answer k c)) EFAULT ≡ false
  unfolding ledger_refusal
  never-fault =
      ap (λ (n : ℕ). eqb n EFAULT) returned-refusal
      ∙ not-true (eqb (ledger_refusal k c) EFAULT) (rows-no-fault (ledger_view k) c)

-- ---- room

-- a queued send has one row more than a plain one, the last
last_row : (x y z w : Bool)
    → eqb (refusal (einval x ∷ esrch y ∷ eperm z ∷ eagain w ∷ [])) EAGAIN
    ≡ (eqb (refusal (einval x ∷ esrch y ∷ eperm z ∷ [])) 0 && w)
unfolding refusal
last_row true y z w = refl
last_row false true z w = refl
last_row false false true w = refl
last_row false false false true = refl
last_row false false false false = refl

-- at most 32: at least 32 is exactly 32
full : (n : ℕ) → n ≤ record_limit → leb record_limit n ≡ eqb n record_limit
full n h =
    same_test (leb record_limit n) (eqb n record_limit)
    (λ e. let i : record_limit ≤ n = leb-true record_limit n e in eq-eqb n record_limit (omega arith))
    (λ e. let i : n ≡ record_limit = eqb-true n record_limit e in le-leb record_limit n (omega arith))

module _ (st : Store) (k : Ledger) (h : Holds st k) where
  pub pending-limit : (n : ℕ) → pending_where k (of_process n) ≤ record_limit
  pending-limit n = omega (arith, same-queued st k h.is_sound h.beside.agrees n, within-limit st h.is_sound n)

  pub room-counted : (by to t s value : ℕ) → eqb (errno_of (ledger_answer k (sigqueue by to t s value))) EAGAIN
      ≡ (eqb (refusal (rows (ledger_view k) (kill by to t s))) 0
      && (needs_record (generation (ledger_view k) true (target_queue to t) s)
      && eqb (pending_where k (of_process to)) record_limit))
  unfolding ledger_refusal rows no_room
  room-counted by to t s value =
      ap (λ (n : ℕ). eqb n EAGAIN) (returned-refusal k (sigqueue by to t s value))
      ∙ last_row _ _ _ (no_room (ledger_view k) to t s)
      ∙ ap (λ (b : Bool). eqb (refusal (rows (ledger_view k) (kill by to t s))) 0
      && (needs_record (generation (ledger_view k) true (target_queue to t) s) && b))
      (unfold ledger_view in full (pending_where k (of_process to)) (pending-limit to))

-- ---- room for what is added

-- no row before that of room, which is of free places
process-row : (p q y u w : Bool)
    → eqb (refusal (einval (not p || not q) ∷ eexist y ∷ eagain (not u || not w) ∷ [])) EAGAIN
    ≡ ((p && q) && (not y && not (u && w)))
unfolding refusal
process-row false q y u w = refl
process-row true false y u w = refl
process-row true true true u w = refl
process-row true true false false w = refl
process-row true true false true false = refl
process-row true true false true true = refl

thread-row : (p c y w : Bool)
    → eqb (refusal (einval (not p) ∷ esrch (not c) ∷ eexist y ∷ eagain (not w) ∷ [])) EAGAIN
    ≡ (p && (c && (not y && not w)))
unfolding refusal
thread-row false c y w = refl
thread-row true false y w = refl
thread-row true true true w = refl
thread-row true true false false = refl
thread-row true true false true = refl

module _ (k : Ledger) where
  pub process-room : (new : NewProcess) → eqb (errno_of (ledger_answer k (add_process new))) EAGAIN
      ≡ ((good_id new.id && good_id new.thread)
      && (not (live_process (ledger_view k) new.id || live_thread (ledger_view k) new.thread)
      && not (any is_free_process k.processes && any is_free_thread k.threads)))
  unfolding ledger_refusal rows bad_id no_process_place no_thread_place ledger_view
  process-room new =
      ap (λ (n : ℕ). eqb n EAGAIN) (returned-refusal k (add_process new))
      ∙ process-row (good_id new.id) (good_id new.thread) _ (any is_free_process k.processes)
      (any is_free_thread k.threads)

  pub thread-room : (creator id : ℕ) → eqb (errno_of (ledger_answer k (add_thread creator id))) EAGAIN
      ≡ (good_id id
      && (live_thread (ledger_view k) creator
      && (not (live_thread (ledger_view k) id) && not (any is_free_thread k.threads))))
  unfolding ledger_refusal rows bad_id no_thread_live no_thread_place ledger_view
  thread-room creator id =
      ap (λ (n : ℕ). eqb n EAGAIN) (returned-refusal k (add_thread creator id))
      ∙ thread-row (good_id id) (live_thread (ledger_view k) creator) _ (any is_free_thread k.threads)
