-- Sound stays sound: every call, accepted or refused, and every list of calls leaves a sound store sound.
-- Assumes nothing.
use Prim.Native.Nat.{ℕ}
use mathlib.Core.Path.{◌≡◌, refl, ap, ◌∙◌}
use mathlib.Core.Bool.{Bool, true, false, not, ◌||◌}
use mathlib.Core.List.{List, [], ◌∷◌}
use mathlib.Core.Option.{some}
use borrow.Author.Tests.{not-false}
use Rattle.limits.specs.Limits.{sig_setmask}
use Rattle.lists.specs.Lists.{all, any}
use Rattle.lists.proofs.Bools.{clash, and-fst, and-snd, and_both, or-fst-false, or-snd-false}
use Rattle.types.specs.declared.NewProcess.{NewProcess}
use Rattle.rules.specs.Types.{Call, clear, add_process, add_thread, end_process, end_thread, kill, sigqueue}
use Rattle.rules.specs.Types.{sigaction, sigmask, sigpending, look, who, take, sigreturn, Kind, clearing, adding}
use Rattle.rules.specs.Types.{queueing, taking, other, kind_of}
use Rattle.rules.specs.View.{live_process, live_thread}
use Rattle.rules.specs.Store.{Store, is_free_process, is_free_thread, view, apply_all}
use Rattle.rules.specs.Sound.{good_id, good_user, sound}
use Rattle.rules.specs.Adding.{add_process_changes, add_thread_changes}
use Rattle.rules.specs.Refusals.{bad_id, no_process_live, no_thread_live, no_process_place, no_thread_place, rows}
use Rattle.rules.specs.Refusals.{table}
use Rattle.rules.specs.Refusals.{clears, is_clear, refusal_of}
use Rattle.rules.specs.Calls.{changes, step, run}
use Rattle.rules.specs.Machine.{is_u32, machine}
use Rattle.rules.specs.Fitting.{fits, fits_all}
use Rattle.rules.proofs.Facts.{owner-live, mask-unmasked}
use Rattle.rules.proofs.SendFits.{send-fits, action-fits, mask_fits}
use Rattle.rules.proofs.ChangesSound.{forget-sound, fits-all-keep}
use Rattle.rules.proofs.AddingSound.{add_process-sound}
use Rattle.rules.proofs.Steps.{accepted-step, call-keeps}
use Rattle.rules.proofs.RefusalTable.{accepted-off, accepted-sound}
use Rattle.rules.proofs.TakeFits.{take-fits, end-thread-fits}

-- adding a process is the one call of which a change does not fit: its two changes fit only together
abbrev pub adds : {c : Call} → Kind c → Bool
adds clearing = false
adds (adding new) = true
adds (queueing by to t s value) = false
adds (taking t) = false
adds other = false

unfoldable pub is_add_process : Call → Bool
is_add_process c = adds (kind_of c)

-- ---- the changes of an accepted call fit, one after the other

good-id : (n : ℕ) → bad_id n ≡ false → good_id n ≡ true
unfolding bad_id
good-id n e = not-false (good_id n) e

module _ (st : Store) where
  process-lives : (n : ℕ) → no_process_live (view st) n ≡ false → live_process (view st) n ≡ true
  unfolding no_process_live
  process-lives n e = not-false (live_process (view st) n) e

  thread-lives : (n : ℕ) → no_thread_live (view st) n ≡ false → live_thread (view st) n ≡ true
  unfolding no_thread_live
  thread-lives n e = not-false (live_thread (view st) n) e

  thread-place : no_thread_place (view st) ≡ false → any is_free_thread (view st).threads ≡ true
  unfolding no_thread_place
  thread-place e = not-false (any is_free_thread (view st).threads) e

  process-place : no_process_place (view st) ≡ false → any is_free_process (view st).processes ≡ true
  unfolding no_process_place
  process-place e = not-false (any is_free_process (view st).processes) e

  -- a thread is added to its creator's process, with its mask
  add-thread-fits : sound st ≡ true → (creator id : ℕ) → bad_id id ≡ false → no_thread_live (view st) creator ≡ false
      → live_thread (view st) id ≡ false
      → no_thread_place (view st) ≡ false → fits_all (add_thread_changes (view st) creator id) st ≡ true
  unfolding add_thread_changes fits_all fits
  add-thread-fits e creator id b l d f =
      and_both
      (and_both (good-id id b)
      (and_both (ap not d)
      (and_both (owner-live st e creator (thread-lives creator l))
      (and_both (mask-unmasked st e creator) (thread-place f)))))
      refl

pub call_fits : (c : Call) (st : Store) → is_add_process c ≡ false → refusal_of st c ≡ 0
    → fits_all (changes (view st) c) st ≡ true
unfolding is_add_process is_clear changes table rows fits_all fits
call_fits clear st k e = refl
call_fits (add_process new) st k e = clash refl k
call_fits (add_thread creator id) st k e =
    let o = (accepted-off st (add_thread creator id) e).1 in
    add-thread-fits st (accepted-sound st (add_thread creator id) refl e) creator id o.0 o.1.0 o.1.1.0
    o.1.1.1.0
call_fits (end_process id) st k e = and_both (process-lives st id (accepted-off st (end_process id) e).1.0) refl
call_fits (end_thread id) st k e =
    end-thread-fits st (accepted-sound st (end_thread id) refl e) id
    (thread-lives st id (accepted-off st (end_thread id) e).1.0)
call_fits (kill by to t s) st k e =
    let o = (accepted-off st (kill by to t s) e).1 in
    send-fits st (accepted-sound st (kill by to t s) refl e) false by to t s 0 o.0
    (or-snd-false (no_process_live (view st) by) _ o.1.0) (λ h. clash h refl)
call_fits (sigqueue by to t s value) st k e =
    let o = (accepted-off st (sigqueue by to t s value) e).1 in
    send-fits st (accepted-sound st (sigqueue by to t s value) refl e) true by to t s value o.0
    (or-snd-false (no_process_live (view st) by) _ o.1.0) (λ _. o.1.1.1.0)
call_fits (sigaction p s new) st k e =
    let o = (accepted-off st (sigaction p s new) e).1 in
    action-fits st (accepted-sound st (sigaction p s new) refl e) p s new o.0 (process-lives st p o.1.0)
call_fits (sigmask t way set) st k e =
    mask_fits st t way set (thread-lives st t (accepted-off st (sigmask t way set) e).1.1.0)
call_fits (sigpending t) st k e = refl
call_fits (look t) st k e = refl
call_fits (who p) st k e = refl
call_fits (take t) st k e =
    take-fits st (accepted-sound st (take t) refl e) t (thread-lives st t (accepted-off st (take t) e).1.0)
call_fits (sigreturn t saved) st k e =
    mask_fits st t sig_setmask (some saved) (thread-lives st t (accepted-off st (sigreturn t saved) e).1.0)

-- ---- what an accepted call leaves

module _ (new : NewProcess) (st : Store) where
  -- the user ids and the session id are 32-bit numbers
  add-process-sound : machine (add_process new) ≡ true → refusal_of st (add_process new) ≡ 0
      → sound (apply_all (add_process_changes new) st) ≡ true
  unfolding machine is_u32 good_user is_clear table rows
  add-process-sound u e =
      let o = (accepted-off st (add_process new) e).1 in
      let u1 = and-snd (is_u32 new.id) _ u in
      let u2 = and-snd (is_u32 new.real) _ u1 in
      let u3 = and-snd (is_u32 new.effective) _ u2 in
      let u4 = and-snd (is_u32 new.saved) _ u3 in
      let live : (live_process (view st) new.id || live_thread (view st) new.thread) ≡ false = o.1.0 in
      let full : (no_process_place (view st) || no_thread_place (view st)) ≡ false = o.1.1.0 in
      add_process-sound st (accepted-sound st (add_process new) refl e) new
      (good-id new.id (or-fst-false (bad_id new.id) (bad_id new.thread) o.0))
      (good-id new.thread (or-snd-false (bad_id new.id) (bad_id new.thread) o.0))
      (or-fst-false (live_process (view st) new.id) _ live) (or-snd-false (live_process (view st) new.id) _ live)
      (process-place st (or-fst-false (no_process_place (view st)) _ full))
      (thread-place st (or-snd-false (no_process_place (view st)) _ full))
      (and-fst (is_u32 new.real) _ u1) (and-fst (is_u32 new.effective) _ u2) (and-fst (is_u32 new.saved) _ u3)
      (and-fst (is_u32 new.session) _ u4)

-- a call other than clearing and adding a process
fitting-sound : (c : Call) (st : Store) → is_clear c ≡ false → is_add_process c ≡ false → refusal_of st c ≡ 0
    → sound (apply_all (changes (view st) c) st) ≡ true
fitting-sound c st k a e = fits-all-keep (changes (view st) c) st (accepted-sound st c k e) (call_fits c st a e)

kind-sound : {c : Call} (k : Kind c) → kind_of c ≡ k → (st : Store) → machine c ≡ true → refusal_of st c ≡ 0
    → sound (apply_all (changes (view st) c) st) ≡ true
unfolding is_add_process is_clear
kind-sound clearing h st u e = unfold changes apply_all in forget-sound st
kind-sound (adding new) h st u e = unfold changes in add-process-sound new st u e
kind-sound (queueing by to t s value) h st u e = fitting-sound (sigqueue by to t s value) st refl refl e
kind-sound (taking t) h st u e = fitting-sound (take t) st refl refl e
kind-sound other h st u e = fitting-sound _ st (ap clears h) (ap adds h) e

changes-sound : (c : Call) (st : Store) → machine c ≡ true → refusal_of st c ≡ 0
    → sound (apply_all (changes (view st) c) st) ≡ true
changes-sound c = kind-sound (kind_of c) refl

-- every accepted call leaves a sound store, through the same test that errno 14 uses;
-- of arguments it asks only that they are machine numbers
pub accepted-sound-after : (c : Call) (st : Store) → machine c ≡ true → refusal_of st c ≡ 0 → sound (step c st).0 ≡ true
accepted-sound-after c st u e = ap sound (accepted-step c st e) ∙ changes-sound c st u e

-- and a refused one leaves the store that it found
pub step-sound : (c : Call) (st : Store) → machine c ≡ true → sound st ≡ true → sound (step c st).0 ≡ true
step-sound c st u e = call-keeps (λ x. sound x ≡ true) c st (changes-sound c st u) e

pub run_sound : (cs : List Call) (st : Store) → all machine cs ≡ true → sound st ≡ true → sound (run cs st).0 ≡ true
unfolding run all
run_sound [] st u e = e
run_sound (c ∷ cs) st u e =
    run_sound cs (step c st).0 (and-snd (machine c) (all machine cs) u)
    (step-sound c st (and-fst (machine c) (all machine cs) u) e)
