-- The changes of a send, of a new action and of a new mask fit, one after the other, the store that the call found.
-- Assumes nothing.
use Prim.Native.Nat.{ℕ, ◌≤◌}
use mathlib.Core.Path.{◌≡◌, refl, sym, ap, ◌∙◌}
use mathlib.Core.Bool.{Bool, true, false, not, ◌&&◌, cond, and_assoc}
use mathlib.Core.List.{List, [], ◌∷◌, ◌++◌}
use mathlib.Core.Option.{Option, some, none}
use native.Mathlib.Omega.{arith}
use lib.Dec.{eqb, leb, ltb}
use borrow.Author.Tests.{eq-eqb, eqb-false, ltb-false, leb-false, lt-ltb, le-leb, not-false}
use Rattle.limits.specs.Limits.{signals, record_limit, SIGKILL, SIGCONT, SIGSTOP, si_queue}
use Rattle.lists.proofs.Bools.{split, clash, and-fst, and_both, cond-true, cond-false, or-both, or-fst-false}
use Rattle.lists.proofs.Bools.{or-snd-false, imp-by}
use Rattle.sigset.specs.declared.SigSet.{SigSet}
use Rattle.sigset.specs.Set.{set_of, of_signal, is_unmaskable}
use Rattle.types.specs.declared.Action.{Action}
use Rattle.types.specs.declared.Siginfo.{Siginfo}
use Rattle.rules.specs.Types.{Queue}
use Rattle.rules.specs.Signals.{is_signal, standard, stop_signal, ignored}
use Rattle.rules.specs.View.{View, Change, set_stopped, set_action, set_mark, append, discard, target_queue, action_of}
use Rattle.rules.specs.View.{live_process, live_thread, the_process, pending_in}
use Rattle.rules.specs.Store.{Store, view, apply, apply_all}
use Rattle.rules.specs.Sound.{unmasked, flags_known, nameable, sound}
use Rattle.rules.specs.Sending.{Generation, testing, killing, stopping, dropping, absorbing, marking, keeping}
use Rattle.rules.specs.Sending.{absorbs, generation, info_of, job_control, send_changes, needs_record}
use Rattle.rules.specs.Actions.{stored, store_changes, action_changes, new_mask, mask_changes}
use Rattle.rules.specs.Refusals.{over_last, unstorable, bad_action, bad_target, no_room}
use Rattle.rules.specs.Calls.{send}
use Rattle.rules.specs.Fitting.{live_queue, pends_somewhere, admits, fits, fits_all}
use Rattle.rules.proofs.FewerPending.{FewerPending, fewer-refl, fewer-trans, fewer-discard, fewer-stopped}
use Rattle.rules.proofs.FewerPending.{admits-fewer, append-fewer}
use Rattle.rules.proofs.DiscardPending.{discard-clears}
use Rattle.rules.proofs.Queues.{target-process}
use Rattle.rules.proofs.Unmaskable.{unmasked-maskable}

pub fits_all-append : (xs ys : List Change) (st : Store)
    → fits_all (xs ++ ys) st ≡ (fits_all xs st && fits_all ys (apply_all xs st))
unfolding fits_all apply_all
fits_all-append [] ys st = refl
fits_all-append (c ∷ xs) ys st =
    ap (λ (b : Bool). fits (view st) c && b) (fits_all-append xs ys (apply c st))
    ∙ sym (and_assoc (fits (view st) c) (fits_all xs (apply c st)) (fits_all ys (apply_all xs (apply c st))))

-- ---- job control

job-cases : (P : List Change → Type 0) (p s : ℕ)
    → ((x : SigSet) (b : ℕ) → leb b 1 ≡ true → P (discard p x ∷ set_stopped p b ∷ []))
    → ((x : SigSet) → P (discard p x ∷ [])) → P [] → P (job_control p s)
unfolding job_control
job-cases P p s two one nil =
    split (eqb s SIGCONT)
    (λ e. rw e (two (set_of stop_signal) 0 refl))
    (λ e.
    split (eqb s SIGSTOP)
    (λ f. rw (e, f) (two (of_signal SIGCONT) 1 refl))
    (λ f.
    split (stop_signal s)
    (λ g. rw (e, f, g) (one (of_signal SIGCONT)))
    (λ g. rw (e, f, g) nil)))

module _ (st : Store) (e : sound st ≡ true) (p : ℕ) (l : live_process (view st) p ≡ true) where
  -- the process is there after a discard
  live-after : (x : SigSet) → live_process (view (apply (discard p x) st)) p ≡ true
  live-after x = (fewer-discard st e p x).process p ∙ l

  job-fewer : (s : ℕ) → FewerPending (view st) (view (apply_all (job_control p s) st))
  unfolding apply_all
  job-fewer s =
      job-cases (λ cs. FewerPending (view st) (view (apply_all cs st))) p s
      (λ x b _. fewer-trans (fewer-discard st e p x) (fewer-stopped (apply (discard p x) st) p b (live-after x)))
      (λ x. fewer-discard st e p x)
      (fewer-refl (view st))

pub job-fits : (st : Store) → sound st ≡ true → (p s : ℕ) → live_process (view st) p ≡ true
    → fits_all (job_control p s) st ≡ true
unfolding fits_all fits
job-fits st e p s l =
    job-cases (λ cs. fits_all cs st ≡ true) p s
    (λ x b h. and_both l (and_both (and_both (live-after st e p l x) h) refl))
    (λ x. and_both l refl)
    refl

-- ---- a send

-- a number that is not 0, not over the last signal, not 9 or 19
nameable-by : (s : ℕ) → eqb s 0 ≡ false → over_last s ≡ false → is_unmaskable s ≡ false → nameable s ≡ true
unfolding nameable is_signal over_last
nameable-by s z o u =
    let n : 1 ≤ s = omega (arith, eqb-false s 0 z) in
    and_both (and_both (le-leb 1 s n) (le-leb s signals (ltb-false signals s o))) (ap not u)

module _ (v : View) where
  -- a generation that keeps or marks has failed every test before it
  generation-cases : (P : Generation → Type 0) (queued : Bool) (q : Queue) (s : ℕ) → P testing → P killing → P stopping
      → P dropping → P absorbing
      → (eqb s 0 ≡ false → is_unmaskable s ≡ false → ignored (action_of (the_process v q.process) s) s ≡ false
      → absorbs v queued q s ≡ false
      → P (cond queued keeping marking))
      → P (generation v queued q s)
  unfolding generation
  generation-cases P queued q s t k h d a m =
      split (eqb s 0)
      (λ e0. rw e0 t)
      (λ e0.
      split (eqb s SIGKILL)
      (λ e1. rw (e0, e1) k)
      (λ e1.
      split (eqb s SIGSTOP)
      (λ e2. rw (e0, e1, e2) h)
      (λ e2.
      split (ignored (action_of (the_process v q.process) s) s)
      (λ e3. rw (e0, e1, e2, e3) d)
      (λ e3.
      split (absorbs v queued q s)
      (λ e4. rw (e0, e1, e2, e3, e4) a)
      (λ e4. rw (e0, e1, e2, e3, e4) (m e0 (or-both e1 e2) e3 e4))))))

  admits-by : (queued : Bool) (to t s : ℕ) → over_last s ≡ false → bad_target v to t ≡ false → eqb s 0 ≡ false
      → is_unmaskable s ≡ false
      → ignored (action_of (the_process v to) s) s ≡ false → absorbs v queued (target_queue to t) s ≡ false
      → admits v (target_queue to t) s ≡ true
  unfolding admits live_queue absorbs
  admits-by queued to t s o b z u i a =
      and_both (ap not b)
      (and_both (nameable-by s z o u)
      (and_both (ap not i) (ap not (or-fst-false (standard s && pending_in v (target_queue to t) s) _ a))))

  room_by : (to t s : ℕ) → no_room v to t s ≡ false → generation v true (target_queue to t) s ≡ keeping
      → ltb (v.queued to) record_limit ≡ true
  unfolding no_room needs_record
  room_by to t s n k =
      let f : leb record_limit (v.queued to) ≡ false = rw k at n in
      lt-ltb (v.queued to) record_limit (leb-false record_limit (v.queued to) f)

module _ (st : Store) (e : sound st ≡ true) (by to t s value : ℕ) (o : over_last s ≡ false)
    (b : bad_target (view st) to t ≡ false) where
  abbrev sent : Siginfo
  sent = info_of (view st) by to t s value

  controls : fits_all (job_control to s) st ≡ true
  controls = job-fits st e to s (target-process (view st) to t b)

  -- a change after job control that fitted before it
  then-fits : (c : Change)
      → (FewerPending (view st) (view (apply_all (job_control to s) st))
      → fits (view (apply_all (job_control to s) st)) c ≡ true)
      → fits_all (job_control to s ++ (c ∷ [])) st ≡ true
  unfolding fits_all
  then-fits c f =
      fits_all-append (job_control to s) (c ∷ []) st
      ∙ and_both controls (and_both (f (job-fewer st e to (target-process (view st) to t b) s)) refl)

  marking-fits : admits (view st) (target_queue to t) s ≡ true → fits_all (send_changes marking sent) st ≡ true
  unfolding send_changes info_of fits
  marking-fits a = then-fits (set_mark (target_queue to t) s) (λ c. admits-fewer c (target_queue to t) s a)

  keeping-fits : admits (view st) (target_queue to t) s ≡ true → ltb ((view st).queued to) record_limit ≡ true
      → fits_all (send_changes keeping sent) st ≡ true
  unfolding send_changes info_of fits
  keeping-fits a r =
      then-fits (append sent) (λ c. append-fewer c sent (and_both (eq-eqb si_queue si_queue refl) (and_both a r)))

  sent-fits : (queued : Bool) → (queued ≡ true → no_room (view st) to t s ≡ false)
      → fits_all (send_changes (generation (view st) queued (target_queue to t) s) sent) st ≡ true
  unfolding send_changes info_of fits_all fits
  sent-fits queued n =
      generation-cases (view st)
      (λ f. generation (view st) queued (target_queue to t) s ≡ f → fits_all (send_changes f sent) st ≡ true) queued
      (target_queue to t) s
      (λ _. refl)
      (λ _. and_both (target-process (view st) to t b) refl)
      (λ _. controls)
      (λ _. controls)
      (λ _. controls)
      (λ z u i a.
      let d : admits (view st) (target_queue to t) s ≡ true = admits-by (view st) queued to t s o b z u i a in
      split queued
      (λ k. rw k (λ h. keeping-fits d (room_by (view st) to t s (n k) h)))
      (λ k. rw k (λ h. marking-fits d)))
      refl

pub send-fits : (st : Store) → sound st ≡ true → (queued : Bool) (by to t s value : ℕ) → over_last s ≡ false
    → bad_target (view st) to t ≡ false
    → (queued ≡ true → no_room (view st) to t s ≡ false) → fits_all (send (view st) queued by to t s value) st ≡ true
unfolding send
send-fits st e queued by to t s value o b n = sent-fits st e by to t s value o b queued n

-- ---- an action

set_action-fits : (v : View) (p s : ℕ) (a : Action) → live_process v p ≡ true → nameable s ≡ true → flags_known a ≡ true
    → unmasked a.mask ≡ true
    → (ignored a s ≡ true → pends_somewhere v p s ≡ false) → fits v (set_action p s a) ≡ true
unfolding fits
set_action-fits v p s a l n f m h =
    and_both l (and_both n (and_both f (and_both m (imp-by (ignored a s) (λ i. ap not (h i))))))

pub store-fits : (st : Store) → sound st ≡ true → (p s : ℕ) (a : Action) → live_process (view st) p ≡ true
    → nameable s ≡ true → flags_known a ≡ true
    → unmasked a.mask ≡ true → fits_all (store_changes p s a) st ≡ true
unfolding store_changes fits_all fits nameable
store-fits st e p s a l n f m =
    let after : Store = apply (discard p (of_signal s)) st in
    split (ignored a s)
    (λ i.
    ap (λ (cs : List Change). fits_all cs st) (cond-true _ _ i)
    ∙ and_both l
    (and_both (set_action-fits (view after) p s a (live-after st e p l (of_signal s)) n f m
    (λ _. discard-clears st e p s (and-fst (is_signal s) _ n))) refl))
    (λ i.
    ap (λ (cs : List Change). fits_all cs st) (cond-false _ _ i)
    ∙ and_both (set_action-fits (view st) p s a l n f m (λ k. clash k i)) refl)

pub action-fits : (st : Store) → sound st ≡ true → (p s : ℕ) (new : Option Action) → bad_action s new ≡ false
    → live_process (view st) p ≡ true
    → fits_all (action_changes p s new) st ≡ true
unfolding action_changes bad_action unstorable fits_all stored flags_known
action-fits st e p s none b l = refl
action-fits st e p s (some a) b l =
    let b1 = or-snd-false (over_last s) _ b in
    let b2 = or-snd-false (eqb s 0) _ b1 in
    store-fits st e p s (stored a) l
    (nameable-by s (or-fst-false (eqb s 0) _ b1) (or-fst-false (over_last s) _ b) (or-fst-false (is_unmaskable s) _ b2))
    (not-false (flags_known a) (or-snd-false (is_unmaskable s) _ b2)) (unmasked-maskable a.mask)

-- ---- a mask

pub mask_fits : (st : Store) → (t way : ℕ) (set : Option SigSet) → live_thread (view st) t ≡ true
    → fits_all (mask_changes (view st) t way set) st ≡ true
unfolding mask_changes new_mask fits_all fits
mask_fits st t way none l = refl
mask_fits st t way (some set) l = and_both (and_both l (unmasked-maskable _)) refl
