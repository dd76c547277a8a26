-- The changes of a take and of a thread's end fit, one after the other, the store that the call found. Assumes nothing.
use Prim.Native.Nat.{ℕ}
use mathlib.Core.Path.{◌≡◌, refl, sym, ap, ◌∙◌}
use mathlib.Core.Bool.{Bool, true, false, not, ◌&&◌, cond}
use mathlib.Core.List.{List}
use mathlib.Core.Option.{Option, some, none}
use lib.Dec.{eqb}
use borrow.Author.Tests.{eqb-true, eq-eqb}
use Rattle.limits.specs.Limits.{sig_dfl}
use Rattle.lists.specs.Lists.{any, is_some, All}
use Rattle.lists.proofs.Bools.{split, clash, and-fst, and-snd, and_both, or_cases, cond-true, cond-false}
use Rattle.lists.proofs.Lists.{Pass, All-imp, All-first, Found, found}
use Rattle.sigset.specs.Set.{is_unmaskable}
use Rattle.sigset.proofs.Laws.{lowest_of-found}
use Rattle.types.specs.declared.Action.{Action}
use Rattle.types.specs.declared.Siginfo.{Siginfo}
use Rattle.rules.specs.Types.{Thread, Queue, Next}
use Rattle.rules.specs.Signals.{Outcome, ignores, stops, continues, ends, outcome, is_signal}
use Rattle.rules.specs.View.{Change, set_mask, clear_mark, drop_oldest, same_queue, thread_queue, process_queue}
use Rattle.rules.specs.View.{queue_of, in_queue, live_process, live_thread, the_thread, thread_action, pending_in}
use Rattle.rules.specs.View.{pending_for}
use Rattle.rules.specs.Store.{Store, used, records_for, mark_in, view, apply}
use Rattle.rules.specs.Sound.{unmasked, nameable, names_live, aimed_at_thread, aimed_at_process, sound}
use Rattle.rules.specs.Taking.{is_stopped, can_take_signal, next_signal, next_queue, next_in, next, handler_mask}
use Rattle.rules.specs.Taking.{resets}
use Rattle.rules.specs.Taking.{reset, reset_changes, outcome_changes, deliver, take_changes}
use Rattle.rules.specs.Adding.{other_thread, end_thread_changes}
use Rattle.rules.specs.Fitting.{live_queue, fits, fits_all}
use Rattle.rules.proofs.Aimed.{names-signal}
use Rattle.rules.proofs.FieldsInView.{set_mask-amended}
use Rattle.rules.proofs.FieldsSound.{set_mask-sound}
use Rattle.rules.proofs.Facts.{owner-live, marks-unmasked, action-unmasked, thread-aimed, process-aimed}
use Rattle.rules.proofs.Queues.{shared-live, own-live}
use Rattle.rules.proofs.SendFits.{store-fits}
use Rattle.rules.proofs.Flags.{reset-known}
use Rattle.rules.proofs.Marks.{the-thread-id}
use Rattle.rules.proofs.PendingSomewhere.{pending-is}
use Rattle.rules.proofs.PendingInView.{same-live_process, same-live_thread, seen-clear_mark-processes}
use Rattle.rules.proofs.PendingInView.{seen-clear_mark-threads, seen-drop_oldest-processes}
use Rattle.rules.proofs.PendingInView.{seen-drop_oldest-threads}
use Rattle.rules.proofs.DiscardsSound.{clear_mark-sound, drop_oldest-sound}
use Rattle.rules.proofs.Unmaskable.{unmasked-maskable}

-- ---- what is pending can be named

abbrev Nameable : Siginfo → Type 0
Nameable r = nameable r.signal ≡ true

module _ (st : Store) (e : sound st ≡ true) where
  records-nameable : (b : Bool) → All Nameable (used (cond b st.process_buffer st.thread_buffer))
  unfolding aimed_at_thread aimed_at_process
  records-nameable true =
      All-imp (Pass (aimed_at_process (view st))) Nameable
      (λ r a. names-signal st r (and-fst (names_live (view st) r) _ a)) (used st.process_buffer) (process-aimed st e)
  records-nameable false =
      All-imp (Pass (aimed_at_thread (view st))) Nameable
      (λ r a. names-signal st r (and-fst (names_live (view st) r) _ a))
      (used st.thread_buffer) (thread-aimed st e)

  record-nameable : (q : Queue) (s : ℕ) → any (in_queue q s) (records_for q st) ≡ true → nameable s ≡ true
  unfolding records_for in_queue
  record-nameable q s a =
      let f : Found (in_queue q s) (records_for q st) = found (in_queue q s) (records_for q st) a in
      ap nameable (sym (eqb-true f.it.signal s (and-snd (same_queue q (queue_of f.it)) _ f.passes)))
      ∙ All-first Nameable (in_queue q s) (records_for q st) f.it f.is-first (records-nameable (eqb q.thread 0))

  mark-nameable : (q : Queue) (s : ℕ) → mark_in st q s ≡ true → nameable s ≡ true
  unfolding mark_in nameable
  mark-nameable q s m =
      split (is_unmaskable s)
      (λ u. clash m (marks-unmasked st e q s u))
      (λ u. and_both (and-fst (is_signal s) _ m) (ap not u))

  pub pending-nameable : (q : Queue) (s : ℕ) → pending_in (view st) q s ≡ true → nameable s ≡ true
  pending-nameable q s a =
      or_cases (any (in_queue q s) (records_for q st)) (mark_in st q s) (sym (pending-is st q s) ∙ a)
      (record-nameable q s)
      (mark-nameable q s)

-- ---- a delivery

module _ (st : Store) (e : sound st ≡ true) (t : Thread) (p : live_process (view st) t.process ≡ true) where
  outcome_fits : (o : Outcome) → fits_all (outcome_changes o t.process) st ≡ true
  unfolding outcome_changes fits_all fits
  outcome_fits ignores = refl
  outcome_fits stops = and_both (and_both p refl) refl
  outcome_fits continues = refl
  outcome_fits ends = and_both p refl

  module _ (l : live_thread (view st) t.id ≡ true) (a : Action) (m : unmasked a.mask ≡ true) (s : ℕ)
      (n : nameable s ≡ true) where
    abbrev handling : Change
    handling = set_mask t.id (handler_mask t.mask a s)

    handling-fits : fits (view st) handling ≡ true
    unfolding fits handler_mask
    handling-fits = and_both l (unmasked-maskable _)

    reset-fits : fits_all (reset_changes t.process s a) (apply handling st) ≡ true
    unfolding reset_changes reset fits_all
    reset-fits =
        split (resets a s)
        (λ r.
        ap (λ (cs : List Change). fits_all cs (apply handling st)) (cond-true _ _ r)
        ∙ store-fits (apply handling st) (set_mask-sound st e t.id (handler_mask t.mask a s) handling-fits)
        t.process s (reset a)
        ((set_mask-amended st t.id (handler_mask t.mask a s)).process_live t.process ∙ p) n (reset-known a) m)
        (λ r. ap (λ (cs : List Change). fits_all cs (apply handling st)) (cond-false _ _ r))

    deliver-fits : fits_all (deliver t a s) st ≡ true
    unfolding deliver fits_all
    deliver-fits =
        split (eqb a.handler sig_dfl)
        (λ d. ap (λ (cs : List Change). fits_all cs st) (cond-true _ _ d) ∙ outcome_fits (outcome s))
        (λ d. ap (λ (cs : List Change). fits_all cs st) (cond-false _ _ d) ∙ and_both handling-fits reset-fits)

-- ---- a live thread of a sound store

module _ (st : Store) (e : sound st ≡ true) (t : ℕ) (l : live_thread (view st) t ≡ true) where
  abbrev pub it : Thread
  it = the_thread (view st) t

  it-lives : live_thread (view st) it.id ≡ true
  it-lives = ap (live_thread (view st)) (the-thread-id st t l) ∙ l

  its-process : live_process (view st) it.process ≡ true
  its-process = owner-live st e t l

  pub thread-queue-live : live_queue (view st) (thread_queue it) ≡ true
  thread-queue-live =
      own-live (view st) it.process its-process it.id it-lives
      (ap (λ (k : ℕ). (the_thread (view st) k).process) (the-thread-id st t l))

  pub process-queue-live : live_queue (view st) (process_queue it.process) ≡ true
  process-queue-live = shared-live (view st) it.process its-process

  -- ---- a take

  module _ (s : ℕ) (c : can_take_signal (view st) it s ≡ true) where
    abbrev its-queue : Queue
    its-queue = next_queue (view st) it s

    its-queue-live : live_queue (view st) its-queue ≡ true
    unfolding next_queue
    its-queue-live =
        split (pending_in (view st) (thread_queue it) s)
        (λ a. ap (live_queue (view st)) (cond-true _ _ a) ∙ thread-queue-live)
        (λ a. ap (live_queue (view st)) (cond-false _ _ a) ∙ process-queue-live)

    its-nameable : nameable s ≡ true
    unfolding can_take_signal pending_for
    its-nameable =
        or_cases (pending_in (view st) (thread_queue it) s) (pending_in (view st) (process_queue it.process) s)
        (and-fst (pending_for (view st) it s) _ (and-snd (not (is_stopped (view st) it)) _ c))
        (pending-nameable st e (thread_queue it) s) (pending-nameable st e (process_queue it.process) s)

    abbrev its-action : Action
    its-action = thread_action (view st) it s

    its-action-unmasked : unmasked its-action.mask ≡ true
    unfolding thread_action
    its-action-unmasked = action-unmasked st e it.process s

    -- on a store that has the same processes and threads
    delivers : (st' : Store) → sound st' ≡ true → (view st').processes ≡ (view st).processes
        → (view st').threads ≡ (view st).threads
        → fits_all (deliver it its-action s) st' ≡ true
    delivers st' e' ps ts =
        deliver-fits st' e' it (same-live_process (view st') (view st) ps it.process ∙ its-process)
        (same-live_thread (view st') (view st) ts it.id ∙ it-lives) its-action its-action-unmasked s its-nameable

    next_fits : (o : Option Siginfo) → (view st).oldest its-queue s ≡ o
        → fits_all (take_changes (view st) it (next_in (view st) its-queue s o)) st ≡ true
    unfolding take_changes next_in fits_all fits
    next_fits none o =
        and_both its-queue-live
        (delivers (apply (clear_mark its-queue s) st) (clear_mark-sound st e its-queue s)
        (seen-clear_mark-processes st its-queue s) (seen-clear_mark-threads st its-queue s))
    next_fits (some r) o =
        and_both (ap is_some o)
        (delivers (apply (drop_oldest its-queue s) st) (drop_oldest-sound st e its-queue s)
        (seen-drop_oldest-processes st its-queue s) (seen-drop_oldest-threads st its-queue s))

pub take-fits : (st : Store) → sound st ≡ true → (t : ℕ) → live_thread (view st) t ≡ true
    → fits_all (take_changes (view st) (the_thread (view st) t) (next (view st) (the_thread (view st) t))) st ≡ true
unfolding next next_signal take_changes fits_all
take-fits st e t l =
    let x : Thread = the_thread (view st) t in
    let s : ℕ = next_signal (view st) x in
    split (eqb s 0)
    (λ z. ap (λ (n : Next). fits_all (take_changes (view st) x n) st) (cond-true _ _ z))
    (λ z.
    ap (λ (n : Next). fits_all (take_changes (view st) x n) st) (cond-false _ _ z)
    ∙ next_fits st e t l s (lowest_of-found (can_take_signal (view st) x) (λ k. clash (eq-eqb s 0 k) z)).1
    ((view st).oldest (next_queue (view st) x s) s) refl)

-- ---- a thread's end

pub end-thread-fits : (st : Store) → sound st ≡ true → (t : ℕ) → live_thread (view st) t ≡ true
    → fits_all (end_thread_changes (view st) (the_thread (view st) t)) st ≡ true
unfolding end_thread_changes fits_all fits
end-thread-fits st e t l =
    let x : Thread = the_thread (view st) t in
    split (any (other_thread (view st) x) (view st).threads)
    (λ o.
    ap (λ (c : Change). fits (view st) c && true) (cond-true _ _ o)
    ∙ and_both (and_both (it-lives st e t l)
    (ap (λ (k : ℕ). any (other_thread (view st) (the_thread (view st) k)) (view st).threads) (the-thread-id st t l)
    ∙ o))
    refl)
    (λ o. ap (λ (c : Change). fits (view st) c && true) (cond-false _ _ o) ∙ and_both (its-process st e t l) refl)
