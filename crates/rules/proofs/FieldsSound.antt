-- Stopping or continuing a process, a new action and a new mask leave a sound store sound. Assumes nothing.
use Prim.Native.Nat.{ℕ, ◌-◌}
use mathlib.Core.Path.{◌≡◌, refl, sym, ap, subst, ◌∙◌}
use mathlib.Core.Bool.{Bool, true, false, not, ◌&&◌, ◌||◌}
use mathlib.Core.List.{map}
use native.Mathlib.Omega.{arith}
use lib.Dec.{eqb, leb}
use lib.ListN.{length, set, length-set}
use borrow.Author.Tests.{eqb-true, eqb-false, eq-eqb, not-true}
use Rattle.limits.specs.Limits.{signals, record_limit, SIGKILL, SIGSTOP}
use Rattle.lists.specs.Lists.{any}
use Rattle.lists.proofs.Bools.{split, clash, and-fst, and-snd, and_both, or_left, or-fst-false, or-snd-false, imp_use}
use Rattle.lists.proofs.Bools.{imp-by}
use Rattle.lists.proofs.Lists.{Pass, All-imp, All-changed, Stands, any-changed, length-change}
use Rattle.lists.proofs.Loops.{all_set}
use Rattle.lists.proofs.Members.{All-standing}
use Rattle.sigset.specs.declared.SigSet.{SigSet}
use Rattle.sigset.specs.Set.{Signal, is_unmaskable}
use Rattle.types.specs.declared.Action.{Action}
use Rattle.rules.specs.Types.{Process, Thread}
use Rattle.rules.specs.Signals.{is_signal, ignored}
use Rattle.rules.specs.View.{set_stopped, set_action, set_mask, is_process, is_thread, belongs_to, process_queue}
use Rattle.rules.specs.View.{action_of, live_process, live_thread, the_process, the_thread, thread_action}
use Rattle.rules.specs.Store.{Place, Store, held, queued_in, view, amend, on_processes, on_threads, with_stopped}
use Rattle.rules.specs.Store.{with_action, with_mask, apply}
use Rattle.rules.specs.Sound.{is_live, if_live, process_id, thread_id, actions_long, good_user, fields_fit, belongs}
use Rattle.rules.specs.Sound.{has_thread, unmasked, action_unmasked, process_unmasked, thread_unmasked, is_default}
use Rattle.rules.specs.Sound.{kill_stop_default, flags_known, process_flags_known, nameable, process_not_ignored, sound}
use Rattle.rules.specs.Fitting.{pends_somewhere, fits}
use Rattle.rules.proofs.FieldsInView.{with, ProcessAmended, ThreadAmended, kept-but-one, action-own}
use Rattle.rules.proofs.FieldsInView.{action-other, held-amended, process-amended, thread-amended}
use Rattle.rules.proofs.IdsApart.{apart-changed}
use Rattle.rules.proofs.CarriedOver.{always, Carries, process-carried, thread-carried, threads-kept}
use Rattle.rules.proofs.CarriedOver.{processes-kept, process-buffer-kept, thread-buffer-kept}
use Rattle.rules.proofs.Facts.{actions-length}
use Rattle.rules.proofs.Found.{not-ignored-at, not-ignored-by}
use Rattle.rules.proofs.Ids.{named_live}
use Rattle.rules.proofs.ClausesByPlace.{OwnProcess, GoodProcess, GoodThread, Good, HaveThreads, good}
use Rattle.rules.proofs.ClausesByPlace.{have-threads, good-sound}
use Rattle.rules.proofs.PendingSomewhere.{marked-pends, process-marked, process-pends}
use Rattle.rules.proofs.Signals.{is-signal, nameable-signal}
use Rattle.rules.proofs.Unmaskable.{kill-signal, stop-signal}

-- ---- a process is amended

module _ (st : Store) (e : sound st ≡ true) (n : ℕ) (g : Process → Process) (i : (p : Process) → (g p).id ≡ p.id) where
  abbrev after_process : Store
  after_process = on_processes (amend (is_process n) g) st

  abbrev is_here : Place Process → Bool
  is_here x = is_process n x.holds

  -- what is pending in the process stays unignored
  module _ (l : live_process (view st) n ≡ true)
      (h : (s : ℕ) → is_signal s ≡ true → pends_somewhere (view st) n s ≡ true
      → ignored (action_of (the_process (view st) n) s) s ≡ false
      → ignored (action_of (g (the_process (view st) n)) s) s ≡ false) where
    amends : ProcessAmended (view st) (view after_process) n g
    amends = process-amended st n g i

    carries-process : Carries st after_process always always
    unfolding view
    carries-process =
        record {
          process = λ k _ p. amends.live k ∙ p;
          thread = λ k _ p. amends.thread_live k ∙ p;
          owner = λ k _ _. ap (λ (t : Thread). t.process) (amends.thread k);
          not-ignored =
              λ k s _ f _ p u.
              split (eqb k n)
              (λ z.
              let q : n ≡ k = sym (eqb-true k n z) in
              subst (λ (m : ℕ). ignored (action_of (the_process (view after_process) m) s) s ≡ false) q
              (ap (λ (p : Process). ignored (action_of p s) s) (amends.own l)
              ∙ h s f (ap (λ (m : ℕ). pends_somewhere (view st) m s) q ∙ p)
              (ap (λ (m : ℕ). ignored (action_of (the_process (view st) m) s) s) q ∙ u)))
              (λ z. ap (λ (p : Process). ignored (action_of p s) s) (amends.other k z) ∙ u);
          unmarked = λ q s u. amends.marks q s ∙ u;
          queued = λ k. omega (arith, amends.queued k);
        }

    module _ (own : (x : Place Process) → Stands st.processes x → is_here x ≡ true → OwnProcess x
        → OwnProcess (with g x)) where
      good-with : (x : Place Process) → is_here x ≡ true → Stands st.processes x × GoodProcess st x
          → GoodProcess after_process (with g x)
      good-with x t p =
          record {
            own = own x p.0 t p.1.own;
            limit =
                ap (λ (m : ℕ). not (not (eqb m 0)) || leb (queued_in after_process m) record_limit) (i x.holds)
                ∙ (process-carried st after_process always always carries-process x p.1 p.1.own).limit;
          }

      good-amended : Good after_process
      good-amended =
          let k : Good st = good st e in
          record {
            processes_long = length-change is_here (with g) st.processes ∙ k.processes_long;
            processes =
                All-changed (λ x. Stands st.processes x × GoodProcess st x)
                (GoodProcess after_process) is_here (with g)
                good-with
                (λ x _ p. process-carried st after_process always always carries-process x p.1 p.1.own)
                st.processes (All-standing (GoodProcess st) st.processes k.processes);
            process_apart =
                apart-changed process_id is_here (with g)
                (λ x. or_left (eqb (g x.holds).id 0) (eq-eqb (g x.holds).id x.holds.id (i x.holds)))
                st.processes k.process_apart;
            threads_long = k.threads_long;
            threads = threads-kept st after_process always always carries-process (λ _. refl) k.threads;
            thread_apart = k.thread_apart;
            thread_buffer =
                thread-buffer-kept st after_process always always carries-process (λ _. refl) (λ _. refl)
                k.thread_buffer;
            process_buffer =
                process-buffer-kept st after_process always always carries-process (λ _. refl) k.process_buffer;
          }

      have-threads-amended : HaveThreads after_process
      unfolding has_thread view
      have-threads-amended =
          All-changed (Pass (if_live process_id (has_thread (view st))))
          (Pass (if_live process_id (has_thread (view after_process)))) is_here (with g)
          (λ x _ p. ap (λ (m : ℕ). not (not (eqb m 0)) || any (belongs_to m) (view st).threads) (i x.holds) ∙ p)
          (λ x _ p. p)
          st.processes (have-threads st e)

      pub process-amended-sound : sound after_process ≡ true
      process-amended-sound = good-sound after_process good-amended have-threads-amended

-- ---- stopped or not

module _ (n b : ℕ) (r : leb b 1 ≡ true) where
  own-stopped : (x : Place Process) → is_process n x.holds ≡ true → OwnProcess x → OwnProcess (with (with_stopped b) x)
  unfolding actions_long fields_fit process_unmasked kill_stop_default action_of process_flags_known is_process
  own-stopped x t o =
      let p : Process = x.holds in
      let z : eqb p.id 0 ≡ false = named_live n p.id t in
      let f1 = and-snd (good_user p.real) _ o.fields in
      let f2 = and-snd (good_user p.effective) _ f1 in
      let f3 = and-snd (good_user p.saved) _ f2 in
      record {
        long = o.long;
        free = rw z;
        ids = o.ids;
        fields =
            and_both (and-fst (good_user p.real) _ o.fields)
            (and_both (and-fst (good_user p.effective) _ f1)
            (and_both (and-fst (good_user p.saved) _ f2) (and_both (and-fst (good_user p.session) _ f3) r)));
        sets = o.sets;
        defaults = o.defaults;
        flags = o.flags;
        not-ignored = o.not-ignored;
      }

pub set_stopped-sound : (st : Store) → sound st ≡ true → (n b : ℕ) → fits (view st) (set_stopped n b) ≡ true
    → sound (apply (set_stopped n b) st) ≡ true
unfolding apply fits action_of
set_stopped-sound st e n b f =
    process-amended-sound st e n (with_stopped b) (λ p. refl) (and-fst (live_process (view st) n) _ f) (λ s _ _ u. u)
    (λ x _ t o. own-stopped n b (and-snd (live_process (view st) n) _ f) x t o)

-- ---- a new action

module _ (st : Store) (n s : ℕ) (a : Action) (i : Signal s)
    (q : ignored a s ≡ true → pends_somewhere (view st) n s ≡ false) where
  -- what is pending stays unignored
  still-not-ignored : (p : Process) → length p.actions ≡ signals → (k : ℕ) → is_signal k ≡ true
      → pends_somewhere (view st) n k ≡ true
      → ignored (action_of p k) k ≡ false → ignored (action_of (with_action s a p) k) k ≡ false
  still-not-ignored p l k f h u =
      split (eqb k s)
      (λ z.
      let y : s ≡ k = sym (eqb-true k s z) in
      subst (λ (m : ℕ). ignored (action_of (with_action s a p) m) m ≡ false) y
      (ap (λ (b : Action). ignored b s) (action-own p s a l i)
      ∙ split (ignored a s) (λ j. clash (ap (pends_somewhere (view st) n) y ∙ h) (q j)) (λ j. j)))
      (λ z. ap (λ (b : Action). ignored b k) (action-other p s k a i (is-signal k f) (eqb-false k s z)) ∙ u)

  module _ (u : is_unmaskable s ≡ false) (y : flags_known a ≡ true) (m : unmasked a.mask ≡ true) where
    default-kept : (p : Process) → (is_default (action_of p SIGKILL) && is_default (action_of p SIGSTOP)) ≡ true
        → (is_default (action_of (with_action s a p) SIGKILL) && is_default (action_of (with_action s a p) SIGSTOP))
        ≡ true
    default-kept p d =
        let k = eqb-false s SIGKILL (or-fst-false (eqb s SIGKILL) (eqb s SIGSTOP) u) in
        let t = eqb-false s SIGSTOP (or-snd-false (eqb s SIGKILL) (eqb s SIGSTOP) u) in
        and_both
        (ap is_default (action-other p s SIGKILL a i kill-signal (λ z. k (sym z)))
        ∙ and-fst (is_default (action_of p SIGKILL)) _ d)
        (ap is_default (action-other p s SIGSTOP a i stop-signal (λ z. t (sym z)))
        ∙ and-snd (is_default (action_of p SIGKILL)) _ d)

    own-action : (x : Place Process) → Stands st.processes x → is_process n x.holds ≡ true → OwnProcess x
        → OwnProcess (with (with_action s a) x)
    unfolding actions_long fields_fit process_unmasked action_unmasked kill_stop_default process_flags_known is_process
    own-action x c t o =
        let p : Process = x.holds in
        let z : eqb p.id 0 ≡ false = named_live n p.id t in
        let d : p.id ≡ n = eqb-true p.id n (and-snd (not (eqb n 0)) (eqb p.id n) t) in
        let l : length p.actions ≡ signals = eqb-true (length p.actions) signals o.long in
        record {
          long = eq-eqb (length (set p.actions (s - 1) a)) signals (length-set p.actions (s - 1) a ∙ l);
          free = rw z;
          ids = o.ids;
          fields = o.fields;
          sets =
              and_both (and-fst (unmasked x.marks) _ o.sets)
              (all_set action_unmasked p.actions (s - 1) a (and-snd (unmasked x.marks) _ o.sets) m);
          defaults = default-kept p o.defaults;
          flags = all_set flags_known p.actions (s - 1) a o.flags y;
          not-ignored =
              imp-by (is_live process_id x)
              (λ v.
              not-ignored-by x.marks (action_of (with_action s a p))
              (λ k f h.
              still-not-ignored p l k f
              (ap (λ (j : ℕ). pends_somewhere (view st) j k) (sym d)
              ∙ process-pends st p.id k (marked-pends st (process_queue p.id) k (process-marked st x c k f h)))
              (not-ignored-at x.marks (action_of p)
              (imp_use (is_live process_id x) (process_not_ignored x) o.not-ignored v) k f h)));
        }

pub set_action-sound : (st : Store) → sound st ≡ true → (n s : ℕ) (a : Action) → fits (view st) (set_action n s a)
    ≡ true
    → sound (apply (set_action n s a) st) ≡ true
unfolding apply fits nameable
set_action-sound st e n s a f =
    let f1 = and-snd (live_process (view st) n) _ f in
    let f2 = and-snd (nameable s) _ f1 in
    let f3 = and-snd (flags_known a) _ f2 in
    let f4 = and-snd (unmasked a.mask) _ f3 in
    let d : nameable s ≡ true = and-fst (nameable s) _ f1 in
    let u : is_unmaskable s ≡ false = not-true (is_unmaskable s) (and-snd (is_signal s) _ d) in
    let i : Signal s = nameable-signal s d in
    let q : ignored a s ≡ true → pends_somewhere (view st) n s ≡ false =
    λ j. not-true (pends_somewhere (view st) n s) (imp_use (ignored a s) (not (pends_somewhere (view st) n s)) f4 j) in
    process-amended-sound st e n (with_action s a) (λ p. refl) (and-fst (live_process (view st) n) _ f)
    (still-not-ignored st n s a i q (the_process (view st) n) (actions-length st e n))
    (own-action st n s a i q u (and-fst (flags_known a) _ f2) (and-fst (unmasked a.mask) _ f3))

-- ---- a new mask

module _ (st : Store) (e : sound st ≡ true) (n : ℕ) (m : SigSet) (l : live_thread (view st) n ≡ true)
    (u : unmasked m ≡ true) where
  abbrev after_thread : Store
  after_thread = on_threads (amend (is_thread n) (with_mask m)) st

  abbrev is_thread_here : Place Thread → Bool
  is_thread_here x = is_thread n x.holds

  masks : ThreadAmended (view st) (view after_thread) n (with_mask m)
  masks = thread-amended st n (with_mask m) (λ t. refl) (λ t. refl)

  owner-kept : (k : ℕ) → (the_thread (view after_thread) k).process ≡ (the_thread (view st) k).process
  owner-kept =
      kept-but-one (the_thread (view st)) (the_thread (view after_thread)) n (with_mask m) (λ (t : Thread). t.process)
      (λ t. refl) (masks.own l) masks.other

  carries-mask : Carries st after_thread always always
  unfolding view
  carries-mask =
      record {
        process = λ k _ p. masks.process_live k ∙ p;
        thread = λ k _ p. masks.live k ∙ p;
        owner = λ k _ _. owner-kept k;
        not-ignored = λ k s _ _ _ _ h. ap (λ (p : Process). ignored (action_of p s) s) (masks.process k) ∙ h;
        unmarked = λ q s h. masks.marks q s ∙ h;
        queued = λ k. omega (arith, masks.queued k);
      }

  carried : (x : Place Thread) → Stands st.threads x × GoodThread st x → GoodThread after_thread x
  carried x p = thread-carried st after_thread always always carries-mask x p.0 p.1 (λ _. refl)

  with-mask : (x : Place Thread) → is_thread_here x ≡ true → Stands st.threads x × GoodThread st x
      → GoodThread after_thread (with (with_mask m) x)
  unfolding thread_unmasked belongs thread_action is_thread
  with-mask x t p =
      let z : eqb x.holds.id 0 ≡ false = named_live n x.holds.id t in
      record {
        own =
            record {
              free = rw z;
              ids = p.1.own.ids;
              sets = and_both u (and-snd (unmasked x.holds.mask) _ p.1.own.sets);
            };
        owned = (carried x p).owned;
        not-ignored = (carried x p).not-ignored;
      }

  good-masked : Good after_thread
  good-masked =
      let k : Good st = good st e in
      record {
        processes_long = k.processes_long;
        processes = processes-kept st after_thread always always carries-mask k.processes;
        process_apart = k.process_apart;
        threads_long = length-change is_thread_here (with (with_mask m)) st.threads ∙ k.threads_long;
        threads =
            All-changed (λ x. Stands st.threads x × GoodThread st x) (GoodThread after_thread) is_thread_here
            (with (with_mask m))
            with-mask (λ x _ p. carried x p)
            st.threads (All-standing (GoodThread st) st.threads k.threads);
        thread_apart =
            apart-changed thread_id is_thread_here (with (with_mask m))
            (λ x. or_left (eqb x.holds.id 0) (eq-eqb x.holds.id x.holds.id refl))
            st.threads k.thread_apart;
        thread_buffer =
            thread-buffer-kept st after_thread always always carries-mask (λ _. refl) (λ _. refl) k.thread_buffer;
        process_buffer = process-buffer-kept st after_thread always always carries-mask (λ _. refl) k.process_buffer;
      }

  threads-of : (k : ℕ) → any (belongs_to k) (view after_thread).threads ≡ any (belongs_to k) (view st).threads
  unfolding view belongs_to
  threads-of k =
      ap (any (belongs_to k)) (held-amended (is_thread n) (with_mask m) st.threads)
      ∙ any-changed (belongs_to k) (is_thread n) (with_mask m) (map held st.threads) (λ t _. refl)

  have-threads-masked : HaveThreads after_thread
  unfolding has_thread
  have-threads-masked =
      All-imp (Pass (if_live process_id (has_thread (view st))))
      (Pass (if_live process_id (has_thread (view after_thread))))
      (λ x p. ap (λ (b : Bool). not (is_live process_id x) || b) (threads-of x.holds.id) ∙ p)
      st.processes (have-threads st e)

  set_mask-keeps : sound after_thread ≡ true
  set_mask-keeps = good-sound after_thread good-masked have-threads-masked

pub set_mask-sound : (st : Store) → sound st ≡ true → (n : ℕ) (m : SigSet) → fits (view st) (set_mask n m) ≡ true
    → sound (apply (set_mask n m) st) ≡ true
unfolding apply fits
set_mask-sound st e n m f =
    set_mask-keeps st e n m (and-fst (live_thread (view st) n) _ f) (and-snd (live_thread (view st) n) _ f)
