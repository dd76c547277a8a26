-- Adding a thread, and adding a process with its first thread, leave a sound store sound. Assumes nothing.
use Prim.Native.Nat.{ℕ, ◌≤◌}
use mathlib.Core.Path.{◌≡◌, refl, sym, ap, ◌∙◌}
use mathlib.Core.Bool.{Bool, true, false, not}
use mathlib.Core.List.{List}
use mathlib.Core.Option.{Option, get_or}
use native.Mathlib.Omega.{arith}
use lib.Dec.{eqb, leb}
use borrow.Author.Tests.{eqb-true, eq-eqb, ne_eqb, leb-true, not-true}
use Rattle.limits.specs.Limits.{largest_id}
use Rattle.lists.specs.Lists.{any, first, replace_first, All}
use Rattle.lists.proofs.Bools.{split, clash, and-fst, and-snd, and_both, and_right, imp_use, imp-by}
use Rattle.lists.proofs.Lists.{Pass, Fail, All-imp, All-every, All-replace_first, All-map, any-All, All-any}
use Rattle.lists.proofs.Lists.{any-replace_first, any-replaced, any-first, map-replace_first, length-replace_first}
use Rattle.lists.proofs.Changes.{first-filled}
use Rattle.sigset.specs.Set.{empty, maskable}
use Rattle.sigset.proofs.Laws.{has-empty}
use Rattle.types.specs.declared.NewProcess.{NewProcess}
use Rattle.rules.specs.Types.{Process, Thread, no_process, no_thread}
use Rattle.rules.specs.Signals.{ignored}
use Rattle.rules.specs.View.{new_thread, is_process, is_thread, belongs_to, same_queue, process_queue, thread_queue}
use Rattle.rules.specs.View.{action_of, live_process, live_thread, the_process, the_thread, thread_action}
use Rattle.rules.specs.Store.{Place, Store, held, process_mark, thread_mark, queued_in, view, fill, is_free_process}
use Rattle.rules.specs.Store.{is_free_thread, on_processes, on_threads, apply, apply_all}
use Rattle.rules.specs.Sound.{is_live, if_live, process_id, thread_id, actions_long, good_id, good_user, fields_fit}
use Rattle.rules.specs.Sound.{belongs, has_thread, unmasked, process_unmasked, thread_unmasked, kill_stop_default}
use Rattle.rules.specs.Sound.{process_flags_known, sound}
use Rattle.rules.specs.Adding.{added_process, add_process_changes}
use Rattle.rules.specs.Fitting.{fits}
use Rattle.rules.proofs.IdsApart.{apart-filled}
use Rattle.rules.proofs.CarriedOver.{always, Carries, unmarked-by, processes-kept, threads-kept}
use Rattle.rules.proofs.CarriedOver.{process-buffer-kept, thread-buffer-kept}
use Rattle.rules.proofs.Facts.{none-of-dead}
use Rattle.rules.proofs.Found.{not-ignored-by}
use Rattle.rules.proofs.Ids.{named, free-unnamed}
use Rattle.rules.proofs.Marks.{process-named, free-of-nobody}
use Rattle.rules.proofs.ClausesByPlace.{OwnProcess, GoodProcess, GoodThread, Good, own-free-process, limit-by}
use Rattle.rules.proofs.ClausesByPlace.{good, have-threads, good-sound}
use Rattle.rules.proofs.Unmaskable.{unmasked-empty, unmasked-maskable}

-- 0 is no id
good-named : (n : ℕ) → good_id n ≡ true → eqb n 0 ≡ false
unfolding good_id
good-named n g = let h : 1 ≤ n = leb-true 1 n (and-fst (leb 1 n) (leb n largest_id) g) in ne_eqb n 0 (λ e. omega arith)

-- a new place, with nothing marked
abbrev fresh : {A : Type 0} → A → Place A
fresh a = record { holds = a; marks = empty }

-- a live process other than n has a thread
abbrev Elsewhere : Store → ℕ → Place Process → Type 0
Elsewhere st n x = is_live process_id x ≡ true → eqb x.holds.id n ≡ false → has_thread (view st) x ≡ true

unmarked-filled : {A : Type 0} (is_free : A → Bool) (a : A) (f : Place A → Bool) → f (fresh a) ≡ false
    → (xs : List (Place A)) → any f xs ≡ false
    → any f (fill is_free a xs) ≡ false
unmarked-filled {A} is_free a f z xs e =
    All-any f (fill is_free a xs)
    (All-replace_first (Fail f) (λ (x : Place A). is_free x.holds) (fresh a) z xs (any-All f xs e))

-- one with an id of nobody takes a free entry: the others are found as before
first-new : {A : Type 0} (id : A → ℕ) (a : A) (xs : List A) → any (named id (id a)) xs ≡ false → (n : ℕ)
    → any (named id n) xs ≡ true
    → first (named id n) (replace_first (λ (b : A). eqb (id b) 0) a xs) ≡ first (named id n) xs
first-new {A} id a xs dead n l =
    first-filled (named id n) (λ (b : A). eqb (id b) 0) a
    (and_right (not (eqb n 0))
    (split (eqb (id a) n) (λ h. clash (ap (λ (m : ℕ). any (named id m) xs) (eqb-true (id a) n h) ∙ l) dead) (λ h. h)))
    xs (All-every (λ (b : A). eqb (id b) 0 ≡ true → named id n b ≡ false) (λ b z. free-unnamed n (id b) z) xs)

-- ---- a thread

module _ (st : Store) (k : Good st) (t : Thread) (dead : live_thread (view st) t.id ≡ false) where
  abbrev with_thread : Store
  with_thread = on_threads (fill is_free_thread t) st

  held-thread : (view with_thread).threads ≡ replace_first is_free_thread t (view st).threads
  unfolding view
  held-thread = map-replace_first held is_free_thread (fresh t) st.threads

  first-thread : (n : ℕ) → live_thread (view st) n ≡ true
      → first (is_thread n) (view with_thread).threads ≡ first (is_thread n) (view st).threads
  unfolding is_thread live_thread
  first-thread n l = ap (first (is_thread n)) held-thread ∙ first-new thread_id t (view st).threads dead n l

  carries-thread : Carries st with_thread always always
  unfolding view live_process the_process queued_in live_thread the_thread
  carries-thread =
      record {
        process = λ n _ l. l;
        thread = λ n _ l. any-first (is_thread n) (view with_thread).threads (view st).threads (first-thread n l) ∙ l;
        owner = λ n _ l. ap (λ (o : Option Thread). (get_or o no_thread).process) (first-thread n l);
        not-ignored = λ n s _ _ _ _ h. h;
        unmarked =
            λ q s.
            unmarked-by st with_thread q s (λ h. h)
            (unmarked-filled is_free_thread t (thread_mark q s)
            (and_right (same_queue q (thread_queue t)) (has-empty s))
            st.threads);
        queued = λ n. omega arith;
      }

  module _ (g : good_id t.id ≡ true) (l : live_process (view st) t.process ≡ true)
      (u : unmasked t.mask ≡ true) where
    good-new-thread : GoodThread with_thread (fresh t)
    unfolding thread_unmasked belongs view live_process
    good-new-thread =
        record {
          own =
              record {
                free = rw (good-named t.id g);
                ids = imp-by (is_live thread_id (fresh t)) (λ _. g);
                sets = and_both u unmasked-empty;
              };
          owned = imp-by (is_live thread_id (fresh t)) (λ _. l);
          not-ignored =
              imp-by (is_live thread_id (fresh t))
              (λ _. not-ignored-by empty (thread_action (view with_thread) t) (λ s _ h. clash h (has-empty s)));
        }

    good-with-thread : Good with_thread
    unfolding view live_thread is_thread
    good-with-thread =
        record {
          processes_long = k.processes_long;
          processes = processes-kept st with_thread always always carries-thread k.processes;
          process_apart = k.process_apart;
          threads_long =
              length-replace_first (λ (x : Place Thread). is_free_thread x.holds) (fresh t) st.threads
              ∙ k.threads_long;
          threads =
              All-replace_first (GoodThread with_thread) (λ (x : Place Thread). is_free_thread x.holds)
              (fresh t) good-new-thread st.threads
              (threads-kept st with_thread always always carries-thread (λ _. refl) k.threads);
          thread_apart =
              apart-filled thread_id (λ (x : Place Thread). is_free_thread x.holds) (fresh t)
              (ap not (good-named t.id g)) st.threads dead k.thread_apart;
          thread_buffer =
              thread-buffer-kept st with_thread always always carries-thread (λ _. refl) (λ _. refl) k.thread_buffer;
          process_buffer = process-buffer-kept st with_thread always always carries-thread (λ _. refl) k.process_buffer;
        }

    -- the thread's own process has it
    own-thread : any is_free_thread (view st).threads ≡ true
        → any (belongs_to t.process) (view with_thread).threads ≡ true
    unfolding belongs_to
    own-thread f =
        ap (any (belongs_to t.process)) held-thread
        ∙ any-replaced (belongs_to t.process) is_free_thread t (view st).threads f
        (and_both (ap not (process-named st t.process l)) (eq-eqb t.process t.process refl))

    -- a free place is nobody's
    free-unowned : (m : ℕ) → All (λ (v : Thread). is_free_thread v ≡ true → belongs_to m v ≡ false) (view st).threads
    unfolding view belongs_to
    free-unowned m =
        All-map (λ (v : Thread). is_free_thread v ≡ true → belongs_to m v ≡ false) held st.threads
        (All-imp (GoodThread st) (λ x. is_free_thread x.holds ≡ true → belongs_to m x.holds ≡ false)
        (λ x a z. free-unnamed m x.holds.process (free-of-nobody x a.own.free z))
        st.threads k.threads)

    other-thread : (m : ℕ) → eqb m t.process ≡ false
        → any (belongs_to m) (view with_thread).threads ≡ any (belongs_to m) (view st).threads
    unfolding belongs_to
    other-thread m f =
        ap (any (belongs_to m)) held-thread
        ∙ any-replace_first (belongs_to m) is_free_thread t (view st).threads
        (and_right (not (eqb m 0))
        (split (eqb t.process m) (λ h. clash (eq-eqb m t.process (sym (eqb-true t.process m h))) f) (λ h. h)))
        (free-unowned m)

    -- every process but the new thread's has one already
    with-thread-sound : any is_free_thread (view st).threads ≡ true
        → All (Elsewhere st t.process) st.processes → sound with_thread ≡ true
    unfolding has_thread
    with-thread-sound f a =
        good-sound with_thread good-with-thread
        (All-imp (Elsewhere st t.process) (Pass (if_live process_id (has_thread (view with_thread))))
        (λ x h.
        imp-by (is_live process_id x)
        (λ c.
        split (eqb x.holds.id t.process)
        (λ z. ap (λ (m : ℕ). any (belongs_to m) (view with_thread).threads) (eqb-true x.holds.id t.process z)
        ∙ own-thread f)
        (λ z. other-thread x.holds.id z ∙ h c z)))
        st.processes a)

pub new_thread-sound : (st : Store) → sound st ≡ true → (t : Thread) → fits (view st) (new_thread t) ≡ true
    → sound (apply (new_thread t) st) ≡ true
unfolding apply fits
new_thread-sound st e t f =
    let f1 = and-snd (good_id t.id) _ f in
    let f2 = and-snd (not (live_thread (view st) t.id)) _ f1 in
    let f3 = and-snd (live_process (view st) t.process) _ f2 in
    with-thread-sound st (good st e) t
    (not-true (live_thread (view st) t.id) (and-fst (not (live_thread (view st) t.id)) _ f1))
    (and-fst (good_id t.id) _ f) (and-fst (live_process (view st) t.process) _ f2)
    (and-fst (unmasked t.mask) _ f3)
    (and-snd (unmasked t.mask) _ f3)
    (All-imp (Pass (if_live process_id (has_thread (view st)))) (Elsewhere st t.process)
    (λ x p c _. imp_use (is_live process_id x) (has_thread (view st) x) p c)
    st.processes (have-threads st e))

-- ---- a process, without a thread as yet

module _ (st : Store) (e : sound st ≡ true) (p : Process) (dead : live_process (view st) p.id ≡ false) where
  abbrev with_process : Store
  with_process = on_processes (fill is_free_process p) st

  held-process : (view with_process).processes ≡ replace_first is_free_process p (view st).processes
  unfolding view
  held-process = map-replace_first held is_free_process (fresh p) st.processes

  first-process : (n : ℕ) → live_process (view st) n ≡ true
      → first (is_process n) (view with_process).processes ≡ first (is_process n) (view st).processes
  unfolding is_process live_process
  first-process n l = ap (first (is_process n)) held-process ∙ first-new process_id p (view st).processes dead n l

  carries-process : Carries st with_process always always
  unfolding view live_process the_process queued_in live_thread the_thread
  carries-process =
      record {
        process =
            λ n _ l. any-first (is_process n) (view with_process).processes (view st).processes (first-process n l) ∙ l;
        thread = λ n _ l. l;
        owner = λ n _ _. refl;
        not-ignored =
            λ n s _ _ l _ h.
            ap (λ (o : Option Process). ignored (action_of (get_or o no_process) s) s) (first-process n l) ∙ h;
        unmarked =
            λ q s.
            unmarked-by st with_process q s
            (unmarked-filled is_free_process p (process_mark q s)
            (and_right (same_queue q (process_queue p.id)) (has-empty s)) st.processes)
            (λ h. h);
        queued = λ n. omega arith;
      }

  -- nothing is queued for it
  none-queued : queued_in with_process p.id ≡ 0
  unfolding queued_in
  none-queued = none-of-dead st e p.id dead

  module _ (g : good_id p.id ≡ true) (o : OwnProcess (fresh p)) where
    good-with-process : Good with_process
    unfolding view live_process is_process
    good-with-process =
        let k : Good st = good st e in
        record {
          processes_long =
              length-replace_first (λ (x : Place Process). is_free_process x.holds) (fresh p) st.processes
              ∙ k.processes_long;
          processes =
              All-replace_first (GoodProcess with_process) (λ (x : Place Process). is_free_process x.holds) (fresh p)
              (record { own = o; limit = limit-by with_process (fresh p) (omega (arith, none-queued)) })
              st.processes (processes-kept st with_process always always carries-process k.processes);
          process_apart =
              apart-filled process_id (λ (x : Place Process). is_free_process x.holds) (fresh p)
              (ap not (good-named p.id g)) st.processes dead k.process_apart;
          threads_long = k.threads_long;
          threads = threads-kept st with_process always always carries-process (λ _. refl) k.threads;
          thread_apart = k.thread_apart;
          thread_buffer =
              thread-buffer-kept st with_process always always carries-process (λ _. refl) (λ _. refl) k.thread_buffer;
          process_buffer =
              process-buffer-kept st with_process always always carries-process (λ _. refl) k.process_buffer;
        }

    new-live : any is_free_process (view st).processes ≡ true → live_process (view with_process) p.id ≡ true
    unfolding live_process is_process
    new-live f =
        ap (any (is_process p.id)) held-process
        ∙ any-replaced (is_process p.id) is_free_process p (view st).processes f
        (and_both (ap not (good-named p.id g)) (eq-eqb p.id p.id refl))

    -- the new process is the only one without a thread
    but-new : All (Elsewhere with_process p.id) with_process.processes
    unfolding has_thread view
    but-new =
        All-replace_first (Elsewhere with_process p.id) (λ (x : Place Process). is_free_process x.holds) (fresh p)
        (λ _ f. clash (eq-eqb p.id p.id refl) f)
        st.processes
        (All-imp (Pass (if_live process_id (has_thread (view st)))) (Elsewhere with_process p.id)
        (λ x h c _. imp_use (is_live process_id x) (has_thread (view st) x) h c)
        st.processes (have-threads st e))

-- a process is born running, with default actions
module _ (new : NewProcess) where
  own-added : good_id new.id ≡ true → good_user new.real ≡ true → good_user new.effective ≡ true
      → good_user new.saved ≡ true → good_user new.session ≡ true → OwnProcess (fresh (added_process new))
  unfolding added_process actions_long fields_fit process_unmasked kill_stop_default action_of process_flags_known
  own-added g r f s t =
      let p : Process = added_process new in
      record {
        long = own-free-process.long;
        free = rw (good-named new.id g);
        ids = imp-by (is_live process_id (fresh p)) (λ _. g);
        fields = and_both r (and_both f (and_both s (and_both t refl)));
        sets = own-free-process.sets;
        defaults = own-free-process.defaults;
        flags = own-free-process.flags;
        not-ignored =
            imp-by (is_live process_id (fresh p))
            (λ _. not-ignored-by empty (action_of p) (λ k _ h. clash h (has-empty k)));
      }

-- adding a process is two changes; between them the store is not sound
pub add_process-sound : (st : Store) → sound st ≡ true → (new : NewProcess) → good_id new.id ≡ true
    → good_id new.thread ≡ true
    → live_process (view st) new.id ≡ false → live_thread (view st) new.thread ≡ false
    → any is_free_process (view st).processes ≡ true → any is_free_thread (view st).threads ≡ true
    → good_user new.real ≡ true → good_user new.effective ≡ true → good_user new.saved ≡ true
    → good_user new.session ≡ true → sound (apply_all (add_process_changes new) st) ≡ true
unfolding apply_all add_process_changes apply view live_thread added_process
add_process-sound st e new g h dead dead_thread f f_thread r a s t =
    let p : Process = added_process new in
    let o : OwnProcess (fresh p) = own-added new g r a s t in
    with-thread-sound (with_process st e p dead) (good-with-process st e p dead g o)
    (record { id = new.thread; process = new.id; mask = maskable new.mask }) dead_thread
    h (new-live st e p dead g o f) (unmasked-maskable new.mask) f_thread (but-new st e p dead g o)
