-- Marks that change: what the new ones must be for a sound store to stay sound. Assumes nothing.
use Prim.Native.Nat.{ℕ}
use mathlib.Core.Path.{◌≡◌, refl, sym, ap, ap₂, ◌∙◌}
use mathlib.Core.Bool.{Bool, true, false, not, ◌&&◌, ◌||◌}
use mathlib.Core.List.{List}
use lib.Dec.{eqb}
use lib.ListN.{length-map}
use borrow.Author.Tests.{eqb-true, not-true, not-false}
use Rattle.lists.specs.Lists.{all, any, All}
use Rattle.lists.proofs.Bools.{split, clash, and-fst, and-snd, and_both, or_left, or_right, or_cases, imp_use, imp-by}
use Rattle.lists.proofs.Lists.{Pass, All-imp, All-both, All-every, All-map, all-All, All-all, any-map, any-imp}
use Rattle.lists.proofs.Lists.{all_same}
use Rattle.lists.proofs.Members.{all-mapped, pairs_where-map}
use Rattle.sigset.specs.declared.SigSet.{SigSet}
use Rattle.sigset.specs.Set.{Signal, has, bits, empty, is_unmaskable}
use Rattle.types.specs.declared.Action.{Action}
use Rattle.types.specs.declared.Siginfo.{Siginfo}
use Rattle.rules.specs.Types.{Process, Thread, Queue}
use Rattle.rules.specs.Signals.{is_signal, standard, ignored}
use Rattle.rules.specs.View.{View, same_queue, process_queue, thread_queue, target_queue, queue_of, in_queue, action_of}
use Rattle.rules.specs.View.{the_process, thread_action}
use Rattle.rules.specs.Store.{Place, Store, used, records_for, process_mark, thread_mark, mark_in, queued_in, on_marks}
use Rattle.rules.specs.Store.{view}
use Rattle.rules.specs.Sound.{if_live, if_free, is_live, apart, process_id, thread_id, actions_long, zero_process}
use Rattle.rules.specs.Sound.{zero_thread, good_process_id, good_thread_id, fields_fit, belongs, has_thread, unmasked}
use Rattle.rules.specs.Sound.{process_unmasked, thread_unmasked, kill_stop_default, process_flags_known}
use Rattle.rules.specs.Sound.{aimed_at_thread}
use Rattle.rules.specs.Sound.{aimed_at_process, within_limit, is_standard, not_marked_too, record_not_ignored}
use Rattle.rules.specs.Sound.{marks_not_ignored, process_not_ignored, thread_not_ignored, sound}
use Rattle.rules.proofs.Facts.{within-limit}
use Rattle.rules.proofs.Found.{not-ignored-at, not-ignored-by, not-marked}
use Rattle.rules.proofs.Marks.{queue-same, free-of-nobody}
use Rattle.rules.proofs.ClausesByPlace.{limit-by}
use Rattle.rules.proofs.FoundByKey.{Queued, own-process, thread-queued, process-queued}
use Rattle.rules.proofs.ClausesByTable.{parts, sound-of}
use Rattle.rules.proofs.PendingInView.{same-belongs, same-has_thread, same-the_process, same-record_not_ignored}
use Rattle.rules.proofs.PendingInView.{same-aimed_at_thread, same-aimed_at_process, seen-marks-processes}
use Rattle.rules.proofs.PendingInView.{seen-marks-threads}
use Rattle.rules.proofs.Signals.{is-signal}
use Rattle.rules.proofs.Unmaskable.{unmasked-if, unmasked-has}

-- ---- single values

-- a free place has no marks
pub free-process-marks : (x : Place Process) → zero_process x ≡ true → x.marks ≡ empty
unfolding zero_process
free-process-marks x z =
    let z1 = and-snd (eqb x.holds.real 0) _ z in
    let z2 = and-snd (eqb x.holds.effective 0) _ z1 in
    let z3 = and-snd (eqb x.holds.saved 0) _ z2 in
    let z4 = and-snd (eqb x.holds.session 0) _ z3 in
    let z5 = and-snd (eqb x.holds.stopped 0) _ z4 in
    ap bits (eqb-true x.marks.0 0 (and-fst (eqb x.marks.0 0) _ z5))

pub free-thread-marks : (x : Place Thread) → zero_thread x ≡ true → x.marks ≡ empty
unfolding zero_thread
free-thread-marks x z =
    ap bits (eqb-true x.marks.0 0 (and-snd (eqb x.holds.mask.0 0) _ (and-snd (eqb x.holds.process 0) _ z)))

-- ---- what is marked was marked, or is new

pub record NewMarks (st : Store) (g : Queue → SigSet → SigSet) (new : Queue → ℕ → Bool) : Type 0 where
  pub bound : (q : Queue) (m : SigSet) (s : ℕ) → Signal s → has (g q m) s ≡ true → (has m s || new q s) ≡ true
  -- 0 is no id
  pub free : g (process_queue 0) empty ≡ empty
  pub maskable : (q : Queue) (s : ℕ) → new q s ≡ true → is_unmaskable s ≡ false
  pub not-ignored : (q : Queue) (s : ℕ) → new q s ≡ true
      → ignored (action_of (the_process (view st) q.process) s) s ≡ false
  -- a standard signal that is new has no record
  pub once : (q : Queue) (s : ℕ) → new q s ≡ true → standard s ≡ true → any (in_queue q s) (records_for q st) ≡ false

module _ (st : Store) (g : Queue → SigSet → SigSet) (new : Queue → ℕ → Bool) (c : NewMarks st g new) where
  abbrev after : Store
  after = on_marks g st

  abbrev process_after : Place Process → Place Process
  process_after x = record { holds = x.holds; marks = g (process_queue x.holds.id) x.marks }

  abbrev thread_after : Place Thread → Place Thread
  thread_after x = record { holds = x.holds; marks = g (thread_queue x.holds) x.marks }

  -- ---- by queue

  was-marked : (q q' : Queue) (m : SigSet) (s : ℕ) → new q s ≡ false → Signal s
      → (same_queue q q' && has (g q' m) s) ≡ true
      → (same_queue q q' && has m s) ≡ true
  was-marked q q' m s n h e =
      let k : same_queue q q' ≡ true = and-fst (same_queue q q') (has (g q' m) s) e in
      or_cases (has m s) (new q' s) (c.bound q' m s h (and-snd (same_queue q q') (has (g q' m) s) e))
      (λ f. and_both k f)
      (λ f. clash f (ap (λ (a : Queue). new a s) (sym (queue-same q q' k)) ∙ n))

  -- a mark that is not new was there
  pub old-mark : (q : Queue) (s : ℕ) → new q s ≡ false → mark_in after q s ≡ true → mark_in st q s ≡ true
  unfolding mark_in
  old-mark q s n e =
      let i : is_signal s ≡ true = and-fst (is_signal s) _ e in
      and_both i
      (or_cases (any (process_mark q s) after.processes) (any (thread_mark q s) after.threads)
      (and-snd (is_signal s) _ e)
      (λ f.
      or_left (any (thread_mark q s) st.threads)
      (any-imp (λ (x : Place Process). process_mark q s (process_after x)) (process_mark q s)
      (λ x. was-marked q (process_queue x.holds.id) x.marks s n (is-signal s i))
      st.processes (sym (any-map (process_mark q s) process_after st.processes) ∙ f)))
      (λ f.
      or_right (any (process_mark q s) st.processes)
      (any-imp (λ (x : Place Thread). thread_mark q s (thread_after x)) (thread_mark q s)
      (λ x. was-marked q (thread_queue x.holds) x.marks s n (is-signal s i))
      st.threads (sym (any-map (thread_mark q s) thread_after st.threads) ∙ f))))

  -- ---- by set

  unmasked-after : (q : Queue) (m : SigSet) → unmasked m ≡ true → unmasked (g q m) ≡ true
  unmasked-after q m e =
      unmasked-if (g q m)
      (λ s h u.
      split (has (g q m) s)
      (λ k. or_cases (has m s) (new q s) (c.bound q m s h k)
      (λ f. clash f (unmasked-has m e s u)) (λ f. clash u (c.maskable q s f)))
      (λ k. k))

  not-ignored-after : (q : Queue) (m : SigSet) (f : ℕ → Action)
      → ((s : ℕ) → f s ≡ action_of (the_process (view st) q.process) s)
      → marks_not_ignored m f ≡ true → marks_not_ignored (g q m) f ≡ true
  not-ignored-after q m f a e =
      not-ignored-by (g q m) f
      (λ s i k.
      or_cases (has m s) (new q s) (c.bound q m s (is-signal s i) k)
      (λ o. not-ignored-at m f e s i o)
      (λ n. ap (λ (b : Action). ignored b s) (a s) ∙ c.not-ignored q s n))

  -- ---- the places

  free-process-after : (x : Place Process) → if_free process_id zero_process x ≡ true
      → if_free process_id zero_process (process_after x) ≡ true
  free-process-after x e =
      imp-by (not (is_live process_id x))
      (λ f.
      let z : zero_process x ≡ true = imp_use (not (is_live process_id x)) (zero_process x) e f in
      let i : x.holds.id ≡ 0 =
      eqb-true x.holds.id 0 (not-false (eqb x.holds.id 0) (not-true (is_live process_id x) f)) in
      let m : x.marks ≡ empty = free-process-marks x z in
      let k : g (process_queue x.holds.id) x.marks ≡ x.marks =
      ap₂ (λ (n : ℕ) (a : SigSet). g (process_queue n) a) i m ∙ c.free ∙ sym m in
      ap (λ (a : SigSet). zero_process (record { holds = x.holds; marks = a })) k ∙ z)

  free-thread-after : (x : Place Thread) → if_free thread_id zero_thread x ≡ true
      → if_free thread_id zero_thread (thread_after x) ≡ true
  free-thread-after x e =
      imp-by (not (is_live thread_id x))
      (λ f.
      let z : zero_thread x ≡ true = imp_use (not (is_live thread_id x)) (zero_thread x) e f in
      let i : eqb x.holds.id 0 ≡ true = not-false (eqb x.holds.id 0) (not-true (is_live thread_id x) f) in
      let m : x.marks ≡ empty = free-thread-marks x z in
      let q : thread_queue x.holds ≡ process_queue 0 =
      ap₂ target_queue (eqb-true x.holds.process 0 (free-of-nobody x e i)) (eqb-true x.holds.id 0 i) in
      let k : g (thread_queue x.holds) x.marks ≡ x.marks = ap₂ g q m ∙ c.free ∙ sym m in
      ap (λ (a : SigSet). zero_thread (record { holds = x.holds; marks = a })) k ∙ z)

  process-sets-after : (x : Place Process) → process_unmasked x ≡ true → process_unmasked (process_after x) ≡ true
  unfolding process_unmasked
  process-sets-after x e =
      and_both (unmasked-after (process_queue x.holds.id) x.marks (and-fst (unmasked x.marks) _ e))
      (and-snd (unmasked x.marks) _ e)

  thread-sets-after : (x : Place Thread) → thread_unmasked x ≡ true → thread_unmasked (thread_after x) ≡ true
  unfolding thread_unmasked
  thread-sets-after x e =
      and_both (and-fst (unmasked x.holds.mask) _ e)
      (unmasked-after (thread_queue x.holds) x.marks (and-snd (unmasked x.holds.mask) _ e))

  -- the action of a live place is the one of its id
  process-not-ignored-after : (x : Place Process)
      → (is_live process_id x ≡ true → the_process (view st) x.holds.id ≡ x.holds)
      → if_live process_id process_not_ignored x ≡ true → if_live process_id process_not_ignored (process_after x)
      ≡ true
  process-not-ignored-after x o e =
      imp-by (is_live process_id x)
      (λ l.
      not-ignored-after (process_queue x.holds.id) x.marks (action_of x.holds)
      (λ s. ap (λ (p : Process). action_of p s) (sym (o l)))
      (imp_use (is_live process_id x) (process_not_ignored x) e l))

  thread-not-ignored-after : (x : Place Thread) → if_live thread_id (thread_not_ignored (view st)) x ≡ true
      → if_live thread_id (thread_not_ignored (view after)) (thread_after x) ≡ true
  unfolding thread_action
  thread-not-ignored-after x e =
      imp-by (is_live thread_id x)
      (λ l.
      ap (λ (p : Process). marks_not_ignored (thread_after x).marks (action_of p))
      (same-the_process (view after) (view st) (seen-marks-processes st g) x.holds.process)
      ∙ not-ignored-after (thread_queue x.holds) x.marks (thread_action (view st) x.holds) (λ s. refl)
      (imp_use (is_live thread_id x) (thread_not_ignored (view st) x) e l))

  -- ---- the records

  unmarked-after : (rs : List Siginfo) → All (Queued st) rs → all (not_marked_too st) rs ≡ true
      → all (not_marked_too after) rs ≡ true
  unfolding not_marked_too is_standard
  unmarked-after rs h a =
      All-all (not_marked_too after) rs
      (All-imp (λ r. Queued st r × Pass (not_marked_too st) r) (Pass (not_marked_too after))
      (λ r d.
      imp-by (standard r.signal)
      (λ k.
      split (mark_in after (queue_of r) r.signal)
      (λ m.
      split (new (queue_of r) r.signal)
      (λ n. clash d.0 (c.once (queue_of r) r.signal n k))
      (λ n. clash (old-mark (queue_of r) r.signal n m) (not-marked st r d.1 k)))
      (λ m. ap not m)))
      rs (All-both (Queued st) (Pass (not_marked_too st)) rs h (all-All (not_marked_too st) rs a)))

  processes-not-ignored : sound st ≡ true → all (if_live process_id process_not_ignored) st.processes ≡ true
      → all (if_live process_id process_not_ignored) after.processes ≡ true
  processes-not-ignored e a =
      let O : Place Process → Type 0 =
      λ x. is_live process_id x ≡ true → the_process (view st) x.holds.id ≡ x.holds in
      let H : Place Process → Type 0 = Pass (if_live process_id process_not_ignored) in
      All-all (if_live process_id process_not_ignored) after.processes
      (All-map H process_after st.processes
      (All-imp (λ x. O x × H x) (λ x. H (process_after x)) (λ x d. process-not-ignored-after x d.0 d.1)
      st.processes
      (All-both O H st.processes (own-process st e)
      (all-All (if_live process_id process_not_ignored) st.processes a))))

  limit-after : sound st ≡ true → (xs : List (Place Process)) → all (if_live process_id (within_limit after)) xs ≡ true
  unfolding queued_in
  limit-after e xs =
      All-all (if_live process_id (within_limit after)) xs
      (All-every (Pass (if_live process_id (within_limit after)))
      (λ x. limit-by after x (within-limit st e x.holds.id)) xs)

  pub marks-sound : sound st ≡ true → sound after ≡ true
  unfolding actions_long fields_fit has_thread belongs kill_stop_default process_flags_known
  marks-sound e =
      let a = parts st e in
      let v : View = view st in
      let w : View = view after in
      let vp : w.processes ≡ v.processes = seen-marks-processes st g in
      let vt : w.threads ≡ v.threads = seen-marks-threads st g in
      sound-of after record {
        lengths =
            record {
              processes = length-map st.processes process_after ∙ a.lengths.processes;
              actions =
                  all-mapped process_after actions_long actions_long (λ x h. h) st.processes a.lengths.actions;
              threads = length-map st.threads thread_after ∙ a.lengths.threads;
              thread_slots = a.lengths.thread_slots;
              process_slots = a.lengths.process_slots;
            };
        process_free =
            all-mapped process_after (if_free process_id zero_process) (if_free process_id zero_process)
            free-process-after
            st.processes a.process_free;
        process_ids =
            all-mapped process_after (if_live process_id good_process_id) (if_live process_id good_process_id)
            (λ x h. h)
            st.processes a.process_ids;
        process_apart =
            pairs_where-map process_after (is_live process_id) (apart process_id) st.processes ∙ a.process_apart;
        fields = all-mapped process_after fields_fit fields_fit (λ x h. h) st.processes a.fields;
        have-threads =
            all-mapped process_after (if_live process_id (has_thread v)) (if_live process_id (has_thread w))
            (λ x h. rw (same-has_thread w v vt (process_after x)) h) st.processes a.have-threads;
        process_sets =
            all-mapped process_after process_unmasked process_unmasked process-sets-after st.processes a.process_sets;
        defaults = all-mapped process_after kill_stop_default kill_stop_default (λ x h. h) st.processes a.defaults;
        flags = all-mapped process_after process_flags_known process_flags_known (λ x h. h) st.processes a.flags;
        limit = limit-after e after.processes;
        process_marks_not_ignored = processes-not-ignored e a.process_marks_not_ignored;
        thread_free =
            all-mapped thread_after (if_free thread_id zero_thread) (if_free thread_id zero_thread) free-thread-after
            st.threads a.thread_free;
        thread_ids =
            all-mapped thread_after (if_live thread_id good_thread_id) (if_live thread_id good_thread_id) (λ x h. h)
            st.threads a.thread_ids;
        thread_apart = pairs_where-map thread_after (is_live thread_id) (apart thread_id) st.threads ∙ a.thread_apart;
        owned =
            all-mapped thread_after (if_live thread_id (belongs v)) (if_live thread_id (belongs w))
            (λ x h. rw (same-belongs w v vp (thread_after x)) h) st.threads a.owned;
        thread_sets =
            all-mapped thread_after thread_unmasked thread_unmasked thread-sets-after st.threads a.thread_sets;
        thread_marks_not_ignored =
            all-mapped thread_after (if_live thread_id (thread_not_ignored v))
            (if_live thread_id (thread_not_ignored w)) thread-not-ignored-after st.threads a.thread_marks_not_ignored;
        thread_rest = a.thread_rest;
        thread_aimed =
            all_same (aimed_at_thread w) (aimed_at_thread v) (used st.thread_buffer) (same-aimed_at_thread w v vp vt)
            ∙ a.thread_aimed;
        thread_once = a.thread_once;
        thread_unmarked = unmarked-after (used st.thread_buffer) (thread-queued st e) a.thread_unmarked;
        thread_records_not_ignored =
            all_same (record_not_ignored w) (record_not_ignored v) (used st.thread_buffer)
            (same-record_not_ignored w v vp)
            ∙ a.thread_records_not_ignored;
        process_rest = a.process_rest;
        process_aimed =
            all_same (aimed_at_process w) (aimed_at_process v) (used st.process_buffer) (same-aimed_at_process w v vp)
            ∙ a.process_aimed;
        process_once = a.process_once;
        process_unmarked = unmarked-after (used st.process_buffer) (process-queued st e) a.process_unmarked;
        process_records_not_ignored =
            all_same (record_not_ignored w) (record_not_ignored v) (used st.process_buffer)
            (same-record_not_ignored w v vp)
            ∙ a.process_records_not_ignored;
      }
