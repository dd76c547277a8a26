-- What a sound store gives a call, fact by fact. Assumes nothing.
use Prim.Native.Nat.{ℕ, ◌-◌, ◌≤◌}
use mathlib.Core.Path.{◌≡◌, refl, sym, ap, ◌∙◌}
use mathlib.Core.Bool.{true, false, ◌&&◌}
use mathlib.Core.List.{List}
use native.Mathlib.Omega.{arith}
use lib.ListN.{length}
use borrow.Author.Tests.{eqb-true, leb-true}
use Rattle.limits.specs.Limits.{process_places, thread_places, buffer_records, signals, record_limit, SIGKILL, SIGSTOP}
use Rattle.lists.specs.Lists.{all, any, count, All}
use Rattle.lists.proofs.Bools.{split, and-fst, and-snd, and_right, or-both}
use Rattle.lists.proofs.Lists.{Pass, Fail, All-imp, all-All, All-any, all_get_d}
use Rattle.sigset.specs.Set.{has, is_unmaskable}
use Rattle.types.specs.declared.Siginfo.{Siginfo}
use Rattle.types.specs.Values.{default_action}
use Rattle.rules.specs.Types.{Process, Queue}
use Rattle.rules.specs.Signals.{is_signal, standard, ignored}
use Rattle.rules.specs.View.{is_process, is_thread, belongs_to, same_queue, process_queue, thread_queue, target_queue}
use Rattle.rules.specs.View.{queue_of, action_of, live_process, live_thread, the_process, the_thread, thread_action}
use Rattle.rules.specs.Store.{Store, used, mark_in, process_mark, thread_mark, queued_in, view}
use Rattle.rules.specs.Sound.{process_id, thread_id, good_id, good_process_id, good_thread_id, actions_long, good_user}
use Rattle.rules.specs.Sound.{fields_fit, belongs, has_thread, unmasked, action_unmasked, process_unmasked}
use Rattle.rules.specs.Sound.{thread_unmasked, is_default, kill_stop_default, flags_known, process_flags_known}
use Rattle.rules.specs.Sound.{rest_zero}
use Rattle.rules.specs.Sound.{aimed_at_thread, aimed_at_process, within_limit, is_standard, not_marked_too}
use Rattle.rules.specs.Sound.{record_not_ignored, process_not_ignored, thread_not_ignored, sound}
use Rattle.rules.proofs.Aimed.{thread-process-live, process-live}
use Rattle.rules.proofs.Ids.{one-held}
use Rattle.rules.proofs.Marks.{process_with, thread_with, the-process, the-thread, process-is, thread-is}
use Rattle.rules.proofs.Marks.{process-marks, thread-marks}
use Rattle.rules.proofs.Found.{default-is, not-ignored-at, not-marked, every-process, every-thread}
use Rattle.rules.proofs.Found.{live-process-has, live-thread-has, none-queued}
use Rattle.rules.proofs.ClausesByPlace.{own-free-process, own-free-thread}
use Rattle.rules.proofs.ClausesByTable.{parts}
use Rattle.rules.proofs.Unmaskable.{unmasked-empty, unmasked-has}

pub record UsersFit (p : Process) : Type 0 where
  pub real : good_user p.real ≡ true
  pub effective : good_user p.effective ≡ true
  pub saved : good_user p.saved ≡ true
  pub session : good_user p.session ≡ true

module _ (st : Store) (e : sound st ≡ true) where
  -- lengths

  pub processes-length : length st.processes ≡ process_places
  processes-length = (parts st e).lengths.processes

  pub threads-length : length st.threads ≡ thread_places
  threads-length = (parts st e).lengths.threads

  pub thread-slots : length st.thread_buffer ≡ buffer_records
  thread-slots = (parts st e).lengths.thread_slots

  pub process-slots : length st.process_buffer ≡ buffer_records
  process-slots = (parts st e).lengths.process_slots

  pub actions-length : (p : ℕ) → length (the_process (view st) p).actions ≡ signals
  unfolding actions_long
  actions-length p =
      let a : actions_long (process_with st p) ≡ true =
      every-process st actions_long own-free-process.long (parts st e).lengths.actions p in
      rw (the-process st p) (eqb-true (length (process_with st p).holds.actions) signals a)

  -- ids

  pub one-process : (n : ℕ) → count (is_process n) (view st).processes ≤ 1
  unfolding is_process view
  one-process = one-held process_id st.processes (parts st e).process_apart

  pub one-thread : (n : ℕ) → count (is_thread n) (view st).threads ≤ 1
  unfolding is_thread view
  one-thread = one-held thread_id st.threads (parts st e).thread_apart

  pub process-id : (n : ℕ) → live_process (view st) n ≡ true → good_id n ≡ true
  process-id n l = ap good_id (sym (process-is st n l))
      ∙ live-process-has st good_process_id (parts st e).process_ids n l

  pub thread-id : (n : ℕ) → live_thread (view st) n ≡ true → good_id n ≡ true
  thread-id n l = ap good_id (sym (thread-is st n l)) ∙ live-thread-has st good_thread_id (parts st e).thread_ids n l

  -- threads and their processes

  pub owner-live : (t : ℕ) → live_thread (view st) t ≡ true
      → live_process (view st) (the_thread (view st) t).process ≡ true
  unfolding belongs
  owner-live t l = rw (the-thread st t) (live-thread-has st (belongs (view st)) (parts st e).owned t l)

  pub has-thread : (p : ℕ) → live_process (view st) p ≡ true → any (belongs_to p) (view st).threads ≡ true
  unfolding has_thread
  has-thread p l =
      ap (λ (n : ℕ). any (belongs_to n) (view st).threads) (sym (process-is st p l))
      ∙ live-process-has st (has_thread (view st)) (parts st e).have-threads p l

  -- the fields of a process

  process-fits : (p : ℕ) → fields_fit (process_with st p) ≡ true
  process-fits = every-process st fields_fit own-free-process.fields (parts st e).fields

  pub users-fit : (p : ℕ) → UsersFit (the_process (view st) p)
  unfolding fields_fit
  users-fit p =
      let x : Process = (process_with st p).holds in
      let f1 = and-snd (good_user x.real) _ (process-fits p) in
      let f2 = and-snd (good_user x.effective) _ f1 in
      let f3 = and-snd (good_user x.saved) _ f2 in
      let u : UsersFit x =
      record {
        real = and-fst (good_user x.real) _ (process-fits p);
        effective = and-fst (good_user x.effective) _ f1;
        saved = and-fst (good_user x.saved) _ f2;
        session = and-fst (good_user x.session) _ f3;
      } in
      rw (the-process st p) u

  pub stopped-fits : (p : ℕ) → (the_process (view st) p).stopped ≤ 1
  unfolding fields_fit
  stopped-fits p =
      let x : Process = (process_with st p).holds in
      let f3 =
      and-snd (good_user x.saved) _
      (and-snd (good_user x.effective) _ (and-snd (good_user x.real) _ (process-fits p))) in
      rw (the-process st p) (leb-true x.stopped 1 (and-snd (good_user x.session) _ f3))

  -- sets without 9 and 19

  process-sets : (p : ℕ) → process_unmasked (process_with st p) ≡ true
  process-sets = every-process st process_unmasked own-free-process.sets (parts st e).process_sets

  thread-sets : (t : ℕ) → thread_unmasked (thread_with st t) ≡ true
  thread-sets = every-thread st thread_unmasked own-free-thread.sets (parts st e).thread_sets

  pub mask-unmasked : (t : ℕ) → unmasked (the_thread (view st) t).mask ≡ true
  unfolding thread_unmasked
  mask-unmasked t = rw (the-thread st t) (and-fst (unmasked (thread_with st t).holds.mask) _ (thread-sets t))

  pub process-marks-unmasked : (p : ℕ) → unmasked (process_with st p).marks ≡ true
  unfolding process_unmasked
  process-marks-unmasked p = and-fst (unmasked (process_with st p).marks) _ (process-sets p)

  pub thread-marks-unmasked : (t : ℕ) → unmasked (thread_with st t).marks ≡ true
  unfolding thread_unmasked
  thread-marks-unmasked t = and-snd (unmasked (thread_with st t).holds.mask) _ (thread-sets t)

  pub marks-unmasked : (q : Queue) (s : ℕ) → is_unmaskable s ≡ true → mark_in st q s ≡ false
  unfolding mark_in process_unmasked thread_unmasked
  marks-unmasked q s u =
      let p : any (process_mark q s) st.processes ≡ false =
      All-any (process_mark q s) st.processes
      (All-imp (Pass process_unmasked) (Fail (process_mark q s))
      (λ x h. and_right (same_queue q (process_queue x.holds.id))
      (unmasked-has x.marks (and-fst (unmasked x.marks) _ h) s u))
      st.processes (all-All process_unmasked st.processes (parts st e).process_sets)) in
      let t : any (thread_mark q s) st.threads ≡ false =
      All-any (thread_mark q s) st.threads
      (All-imp (Pass thread_unmasked) (Fail (thread_mark q s))
      (λ x h. and_right (same_queue q (thread_queue x.holds))
      (unmasked-has x.marks (and-snd (unmasked x.holds.mask) _ h) s u))
      st.threads (all-All thread_unmasked st.threads (parts st e).thread_sets)) in
      and_right (is_signal s) (or-both p t)

  -- actions

  pub action-unmasked : (p s : ℕ) → unmasked (action_of (the_process (view st) p) s).mask ≡ true
  unfolding process_unmasked action_unmasked action_of
  action-unmasked p s =
      let a : all action_unmasked (process_with st p).holds.actions ≡ true =
      and-snd (unmasked (process_with st p).marks) _ (process-sets p) in
      rw (the-process st p)
      (all_get_d action_unmasked (process_with st p).holds.actions (s - 1) default_action unmasked-empty a)

  defaults : (p : ℕ) → kill_stop_default (process_with st p) ≡ true
  defaults = every-process st kill_stop_default own-free-process.defaults (parts st e).defaults

  pub kill-default : (p : ℕ) → action_of (the_process (view st) p) SIGKILL ≡ default_action
  unfolding kill_stop_default
  kill-default p =
      rw (the-process st p)
      (default-is (action_of (process_with st p).holds SIGKILL)
      (and-fst (is_default (action_of (process_with st p).holds SIGKILL)) _ (defaults p)))

  pub stop-default : (p : ℕ) → action_of (the_process (view st) p) SIGSTOP ≡ default_action
  unfolding kill_stop_default
  stop-default p =
      rw (the-process st p)
      (default-is (action_of (process_with st p).holds SIGSTOP)
      (and-snd (is_default (action_of (process_with st p).holds SIGKILL)) _ (defaults p)))

  pub flags-known : (p s : ℕ) → flags_known (action_of (the_process (view st) p) s) ≡ true
  unfolding process_flags_known action_of flags_known
  flags-known p s =
      let a : all flags_known (process_with st p).holds.actions ≡ true =
      every-process st process_flags_known own-free-process.flags (parts st e).flags p in
      rw (the-process st p) (all_get_d flags_known (process_with st p).holds.actions (s - 1) default_action refl a)

  -- records

  pub thread-rest : rest_zero st.thread_buffer ≡ true
  thread-rest = (parts st e).thread_rest

  pub process-rest : rest_zero st.process_buffer ≡ true
  process-rest = (parts st e).process_rest

  pub thread-aimed : All (Pass (aimed_at_thread (view st))) (used st.thread_buffer)
  thread-aimed = all-All (aimed_at_thread (view st)) (used st.thread_buffer) (parts st e).thread_aimed

  pub process-aimed : All (Pass (aimed_at_process (view st))) (used st.process_buffer)
  process-aimed = all-All (aimed_at_process (view st)) (used st.process_buffer) (parts st e).process_aimed

  pub thread-records-not-ignored : All (Pass (record_not_ignored (view st))) (used st.thread_buffer)
  thread-records-not-ignored =
      all-All (record_not_ignored (view st)) (used st.thread_buffer) (parts st e).thread_records_not_ignored

  pub process-records-not-ignored : All (Pass (record_not_ignored (view st))) (used st.process_buffer)
  process-records-not-ignored =
      all-All (record_not_ignored (view st)) (used st.process_buffer) (parts st e).process_records_not_ignored

  pub none-of-dead : (p : ℕ) → live_process (view st) p ≡ false → queued_in st p ≡ 0
  unfolding queued_in
  none-of-dead p n =
      omega (
        arith,
        none-queued st (aimed_at_thread (view st)) (thread-process-live st) (used st.thread_buffer)
            (parts st e).thread_aimed p n,
        none-queued st (aimed_at_process (view st)) (process-live st) (used st.process_buffer)
            (parts st e).process_aimed p n,
      )

  -- live or not
  pub within-limit : (p : ℕ) → queued_in st p ≤ record_limit
  within-limit p =
      split (live_process (view st) p)
      (λ l. rw (process-is st p l) at (leb-true (queued_in st (process_with st p).holds.id) record_limit
      (live-process-has st (within_limit st) (parts st e).limit p l)))
      (λ n. omega (arith, none-of-dead p n))

  -- a standard signal of a record is not marked in its queue
  abbrev unmarked : Siginfo → Type 0
  unmarked r = standard r.signal ≡ true → mark_in st (queue_of r) r.signal ≡ false

  none-marked : (rs : List Siginfo) → all (not_marked_too st) rs ≡ true → All unmarked rs
  unfolding is_standard
  none-marked rs a = All-imp (Pass (not_marked_too st)) unmarked (not-marked st) rs (all-All (not_marked_too st) rs a)

  pub thread-not-both : All unmarked (used st.thread_buffer)
  thread-not-both = none-marked (used st.thread_buffer) (parts st e).thread_unmarked

  pub process-not-both : All unmarked (used st.process_buffer)
  process-not-both = none-marked (used st.process_buffer) (parts st e).process_unmarked

  -- marks

  pub marks-of-process : (p : ℕ) → live_process (view st) p ≡ true → (s : ℕ)
      → mark_in st (process_queue p) s ≡ (is_signal s && has (process_with st p).marks s)
  unfolding view
  marks-of-process p l s = process-marks st p l s (one-process p) (parts st e).thread_free

  pub marks-of-thread : (t : ℕ) → live_thread (view st) t ≡ true → (s : ℕ)
      → mark_in st (thread_queue (the_thread (view st) t)) s ≡ (is_signal s && has (thread_with st t).marks s)
  unfolding view
  marks-of-thread t l s =
      let q : thread_queue (the_thread (view st) t) ≡ target_queue (thread_with st t).holds.process t =
      ap thread_queue (the-thread st t) ∙ ap (target_queue (thread_with st t).holds.process) (thread-is st t l) in
      ap (λ (a : Queue). mark_in st a s) q
      ∙ thread-marks st (target_queue (thread_with st t).holds.process t) l s refl (one-thread t)

  pub process-mark-not-ignored : (p s : ℕ) → live_process (view st) p ≡ true → mark_in st (process_queue p) s ≡ true
      → ignored (action_of (the_process (view st) p) s) s ≡ false
  process-mark-not-ignored p s l m =
      let k = sym (marks-of-process p l s) ∙ m in
      let h : process_not_ignored (process_with st p) ≡ true =
      live-process-has st process_not_ignored (parts st e).process_marks_not_ignored p l in
      rw (the-process st p)
      (not-ignored-at (process_with st p).marks (action_of (process_with st p).holds) h s (and-fst (is_signal s) _ k)
      (and-snd (is_signal s) _ k))

  pub thread-mark-not-ignored : (t s : ℕ) → live_thread (view st) t ≡ true
      → mark_in st (thread_queue (the_thread (view st) t)) s ≡ true
      → ignored (thread_action (view st) (the_thread (view st) t) s) s ≡ false
  thread-mark-not-ignored t s l m =
      let k = sym (marks-of-thread t l s) ∙ m in
      let h : thread_not_ignored (view st) (thread_with st t) ≡ true =
      live-thread-has st (thread_not_ignored (view st)) (parts st e).thread_marks_not_ignored t l in
      rw (the-thread st t)
      (not-ignored-at (thread_with st t).marks (thread_action (view st) (thread_with st t).holds) h s
      (and-fst (is_signal s) _ k) (and-snd (is_signal s) _ k))
