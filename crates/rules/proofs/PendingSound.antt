-- A mark or a record that may be pending leaves a sound store sound. Assumes nothing.
use Prim.Native.Nat.{ℕ, ◌+◌, ◌≤◌, ◌<◌}
use mathlib.Core.Path.{◌≡◌, sym, ap, subst, ◌∙◌}
use mathlib.Core.Bool.{Bool, true, false, not, ◌&&◌, ◌||◌, cond}
use mathlib.Core.List.{List, [], ◌∷◌, ◌++◌}
use native.Mathlib.Omega.{arith}
use lib.Dec.{eqb}
use lib.ListN.{length, length-append}
use borrow.Author.Tests.{eqb-true, eq-eqb, ltb-true, not-true}
use Rattle.limits.specs.Limits.{buffer_records, record_limit, si_queue}
use Rattle.lists.specs.Lists.{all, any, count, All}
use Rattle.lists.proofs.Bools.{split, clash, and-fst, and-snd, and_both, or_left, or-fst-false, or-snd-false}
use Rattle.lists.proofs.Bools.{cond-false, imp-by}
use Rattle.lists.proofs.Lists.{Pass, Fail, All-imp, All-every, All-append, All-all, all_end, any-All, length-padded}
use Rattle.lists.proofs.Members.{count-end, pairs_where-end}
use Rattle.sigset.specs.declared.SigSet.{SigSet}
use Rattle.sigset.specs.Set.{Signal, has, union, of_signal, empty, is_unmaskable}
use Rattle.sigset.proofs.Laws.{has-union, has_of}
use Rattle.types.specs.declared.Siginfo.{Siginfo}
use Rattle.types.specs.Values.{no_siginfo}
use Rattle.rules.specs.Types.{Queue}
use Rattle.rules.specs.Signals.{standard, ignored}
use Rattle.rules.specs.View.{set_mark, append, same_queue, process_queue, queue_of, in_queue, action_of, live_process}
use Rattle.rules.specs.View.{live_thread, the_process, the_thread, pending_in}
use Rattle.rules.specs.Store.{Store, in_use, used, records_for, mark_in, of_process, queued_in, on_slots, view, apply}
use Rattle.rules.specs.Sound.{nameable, names_live, aimed_at_thread, aimed_at_process, is_standard, not_twice}
use Rattle.rules.specs.Sound.{not_marked_too, record_not_ignored, sound}
use Rattle.rules.specs.Refusals.{bad_target}
use Rattle.rules.specs.Fitting.{live_queue, admits, fits}
use Rattle.rules.proofs.BuffersSound.{with_buffers, buffers-sound}
use Rattle.rules.proofs.Facts.{within-limit}
use Rattle.rules.proofs.Marks.{process-named, queue-same, same_queue_lem}
use Rattle.rules.proofs.ClausesByPlace.{GoodRecord, GoodBuffer, good}
use Rattle.rules.proofs.FoundByKey.{recorded, thread-records, process-records}
use Rattle.rules.proofs.PendingSomewhere.{pending-is}
use Rattle.rules.proofs.Queues.{target-process, target-thread, target-owner, queue-target}
use Rattle.rules.proofs.MarksSound.{marks-sound}
use Rattle.rules.proofs.Room.{room}
use Rattle.rules.proofs.PendingInView.{marking}
use Rattle.rules.proofs.Signals.{nameable-maskable}
use Rattle.rules.proofs.Slots.{used-in_use, used-after, rest-after}

-- ---- what is known of a queue and a signal that are admitted

module _ (st : Store) where
  -- the thread is live and of the process
  abbrev thread_of : (process thread : ℕ) → Bool
  thread_of p t = live_thread (view st) t && eqb (the_thread (view st) t).process p

  pub record Admitted (q : Queue) (s : ℕ) : Type 0 where
    pub process : live_process (view st) q.process ≡ true
    pub thread : eqb q.thread 0 ≡ false → thread_of q.process q.thread ≡ true
    pub signal : nameable s ≡ true
    pub not-ignored : ignored (action_of (the_process (view st) q.process) s) s ≡ false
    pub no_record : standard s ≡ true → recorded st q s ≡ false
    pub no_mark : standard s ≡ true → mark_in st q s ≡ false

  pub admitted : (q : Queue) (s : ℕ) → admits (view st) q s ≡ true → Admitted q s
  unfolding admits
  admitted q s a =
      let i : Bool = ignored (action_of (the_process (view st) q.process) s) s in
      let a1 = and-snd (live_queue (view st) q) _ a in
      let a2 = and-snd (nameable s) _ a1 in
      let t : bad_target (view st) q.process q.thread ≡ false =
      queue-target (view st) q.process q.thread (and-fst (live_queue (view st) q) _ a) in
      let n : (standard s && pending_in (view st) q s) ≡ false = not-true _ (and-snd (not i) _ a2) in
      let none : standard s ≡ true → (recorded st q s || mark_in st q s) ≡ false =
      λ k. sym (pending-is st q s) ∙ (rw k at n) in
      record {
        process = target-process (view st) q.process q.thread t;
        thread =
            λ z.
            and_both (target-thread (view st) q.process q.thread t z)
            (eq-eqb (the_thread (view st) q.thread).process q.process
            (target-owner (view st) q.process q.thread t z));
        signal = and-fst (nameable s) _ a1;
        not-ignored = not-true i (and-fst (not i) _ a2);
        no_record = λ k. or-fst-false (recorded st q s) (mark_in st q s) (none k);
        no_mark = λ k. or-snd-false (recorded st q s) (mark_in st q s) (none k);
      }

-- ---- a mark

-- the one that is new
abbrev mark_of : Queue → ℕ → Queue → ℕ → Bool
mark_of q s q' s' = same_queue q' q && eqb s' s

at_mark : (q : Queue) (s : ℕ) (P : Queue → ℕ → Type 0) → P q s → (q' : Queue) (s' : ℕ)
    → mark_of q s q' s' ≡ true → P q' s'
at_mark q s P h q' s' e =
    let a : q ≡ q' = sym (queue-same q' q (and-fst (same_queue q' q) (eqb s' s) e)) in
    let b : s ≡ s' = sym (eqb-true s' s (and-snd (same_queue q' q) (eqb s' s) e)) in
    subst (P q') b (subst (λ (x : Queue). P x s) a h)

mark-has : (b : Bool) (m : SigSet) (s s' : ℕ) → Signal s' → has (cond b (union m (of_signal s)) m) s' ≡ true
    → (has m s' || (b && eqb s' s)) ≡ true
mark-has true m s s' h e =
    ap (λ (b : Bool). has m s' || b) (sym (has_of s s' h)) ∙ sym (has-union m (of_signal s) s' h) ∙ e
mark-has false m s s' h e = or_left false e

-- the queue is a live process's or thread's: none of process 0
not-nobody : (st : Store) (q : Queue) → live_process (view st) q.process ≡ true → same_queue (process_queue 0) q ≡ false
not-nobody st q l =
    split (same_queue (process_queue 0) q)
    (λ e. clash (eq-eqb q.process 0 (sym (ap (λ (a : Queue). a.process) (queue-same (process_queue 0) q e))))
    (process-named st q.process l))
    (λ e. e)

pub set_mark-sound : (st : Store) → sound st ≡ true → (q : Queue) (s : ℕ) → admits (view st) q s ≡ true
    → sound (apply (set_mark q s) st) ≡ true
unfolding apply
set_mark-sound st e q s a =
    let d : Admitted st q s = admitted st q s a in
    marks-sound st (marking q s) (mark_of q s)
    record {
      bound = λ q' m s' h k. mark-has (same_queue q' q) m s s' h k;
      free = cond-false (union empty (of_signal s)) empty (not-nobody st q d.process);
      maskable = at_mark q s (λ _ x. is_unmaskable x ≡ false) (nameable-maskable s d.signal);
      not-ignored =
          at_mark q s (λ p x. ignored (action_of (the_process (view st) p.process) x) x ≡ false) d.not-ignored;
      once = at_mark q s (λ p x. standard x ≡ true → any (in_queue p x) (records_for p st) ≡ false) d.no_record;
    }
    e

-- ---- a record

abbrev with_record : Siginfo → List Siginfo → List Siginfo
with_record r rs = rs ++ (r ∷ [])

-- no standard signal twice: the last record against those before it
not-again : (r : Siginfo) (rs : List Siginfo)
    → (standard r.signal ≡ true → any (in_queue (queue_of r) r.signal) rs ≡ false)
    → all (λ (y : Siginfo). not (is_standard y) || not_twice y r) rs ≡ true
unfolding is_standard not_twice in_queue
not-again r rs h =
    let P : Siginfo → Type 0 = λ y. standard r.signal ≡ true → in_queue (queue_of r) r.signal y ≡ false in
    let a : All P rs =
    split (standard r.signal)
    (λ k. All-imp (Fail (in_queue (queue_of r) r.signal)) P (λ y f _. f) rs
    (any-All (in_queue (queue_of r) r.signal) rs (h k)))
    (λ n. All-every P (λ y k. clash k n) rs) in
    All-all (λ (y : Siginfo). not (is_standard y) || not_twice y r) rs
    (All-imp P (Pass (λ (y : Siginfo). not (is_standard y) || not_twice y r))
    (λ y f.
    imp-by (standard y.signal)
    (λ k.
    split (eqb y.signal r.signal && same_queue (queue_of y) (queue_of r))
    (λ t.
    let u : eqb y.signal r.signal ≡ true = and-fst (eqb y.signal r.signal) _ t in
    let z : standard r.signal ≡ true = ap standard (sym (eqb-true y.signal r.signal u)) ∙ k in
    let w : queue_of y ≡ queue_of r = queue-same (queue_of y) (queue_of r) (and-snd (eqb y.signal r.signal) _ t) in
    clash (and_both (same_queue_lem (queue_of r) (queue_of y) (sym w)) u) (f z))
    (λ t. ap not t)))
    rs a)

module _ (st : Store) (r : Siginfo) (d : Admitted st (queue_of r) r.signal) where
  in_use_lem : in_use r ≡ true
  unfolding in_use
  in_use_lem = ap not (process-named st r.process d.process)

  module _ (slots : List Siginfo) where
    all-used : all in_use (with_record r (used slots)) ≡ true
    all-used = all_end in_use (used slots) r (used-in_use slots) in_use_lem

    used-with : used (on_slots (with_record r) slots) ≡ with_record r (used slots)
    used-with = used-after (with_record r) slots all-used

    buffer-with : (aims : Siginfo → Bool) → GoodBuffer st aims slots → aims r ≡ true
        → records_for (queue_of r) st ≡ used slots → length (used slots) < buffer_records
        → GoodBuffer st aims (on_slots (with_record r) slots)
    unfolding on_slots record_not_ignored not_marked_too is_standard
    buffer-with aims b a f h =
        let n : length (with_record r (used slots)) ≤ buffer_records = simp length-append (omega arith) in
        record {
          laid =
              record {
                long = length-padded no_siginfo buffer_records (with_record r (used slots)) n;
                rest = rest-after (with_record r) slots all-used;
                once =
                    rw used-with
                    (pairs_where-end is_standard not_twice (used slots) r
                    ∙ and_both b.laid.once
                    (not-again r (used slots)
                    (λ k. ap (any (in_queue (queue_of r) r.signal)) (sym f) ∙ d.no_record k)));
              };
          records =
              rw used-with
              (All-append (GoodRecord st aims) (used slots) (r ∷ []) b.records (
                record {
                  aimed = a;
                  unmarked = imp-by (standard r.signal) (λ k. ap not (d.no_mark k));
                  not-ignored = ap not d.not-ignored;
                },
                tt,
              ));
        }

    count-with : (p : ℕ) → count (of_process p) (used (on_slots (with_record r) slots))
        ≡ count (of_process p) (used slots) + cond (of_process p r) 1 0
    count-with p = ap (count (of_process p)) used-with ∙ count-end (of_process p) (used slots) r

  module _ (e : sound st ≡ true) (code : eqb r.code si_queue ≡ true)
      (below : queued_in st r.process < record_limit) where
    one_more : (p : ℕ) → queued_in st p + cond (of_process p r) 1 0 ≤ record_limit
    one_more p =
        split (of_process p r)
        (λ k. let q : queued_in st r.process ≡ queued_in st p = ap (queued_in st) (eqb-true r.process p k) in
        rw k (omega arith))
        (λ k. rw k (omega (arith, within-limit st e p)))

    names-live : names_live (view st) r ≡ true
    unfolding names_live
    names-live = and_both code (and_both d.signal d.process)

    to-process : eqb r.thread 0 ≡ true
        → sound (with_buffers st.thread_buffer (on_slots (with_record r) st.process_buffer) st) ≡ true
    unfolding queued_in aimed_at_process
    to-process z =
        let a : aimed_at_process (view st) r ≡ true = and_both names-live z in
        buffers-sound st st.thread_buffer (on_slots (with_record r) st.process_buffer)
        (λ p. omega (arith, count-with st.process_buffer p, one_more p))
        e (good st e).thread_buffer
        (buffer-with st.process_buffer (aimed_at_process (view st)) (good st e).process_buffer a
        (process-records st r a) (room st e r.process d.process below).1)

    to-thread : eqb r.thread 0 ≡ false
        → sound (with_buffers (on_slots (with_record r) st.thread_buffer) st.process_buffer st) ≡ true
    unfolding queued_in aimed_at_thread
    to-thread z =
        let a : aimed_at_thread (view st) r ≡ true = and_both names-live (d.thread z) in
        buffers-sound st (on_slots (with_record r) st.thread_buffer) st.process_buffer
        (λ p. omega (arith, count-with st.thread_buffer p, one_more p))
        e
        (buffer-with st.thread_buffer (aimed_at_thread (view st)) (good st e).thread_buffer a (thread-records st r a)
        (room st e r.process d.process below).0)
        (good st e).process_buffer

pub append-sound : (st : Store) → sound st ≡ true → (r : Siginfo) → fits (view st) (append r) ≡ true
    → sound (apply (append r) st) ≡ true
unfolding apply fits view
append-sound st e r f =
    let f1 = and-snd (eqb r.code si_queue) _ f in
    let d : Admitted st (queue_of r) r.signal =
    admitted st (queue_of r) r.signal (and-fst (admits (view st) (queue_of r) r.signal) _ f1) in
    let c : eqb r.code si_queue ≡ true = and-fst (eqb r.code si_queue) _ f in
    let b : queued_in st r.process < record_limit =
    ltb-true (queued_in st r.process) record_limit (and-snd (admits (view st) (queue_of r) r.signal) _ f1) in
    split (eqb r.thread 0) (λ z. rw z (to-process st r d e c b z)) (λ z. rw z (to-thread st r d e c b z))
