-- What a change has to carry over, so that the places and the records that it leaves alone stay good. Assumes nothing.
use Prim.Native.Nat.{ℕ, ◌≤◌}
use mathlib.Core.Path.{◌≡◌, refl, sym, ap, subst, ◌∙◌}
use mathlib.Core.Bool.{Bool, true, false, not, ◌||◌}
use mathlib.Core.List.{List}
use native.Mathlib.Omega.{arith}
use lib.Dec.{eqb}
use borrow.Author.Tests.{leb-true, le-leb, not-true}
use Rattle.limits.specs.Limits.{record_limit, si_queue}
use Rattle.lists.specs.Lists.{any, keep, All}
use Rattle.lists.proofs.Bools.{and-fst, and-snd, and_both, and_left, and_right, and_cases, or-both, or-fst-false}
use Rattle.lists.proofs.Bools.{or-snd-false, imp_use, imp-by}
use Rattle.lists.proofs.Lists.{All-imp, All-keep, Stands}
use Rattle.lists.proofs.Members.{All-standing}
use Rattle.lists.proofs.Sublists.{keep-within}
use Rattle.sigset.specs.Set.{has}
use Rattle.types.specs.declared.Siginfo.{Siginfo}
use Rattle.rules.specs.Types.{Process, Thread, Queue}
use Rattle.rules.specs.Signals.{is_signal, ignored}
use Rattle.rules.specs.View.{thread_queue, queue_of, action_of, live_process, live_thread, the_process, the_thread}
use Rattle.rules.specs.View.{thread_action}
use Rattle.rules.specs.Store.{Place, Store, used, process_mark, thread_mark, mark_in, queued_in, on_slots, view}
use Rattle.rules.specs.Sound.{is_live, process_id, thread_id, belongs, nameable, names_live, aimed_at_thread}
use Rattle.rules.specs.Sound.{aimed_at_process, within_limit, is_standard, not_marked_too, record_not_ignored}
use Rattle.rules.specs.Sound.{thread_not_ignored}
use Rattle.rules.specs.Fitting.{pends_somewhere}
use Rattle.rules.proofs.Aimed.{names-process, names-signal}
use Rattle.rules.proofs.BuffersSound.{laid-within}
use Rattle.rules.proofs.Marks.{process-named}
use Rattle.rules.proofs.Found.{not-ignored-at, not-ignored-by, not-marked}
use Rattle.rules.proofs.ClausesByPlace.{GoodProcess, GoodThread, GoodRecord, GoodBuffer, OwnProcess}
use Rattle.rules.proofs.PendingSomewhere.{marked-pends, thread-marked, thread-pends, thread-record-pends}
use Rattle.rules.proofs.PendingSomewhere.{process-record-pends}
use Rattle.rules.proofs.Slots.{used-within}

-- where nobody goes
abbrev pub always : ℕ → Bool
always _ = true

-- to st' from st, for the processes and the threads that stay
pub record Carries (st st' : Store) (stays thread_stays : ℕ → Bool) : Type 0 where
  pub process : (k : ℕ) → stays k ≡ true → live_process (view st) k ≡ true → live_process (view st') k ≡ true
  pub thread : (k : ℕ) → thread_stays k ≡ true → live_thread (view st) k ≡ true → live_thread (view st') k ≡ true
  pub owner : (k : ℕ) → thread_stays k ≡ true → live_thread (view st) k ≡ true
      → (the_thread (view st') k).process ≡ (the_thread (view st) k).process
  -- what is pending is not ignored thereafter
  pub not-ignored : (k s : ℕ) → stays k ≡ true → is_signal s ≡ true → live_process (view st) k ≡ true
      → pends_somewhere (view st) k s ≡ true
      → ignored (action_of (the_process (view st) k) s) s ≡ false
      → ignored (action_of (the_process (view st') k) s) s ≡ false
  -- nothing is marked
  pub unmarked : (q : Queue) (s : ℕ) → mark_in st q s ≡ false → mark_in st' q s ≡ false
  pub queued : (k : ℕ) → queued_in st' k ≤ queued_in st k

-- nothing is marked if neither table marks it
pub unmarked-by : (st st' : Store) (q : Queue) (s : ℕ)
    → (any (process_mark q s) st.processes ≡ false → any (process_mark q s) st'.processes ≡ false)
    → (any (thread_mark q s) st.threads ≡ false → any (thread_mark q s) st'.threads ≡ false) → mark_in st q s ≡ false
    → mark_in st' q s ≡ false
unfolding mark_in
unmarked-by st st' q s hp ht e =
    let p : Bool = any (process_mark q s) st.processes in
    let t : Bool = any (thread_mark q s) st.threads in
    and_cases (is_signal s) (p || t) e
    (λ f. and_left (any (process_mark q s) st'.processes || any (thread_mark q s) st'.threads) f)
    (λ f. and_right (is_signal s) (or-both (hp (or-fst-false p t f)) (ht (or-snd-false p t f))))

module _ (st st' : Store) (stays thread_stays : ℕ → Bool) (c : Carries st st' stays thread_stays) where
  -- ---- places

  pub process-carried : (x : Place Process) → GoodProcess st x → OwnProcess x → GoodProcess st' x
  process-carried x g o =
      record {
        own = o;
        limit =
            imp-by (is_live process_id x)
            (λ l.
            let h : queued_in st x.holds.id ≤ record_limit =
            leb-true _ record_limit (imp_use (is_live process_id x) (within_limit st x) g.limit l) in
            le-leb (queued_in st' x.holds.id) record_limit (omega (arith, c.queued x.holds.id)));
      }

  module _ (x : Place Thread) (m : Stands st.threads x) (g : GoodThread st x)
      (k : is_live thread_id x ≡ true → stays x.holds.process ≡ true) where
    abbrev owner : ℕ
    owner = x.holds.process

    owner-live : is_live thread_id x ≡ true → live_process (view st) owner ≡ true
    unfolding belongs
    owner-live l = imp_use (is_live thread_id x) (belongs (view st) x) g.owned l

    still-not-ignored : is_live thread_id x ≡ true → (s : ℕ) → is_signal s ≡ true → has x.marks s ≡ true
        → ignored (thread_action (view st') x.holds s) s ≡ false
    unfolding thread_action
    still-not-ignored l s f h =
        c.not-ignored owner s (k l) f (owner-live l)
        (thread-pends st owner s x m (process-named st owner (owner-live l)) refl
        (marked-pends st (thread_queue x.holds) s (thread-marked st x m s f h)))
        (not-ignored-at x.marks (thread_action (view st) x.holds)
        (imp_use (is_live thread_id x) (thread_not_ignored (view st) x) g.not-ignored l) s f h)

    pub thread-carried : GoodThread st' x
    unfolding belongs
    thread-carried =
        record {
          own = g.own;
          owned = imp-by (is_live thread_id x) (λ l. c.process owner (k l) (owner-live l));
          not-ignored =
              imp-by (is_live thread_id x)
              (λ l. not-ignored-by x.marks (thread_action (view st') x.holds) (still-not-ignored l));
        }

  -- ---- records

  module _ (r : Siginfo) (k : stays r.process ≡ true) where
    names-carried : names_live (view st) r ≡ true → names_live (view st') r ≡ true
    unfolding names_live
    names-carried e =
        and_both (and-fst (eqb r.code si_queue) _ e)
        (and_both (names-signal st r e) (c.process r.process k (names-process st r e)))

    unmarked-carried : not_marked_too st r ≡ true → not_marked_too st' r ≡ true
    unfolding not_marked_too
    unmarked-carried e = imp-by (is_standard r) (λ d. ap not (c.unmarked (queue_of r) r.signal (not-marked st r e d)))

    not-ignored-carried : names_live (view st) r ≡ true → pends_somewhere (view st) r.process r.signal ≡ true
        → record_not_ignored (view st) r ≡ true
        → record_not_ignored (view st') r ≡ true
    unfolding record_not_ignored nameable
    not-ignored-carried n p e =
        ap not (c.not-ignored r.process r.signal k (and-fst (is_signal r.signal) _ (names-signal st r n))
        (names-process st r n) p (not-true _ e))

    process-record-carried : Stands (used st.process_buffer) r → GoodRecord st (aimed_at_process (view st)) r
        → GoodRecord st' (aimed_at_process (view st')) r
    unfolding aimed_at_process
    process-record-carried m g =
        record {
          aimed =
              and_both (names-carried (and-fst (names_live (view st) r) _ g.aimed))
              (and-snd (names_live (view st) r) _ g.aimed);
          unmarked = unmarked-carried g.unmarked;
          not-ignored =
              not-ignored-carried (and-fst (names_live (view st) r) _ g.aimed)
              (process-record-pends st r m g.aimed) g.not-ignored;
        }

    thread-record-carried : Stands (used st.thread_buffer) r → thread_stays r.thread ≡ true
        → GoodRecord st (aimed_at_thread (view st)) r
        → GoodRecord st' (aimed_at_thread (view st')) r
    unfolding aimed_at_thread
    thread-record-carried m t g =
        let f = and-snd (names_live (view st) r) _ g.aimed in
        let l : live_thread (view st) r.thread ≡ true = and-fst (live_thread (view st) r.thread) _ f in
        record {
          aimed =
              and_both (names-carried (and-fst (names_live (view st) r) _ g.aimed))
              (and_both (c.thread r.thread t l)
              (ap (λ (n : ℕ). eqb n r.process) (c.owner r.thread t l)
              ∙ and-snd (live_thread (view st) r.thread) _ f));
          unmarked = unmarked-carried g.unmarked;
          not-ignored =
              not-ignored-carried (and-fst (names_live (view st) r) _ g.aimed) (thread-record-pends st r m g.aimed)
              g.not-ignored;
        }

  -- ---- a buffer, of which some records are left

  module _ (left : Siginfo → Bool) (k : (r : Siginfo) → left r ≡ true → stays r.process ≡ true) where
    buffer-left : (aims aims' : Siginfo → Bool) (slots : List Siginfo)
        → ((r : Siginfo) → left r ≡ true → Stands (used slots) r → GoodRecord st aims r → GoodRecord st' aims' r)
        → GoodBuffer st aims slots → GoodBuffer st' aims' (on_slots (keep left) slots)
    buffer-left aims aims' slots h b =
        let P : Siginfo → Type 0 = λ r. Stands (used slots) r × GoodRecord st aims r in
        record {
          laid = laid-within (keep left) (keep-within left) slots b.laid;
          records =
              subst (All (GoodRecord st' aims')) (sym (used-within (keep left) (keep-within left) slots))
              (All-imp (λ r. P r × (left r ≡ true)) (GoodRecord st' aims') (λ r p. h r p.1 p.0.0 p.0.1)
              (keep left (used slots))
              (All-keep P left (used slots) (All-standing (GoodRecord st aims) (used slots) b.records)));
        }

    pub process-buffer-carried : GoodBuffer st (aimed_at_process (view st)) st.process_buffer
        → GoodBuffer st' (aimed_at_process (view st')) (on_slots (keep left) st.process_buffer)
    process-buffer-carried =
        buffer-left (aimed_at_process (view st)) (aimed_at_process (view st')) st.process_buffer
        (λ r l m g. process-record-carried r (k r l) m g)

    pub thread-buffer-carried : ((r : Siginfo) → aimed_at_thread (view st) r ≡ true → left r ≡ true
        → thread_stays r.thread ≡ true)
        → GoodBuffer st (aimed_at_thread (view st)) st.thread_buffer
        → GoodBuffer st' (aimed_at_thread (view st')) (on_slots (keep left) st.thread_buffer)
    thread-buffer-carried t =
        buffer-left (aimed_at_thread (view st)) (aimed_at_thread (view st')) st.thread_buffer
        (λ r l m g. thread-record-carried r (k r l) m (t r g.aimed l) g)

  -- ---- tables and buffers that stay as they are

  pub processes-kept : All (GoodProcess st) st.processes → All (GoodProcess st') st.processes
  processes-kept = All-imp (GoodProcess st) (GoodProcess st') (λ x g. process-carried x g g.own) st.processes

  module _ (all-stay : (k : ℕ) → stays k ≡ true) where
    pub threads-kept : All (GoodThread st) st.threads → All (GoodThread st') st.threads
    threads-kept a =
        All-imp (λ x. Stands st.threads x × GoodThread st x) (GoodThread st')
        (λ x p. thread-carried x p.0 p.1 (λ _. all-stay x.holds.process))
        st.threads (All-standing (GoodThread st) st.threads a)

    buffer-kept : (aims aims' : Siginfo → Bool) (slots : List Siginfo)
        → ((r : Siginfo) → Stands (used slots) r → GoodRecord st aims r → GoodRecord st' aims' r)
        → GoodBuffer st aims slots → GoodBuffer st' aims' slots
    buffer-kept aims aims' slots h b =
        record {
          laid = b.laid;
          records =
              All-imp (λ r. Stands (used slots) r × GoodRecord st aims r) (GoodRecord st' aims')
              (λ r p. h r p.0 p.1)
              (used slots) (All-standing (GoodRecord st aims) (used slots) b.records);
        }

    pub process-buffer-kept : GoodBuffer st (aimed_at_process (view st)) st.process_buffer
        → GoodBuffer st' (aimed_at_process (view st')) st.process_buffer
    process-buffer-kept =
        buffer-kept (aimed_at_process (view st)) (aimed_at_process (view st')) st.process_buffer
        (λ r. process-record-carried r (all-stay r.process))

    pub thread-buffer-kept : ((k : ℕ) → thread_stays k ≡ true)
        → GoodBuffer st (aimed_at_thread (view st)) st.thread_buffer
        → GoodBuffer st' (aimed_at_thread (view st')) st.thread_buffer
    thread-buffer-kept t =
        buffer-kept (aimed_at_thread (view st)) (aimed_at_thread (view st')) st.thread_buffer
        (λ r m. thread-record-carried r (all-stay r.process) m (t r.thread))
