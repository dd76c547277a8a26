-- Removing a process with its threads, and removing a thread that is not the last of its process,
-- leave a sound store sound. Assumes nothing.
use Prim.Native.Nat.{ℕ}
use mathlib.Core.Path.{◌≡◌, refl, sym, ap, subst, ◌∙◌}
use mathlib.Core.Bool.{Bool, true, false, not, ◌&&◌, ◌||◌, cond}
use mathlib.Core.List.{map}
use lib.Dec.{eqb}
use borrow.Author.Tests.{eqb-true, not-true}
use Rattle.lists.specs.Lists.{any, keep}
use Rattle.lists.proofs.Bools.{split, clash, cond-false, cond-kept, and-fst, and-snd, and_right, and_cases, or_right}
use Rattle.lists.proofs.Bools.{imp_use, imp-by}
use Rattle.lists.proofs.Lists.{Pass, Fail, All-imp, All-changed, Stands, any-All, any-map, any-imp, any-same-in}
use Rattle.lists.proofs.Lists.{any-change, any-changed, length-change}
use Rattle.lists.proofs.Members.{All-standing}
use Rattle.lists.proofs.Sublists.{keep-within}
use Rattle.types.specs.declared.Siginfo.{Siginfo}
use Rattle.rules.specs.Types.{Process, Thread, no_thread}
use Rattle.rules.specs.Signals.{ignored}
use Rattle.rules.specs.View.{remove_process, remove_thread, is_process, is_thread, belongs_to, action_of, live_process}
use Rattle.rules.specs.View.{live_thread, the_process, the_thread}
use Rattle.rules.specs.Store.{Place, Store, held, free_process, free_thread, process_mark, thread_mark, queued_in}
use Rattle.rules.specs.Store.{view, vacate, on_processes, on_threads, on_buffers, apply}
use Rattle.rules.specs.Sound.{is_live, if_live, process_id, thread_id, has_thread, aimed_at_thread, sound}
use Rattle.rules.specs.Adding.{other_thread}
use Rattle.rules.specs.Fitting.{fits}
use Rattle.rules.proofs.Aimed.{thread-live, thread-owner}
use Rattle.rules.proofs.FieldsInView.{two-ids}
use Rattle.rules.proofs.IdsApart.{apart-changed}
use Rattle.rules.proofs.BuffersSound.{queued-within}
use Rattle.rules.proofs.CarriedOver.{always, Carries, unmarked-by, process-carried, thread-carried}
use Rattle.rules.proofs.CarriedOver.{processes-kept, process-buffer-carried, thread-buffer-carried}
use Rattle.rules.proofs.Cleared.{no-id}
use Rattle.rules.proofs.Facts.{one-thread}
use Rattle.rules.proofs.Marks.{thread_with, process-named, the-thread, the-thread-id, any_held}
use Rattle.rules.proofs.ClausesByPlace.{GoodProcess, GoodThread, Good, HaveThreads, good, have-threads}
use Rattle.rules.proofs.ClausesByPlace.{good-sound}
use Rattle.rules.proofs.Vacated.{good-free-process, good-free-thread, unmarked-vacated, free-process-unmarked}
use Rattle.rules.proofs.Vacated.{free-thread-unmarked, held-vacated, process-stays, process-stays-live}
use Rattle.rules.proofs.Vacated.{thread-stays, thread-stays-live}

-- ---- a process with its threads

module _ (st : Store) (e : sound st ≡ true) (n : ℕ) (live : live_process (view st) n ≡ true) where
  abbrev not_of : Siginfo → Bool
  not_of r = not (eqb r.process n)

  abbrev without : Store
  without =
      on_processes (vacate free_process (is_process n))
      (on_threads (vacate free_thread (belongs_to n)) (on_buffers (keep not_of) st))

  abbrev goes : Place Process → Bool
  goes x = is_process n x.holds

  abbrev thread_goes : Place Thread → Bool
  thread_goes x = belongs_to n x.holds

  abbrev stays : ℕ → Bool
  stays k = not (eqb k n)

  abbrev thread_stays : ℕ → Bool
  thread_stays k = not (belongs_to n (the_thread (view st) k))

  carries-without : Carries st without stays thread_stays
  unfolding queued_in
  carries-without =
      record {
        process = λ k s l. process-stays-live st without n refl k (not-true (eqb k n) s) ∙ l;
        thread =
            λ k s l. thread-stays-live st without (belongs_to n) refl k l
            (not-true (belongs_to n (the_thread (view st) k)) s);
        owner =
            λ k s l. ap (λ (t : Thread). t.process)
            (thread-stays st without (belongs_to n) refl k l (not-true (belongs_to n (the_thread (view st) k)) s));
        not-ignored =
            λ k s c _ _ _ h. ap (λ (p : Process). ignored (action_of p s) s)
            (process-stays st without n refl k (not-true (eqb k n) c)) ∙ h;
        unmarked =
            λ q s.
            unmarked-by st without q s
            (unmarked-vacated free_process (is_process n) (process_mark q s) (free-process-unmarked q s) st.processes)
            (unmarked-vacated free_thread (belongs_to n) (thread_mark q s) (free-thread-unmarked q s) st.threads);
        queued = queued-within (keep not_of) (keep-within not_of) st;
      }

  -- who is not of the process stays
  not-of : (i : ℕ) → (not (eqb n 0) && eqb i n) ≡ false → eqb i n ≡ false
  not-of i f = and_cases (not (eqb n 0)) (eqb i n) f (λ h. clash (ap not (process-named st n live)) h) (λ h. h)

  thread-of-left : (r : Siginfo) → aimed_at_thread (view st) r ≡ true → not_of r ≡ true → thread_stays r.thread ≡ true
  unfolding belongs_to
  thread-of-left r a h =
      let o : (the_thread (view st) r.thread).process ≡ r.process =
      ap (λ (t : Thread). t.process) (the-thread st r.thread) ∙ thread-owner st r a in
      ap not (and_right (not (eqb n 0)) (ap (λ (m : ℕ). eqb m n) o ∙ not-true (eqb r.process n) h))

  good-without : Good without
  unfolding belongs_to
  good-without =
      let k : Good st = good st e in
      let c : Carries st without stays thread_stays = carries-without in
      record {
        processes_long = length-change goes (λ _. free_process) st.processes ∙ k.processes_long;
        processes =
            All-changed (GoodProcess st) (GoodProcess without) goes (λ _. free_process)
            (λ _ _ _. good-free-process without)
            (λ x _ g. process-carried st without stays thread_stays c x g g.own)
            st.processes k.processes;
        process_apart =
            apart-changed process_id goes (λ _. free_process) (λ x. or_right (eqb 0 x.holds.id) refl) st.processes
            k.process_apart;
        threads_long = length-change thread_goes (λ _. free_thread) st.threads ∙ k.threads_long;
        threads =
            All-changed (λ x. Stands st.threads x × GoodThread st x) (GoodThread without) thread_goes
            (λ _. free_thread)
            (λ _ _ _. good-free-thread without)
            (λ x f p. thread-carried st without stays thread_stays c x p.0 p.1
            (λ _. ap not (not-of x.holds.process f)))
            st.threads (All-standing (GoodThread st) st.threads k.threads);
        thread_apart =
            apart-changed thread_id thread_goes (λ _. free_thread) (λ x. or_right (eqb 0 x.holds.id) refl)
            st.threads k.thread_apart;
        thread_buffer =
            thread-buffer-carried st without stays thread_stays c not_of (λ r h. h) thread-of-left k.thread_buffer;
        process_buffer = process-buffer-carried st without stays thread_stays c not_of (λ r h. h) k.process_buffer;
      }

  threads-without : (m : ℕ) → eqb m n ≡ false
      → any (belongs_to m) (view without).threads ≡ any (belongs_to m) (view st).threads
  unfolding view belongs_to
  threads-without m f =
      ap (any (belongs_to m)) (held-vacated free_thread (belongs_to n) st.threads)
      ∙ any-changed (belongs_to m) (belongs_to n) (λ _. no_thread) (map held st.threads)
      (λ t h. no-id m ∙ sym (two-ids m n t.process f h))

  have-threads-without : HaveThreads without
  unfolding has_thread is_process
  have-threads-without =
      All-changed (Pass (if_live process_id (has_thread (view st))))
      (Pass (if_live process_id (has_thread (view without))))
      goes (λ _. free_process)
      (λ _ _ _. refl)
      (λ x f p.
      ap (λ (b : Bool). not (is_live process_id x) || b) (threads-without x.holds.id (not-of x.holds.id f)) ∙ p)
      st.processes (have-threads st e)

  process-removed : sound without ≡ true
  process-removed = good-sound without good-without have-threads-without

pub remove_process-sound : (st : Store) → sound st ≡ true → (n : ℕ) → fits (view st) (remove_process n) ≡ true
    → sound (apply (remove_process n) st) ≡ true
unfolding apply fits
remove_process-sound st e n f = process-removed st e n f

-- ---- a thread, not the last of its process

module _ (st : Store) (e : sound st ≡ true) (n : ℕ) (live : live_thread (view st) n ≡ true)
    (others : any (other_thread (view st) (the_thread (view st) n)) (view st).threads ≡ true) where
  abbrev not_at : Siginfo → Bool
  not_at r = not (eqb r.thread n)

  abbrev less_thread : Store
  less_thread = on_threads (vacate free_thread (is_thread n)) (on_buffers (keep not_at) st)

  abbrev other_id : ℕ → Bool
  other_id k = not (is_thread n (the_thread (view st) k))

  abbrev is_gone : Place Thread → Bool
  is_gone x = is_thread n x.holds

  carries-less : Carries st less_thread always other_id
  unfolding queued_in view live_process the_process
  carries-less =
      record {
        process = λ k _ l. l;
        thread =
            λ k s l. thread-stays-live st less_thread (is_thread n) refl k l
            (not-true (is_thread n (the_thread (view st) k)) s);
        owner =
            λ k s l. ap (λ (t : Thread). t.process)
            (thread-stays st less_thread (is_thread n) refl k l (not-true (is_thread n (the_thread (view st) k)) s));
        not-ignored = λ k s _ _ _ _ h. h;
        unmarked =
            λ q s.
            unmarked-by st less_thread q s (λ h. h)
            (unmarked-vacated free_thread (is_thread n) (thread_mark q s) (free-thread-unmarked q s) st.threads);
        queued = queued-within (keep not_at) (keep-within not_at) st;
      }

  other-left : (r : Siginfo) → aimed_at_thread (view st) r ≡ true → not_at r ≡ true → other_id r.thread ≡ true
  unfolding is_thread
  other-left r a h =
      let i : (the_thread (view st) r.thread).id ≡ r.thread = the-thread-id st r.thread (thread-live st r a) in
      ap not (and_right (not (eqb n 0)) (ap (λ (m : ℕ). eqb m n) i ∙ not-true (eqb r.thread n) h))

  good-less : Good less_thread
  good-less =
      let k : Good st = good st e in
      let c : Carries st less_thread always other_id = carries-less in
      record {
        processes_long = k.processes_long;
        processes = processes-kept st less_thread always other_id c k.processes;
        process_apart = k.process_apart;
        threads_long = length-change is_gone (λ _. free_thread) st.threads ∙ k.threads_long;
        threads =
            All-changed (λ x. Stands st.threads x × GoodThread st x) (GoodThread less_thread) is_gone (λ _. free_thread)
            (λ _ _ _. good-free-thread less_thread)
            (λ x _ p. thread-carried st less_thread always other_id c x p.0 p.1 (λ _. refl))
            st.threads (All-standing (GoodThread st) st.threads k.threads);
        thread_apart =
            apart-changed thread_id is_gone (λ _. free_thread) (λ x. or_right (eqb 0 x.holds.id) refl) st.threads
            k.thread_apart;
        thread_buffer =
            thread-buffer-carried st less_thread always other_id c not_at (λ r _. refl) other-left k.thread_buffer;
        process_buffer = process-buffer-carried st less_thread always other_id c not_at (λ r _. refl) k.process_buffer;
      }

  -- a thread of m that is left
  abbrev left_of : ℕ → Thread → Bool
  left_of m t = cond (is_thread n t) (belongs_to m no_thread) (belongs_to m t)

  threads-less : (m : ℕ) → any (belongs_to m) (view less_thread).threads ≡ any (left_of m) (view st).threads
  unfolding view
  threads-less m =
      ap (any (belongs_to m)) (held-vacated free_thread (is_thread n) st.threads)
      ∙ any-change (belongs_to m) (is_thread n) (λ _. no_thread) (map held st.threads)

  -- its own process keeps another one
  own-have-threads : any (belongs_to (the_thread (view st) n).process) (view less_thread).threads ≡ true
  unfolding other_thread is_thread
  own-have-threads =
      let m : ℕ = (the_thread (view st) n).process in
      let i : (the_thread (view st) n).id ≡ n = the-thread-id st n live in
      threads-less m
      ∙ any-imp (other_thread (view st) (the_thread (view st) n)) (left_of m)
      (λ t h.
      let f : eqb t.id n ≡ false =
      ap (λ (j : ℕ). eqb t.id j) (sym i)
      ∙ not-true (eqb t.id (the_thread (view st) n).id) (and-snd (belongs_to m t) _ h) in
      cond-false (belongs_to m no_thread) (belongs_to m t) (and_right (not (eqb n 0)) f) ∙ and-fst (belongs_to m t) _ h)
      (view st).threads others

  -- no other process has it
  abbrev gone_of : ℕ → Place Thread → Bool
  gone_of m x = is_thread n x.holds && belongs_to m x.holds

  gone-not-of : (m : ℕ) → eqb (the_thread (view st) n).process m ≡ false → any (gone_of m) st.threads ≡ false
  unfolding belongs_to live_thread view
  gone-not-of m f =
      any_held free_thread (is_thread n) st.threads (gone_of m) (λ x h. and-fst (is_thread n x.holds) _ h) live
      (one-thread st e n)
      ∙ and_right (is_thread n (thread_with st n).holds)
      (and_right (not (eqb m 0)) (ap (λ (t : Thread). eqb t.process m) (sym (the-thread st n)) ∙ f))

  other-have-threads : (m : ℕ) → eqb (the_thread (view st) n).process m ≡ false
      → any (belongs_to m) (view less_thread).threads ≡ any (belongs_to m) (view st).threads
  unfolding view belongs_to
  other-have-threads m f =
      threads-less m
      ∙ any-map (left_of m) held st.threads
      ∙ any-same-in (λ (x : Place Thread). left_of m x.holds) (λ (x : Place Thread). belongs_to m x.holds)
      st.threads
      (All-imp (Fail (gone_of m)) (λ x. left_of m x.holds ≡ belongs_to m x.holds)
      (λ x h.
      cond-kept (is_thread n x.holds)
      (λ t. no-id m ∙ sym (and_cases (is_thread n x.holds) (belongs_to m x.holds) h (λ z. clash t z) (λ z. z))))
      st.threads (any-All (gone_of m) st.threads (gone-not-of m f)))
      ∙ sym (any-map (belongs_to m) held st.threads)

  have-threads-less : HaveThreads less_thread
  unfolding has_thread
  have-threads-less =
      All-imp (Pass (if_live process_id (has_thread (view st))))
      (Pass (if_live process_id (has_thread (view less_thread))))
      (λ x p.
      imp-by (is_live process_id x)
      (λ l.
      let m : ℕ = x.holds.id in
      split (eqb (the_thread (view st) n).process m)
      (λ z. subst (λ (j : ℕ). any (belongs_to j) (view less_thread).threads ≡ true)
      (eqb-true (the_thread (view st) n).process m z) own-have-threads)
      (λ z. other-have-threads m z ∙ imp_use (is_live process_id x) (any (belongs_to m) (view st).threads) p l)))
      st.processes (have-threads st e)

  thread-removed : sound less_thread ≡ true
  thread-removed = good-sound less_thread good-less have-threads-less

pub remove_thread-sound : (st : Store) → sound st ≡ true → (n : ℕ) → fits (view st) (remove_thread n) ≡ true
    → sound (apply (remove_thread n) st) ≡ true
unfolding apply fits
remove_thread-sound st e n f =
    thread-removed st e n (and-fst (live_thread (view st) n) _ f) (and-snd (live_thread (view st) n) _ f)
