-- The tables and the ledger agree after each change, if they agreed before it. Assumes nothing.
use Prim.Native.Nat.{ℕ}
use mathlib.Core.Path.{◌≡◌, refl, sym, ap, ◌∙◌}
use mathlib.Core.Bool.{Bool, true, false, not, ◌&&◌, ◌||◌, cond, and-true, and-false, or-true, or-false}
use mathlib.Core.List.{List, [], ◌∷◌, ◌++◌, tail}
use lib.Dec.{eqb}
use lib.ListN.{replicate}
use Rattle.limits.specs.Limits.{process_places, thread_places, buffer_records}
use Rattle.lists.specs.Lists.{all, any, change, keep, replace_first}
use Rattle.lists.proofs.Bools.{clash, and-fst, and-snd, and_right, or-both, cond_map, cond-kept, cond_same}
use Rattle.lists.proofs.Lists.{map-change, map-replace_first, any-changed, any-replicate, leading-replicate}
use Rattle.lists.proofs.Sublists.{keep-within}
use Rattle.sigset.specs.declared.SigSet.{SigSet}
use Rattle.sigset.specs.Set.{has}
use Rattle.types.specs.declared.Siginfo.{Siginfo}
use Rattle.types.specs.Values.{no_siginfo}
use Rattle.rules.specs.Types.{Process, Thread, Queue, no_process, no_thread}
use Rattle.rules.specs.Signals.{is_signal}
use Rattle.rules.specs.View.{same_queue, process_queue, Change, forget, new_process, new_thread, remove_process}
use Rattle.rules.specs.View.{remove_thread, set_stopped, set_action, set_mask, set_mark, clear_mark, append}
use Rattle.rules.specs.View.{drop_oldest}
use Rattle.rules.specs.View.{discard, is_process, is_thread, belongs_to, in_queue, live_thread}
use Rattle.rules.specs.Store.{Store, held, view, in_use, used, records_for, mark_in, left_by, process_mark, thread_mark}
use Rattle.rules.specs.Store.{amend, on_processes, free_process, free_thread, is_free_process, is_free_thread}
use Rattle.rules.specs.Store.{with_stopped}
use Rattle.rules.specs.Store.{with_action, with_mask, cleared, apply}
use Rattle.rules.specs.Sound.{if_free, process_id, thread_id, zero_process, zero_thread, nameable, free_zero, sound}
use Rattle.rules.specs.Fitting.{admits, live_queue, fits}
use Rattle.rules.proofs.Clauses.{clauses}
use Rattle.rules.proofs.DiscardPending.{discard-records, discard-marks}
use Rattle.rules.proofs.Marks.{process-named, thread-named}
use Rattle.rules.proofs.PendingInView.{seen-set_mark-processes, seen-set_mark-threads, seen-clear_mark-processes}
use Rattle.rules.proofs.PendingInView.{seen-clear_mark-threads, seen-discard-processes, seen-discard-threads}
use Rattle.rules.proofs.Slots.{zero-free}
use Rattle.rules.proofs.Vacated.{held-vacated, free-process-unmarked, free-thread-unmarked}
use Rattle.history.specs.Ledger as ledger
use Rattle.history.specs.Ledger.{Line, Ledger, empty_ledger, with_mark, is_at, of_process, place}
use Rattle.history.specs.Acts.{keep_send, take_send, empty_line}
use Rattle.history.proofs.Notes.{of_thread, of_signals, note}
use Rattle.history.proofs.Relation.{Agrees}
use Rattle.history.proofs.Records.{fitting-used, keep_left, both-buffers, append-records, drop-records}
use Rattle.history.proofs.Marks.{remove-process-marks, remove-thread-marks, new-process-marks, new-thread-marks}
use Rattle.history.proofs.Marks.{set-marks, clear-marks}

-- ---- one line that may change

abbrev sends_of : Line → List Siginfo
sends_of x = x.sends

abbrev mark_of : Line → Bool
mark_of x = x.mark

module _ (b : Bool) (x : Line) where
  module _ {A : Type 0} (f : Line → A) (g : Line → Line) where
    -- a part that the change leaves
    left-part : f (g x) ≡ f x → f (cond b (g x) x) ≡ f x
    left-part e = cond_map f b (g x) x ∙ cond-kept b (λ _. e)

    -- and one that it makes anew
    made-part : (y : A) → y ≡ f x → cond b (f (g x)) y ≡ f (cond b (g x) x)
    made-part y e = ap (λ (z : A). cond b (f (g x)) z) e ∙ sym (cond_map f b (g x) x)

  -- a mark that goes where b holds, and one that comes
  unmarked : (g : Line → Line) → (g x).mark ≡ false → (m : Bool) → m ≡ x.mark → (m && not b) ≡ (cond b (g x) x).mark
  unmarked g z m e = goes b ∙ ap (λ (y : Bool). cond b y m) (sym z) ∙ made-part mark_of g m e
    where
      goes : (c : Bool) → (m && not c) ≡ cond c false m
      goes true = and-false m
      goes false = and-true m

  marked : (m : Bool) → m ≡ x.mark → (m || b) ≡ (cond b (with_mark true x) x).mark
  marked m e = comes b ∙ made-part mark_of (with_mark true) m e
    where
      comes : (c : Bool) → (m || c) ≡ cond c true m
      comes true = or-true m
      comes false = or-false m

-- ---- the changes

-- a free thread place is all zero
pub free-threads : (st : Store) → free_zero st ≡ true → all (if_free thread_id zero_thread) st.threads ≡ true
unfolding free_zero
free-threads st z = and-snd (all (if_free process_id zero_process) st.processes) _ z

module _ (st : Store) (k : Ledger) (a : Agrees st k) where
  -- a process or a thread amended keeps its queue
  agrees-amended : (n : ℕ) (g : Process → Process) → ((p : Process) → (g p).id ≡ p.id)
      → Agrees (on_processes (amend (is_process n) g) st) (ledger.on_processes (change (is_process n) g) k)
  unfolding records_for mark_in
  agrees-amended n g h =
      record {
        processes =
            map-change held (is_process n) _ g (λ x. refl) st.processes ∙ ap (change (is_process n) g) a.processes;
        threads = a.threads;
        records = a.records;
        marks = λ q s.
            ap (λ (m : Bool). is_signal s && (m || any (thread_mark q s) st.threads))
            (any-changed (process_mark q s) _ _ st.processes
            (λ x _. ap (λ (i : ℕ). same_queue q (process_queue i) && has x.marks s) (h x.holds)))
            ∙ a.marks q s;
      }

  agrees-set_mask : (n : ℕ) (m : SigSet) → Agrees (apply (set_mask n m) st) (note (set_mask n m) k)
  unfolding apply note place records_for mark_in
  agrees-set_mask n m =
      record {
        processes = a.processes;
        threads =
            map-change held (is_thread n) _ (with_mask m) (λ x. refl) st.threads
            ∙ ap (change (is_thread n) (with_mask m)) a.threads;
        records = a.records;
        marks =
            λ q s. ap (λ (b : Bool). is_signal s && (any (process_mark q s) st.processes || b))
            (any-changed (thread_mark q s) _ _ st.threads (λ x _. refl)) ∙ a.marks q s;
      }

  -- the lowest free place is filled
  pub agrees-new_process : free_zero st ≡ true → (p : Process)
      → Agrees (apply (new_process p) st) (note (new_process p) k)
  unfolding apply note place records_for
  agrees-new_process z p =
      record {
        processes =
            map-replace_first held is_free_process _ st.processes ∙ ap (replace_first is_free_process p) a.processes;
        threads = a.threads;
        records = a.records;
        marks = λ q s. new-process-marks st q s z p ∙ a.marks q s;
      }

  pub agrees-new_thread : all (if_free thread_id zero_thread) st.threads ≡ true → (t : Thread)
      → Agrees (apply (new_thread t) st) (note (new_thread t) k)
  unfolding apply note place records_for
  agrees-new_thread z t =
      record {
        processes = a.processes;
        threads = map-replace_first held is_free_thread _ st.threads ∙ ap (replace_first is_free_thread t) a.threads;
        records = a.records;
        marks = λ q s. new-thread-marks st q s z t ∙ a.marks q s;
      }

  -- who ends takes the queues along
  agrees-remove_process : (n : ℕ) → eqb n 0 ≡ false → Agrees (apply (remove_process n) st) (note (remove_process n) k)
  unfolding apply note place records_for
  agrees-remove_process n z =
      record {
        processes =
            held-vacated free_process (is_process n) st.processes
            ∙ ap (change (is_process n) (λ _. no_process)) a.processes;
        threads =
            held-vacated free_thread (belongs_to n) st.threads
            ∙ ap (change (belongs_to n) (λ _. no_thread)) a.threads;
        records = λ q s.
            ap (keep (in_queue q s))
            (both-buffers (keep (λ (r : Siginfo). not (eqb r.process n))) (keep-within _) (eqb q.thread 0)
            st.process_buffer st.thread_buffer)
            ∙ keep_left (of_process n) (λ (r : Siginfo). not (eqb r.process n)) (λ r. refl) q s (records_for q st)
            ∙ made-part (eqb q.process n) (k.lines q s) sends_of empty_line _ (a.records q s);
        marks =
            λ q s. remove-process-marks st q s n z
            ∙ unmarked (eqb q.process n) (k.lines q s) empty_line refl (mark_in st q s) (a.marks q s);
      }

  agrees-remove_thread : (n : ℕ) → eqb n 0 ≡ false → Agrees (apply (remove_thread n) st) (note (remove_thread n) k)
  unfolding apply note place records_for
  agrees-remove_thread n z =
      record {
        processes = a.processes;
        threads =
            held-vacated free_thread (is_thread n) st.threads ∙ ap (change (is_thread n) (λ _. no_thread)) a.threads;
        records = λ q s.
            ap (keep (in_queue q s))
            (both-buffers (keep (λ (r : Siginfo). not (eqb r.thread n))) (keep-within _) (eqb q.thread 0)
            st.process_buffer st.thread_buffer)
            ∙ keep_left (of_thread n) (λ (r : Siginfo). not (eqb r.thread n)) (λ r. refl) q s (records_for q st)
            ∙ made-part (eqb q.thread n) (k.lines q s) sends_of empty_line _ (a.records q s);
        marks =
            λ q s. remove-thread-marks st q s n z
            ∙ unmarked (eqb q.thread n) (k.lines q s) empty_line refl (mark_in st q s) (a.marks q s);
      }

  agrees-discard : (n : ℕ) (x : SigSet) → Agrees (apply (discard n x) st) (note (discard n x) k)
  unfolding note
  agrees-discard n x =
      record {
        processes = unfold view in seen-discard-processes st n x ∙ a.processes;
        threads = unfold view in seen-discard-threads st n x ∙ a.threads;
        records = λ q s.
            ap (keep (in_queue q s)) (discard-records n x st q)
            ∙ keep_left (of_signals n x) (left_by n x) (λ r. refl) q s (records_for q st)
            ∙ made-part (eqb q.process n && has x s) (k.lines q s) sends_of empty_line _ (a.records q s);
        marks =
            λ q s. discard-marks n x st q s
            ∙ unmarked (eqb q.process n && has x s) (k.lines q s) empty_line refl (mark_in st q s) (a.marks q s);
      }

  agrees-set_mark : (j : Queue) (n : ℕ) → admits (view st) j n ≡ true
      → Agrees (apply (set_mark j n) st) (note (set_mark j n) k)
  unfolding note admits nameable
  agrees-set_mark j n f =
      let f1 = and-snd (live_queue (view st) j) _ f in
      let i : is_signal n ≡ true = and-fst (is_signal n) _ (and-fst (nameable n) _ f1) in
      record {
        processes = unfold view in seen-set_mark-processes st j n ∙ a.processes;
        threads = unfold view in seen-set_mark-threads st j n ∙ a.threads;
        records =
            λ q s. unfold apply records_for in
            a.records q s ∙ sym (left-part (is_at j n q s) (k.lines q s) sends_of (with_mark true) refl);
        marks =
            λ q s. set-marks st q s j n (and-fst (live_queue (view st) j) _ f) i
            ∙ marked (is_at j n q s) (k.lines q s) (mark_in st q s) (a.marks q s);
      }

  agrees-clear_mark : (j : Queue) (n : ℕ) → Agrees (apply (clear_mark j n) st) (note (clear_mark j n) k)
  unfolding note
  agrees-clear_mark j n =
      record {
        processes = unfold view in seen-clear_mark-processes st j n ∙ a.processes;
        threads = unfold view in seen-clear_mark-threads st j n ∙ a.threads;
        records =
            λ q s. unfold apply records_for in
            a.records q s ∙ sym (left-part (is_at j n q s) (k.lines q s) sends_of (with_mark false) refl);
        marks =
            λ q s. clear-marks st q s j n
            ∙ unmarked (is_at j n q s) (k.lines q s) (with_mark false) refl (mark_in st q s) (a.marks q s);
      }

  agrees-append : (r : Siginfo) → in_use r ≡ true → Agrees (apply (append r) st) (note (append r) k)
  unfolding note
  agrees-append r u =
      record {
        processes = unfold apply in a.processes;
        threads = unfold apply in a.threads;
        records = λ q s.
            append-records r u st q s
            ∙ ap (λ (rs : List Siginfo). cond (in_queue q s r) (rs ++ (r ∷ [])) rs) (a.records q s)
            ∙ sym (cond_map sends_of (in_queue q s r) (keep_send r (k.lines q s)) (k.lines q s));
        marks =
            λ q s. unfold apply mark_in in
            a.marks q s ∙ sym (left-part (in_queue q s r) (k.lines q s) mark_of (keep_send r) refl);
      }

  agrees-drop_oldest : (j : Queue) (n : ℕ) → Agrees (apply (drop_oldest j n) st) (note (drop_oldest j n) k)
  unfolding note
  agrees-drop_oldest j n =
      record {
        processes = unfold apply in a.processes;
        threads = unfold apply in a.threads;
        records = λ q s.
            drop-records j n st q s
            ∙ ap (λ (rs : List Siginfo). cond (is_at j n q s) (tail rs) rs) (a.records q s)
            ∙ sym (cond_map sends_of (is_at j n q s) (take_send (k.lines q s)) (k.lines q s));
        marks =
            λ q s. unfold apply mark_in in
            a.marks q s ∙ sym (left-part (is_at j n q s) (k.lines q s) mark_of take_send refl);
      }

-- ---- cleared tables

-- nothing is recorded there, and nothing is marked
no-records : (q : Queue) (s : ℕ) → keep (in_queue q s) (records_for q cleared) ≡ []
unfolding records_for cleared used keep
no-records q s =
    ap (λ (rs : List Siginfo). keep (in_queue q s) (used rs))
    (cond_same (eqb q.thread 0) (replicate buffer_records no_siginfo))
    ∙ ap (keep (in_queue q s)) (leading-replicate in_use no_siginfo zero-free buffer_records)

no-marks : (q : Queue) (s : ℕ) → mark_in cleared q s ≡ false
unfolding mark_in cleared
no-marks q s =
    and_right (is_signal s)
    (or-both (any-replicate (process_mark q s) free_process (free-process-unmarked q s) process_places)
    (any-replicate (thread_mark q s) free_thread (free-thread-unmarked q s) thread_places))

pub agrees_start : Agrees cleared empty_ledger
unfolding cleared empty_ledger
agrees_start = record { processes = refl; threads = refl; records = no-records; marks = no-marks }

agrees-forget : (st : Store) (k : Ledger) → Agrees (apply forget st) (note forget k)
unfolding apply note place cleared
agrees-forget st k = record { processes = refl; threads = refl; records = no-records; marks = no-marks }

-- ---- every change

pub agrees-change : (ch : Change) (st : Store) (k : Ledger) → sound st ≡ true → fits (view st) ch ≡ true → Agrees st k
    → Agrees (apply ch st) (note ch k)
unfolding fits
agrees-change forget st k e f a = agrees-forget st k
agrees-change (new_process p) st k e f a = clash f refl
agrees-change (new_thread t) st k e f a = agrees-new_thread st k a (free-threads st (clauses st e).free_places) t
agrees-change (remove_process n) st k e f a = agrees-remove_process st k a n (process-named st n f)
agrees-change (remove_thread n) st k e f a =
    agrees-remove_thread st k a n (thread-named st n (and-fst (live_thread (view st) n) _ f))
agrees-change (set_stopped n b) st k e f a =
    unfold apply note place in agrees-amended st k a n (with_stopped b) (λ p. refl)
agrees-change (set_action n s c) st k e f a =
    unfold apply note place in agrees-amended st k a n (with_action s c) (λ p. refl)
agrees-change (set_mask n m) st k e f a = agrees-set_mask st k a n m
agrees-change (set_mark q s) st k e f a = agrees-set_mark st k a q s f
agrees-change (clear_mark q s) st k e f a = agrees-clear_mark st k a q s
agrees-change (append r) st k e f a =
    agrees-append st k a r (fitting-used st r f)
agrees-change (drop_oldest q s) st k e f a = agrees-drop_oldest st k a q s
agrees-change (discard n x) st k e f a = agrees-discard st k a n x
