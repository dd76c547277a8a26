-- The marks of a queue after each change of the places. Assumes nothing.
use Prim.Native.Nat.{ℕ}
use mathlib.Core.Path.{◌≡◌, refl, sym, ap, ap₂, ◌∙◌}
use mathlib.Core.Bool.{Bool, true, false, not, ◌&&◌, ◌||◌, cond, and_assoc, and-or_distrib_left, and-or_distrib_right}
use mathlib.Core.List.{List, map}
use mathlib.Core.Option.{Option, get_or}
use lib.Dec.{eqb}
use borrow.Author.Tests.{eqb-true, eq-eqb}
use Rattle.lists.specs.Lists.{all, any}
use Rattle.lists.proofs.Bools.{split, clash, and-fst, and-snd, and_both, and_right, and-imp, or_left, or_right, or-both}
use Rattle.lists.proofs.Bools.{imp_use}
use Rattle.lists.proofs.Lists.{Pass, All-imp, all-All, any-map, any_same, any-and, any-or, any-change, any-imp}
use Rattle.lists.proofs.Lists.{any-replace_first, Found, found}
use Rattle.sigset.specs.declared.SigSet.{SigSet}
use Rattle.sigset.specs.Set.{Signal, has, union, of_signal, empty}
use Rattle.sigset.proofs.Laws.{has-empty, has-union, has_of}
use Rattle.rules.specs.Types.{Process, Thread, Queue, no_thread}
use Rattle.rules.specs.Signals.{is_signal}
use Rattle.rules.specs.View.{View, is_process, is_thread, belongs_to, same_queue, process_queue, thread_queue}
use Rattle.rules.specs.View.{live_process}
use Rattle.rules.specs.View.{live_thread, the_thread, set_mark, clear_mark, new_process, new_thread, remove_process}
use Rattle.rules.specs.View.{remove_thread}
use Rattle.rules.specs.Store.{Place, Store, held, view, mark_in, vacate, fill, map_marks, free_process, free_thread}
use Rattle.rules.specs.Store.{is_free_process, is_free_thread, process_mark, thread_mark, apply}
use Rattle.rules.specs.Sound.{if_free, is_live, process_id, thread_id, zero_process, zero_thread, free_zero}
use Rattle.rules.specs.Fitting.{live_queue}
use Rattle.rules.proofs.DiscardPending.{cut-marks}
use Rattle.rules.proofs.Marks.{queue-same, same_queue_lem}
use Rattle.rules.proofs.Queues.{queue-target, target-process, target-thread, target-owner}
use Rattle.rules.proofs.MarksSound.{free-process-marks, free-thread-marks}
use Rattle.rules.proofs.Signals.{is-signal}
use Rattle.queue.proofs.Signals.{eqb_comm}
use Rattle.history.specs.Ledger.{is_at}
use Rattle.history.proofs.Records.{at-queue, at-signal}

-- ---- places of either kind: f is the queue of what a place holds

module _ {A : Type 0} (f : A → Queue) (q : Queue) (s : ℕ) where
  abbrev marked : Place A → Bool
  marked x = same_queue q (f x.holds) && has x.marks s

  -- some places become free: those with the queue q, where it is one that goes
  marks-vacated : (free : Place A) → free.marks ≡ empty → (t : A → Bool) (gone : Bool)
      → ((a : A) → same_queue q (f a) ≡ true → t a ≡ gone) → (xs : List (Place A))
      → any marked (vacate free t xs) ≡ (any marked xs && not gone)
  marks-vacated free z t gone h xs =
      any-change marked (λ (x : Place A). t x.holds) (λ _. free) xs
      ∙ any_same _ (λ (x : Place A). marked x && not gone) xs here
      ∙ any-and marked (not gone) xs
    where
      unmarked : marked free ≡ false
      unmarked = and_right (same_queue q (f free.holds)) (ap (λ (m : SigSet). has m s) z ∙ has-empty s)

      here : (x : Place A) → cond (t x.holds) (marked free) (marked x) ≡ (marked x && not gone)
      here x =
          split (marked x)
          (λ m.
          let e : t x.holds ≡ gone = h x.holds (and-fst (same_queue q (f x.holds)) _ m) in
          rw (m, e, unmarked) (vacates gone))
          (λ m. rw (m, unmarked) (none (t x.holds)))
        where
          vacates : (b : Bool) → cond b false true ≡ not b
          vacates true = refl
          vacates false = refl

          none : (b : Bool) → cond b false false ≡ false
          none true = refl
          none false = refl

  -- none of the places has a queue that goes
  marks-left : (gone : Bool) → ((a : A) → same_queue q (f a) ≡ true → gone ≡ false) → (xs : List (Place A))
      → any marked xs ≡ (any marked xs && not gone)
  marks-left gone h xs =
      any_same marked (λ (x : Place A). marked x && not gone) xs
      (λ x.
      split (marked x)
      (λ m. rw (m, h x.holds (and-fst (same_queue q (f x.holds)) _ m)))
      (λ m. rw m))
      ∙ any-and marked (not gone) xs

  -- a free place is filled; it had no marks
  marks-filled : (is_free : A → Bool) (a : A) (zero : Place A → Bool)
      → ((x : Place A) → zero x ≡ true → is_free x.holds ≡ true → x.marks ≡ empty)
      → (xs : List (Place A)) → all zero xs ≡ true → any marked (fill is_free a xs) ≡ any marked xs
  marks-filled is_free a zero z xs h =
      any-replace_first marked (λ (x : Place A). is_free x.holds) _ xs (and_right (same_queue q (f a)) (has-empty s))
      (All-imp (Pass zero) (λ (x : Place A). is_free x.holds ≡ true → marked x ≡ false)
      (λ x k e. and_right (same_queue q (f x.holds)) (ap (λ (m : SigSet). has m s) (z x k e) ∙ has-empty s)) xs
      (all-All zero xs h))

  -- the signal n is marked in the queue k
  marks-set : (k : Queue) (n : ℕ) → Signal s → (xs : List (Place A))
      → any marked (map_marks (λ (a : A) (m : SigSet). cond (same_queue (f a) k) (union m (of_signal n)) m) xs)
      ≡ (any marked xs || (any (λ (a : A). same_queue q (f a)) (map held xs) && is_at k n q s))
  marks-set k n g xs =
      any-map marked _ xs
      ∙ any_same _ (λ (x : Place A). marked x || (same_queue q (f x.holds) && is_at k n q s)) xs here
      ∙ any-or marked (λ (x : Place A). same_queue q (f x.holds) && is_at k n q s) xs
      ∙ ap (λ (b : Bool). any marked xs || b)
      (any-and (λ (x : Place A). same_queue q (f x.holds)) (is_at k n q s) xs
      ∙ ap (λ (b : Bool). b && is_at k n q s) (sym (any-map (λ (a : A). same_queue q (f a)) held xs)))
    where
      set-has : (b : Bool) (m : SigSet) → has (cond b (union m (of_signal n)) m) s ≡ (has m s || (b && eqb s n))
      set-has true m = has-union m (of_signal n) s g ∙ ap (λ (b : Bool). has m s || b) (has_of n s g)
      set-has false m = sym (or_no (has m s))
        where
          or_no : (b : Bool) → (b || false) ≡ b
          or_no true = refl
          or_no false = refl

      here : (x : Place A)
          → (same_queue q (f x.holds)
          && has (cond (same_queue (f x.holds) k) (union x.marks (of_signal n)) x.marks) s)
          ≡ (marked x || (same_queue q (f x.holds) && is_at k n q s))
      here x =
          and-imp (same_queue q (f x.holds))
          (λ e. set-has (same_queue (f x.holds) k) x.marks
          ∙ ap (λ (j : Queue). has x.marks s || (same_queue j k && eqb s n)) (sym (queue-same q (f x.holds) e)))
          ∙ and-or_distrib_left (same_queue q (f x.holds)) (has x.marks s) (is_at k n q s)

-- ---- who has a queue

module _ (v : View) (q : Queue) where
  abbrev has_queue : Bool
  has_queue =
      any (λ (p : Process). same_queue q (process_queue p.id)) v.processes
      || any (λ (t : Thread). same_queue q (thread_queue t)) v.threads

  process-has : live_process v q.process ≡ true → eqb q.thread 0 ≡ true → has_queue ≡ true
  unfolding live_process is_process same_queue
  process-has l z =
      or_left (any (λ (t : Thread). same_queue q (thread_queue t)) v.threads)
      (any-imp (is_process q.process) (λ (p : Process). same_queue q (process_queue p.id))
      (λ p e. and_both
      (eq-eqb q.process p.id (sym (eqb-true p.id q.process (and-snd (not (eqb q.process 0)) _ e)))) z)
      v.processes l)

  thread-has : live_thread v q.thread ≡ true → (the_thread v q.thread).process ≡ q.process → has_queue ≡ true
  unfolding live_thread the_thread is_thread
  thread-has l o =
      let f : Found (is_thread q.thread) v.threads = found (is_thread q.thread) v.threads l in
      let t : f.it.process ≡ q.process =
      ap (λ (x : Option Thread). (get_or x no_thread).process) (sym f.is-first) ∙ o in
      let i : f.it.id ≡ q.thread =
      eqb-true f.it.id q.thread (and-snd (not (eqb q.thread 0)) _ f.passes) in
      or_right (any (λ (p : Process). same_queue q (process_queue p.id)) v.processes)
      (f.stands (λ (t : Thread). same_queue q (thread_queue t))
      (same_queue_lem q (thread_queue f.it) (λ j. record { process = sym t j; thread = sym i j })))

  live-has : live_queue v q ≡ true → has_queue ≡ true
  live-has l =
      let b = queue-target v q.process q.thread l in
      split (eqb q.thread 0)
      (λ e. process-has (target-process v q.process q.thread b) e)
      (λ e. thread-has (target-thread v q.process q.thread b e) (target-owner v q.process q.thread b e))

-- ---- the changes

module _ (st : Store) (q : Queue) (s : ℕ) where
  -- of the processes and of the threads
  marks-gone : (st' : Store) (gone : Bool)
      → any (process_mark q s) st'.processes ≡ (any (process_mark q s) st.processes && not gone)
      → any (thread_mark q s) st'.threads ≡ (any (thread_mark q s) st.threads && not gone)
      → mark_in st' q s ≡ (mark_in st q s && not gone)
  unfolding mark_in
  marks-gone st' gone p t =
      let a : Bool = any (process_mark q s) st.processes in
      let b : Bool = any (thread_mark q s) st.threads in
      ap₂ (λ (x y : Bool). is_signal s && (x || y)) p t
      ∙ ap (λ (x : Bool). is_signal s && x) (sym (and-or_distrib_right a b (not gone)))
      ∙ sym (and_assoc (is_signal s) (a || b) (not gone))

  -- 0 is no id
  ended : (n k m : ℕ) → eqb n 0 ≡ false → k ≡ m → (not (eqb n 0) && eqb m n) ≡ eqb k n
  ended n k m z e = rw (z, e)

  pub remove-process-marks : (n : ℕ) → eqb n 0 ≡ false
      → mark_in (apply (remove_process n) st) q s ≡ (mark_in st q s && not (eqb q.process n))
  unfolding apply is_process belongs_to
  remove-process-marks n z =
      marks-gone (apply (remove_process n) st) (eqb q.process n)
      (marks-vacated (λ (p : Process). process_queue p.id) q s free_process refl (is_process n) (eqb q.process n)
      (λ p e. ended n q.process p.id z (ap (λ (k : Queue). k.process) (queue-same q (process_queue p.id) e)))
      st.processes)
      (marks-vacated thread_queue q s free_thread refl (belongs_to n) (eqb q.process n)
      (λ t e. ended n q.process t.process z (ap (λ (k : Queue). k.process) (queue-same q (thread_queue t) e)))
      st.threads)

  pub remove-thread-marks : (n : ℕ) → eqb n 0 ≡ false
      → mark_in (apply (remove_thread n) st) q s ≡ (mark_in st q s && not (eqb q.thread n))
  unfolding apply is_thread
  remove-thread-marks n z =
      marks-gone (apply (remove_thread n) st) (eqb q.thread n)
      (marks-left (λ (p : Process). process_queue p.id) q s (eqb q.thread n)
      (λ p e. ap (λ (k : Queue). eqb k.thread n) (queue-same q (process_queue p.id) e) ∙ eqb_comm 0 n ∙ z)
      st.processes)
      (marks-vacated thread_queue q s free_thread refl (is_thread n) (eqb q.thread n)
      (λ t e. ended n q.thread t.id z (ap (λ (k : Queue). k.thread) (queue-same q (thread_queue t) e)))
      st.threads)

  pub new-process-marks : free_zero st ≡ true → (p : Process) → mark_in (apply (new_process p) st) q s ≡ mark_in st q s
  unfolding apply mark_in free_zero
  new-process-marks z p =
      ap (λ (b : Bool). is_signal s && (b || any (thread_mark q s) st.threads))
      (marks-filled (λ (p : Process). process_queue p.id) q s is_free_process p (if_free process_id zero_process)
      (λ x k e.
      free-process-marks x (imp_use (not (is_live process_id x)) (zero_process x) k (ap (λ (b : Bool). not (not b)) e)))
      st.processes (and-fst (all (if_free process_id zero_process) st.processes) _ z))

  pub new-thread-marks : all (if_free thread_id zero_thread) st.threads ≡ true → (t : Thread)
      → mark_in (apply (new_thread t) st) q s ≡ mark_in st q s
  unfolding apply mark_in
  new-thread-marks z t =
      ap (λ (b : Bool). is_signal s && (any (process_mark q s) st.processes || b))
      (marks-filled thread_queue q s is_free_thread t (if_free thread_id zero_thread)
      (λ x k e.
      free-thread-marks x (imp_use (not (is_live thread_id x)) (zero_thread x) k (ap (λ (b : Bool). not (not b)) e)))
      st.threads z)

  -- two kinds of places, of which one has the queue
  both-set : (a₁ e₁ a₂ e₂ c : Bool) → (c ≡ true → (e₁ || e₂) ≡ true)
      → (a₁ || (e₁ && c) || (a₂ || (e₂ && c))) ≡ ((a₁ || a₂) || c)
  both-set true e₁ a₂ e₂ c h = refl
  both-set false e₁ true e₂ c h = or_right (e₁ && c) refl
  both-set false e₁ false e₂ false h = or-both (and_right e₁ refl) (and_right e₂ refl)
  both-set false true false e₂ true h = refl
  both-set false false false true true h = refl
  both-set false false false false true h = h refl

  pub set-marks : (k : Queue) (n : ℕ) → live_queue (view st) k ≡ true → is_signal n ≡ true
      → mark_in (apply (set_mark k n) st) q s ≡ (mark_in st q s || is_at k n q s)
  unfolding apply mark_in view
  set-marks k n l i =
      split (is_signal s)
      (λ g.
      rw g
      (ap₂ (λ (x y : Bool). x || y)
      (marks-set (λ (p : Process). process_queue p.id) q s k n (is-signal s g) st.processes)
      (marks-set thread_queue q s k n (is-signal s g) st.threads)
      ∙ both-set (any (process_mark q s) st.processes)
      (any (λ (p : Process). same_queue q (process_queue p.id)) (map held st.processes))
      (any (thread_mark q s) st.threads)
      (any (λ (t : Thread). same_queue q (thread_queue t)) (map held st.threads)) (is_at k n q s)
      (λ e. ap (has_queue (view st)) (at-queue k q n s e) ∙ live-has (view st) k l)))
      (λ g. rw g (sym (split (is_at k n q s) (λ e. clash (ap is_signal (at-signal k q n s e) ∙ i) g) (λ e. e))))

  -- of a number that is no signal there is no mark
  pub clear-marks : (k : Queue) (n : ℕ) → mark_in (apply (clear_mark k n) st) q s
      ≡ (mark_in st q s && not (is_at k n q s))
  unfolding apply mark_in
  clear-marks k n =
      cut-marks (λ q'. same_queue q' k) (of_signal n) st q s
      ∙ and-imp (mark_in st q s)
      (λ m. ap (λ (b : Bool). not (same_queue q k && b)) (has_of n s (is-signal s (and-fst (is_signal s) _ m))))
