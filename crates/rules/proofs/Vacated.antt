-- Places that become free: what is free is good, and who stays is found as before. Assumes nothing.
use Prim.Native.Nat.{ℕ}
use mathlib.Core.Path.{◌≡◌, refl, ap, ◌∙◌}
use mathlib.Core.Bool.{Bool, true, false}
use mathlib.Core.List.{List, map}
use mathlib.Core.Option.{Option, get_or}
use lib.Dec.{eqb}
use Rattle.lists.specs.Lists.{any, first, change}
use Rattle.lists.proofs.Bools.{and_right}
use Rattle.lists.proofs.Lists.{Fail, any-All, All-any, All-change, any-first, map-change}
use Rattle.lists.proofs.Changes.{first-vacated, first-apart}
use Rattle.sigset.proofs.Laws.{has-empty}
use Rattle.rules.specs.Types.{Process, Thread, Queue, no_process, no_thread}
use Rattle.rules.specs.View.{is_process, is_thread, same_queue, process_queue, thread_queue, live_process, live_thread}
use Rattle.rules.specs.View.{the_process, the_thread}
use Rattle.rules.specs.Store.{Place, Store, held, free_process, free_thread, process_mark, thread_mark, view, vacate}
use Rattle.rules.proofs.FieldsInView.{two-ids}
use Rattle.rules.proofs.Cleared.{no-id}
use Rattle.rules.proofs.ClausesByPlace.{GoodProcess, GoodThread, own-free-process, own-free-thread}

-- ---- a free place

pub good-free-process : (st : Store) → GoodProcess st free_process
good-free-process st = record { own = own-free-process; limit = refl }

pub good-free-thread : (st : Store) → GoodThread st free_thread
good-free-thread st = record { own = own-free-thread; owned = refl; not-ignored = refl }

-- nothing is marked there
pub unmarked-vacated : {A : Type 0} (free : Place A) (p : A → Bool) (f : Place A → Bool) → f free ≡ false
    → (xs : List (Place A)) → any f xs ≡ false
    → any f (vacate free p xs) ≡ false
unmarked-vacated {A} free p f z xs e =
    All-any f (vacate free p xs)
    (All-change (Fail f) (λ (x : Place A). p x.holds) (λ _. free) (λ x _ _. z) xs (any-All f xs e))

pub free-process-unmarked : (q : Queue) (s : ℕ) → process_mark q s free_process ≡ false
free-process-unmarked q s = and_right (same_queue q (process_queue 0)) (has-empty s)

pub free-thread-unmarked : (q : Queue) (s : ℕ) → thread_mark q s free_thread ≡ false
free-thread-unmarked q s = and_right (same_queue q (thread_queue no_thread)) (has-empty s)

-- ---- who stays

pub held-vacated : {A : Type 0} (free : Place A) (p : A → Bool) (xs : List (Place A))
    → map held (vacate free p xs) ≡ change p (λ _. free.holds) (map held xs)
held-vacated free p xs = map-change held p (λ _. free) (λ _. free.holds) (λ x. refl) xs

module _ (st st' : Store) where
  -- st' is st without the process n
  module _ (n : ℕ) (e : st'.processes ≡ vacate free_process (is_process n) st.processes) (k : ℕ)
      (f : eqb k n ≡ false) where
    first-process : first (is_process k) (view st').processes ≡ first (is_process k) (view st).processes
    unfolding view is_process
    first-process =
        ap (λ (xs : List (Place Process)). first (is_process k) (map held xs)) e
        ∙ ap (first (is_process k)) (held-vacated free_process (is_process n) st.processes)
        ∙ first-apart (is_process k) (is_process n) (λ _. no_process) (λ p t. (two-ids k n p.id f t, no-id k))
        (map held st.processes)

    pub process-stays : the_process (view st') k ≡ the_process (view st) k
    unfolding the_process
    process-stays = ap (λ (o : Option Process). get_or o no_process) first-process

    pub process-stays-live : live_process (view st') k ≡ live_process (view st) k
    unfolding live_process
    process-stays-live = any-first (is_process k) (view st').processes (view st).processes first-process

  -- st' is st without the threads that pass t
  module _ (t : Thread → Bool) (e : st'.threads ≡ vacate free_thread t st.threads) (k : ℕ)
      (l : live_thread (view st) k ≡ true) (f : t (the_thread (view st) k) ≡ false) where
    first-thread : first (is_thread k) (view st').threads ≡ first (is_thread k) (view st).threads
    unfolding view is_thread live_thread the_thread
    first-thread =
        ap (λ (xs : List (Place Thread)). first (is_thread k) (map held xs)) e
        ∙ ap (first (is_thread k)) (held-vacated free_thread t st.threads)
        ∙ first-vacated (is_thread k) t no_thread no_thread (no-id k) (map held st.threads) l f

    pub thread-stays : the_thread (view st') k ≡ the_thread (view st) k
    unfolding the_thread
    thread-stays = ap (λ (o : Option Thread). get_or o no_thread) first-thread

    pub thread-stays-live : live_thread (view st') k ≡ true
    unfolding live_thread
    thread-stays-live = any-first (is_thread k) (view st').threads (view st).threads first-thread ∙ l
