-- What is in view after a change of what is pending: the same processes and threads.
-- What reads those alone says the same. Assumes nothing.
use Prim.Native.Nat.{ℕ}
use mathlib.Core.Path.{◌≡◌, refl, ap, ap₂}
use mathlib.Core.Bool.{Bool, not, ◌&&◌, ◌||◌, cond}
use mathlib.Core.List.{List, map}
use mathlib.Core.Option.{get_or}
use lib.Dec.{eqb}
use Rattle.limits.specs.Limits.{si_queue}
use Rattle.lists.specs.Lists.{any, first}
use Rattle.lists.proofs.Lists.{map_same}
use Rattle.sigset.specs.declared.SigSet.{SigSet}
use Rattle.sigset.specs.Set.{union, without, of_signal}
use Rattle.types.specs.declared.Siginfo.{Siginfo}
use Rattle.rules.specs.Types.{Process, Thread, Queue, no_process, no_thread}
use Rattle.rules.specs.Signals.{ignored}
use Rattle.rules.specs.View.{View, set_mark, clear_mark, drop_oldest, discard, is_process, is_thread, belongs_to}
use Rattle.rules.specs.View.{same_queue, process_queue, thread_queue, action_of, live_process, live_thread, the_process}
use Rattle.rules.specs.View.{the_thread, thread_action}
use Rattle.rules.specs.Store.{Place, Store, held, map_marks, on_marks, view, apply}
use Rattle.rules.specs.Sound.{nameable, belongs, has_thread, names_live, aimed_at_thread, aimed_at_process}
use Rattle.rules.specs.Sound.{marks_not_ignored, record_not_ignored, thread_not_ignored}
use Rattle.rules.specs.Refusals.{no_process_live, no_thread_live, bad_target}

-- ---- two views with the same processes, the same threads, or both

module _ (v w : View) where
  module _ (p : v.processes ≡ w.processes) where
    pub same-live_process : (n : ℕ) → live_process v n ≡ live_process w n
    unfolding live_process
    same-live_process n = ap (any (is_process n)) p

    pub same-the_process : (n : ℕ) → the_process v n ≡ the_process w n
    unfolding the_process
    same-the_process n = ap (λ (l : List Process). get_or (first (is_process n) l) no_process) p

    pub same-belongs : (x : Place Thread) → belongs v x ≡ belongs w x
    unfolding belongs
    same-belongs x = same-live_process x.holds.process

    pub same-record_not_ignored : (r : Siginfo) → record_not_ignored v r ≡ record_not_ignored w r
    unfolding record_not_ignored
    same-record_not_ignored r =
        ap (λ (a : Process). not (ignored (action_of a r.signal) r.signal)) (same-the_process r.process)

    pub same-thread_not_ignored : (x : Place Thread) → thread_not_ignored v x ≡ thread_not_ignored w x
    unfolding thread_action
    same-thread_not_ignored x =
        ap (λ (a : Process). marks_not_ignored x.marks (action_of a)) (same-the_process x.holds.process)

    same-names_live : (r : Siginfo) → names_live v r ≡ names_live w r
    unfolding names_live
    same-names_live r =
        ap (λ (b : Bool). eqb r.code si_queue && (nameable r.signal && b)) (same-live_process r.process)

    pub same-aimed_at_process : (r : Siginfo) → aimed_at_process v r ≡ aimed_at_process w r
    unfolding aimed_at_process
    same-aimed_at_process r = ap (λ (b : Bool). b && eqb r.thread 0) (same-names_live r)

  module _ (t : v.threads ≡ w.threads) where
    pub same-live_thread : (n : ℕ) → live_thread v n ≡ live_thread w n
    unfolding live_thread
    same-live_thread n = ap (any (is_thread n)) t

    pub same-the_thread : (n : ℕ) → the_thread v n ≡ the_thread w n
    unfolding the_thread
    same-the_thread n = ap (λ (l : List Thread). get_or (first (is_thread n) l) no_thread) t

    pub same-has_thread : (x : Place Process) → has_thread v x ≡ has_thread w x
    unfolding has_thread
    same-has_thread x = ap (any (belongs_to x.holds.id)) t

    -- the thread is live and of the process
    same-of_process : (n p : ℕ)
        → (live_thread v n && eqb (the_thread v n).process p) ≡ (live_thread w n && eqb (the_thread w n).process p)
    same-of_process n p = ap₂ (λ (b : Bool) (a : Thread). b && eqb a.process p) (same-live_thread n) (same-the_thread n)

  pub same_target : (to n : ℕ) → live_process v to ≡ live_process w to → live_thread v n ≡ live_thread w n
      → the_thread v n ≡ the_thread w n
      → bad_target v to n ≡ bad_target w to n
  unfolding bad_target no_process_live no_thread_live
  same_target to n p l t =
      ap₂ (λ (a b : Bool). not a || (not (eqb n 0) && b)) p
      (ap₂ (λ (b : Bool) (a : Thread). not b || not (eqb a.process to)) l t)

  module _ (p : v.processes ≡ w.processes) (t : v.threads ≡ w.threads) where
    pub same-aimed_at_thread : (r : Siginfo) → aimed_at_thread v r ≡ aimed_at_thread w r
    unfolding aimed_at_thread
    same-aimed_at_thread r = ap₂ (λ (a b : Bool). a && b) (same-names_live p r) (same-of_process t r.thread r.process)

    pub same-bad_target : (to n : ℕ) → bad_target v to n ≡ bad_target w to n
    same-bad_target to n = same_target to n (same-live_process p to) (same-live_thread t n) (same-the_thread t n)

-- ---- after a change of marks

-- what each change does to the marks of a queue
abbrev pub marking : Queue → ℕ → Queue → SigSet → SigSet
marking q s q' m = cond (same_queue q' q) (union m (of_signal s)) m

-- some queues lose the marks of a set
abbrev pub cutting : (Queue → Bool) → SigSet → Queue → SigSet → SigSet
cutting c x q m = cond (c q) (without m x) m

abbrev pub unmarking : Queue → ℕ → Queue → SigSet → SigSet
unmarking q s = cutting (λ q'. same_queue q' q) (of_signal s)

abbrev pub discarding : ℕ → SigSet → Queue → SigSet → SigSet
discarding p signals = cutting (λ q. eqb q.process p) signals

pub held-marks : {A : Type 0} (g : A → SigSet → SigSet) (xs : List (Place A)) → map held (map_marks g xs) ≡ map held xs
held-marks {A} g =
    map_same held (λ (x : Place A). record { holds = x.holds; marks = g x.holds x.marks }) (λ x. refl)

module _ (st : Store) where
  module _ (g : Queue → SigSet → SigSet) where
    pub seen-marks-processes : (view (on_marks g st)).processes ≡ (view st).processes
    unfolding view
    seen-marks-processes = held-marks (λ (p : Process). g (process_queue p.id)) st.processes

    pub seen-marks-threads : (view (on_marks g st)).threads ≡ (view st).threads
    unfolding view
    seen-marks-threads = held-marks (λ (t : Thread). g (thread_queue t)) st.threads

  -- ---- after each of the changes

  module _ (q : Queue) (s : ℕ) where
    pub seen-set_mark-processes : (view (apply (set_mark q s) st)).processes ≡ (view st).processes
    unfolding apply
    seen-set_mark-processes = seen-marks-processes (marking q s)

    pub seen-set_mark-threads : (view (apply (set_mark q s) st)).threads ≡ (view st).threads
    unfolding apply
    seen-set_mark-threads = seen-marks-threads (marking q s)

    pub seen-clear_mark-processes : (view (apply (clear_mark q s) st)).processes ≡ (view st).processes
    unfolding apply
    seen-clear_mark-processes = seen-marks-processes (unmarking q s)

    pub seen-clear_mark-threads : (view (apply (clear_mark q s) st)).threads ≡ (view st).threads
    unfolding apply
    seen-clear_mark-threads = seen-marks-threads (unmarking q s)

    pub seen-drop_oldest-processes : (view (apply (drop_oldest q s) st)).processes ≡ (view st).processes
    unfolding apply view
    seen-drop_oldest-processes = refl

    pub seen-drop_oldest-threads : (view (apply (drop_oldest q s) st)).threads ≡ (view st).threads
    unfolding apply view
    seen-drop_oldest-threads = refl

  module _ (p : ℕ) (signals : SigSet) where
    pub seen-discard-processes : (view (apply (discard p signals) st)).processes ≡ (view st).processes
    unfolding apply view
    seen-discard-processes = held-marks _ st.processes

    pub seen-discard-threads : (view (apply (discard p signals) st)).threads ≡ (view st).threads
    unfolding apply view
    seen-discard-threads = held-marks _ st.threads
