-- A take: what is next leaves its queue, then it is delivered; together they are the rules' changes and answer.
-- Assumes nothing.
use Prim.Native.Nat.{ℕ, ◌≤◌}
use mathlib.Core.Path.{◌≡◌, refl, sym, ap, ap₂, subst, ◌∙◌}
use mathlib.Core.Bool.{true, false}
use mathlib.Core.List.{◌++◌}
use mathlib.Core.Option.{Option, some, none}
use lib.Dec.{eqb}
use borrow.Author.Tests.{eqb-false}
use Rattle.limits.specs.Limits.{signals}
use Rattle.lists.proofs.Bools.{split, clash, cond-true, cond-false}
use Rattle.sigset.specs.declared.SigSet.{SigSet}
use Rattle.sigset.specs.Set.{Signal}
use Rattle.types.specs.declared.Action.{Action}
use Rattle.types.specs.declared.Siginfo.{Siginfo}
use Rattle.rules.specs.Types.{Thread, Queue, Next, no_next, next_mark, next_record}
use Rattle.rules.specs.View.{View, action_of, live_thread, the_process, the_thread, thread_action}
use Rattle.rules.specs.Store.{Store, view}
use Rattle.rules.specs.Taking.{next_signal, next_queue, next_in, next, mark_info, deliver, delivered, take_changes}
use Rattle.rules.specs.Taking.{take_answer}
use Rattle.rules.proofs.Marks.{the-thread-id}
use Rattle.rules.proofs.TakeFits.{take-fits}
use Rattle.sound.specs.Lent.{Lent, decoded, view_of, sound_tables}
use Rattle.sound.proofs.Facts.{store-sound}
use Rattle.answers.specs.Answers.{next_from}
use Rattle.types.specs.declared.Taken.{Taken}
use Rattle.types.specs.declared.Pending as declared
use Rattle.types.specs.declared.Pending.TheVariants as cases
use Rattle.std.specs.Prelude.{Some}
use Rattle.effects.specs.Effects.{thread_of}
use Rattle.effects.specs.Changes.{Ready}
use Rattle.effects.proofs.Makes.{ready-as}
use Rattle.view.specs.Named.{process_named, thread_named}
use Rattle.view.proofs.Live.{owner-is}
use Rattle.next.proofs.Nexts.{next-is-signal}
use Rattle.taking.specs.Takes.{is_nothing, info_in, dequeue_changes}
use Rattle.effects.specs.Changes.{Ready}
use Rattle.effects.proofs.Makes.{ready-as}

-- ---- what is taken is a signal

unfoldable signal_in : Next → ℕ
signal_in no_next = 0
signal_in (next_mark q s) = s
signal_in (next_record q s r) = s

signal-of : (x : declared.Pending) → signal_in (next_from x) ≡ (info_in (next_from x)).signal
unfolding signal_in next_from info_in mark_info
signal-of (cases.Mark process thread s) = refl
signal-of (cases.Record r) = refl

signal-in : (v : View) (q : Queue) (s : ℕ) (o : Option Siginfo) → signal_in (next_in v q s o) ≡ s
unfolding signal_in next_in
signal-in v q s none = refl
signal-in v q s (some r) = refl

next-signal : (v : View) (t : Thread) → is_nothing (next v t) ≡ false → Signal (signal_in (next v t))
unfolding next is_nothing
next-signal v t n =
    let s : ℕ = next_signal v t in
    split (eqb s 0)
    (λ z. clash (ap is_nothing (cond-true _ _ z)) n)
    (λ z.
    subst Signal
    (sym (ap signal_in (cond-false _ _ z) ∙ signal-in v (next_queue v t s) s (v.oldest (next_queue v t s) s)))
    (next-is-signal v t s refl (eqb-false s 0 z)))

-- what is pending is something
is-something : (x : declared.Pending) → is_nothing (next_from x) ≡ false
unfolding next_from is_nothing
is-something (cases.Mark process thread s) = refl
is-something (cases.Record r) = refl

-- ---- what leaves, then what is delivered

module _ (v : View) (t : Thread) where
  takes : (x : declared.Pending) → take_changes v t (next_from x) ≡ dequeue_changes (next_from x)
      ++ deliver t (thread_action v t (info_in (next_from x)).signal) (info_in (next_from x)).signal
  unfolding next_from take_changes dequeue_changes info_in mark_info
  takes (cases.Mark process thread s) = refl
  takes (cases.Record r) = refl

  answers : (x : declared.Pending) → take_answer v t (next_from x)
      ≡ Some (delivered t (thread_action v t (info_in (next_from x)).signal) (info_in (next_from x)))
  unfolding next_from take_answer info_in mark_info
  answers (cases.Mark process thread s) = refl
  answers (cases.Record r) = refl

-- all that the code has of a take before it changes anything: whom it takes for, what is next, its record, its action
pub record Known (l : Lent) (t u : Thread) (x : declared.Pending) (r : Siginfo) (a : Action) : Type 0 where
  pub ready : Ready (take_changes (view_of l) t (next_from x)) l
  pub parts : take_changes (view_of l) t (next_from x) ≡ dequeue_changes (next_from x) ++ deliver u a r.signal
  pub answering : take_answer (view_of l) t (next_from x) ≡ Some (delivered u a r)

-- of the thread, the answer reads the mask alone
pub answered : {l : Lent} {t u : Thread} {x : declared.Pending} {r : Siginfo} {a : Action} → Known l t u x r a
    → (z : Taken) → z ≡ delivered (thread_of 0 0 u.mask) a r → Some z ≡ take_answer (view_of l) t (next_from x)
unfolding delivered
answered d z h = ap Some h ∙ sym d.answering

-- ---- sound tables, and what is read of them for a live thread

module _ (l : Lent) (e : sound_tables l ≡ true) (thread : ℕ) (live : live_thread (view_of l) thread ≡ true) where
  abbrev st : Store
  st = decoded l

  abbrev t : Thread
  t = the_thread (view st) thread

  module _ (p : ℕ) (i : p ≡ (thread_named l.threads thread).process) where
    thread-read : (m : SigSet) → m ≡ (thread_named l.threads thread).mask → t ≡ thread_of thread p m
    unfolding the_thread view decoded
    thread-read m k = λ j. thread_of (the-thread-id st thread live j) (owner-is l thread p i j) (sym k j)

    action-read : (s : ℕ) (a : Action) → a ≡ action_of (process_named l.processes p) s → a ≡ thread_action (view st) t s
    unfolding thread_action the_process the_thread view decoded
    action-read s a g = g ∙ ap (λ (n : ℕ). action_of (process_named l.processes n) s) i

  module _ (x : declared.Pending) (n : next_from x ≡ next (view st) t) (r : Siginfo)
      (h : r ≡ info_in (next_from x)) where
    pub signal-named : (1 ≤ r.signal) × (r.signal ≤ signals)
    signal-named =
        let g : Signal r.signal =
        subst Signal (ap signal_in (sym n) ∙ signal-of x ∙ ap (λ (z : Siginfo). z.signal) (sym h))
        (next-signal (view st) t (ap is_nothing (sym n) ∙ is-something x)) in
        (g.low, g.high)

    pub known : (p : ℕ) → p ≡ (thread_named l.threads thread).process
        → (m : SigSet) → m ≡ (thread_named l.threads thread).mask → (a : Action)
        → a ≡ action_of (process_named l.processes p) r.signal
        → Known l t (thread_of thread p m) x r a
    known p i m k a g =
        let v : View = view st in
        let q : t ≡ thread_of thread p m = thread-read p i m k in
        let b : thread_action v t r.signal ≡ a = sym (action-read p i r.signal a g) in
        record {
          ready =
              ready-as (record { sound = e; fit = take-fits st (store-sound l e) thread live })
              (sym (ap (take_changes v t) n));
          parts =
              takes v t x
              ∙ ap (λ (z : Siginfo). dequeue_changes (next_from x) ++ deliver t (thread_action v t z.signal) z.signal)
              (sym h)
              ∙ ap₂ (λ (w : Thread) (c : Action). dequeue_changes (next_from x) ++ deliver w c r.signal) q b;
          answering =
              answers v t x
              ∙ ap (λ (z : Siginfo). Some (delivered t (thread_action v t z.signal) z)) (sym h)
              ∙ ap₂ (λ (w : Thread) (c : Action). Some (delivered w c r)) q b;
        }
