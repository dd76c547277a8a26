-- A view with no more pending than another: the same is live, the actions are the same, no more is pending.
-- There, a signal that may become pending still may. Assumes nothing.
use Prim.Native.Nat.{ℕ, ◌≤◌}
use mathlib.Core.Path.{◌≡◌, refl, sym, ap, ap₂, ◌∙◌}
use mathlib.Core.Bool.{Bool, true, not, ◌&&◌, ◌||◌}
use mathlib.Core.Option.{Option}
use native.Mathlib.Omega.{arith}
use lib.Dec.{eqb}
use borrow.Author.Tests.{ltb-true, lt-ltb, not-true}
use Rattle.limits.specs.Limits.{record_limit, si_queue}
use Rattle.lists.specs.Lists.{is_some}
use Rattle.lists.proofs.Bools.{split, clash, and-fst, and-snd, and_both}
use Rattle.sigset.specs.declared.SigSet.{SigSet}
use Rattle.types.specs.declared.Action.{Action}
use Rattle.types.specs.declared.Siginfo.{Siginfo}
use Rattle.rules.specs.Types.{Process, Queue}
use Rattle.rules.specs.Signals.{standard, ignored}
use Rattle.rules.specs.View.{View, set_stopped, append, discard, queue_of, action_of, live_process, the_process}
use Rattle.rules.specs.View.{pending_in}
use Rattle.rules.specs.Store.{Store, with_stopped, view, apply}
use Rattle.rules.specs.Sound.{nameable, sound}
use Rattle.rules.specs.Refusals.{bad_target}
use Rattle.rules.specs.Fitting.{live_queue, admits, fits}
use Rattle.rules.proofs.FieldsInView.{ProcessAmended, kept-but-one, set_stopped-amended}
use Rattle.rules.proofs.DiscardPending.{discard-pends, discard-queued}
use Rattle.rules.proofs.PendingInView.{same-live_process, same-the_process, same_target, same-bad_target}
use Rattle.rules.proofs.PendingInView.{seen-discard-processes, seen-discard-threads}

pub record FewerPending (v w : View) : Type 0 where
  pub process : (p : ℕ) → live_process w p ≡ live_process v p
  pub target : (to t : ℕ) → bad_target w to t ≡ bad_target v to t
  pub action : (p s : ℕ) → action_of (the_process w p) s ≡ action_of (the_process v p) s
  pub pending : (q : Queue) (s : ℕ) → pending_in w q s ≡ true → pending_in v q s ≡ true
  pub queued : (p : ℕ) → w.queued p ≤ v.queued p

pub fewer-refl : (v : View) → FewerPending v v
fewer-refl v =
    record {
      process = λ p. refl;
      target = λ to t. refl;
      action = λ p s. refl;
      pending = λ q s e. e;
      queued = λ p. omega arith;
    }

pub fewer-trans : {u v w : View} → FewerPending u v → FewerPending v w → FewerPending u w
fewer-trans a b =
    record {
      process = λ p. b.process p ∙ a.process p;
      target = λ to t. b.target to t ∙ a.target to t;
      action = λ p s. b.action p s ∙ a.action p s;
      pending = λ q s e. a.pending q s (b.pending q s e);
      queued = λ p. omega (arith, a.queued p, b.queued p);
    }

-- ---- what fitted fits

module _ {v w : View} (c : FewerPending v w) where
  fewer-once : (q : Queue) (s : ℕ) → not (standard s && pending_in v q s) ≡ true
      → not (standard s && pending_in w q s) ≡ true
  fewer-once q s e =
      split (standard s && pending_in w q s)
      (λ f.
      clash (and_both (and-fst (standard s) (pending_in w q s) f)
      (c.pending q s (and-snd (standard s) (pending_in w q s) f)))
      (not-true (standard s && pending_in v q s) e))
      (λ f. ap not f)

  pub admits-fewer : (q : Queue) (s : ℕ) → admits v q s ≡ true → admits w q s ≡ true
  unfolding admits live_queue
  admits-fewer q s e =
      let i : Bool = ignored (action_of (the_process v q.process) s) s in
      let e1 = and-snd (live_queue v q) _ e in
      let e2 = and-snd (nameable s) _ e1 in
      and_both (ap not (c.target q.process q.thread) ∙ and-fst (live_queue v q) _ e)
      (and_both (and-fst (nameable s) _ e1)
      (and_both (ap (λ (a : Action). not (ignored a s)) (c.action q.process s) ∙ and-fst (not i) _ e2)
      (fewer-once q s (and-snd (not i) _ e2))))

  pub append-fewer : (r : Siginfo) → fits v (append r) ≡ true → fits w (append r) ≡ true
  unfolding fits
  append-fewer r e =
      let e1 = and-snd (eqb r.code si_queue) _ e in
      and_both (and-fst (eqb r.code si_queue) _ e)
      (and_both (admits-fewer (queue_of r) r.signal (and-fst (admits v (queue_of r) r.signal) _ e1))
      (lt-ltb (w.queued r.process) record_limit
      (omega (
        arith,
        c.queued r.process,
        ltb-true (v.queued r.process) record_limit (and-snd (admits v (queue_of r) r.signal) _ e1),
      ))))

-- ---- the changes of job control

pub fewer-discard : (st : Store) → sound st ≡ true → (p : ℕ) (x : SigSet)
    → FewerPending (view st) (view (apply (discard p x) st))
fewer-discard st e p x =
    let v : View = view st in
    let w : View = view (apply (discard p x) st) in
    let ps : w.processes ≡ v.processes = seen-discard-processes st p x in
    let ts : w.threads ≡ v.threads = seen-discard-threads st p x in
    record {
      process = same-live_process w v ps;
      target = same-bad_target w v ps ts;
      action = λ n s. ap (λ (a : Process). action_of a s) (same-the_process w v ps n);
      pending = discard-pends st e p x;
      queued = discard-queued p x st;
    }

module _ {v w : View} {n b : ℕ} (a : ProcessAmended v w n (with_stopped b)) where
  stopped-target : (to t : ℕ) → bad_target w to t ≡ bad_target v to t
  stopped-target to t = same_target w v to t (a.live to) (a.thread_live t) (a.thread t)

  stopped-action : live_process v n ≡ true → (p s : ℕ) → action_of (the_process w p) s ≡ action_of (the_process v p) s
  unfolding action_of
  stopped-action l p s =
      kept-but-one (the_process v) (the_process w) n (with_stopped b) (λ (x : Process). action_of x s) (λ x. refl)
      (a.own l) a.other p

  stopped-pending : (q : Queue) (s : ℕ) → pending_in w q s ≡ true → pending_in v q s ≡ true
  unfolding pending_in
  stopped-pending q s e =
      ap₂ (λ (x : Option Siginfo) (y : Bool). is_some x || y) (sym (a.oldest q s)) (sym (a.marks q s)) ∙ e

pub fewer-stopped : (st : Store) (p b : ℕ) → live_process (view st) p ≡ true
    → FewerPending (view st) (view (apply (set_stopped p b) st))
fewer-stopped st p b l =
    let a : ProcessAmended (view st) (view (apply (set_stopped p b) st)) p (with_stopped b) =
    set_stopped-amended st p b in
    record {
      process = a.live;
      target = stopped-target a;
      action = stopped-action a l;
      pending = stopped-pending a;
      queued = λ k. omega (arith, a.queued k);
    }
