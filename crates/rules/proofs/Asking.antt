-- Asking a thread yields a signal exactly when it should, and what is next for it is something that it may take.
-- Assumes nothing.
use Prim.Native.Nat.{ℕ, ◌≤◌}
use mathlib.Core.Path.{◌≡◌, refl, sym, ap, ap₂, ◌∙◌, subst}
use mathlib.Core.Bool.{Bool, true, false, not, ◌&&◌, ◌||◌, cond}
use mathlib.Core.Option.{Option, some, none}
use native.Mathlib.Omega.{arith}
use lib.Dec.{eqb}
use borrow.Author.Tests.{eqb-true, eqb-false, eq-eqb, not-true, not-false}
use Rattle.limits.specs.Limits.{signals, sig_dfl}
use Rattle.lists.specs.Lists.{any, range}
use Rattle.lists.proofs.Bools.{split, clash, and-fst, and-snd, and_both, and_left, or_left, or_right, or_cases}
use Rattle.lists.proofs.Bools.{cond-true, cond-false}
use Rattle.lists.proofs.Lists.{Fail, any-All, All-any}
use Rattle.lists.proofs.Loops.{All-range, All-range-at}
use Rattle.sigset.specs.Set.{has}
use Rattle.sigset.proofs.Laws.{lowest_of-zero, lowest_of-found}
use Rattle.types.specs.declared.Action.{Action}
use Rattle.types.specs.declared.Siginfo.{Siginfo}
use Rattle.rules.specs.Types.{Thread, Queue, Next, no_next, next_mark, next_record}
use Rattle.rules.specs.Signals.{Outcome, ignores, stops, continues, ends, outcome}
use Rattle.rules.specs.View.{View, thread_queue, process_queue, the_process, thread_action, pending_in, pending_for}
use Rattle.rules.specs.Taking.{is_stopped, can_take_signal, next_signal, next_queue, next_in, next, outcome_answer}
use Rattle.rules.specs.Taking.{delivered, take_answer, mark_info}
use Rattle.rules.specs.Asking.{accepts, runs, is_offered, has_offer, MayTake, is_taken}

module _ (v : View) (t : Thread) where
  -- ---- which signals can be taken

  can-take : (s : ℕ) → can_take_signal v t s ≡ true → (runs v t ≡ true) × (is_offered v t s ≡ true)
  unfolding can_take_signal is_stopped runs accepts is_offered
  can-take s e =
      let o = and-snd (not (is_stopped v t)) _ e in (
        not-false (eqb (the_process v t.process).stopped 0) (not-true _ (and-fst (not (is_stopped v t)) _ e)),
        and_both (and-snd (pending_for v t s) _ o) (and-fst (pending_for v t s) _ o),
      )

  takes : (s : ℕ) → runs v t ≡ true → is_offered v t s ≡ true → can_take_signal v t s ≡ true
  unfolding can_take_signal is_stopped runs accepts is_offered
  takes s r o =
      and_both (ap (λ (b : Bool). not (not b)) r)
      (and_both (and-snd (not (has t.mask s)) _ o) (and-fst (not (has t.mask s)) _ o))

  -- ---- whether there is one

  none-next : next_signal v t ≡ 0 → has_offer v t ≡ false
  unfolding next_signal has_offer
  none-next z =
      split (runs v t)
      (λ r.
      ap₂ (λ (a b : Bool). a && b) r
      (All-any (is_offered v t) (range 1 signals)
      (All-range (Fail (is_offered v t)) 1 signals
      (λ s l u.
      split (is_offered v t s)
      (λ o. clash (takes s r o) (lowest_of-zero (can_take_signal v t) z s (record { low = l; high = omega arith })))
      (λ o. o)))))
      (λ r. and_left (any (is_offered v t) (range 1 signals)) r)

  some_next : (next_signal v t ≡ 0 → ⊥) → has_offer v t ≡ true
  unfolding next_signal has_offer
  some_next n =
      let f = lowest_of-found (can_take_signal v t) n in
      let c = can-take (next_signal v t) f.1 in
      let l : 1 ≤ next_signal v t = f.0.low in
      let u : next_signal v t ≤ signals = f.0.high in
      and_both c.0
      (split (any (is_offered v t) (range 1 signals))
      (λ a. a)
      (λ a. clash c.1 (All-range-at (Fail (is_offered v t)) 1 signals (next_signal v t) l (omega arith)
      (any-All (is_offered v t) (range 1 signals) a))))

  pub offer-next : eqb (next_signal v t) 0 ≡ not (has_offer v t)
  offer-next =
      split (eqb (next_signal v t) 0)
      (λ e. e ∙ ap not (sym (none-next (eqb-true (next_signal v t) 0 e))))
      (λ e. e ∙ ap not (sym (some_next (eqb-false (next_signal v t) 0 e))))

  -- ---- what a take answers

  next-yields : (o : Option Siginfo) (q : Queue) (s : ℕ) → is_taken (take_answer v t (next_in v q s o)) ≡ true
  unfolding take_answer next_in is_taken
  next-yields none q s = refl
  next-yields (some r) q s = refl

  -- "Asking a live thread for a signal yields one exactly when .."
  pub asking-yields : is_taken (take_answer v t (next v t)) ≡ has_offer v t
  unfolding next take_answer is_taken
  asking-yields =
      split (eqb (next_signal v t) 0)
      (λ e. rw e (sym (not-true (has_offer v t) (sym offer-next ∙ e))))
      (λ e. rw e (next-yields (v.oldest (next_queue v t (next_signal v t)) (next_signal v t))
      (next_queue v t (next_signal v t)) (next_signal v t) ∙ sym (not-false (has_offer v t) (sym offer-next ∙ e))))

  -- ---- what is next may be taken

  module _ (s : ℕ) (c : can_take_signal v t s ≡ true) where
    next-queue : (b : Bool) → pending_in v (thread_queue t) s ≡ b
        → MayTake v t (cond b (thread_queue t) (process_queue t.process)) s
    unfolding is_offered pending_for
    next-queue true e =
        record {
          process = refl;
          queue = or_left (eqb t.id 0) (eq-eqb t.id t.id refl);
          accepted = and-fst (accepts t s) _ (can-take s c).1;
          running = (can-take s c).0;
          pending = e;
        }
    next-queue false e =
        let p : (pending_in v (thread_queue t) s || pending_in v (process_queue t.process) s) ≡ true =
        and-snd (accepts t s) _ (can-take s c).1 in
        record {
          process = refl;
          queue = or_right (eqb 0 t.id) refl;
          accepted = and-fst (accepts t s) _ (can-take s c).1;
          running = (can-take s c).0;
          pending = or_cases (pending_in v (thread_queue t) s) _ p (λ k. clash k e) (λ k. k);
        }

  next-may : (next_signal v t ≡ 0 → ⊥) → MayTake v t (next_queue v t (next_signal v t)) (next_signal v t)
  unfolding next_signal next_queue
  next-may n =
      next-queue (next_signal v t) (lowest_of-found (can_take_signal v t) n).1
      (pending_in v (thread_queue t) (next_signal v t)) refl

  -- a record that is next: it is the oldest of its queue and signal, and may be taken
  Recorded : Next → Type 0
  Recorded n = (q : Queue) (s : ℕ) (r : Siginfo) → n ≡ next_record q s r → MayTake v t q s × (v.oldest q s ≡ some r)

  recorded-in : (q : Queue) (s : ℕ) → MayTake v t q s → (o : Option Siginfo) → v.oldest q s ≡ o
      → Recorded (next_in v q s o)
  unfolding next_in Recorded
  recorded-in q s m none e q' s' r n = let z : ◌≡◌ {A = ℕ} 0 1 = cc n in absurd (omega arith)
  recorded-in q s m (some x) e q' s' r n =
      let zq : q ≡ q' = cc n in
      let zs : s ≡ s' = cc n in
      let zr : x ≡ r = cc n in
      subst (λ (k : Queue). MayTake v t k s' × (v.oldest k s' ≡ some r)) zq
      (subst (λ (k : ℕ). MayTake v t q k × (v.oldest q k ≡ some r)) zs (m, e ∙ ap (λ (y : Siginfo). some y) zr))

  pub next-record : (q : Queue) (s : ℕ) (r : Siginfo) → next v t ≡ next_record q s r
      → MayTake v t q s × (v.oldest q s ≡ some r)
  unfolding next Recorded
  next-record q s r n =
      split (eqb (next_signal v t) 0)
      (λ e. let z : ◌≡◌ {A = ℕ} 0 1 = cc (sym (cond-true no_next _ e) ∙ n) in absurd (omega arith))
      (λ e.
      recorded-in (next_queue v t (next_signal v t)) (next_signal v t) (next-may (eqb-false (next_signal v t) 0 e))
      (v.oldest (next_queue v t (next_signal v t)) (next_signal v t)) refl
      q s r (sym (cond-false no_next _ e) ∙ n))

  -- a mark that is next: no record of its queue and signal is there, and it may be taken
  Marked : Next → Type 0
  Marked n = (q : Queue) (s : ℕ) → n ≡ next_mark q s → MayTake v t q s × (v.oldest q s ≡ none)

  marked-in : (q : Queue) (s : ℕ) → MayTake v t q s → (o : Option Siginfo) → v.oldest q s ≡ o
      → Marked (next_in v q s o)
  unfolding next_in Marked
  marked-in q s m none e q' s' n =
      let zq : q ≡ q' = cc n in
      let zs : s ≡ s' = cc n in
      subst (λ (k : Queue). MayTake v t k s' × (v.oldest k s' ≡ none)) zq
      (subst (λ (k : ℕ). MayTake v t q k × (v.oldest q k ≡ none)) zs (m, e))
  marked-in q s m (some x) e q' s' n = let z : ◌≡◌ {A = ℕ} 0 1 = cc n in absurd (omega arith)

  pub next-mark : (q : Queue) (s : ℕ) → next v t ≡ next_mark q s → MayTake v t q s × (v.oldest q s ≡ none)
  unfolding next Marked
  next-mark q s n =
      split (eqb (next_signal v t) 0)
      (λ e. let z : ◌≡◌ {A = ℕ} 0 1 = cc (sym (cond-true no_next _ e) ∙ n) in absurd (omega arith))
      (λ e.
      marked-in (next_queue v t (next_signal v t)) (next_signal v t) (next-may (eqb-false (next_signal v t) 0 e))
      (v.oldest (next_queue v t (next_signal v t)) (next_signal v t)) refl
      q s (sym (cond-false no_next _ e) ∙ n))
