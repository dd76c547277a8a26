-- The answers in the ledger's own words: of a send what became of it, of a take whether one is taken, of `who` which
-- thread is offered a signal. Assumes nothing.
use Prim.Native.Nat.{ℕ}
use mathlib.Core.Path.{◌≡◌, refl, ap, ◌∙◌}
use mathlib.Core.Bool.{Bool, true, false, not, ◌&&◌, cond, not-not}
use native.Mathlib.Omega.{arith}
use lib.Dec.{eqb}
use Rattle.limits.specs.Limits.{SIGKILL, SIGSTOP, sig_dfl, answer_kept}
use Rattle.lists.specs.Lists.{count, first}
use Rattle.lists.proofs.Bools.{split}
use Rattle.types.specs.declared.Action.{Action}
use Rattle.types.specs.declared.Sent.{Sent}
use Rattle.types.specs.declared.Sent.TheVariants.{Marked, Kept}
use Rattle.rules.specs.Types.{Thread, Next, no_next, next_mark, next_record, take}
use Rattle.rules.specs.Signals.{outcome, ignored}
use Rattle.rules.specs.View.{View, belongs_to, target_queue, action_of, the_process, the_thread, thread_action}
use Rattle.rules.specs.Sending.{Generation, testing, killing, stopping, dropping, absorbing, marking, keeping}
use Rattle.rules.specs.Sending.{generation, absorbs, send_answer, needs_record}
use Rattle.rules.specs.Taking.{next_signal, next, can_take_some, who_answer, taker, take_answer}
use Rattle.rules.specs.Asking.{has_offer, is_taken}
use Rattle.rules.proofs.Asking.{offer-next, asking-yields}
use Rattle.boundary.specs.Boundary.{sent_word}
use Rattle.history.specs.Acts.{ends_process, reset_to_ignore, sets_off, take_acts, sent, is_dropped, is_absorbed, said}
use Rattle.history.specs.Acts.{acts}
use Rattle.history.specs.Tally.{takes_where, takes_either}
use Rattle.history.proofs.Played.{each-signal}

-- ---- a send

module _ (v : View) (by to t value : ℕ) (queued : Bool) where
  -- the rules answer what is said of it
  abbrev Answers : ℕ → Type 0
  Answers s = send_answer (generation v queued (target_queue to t) s) ≡ said v queued (sent v by to t s value)

  arrived : (s : ℕ) → (b : Bool) → send_answer (cond b keeping marking) ≡ cond b Kept Marked
  unfolding send_answer
  arrived s true = refl
  arrived s false = refl

  other-answers : (s : ℕ) → eqb s 0 ≡ false → eqb s SIGKILL ≡ false → eqb s SIGSTOP ≡ false → Answers s
  unfolding generation send_answer said sent is_dropped is_absorbed absorbs
  other-answers s e0 e1 e2 =
      split (ignored (action_of (the_process v to) s) s)
      (λ e3. rw (e0, e1, e2, e3))
      (λ e3.
      split (absorbs v queued (target_queue to t) s)
      (λ e4. rw (e0, e1, e2, e3, e4))
      (λ e4. rw (e0, e1, e2, e3, e4) (arrived s queued)))

  pub send-answers : (s : ℕ) → Answers s
  send-answers = each-signal Answers tested killed stopped other-answers
    where
      tested : Answers 0
      tested = unfold generation send_answer said sent in refl

      killed : Answers SIGKILL
      killed = unfold generation send_answer said sent in refl

      stopped : Answers SIGSTOP
      stopped = unfold generation send_answer said sent in refl

-- a record is needed where one is kept
record-needed : (f : Generation) → needs_record f ≡ eqb (sent_word (send_answer f)) answer_kept
unfolding needs_record send_answer sent_word
record-needed testing = refl
record-needed killing = refl
record-needed stopping = refl
record-needed dropping = refl
record-needed absorbing = refl
record-needed marking = refl
record-needed keeping = refl

pub keeps-needed : (v : View) (by to t s value : ℕ)
    → needs_record (generation v true (target_queue to t) s)
    ≡ eqb (sent_word (said v true (sent v by to t s value))) answer_kept
keeps-needed v by to t s value =
    record-needed (generation v true (target_queue to t) s)
    ∙ ap (λ (x : Sent). eqb (sent_word x) answer_kept) (send-answers v by to t value true s)

-- ---- a take

off-none : (t : Thread) (a : Action) (s : ℕ) → count takes_either (sets_off t a s) ≡ 0
unfolding sets_off count takes_where
off-none t a s =
    split (eqb a.handler sig_dfl)
    (λ b. rw b (split (ends_process (outcome s)) (λ c. rw c) (λ c. rw c)))
    (λ b. rw b (split (reset_to_ignore a s) (λ c. rw c) (λ c. rw c)))

taken-once : (v : View) (t : Thread) (n : Next)
    → count takes_either (take_acts v t n) ≡ cond (is_taken (take_answer v t n)) 1 0
unfolding take_acts take_answer count takes_where is_taken
taken-once v t no_next = refl
taken-once v t (next_mark q s) = omega (arith, off-none t (thread_action v t s) s)
taken-once v t (next_record q s r) = omega (arith, off-none t (thread_action v t s) s)

-- a thread takes one where it is offered one
pub takes_one_lem : (v : View) (t : ℕ)
    → count takes_either (acts v (take t)) ≡ cond (has_offer v (the_thread v t)) 1 0
unfolding acts
takes_one_lem v t =
    taken-once v (the_thread v t) (next v (the_thread v t))
    ∙ ap (λ (b : Bool). cond b 1 0) (asking-yields v (the_thread v t))

-- ---- who can take a signal

pub who-says : (v : View) (p : ℕ) → taker v p ≡ who_answer v (first (λ t. belongs_to p t && has_offer v t) v.threads)
unfolding taker can_take_some
who-says v p =
    let same : (t : Thread) → (belongs_to p t && not (eqb (next_signal v t) 0)) ≡ (belongs_to p t && has_offer v t) =
    λ t. ap (λ (b : Bool). belongs_to p t && not b) (offer-next v t)
    ∙ ap (λ (b : Bool). belongs_to p t && b) (not-not (has_offer v t)) in
    ap (λ (f : Thread → Bool). who_answer v (first f v.threads)) (λ i t. same t i)
