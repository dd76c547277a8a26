-- Every act of a call is right on the ledger at its turn, and the call answers by what it takes. Assumes nothing.
use Rattle.std.specs.Prelude.{Some}
use Prim.Native.Nat.{ℕ}
use mathlib.Core.Logic.{inl, inr}
use mathlib.Core.Path.{◌≡◌, refl, sym, ap, ◌∙◌, subst}
use mathlib.Core.Bool.{Bool, true, false, not, ◌&&◌, ◌||◌, cond, and_comm}
use mathlib.Core.List.{List, [], ◌∷◌, head?, tail}
use mathlib.Core.Option.{Option, some, none}
use native.Mathlib.Omega.{arith}
use lib.Dec.{eqb}
use borrow.Author.Tests.{eq-eqb}
use Rattle.limits.specs.Limits.{SIGKILL, SIGCONT, SIGSTOP, sig_dfl}
use Rattle.lists.specs.Lists.{any, is_some, All}
use Rattle.lists.proofs.Bools.{split, and_both, cond-true, cond-false}
use Rattle.lists.proofs.Lists.{All-append, All-imp}
use Rattle.sigset.specs.Set.{has}
use Rattle.sigset.proofs.Laws.{lowest_of-cong}
use Rattle.types.specs.declared.Action.{Action}
use Rattle.types.specs.declared.Siginfo.{Siginfo}
use Rattle.types.specs.declared.Sent.{Sent}
use Rattle.types.specs.declared.Sent.TheVariants.{Tested, Acted, Dropped, Absorbed, Marked, Kept}
use Rattle.types.specs.declared.Reply.TheVariants as reply
use Rattle.types.specs.Answers.{Answer}
use Rattle.types.specs.Answers.{Accepted}
use Rattle.rules.specs.Types.{Thread, Queue, Next, no_next, next_mark, next_record, Call, clear, add_process}
use Rattle.rules.specs.Types.{add_thread}
use Rattle.rules.specs.Types.{end_process, end_thread, kill, sigqueue, sigaction, sigmask, sigpending, look, who, take}
use Rattle.rules.specs.Types.{sigreturn}
use Rattle.rules.specs.Signals.{Outcome, ignores, stops, continues, ends, outcome, stop_signal, ignored}
use Rattle.rules.specs.View.{View, belongs_to, process_queue, thread_queue, pending_for, live_thread, the_thread}
use Rattle.rules.specs.View.{thread_action, pending_in}
use Rattle.rules.specs.Taking.{is_stopped, can_take_signal, next_signal, next_queue, next_in, next, mark_info}
use Rattle.rules.specs.Taking.{outcome_answer}
use Rattle.rules.specs.Taking.{delivered, take_answer}
use Rattle.rules.specs.Asking.{accepts, runs, is_offered, MayTake}
use Rattle.rules.specs.Calls.{reply}
use Rattle.rules.proofs.Asking.{next-record, next-mark}
use Rattle.rules.proofs.Marks.{same_queue_lem}
use Rattle.history.specs.Ledger.{Line, Ledger, ledger_view, is_at, with_mark}
use Rattle.history.specs.Acts.{Act, kept, marked, took_send, took_mark, emptied, take_send, play, said, arrival}
use Rattle.history.specs.Acts.{job_events, send_acts, store_acts, end_acts, ends_process, reset_to_ignore, sets_off}
use Rattle.history.specs.Acts.{take_acts, acts, sent, thread_ends, process_ends}
use Rattle.history.proofs.Widths.{either-has}
use Rattle.history.specs.Takes.{Chosen, TookSend, TookMark, Right, RightActs, TakenBy, Says, AnswersTaken}
use Rattle.history.specs.Takes.{AnswersFor, AnswersBy}

-- ---- acts that take nothing

abbrev Quiet : Act → Type 0
Quiet (kept r) = Unit {0}
Quiet (marked q s) = Unit {0}
Quiet (took_send t q s r) = ⊥
Quiet (took_mark t q s) = ⊥
Quiet (emptied e) = Unit {0}

quiet-right : (a : Act) → Quiet a → (k : Ledger) → Right k a
quiet-right (kept r) q k = tt
quiet-right (marked j s) q k = tt
quiet-right (took_send t j s r) q k = absurd q
quiet-right (took_mark t j s) q k = absurd q
quiet-right (emptied e) q k = tt

all_right : (xs : List Act) → All Quiet xs → (k : Ledger) → RightActs xs k
all_right [] q k = tt
all_right (a ∷ xs) q k = (quiet-right a q.0 k, all_right xs q.1 (play a k))

quiet-answers : (v : View) (x : Answer) (a : Act) → Quiet a → AnswersBy v x a
quiet-answers v x (kept r) q = tt
quiet-answers v x (marked j s) q = tt
quiet-answers v x (took_send t j s r) q = absurd q
quiet-answers v x (took_mark t j s) q = absurd q
quiet-answers v x (emptied e) q = tt

quiet-taken : (t : ℕ) (a : Act) → Quiet a → TakenBy t a
quiet-taken t (kept r) q = tt
quiet-taken t (marked j s) q = tt
quiet-taken t (took_send m j s r) q = absurd q
quiet-taken t (took_mark m j s) q = absurd q
quiet-taken t (emptied e) q = tt

job-quiet : (p s : ℕ) → All Quiet (job_events p s)
unfolding job_events
job-quiet p s =
    either-has (All Quiet) (eqb s SIGKILL) _ _ (tt, tt)
    (either-has (All Quiet) (eqb s SIGCONT) _ _ (tt, tt)
    (either-has (All Quiet) (eqb s SIGSTOP || stop_signal s) _ _ (tt, tt) tt))

arrival-quiet : (x : Sent) (r : Siginfo) → All Quiet (arrival x r)
unfolding arrival
arrival-quiet Tested r = tt
arrival-quiet Acted r = tt
arrival-quiet Dropped r = tt
arrival-quiet Absorbed r = tt
arrival-quiet Marked r = (tt, tt)
arrival-quiet Kept r = (tt, tt)

send-quiet : (v : View) (queued : Bool) (r : Siginfo) → All Quiet (send_acts v queued r)
unfolding send_acts
send-quiet v queued r =
    All-append Quiet (job_events r.process r.signal) (arrival (said v queued r) r)
    (job-quiet r.process r.signal)
    (arrival-quiet (said v queued r) r)

store-quiet : (p s : ℕ) (new : Option Action) → All Quiet (store_acts p s new)
unfolding store_acts
store-quiet p s none = tt
store-quiet p s (some a) = either-has (All Quiet) (ignored a s) _ _ (tt, tt) tt

end_quiet : (v : View) (t : Thread) → All Quiet (end_acts v t)
unfolding end_acts
end_quiet v t =
    either-has (All Quiet) (any (λ (u : Thread). belongs_to t.process u && not (eqb u.id t.id)) v.threads)
    (emptied (thread_ends t.id) ∷ []) (emptied (process_ends t.process) ∷ []) (tt, tt) (tt, tt)

off-quiet : (t : Thread) (a : Action) (s : ℕ) → All Quiet (sets_off t a s)
unfolding sets_off
off-quiet t a s =
    either-has (All Quiet) (eqb a.handler sig_dfl) _ _
    (either-has (All Quiet) (ends_process (outcome s)) _ _ (tt, tt) tt)
    (either-has (All Quiet) (reset_to_ignore a s) _ _ (tt, tt) tt)

-- ---- a call takes nothing, or is a take

data Shape (v : View) (c : Call) : Type 0 where
  quiet : All Quiet (acts v c) → Shape v c
  taking : (t : ℕ) → c ≡ take t → Shape v c

shape : (v : View) (c : Call) → Shape v c
unfolding acts
shape v clear = quiet (tt, tt)
shape v (add_process new) = quiet tt
shape v (add_thread creator id) = quiet tt
shape v (end_process id) = quiet (tt, tt)
shape v (end_thread id) = quiet (end_quiet v (the_thread v id))
shape v (kill by to t s) = quiet (send-quiet v false (sent v by to t s 0))
shape v (sigqueue by to t s value) = quiet (send-quiet v true (sent v by to t s value))
shape v (sigaction p s new) = quiet (store-quiet p s new)
shape v (sigmask t way set) = quiet tt
shape v (sigpending t) = quiet tt
shape v (look t) = quiet tt
shape v (who p) = quiet tt
shape v (take t) = taking t refl
shape v (sigreturn t saved) = quiet tt

-- ---- a take

-- what a take answers, by default and by a handler
outcome-says : (t : Thread) (a : Action) (s : ℕ) (r : Siginfo) → eqb a.handler sig_dfl ≡ true → (o : Outcome)
    → outcome s ≡ o → Says t a s r (outcome_answer o s)
unfolding outcome_answer
outcome-says t a s r d ignores e = (d, (inr e, refl))
outcome-says t a s r d stops e = (d, (e, refl))
outcome-says t a s r d continues e = (d, (inl e, refl))
outcome-says t a s r d ends e = (d, (e, refl))

delivered-says : (t : Thread) (a : Action) (s : ℕ) (r : Siginfo) → r.signal ≡ s → Says t a s r (delivered t a r)
unfolding delivered
delivered-says t a s r e =
    split (eqb a.handler sig_dfl)
    (λ d. subst (Says t a s r) (sym (cond-true _ _ d))
    (subst (λ (m : ℕ). Says t a s r (outcome_answer (outcome m) m)) (sym e) (outcome-says t a s r d (outcome s) refl)))
    (λ d. subst (Says t a s r) (sym (cond-false _ _ d)) (d, (refl, (e, (refl, (refl, refl))))))

-- a list whose head is known
headed : (rs : List Siginfo) (r : Siginfo) → head? rs ≡ some r → rs ≡ r ∷ tail rs
headed [] r e = let z : ◌≡◌ {A = ℕ} 0 1 = cc e in absurd (omega arith)
headed (x ∷ rs) r e = let z : x ≡ r = cc e in ap (λ (y : Siginfo). y ∷ rs) z

headless : (rs : List Siginfo) → head? rs ≡ none → rs ≡ []
headless [] e = refl
headless (x ∷ rs) e = let z : ◌≡◌ {A = ℕ} 0 1 = cc e in absurd (omega arith)

-- the line of a queue and a signal is at that queue and signal
pub at-itself : (q : Queue) (s : ℕ) → is_at q s q s ≡ true
at-itself q s = and_both (same_queue_lem q q refl) (eq-eqb s s refl)

-- ---- the queue and signal that are next

module _ (v : View) (t : Thread) where
  -- of a process that runs, what can be taken is what is offered
  same-offer : runs v t ≡ true → (s : ℕ) → can_take_signal v t s ≡ is_offered v t s
  unfolding can_take_signal is_stopped runs accepts is_offered
  same-offer e s =
      ap (λ (b : Bool). not (not b) && (pending_for v t s && not (has t.mask s))) e
      ∙ and_comm (pending_for v t s) (not (has t.mask s))

  -- what is next is of the lowest signal, and of the queue that has it first
  abbrev At : Next → Type 0
  At no_next = Unit {0}
  At (next_mark q s) = (next_signal v t ≡ s) × (next_queue v t (next_signal v t) ≡ q)
  At (next_record q s r) = (next_signal v t ≡ s) × (next_queue v t (next_signal v t) ≡ q)

  at_in : (o : Option Siginfo) → At (next_in v (next_queue v t (next_signal v t)) (next_signal v t) o)
  unfolding next_in
  at_in none = (refl, refl)
  at_in (some r) = (refl, refl)

  at_next : At (next v t)
  unfolding next
  at_next =
      split (eqb (next_signal v t) 0)
      (λ e. rw e tt)
      (λ e. rw e (at_in (v.oldest (next_queue v t (next_signal v t)) (next_signal v t))))

  chosen : (q : Queue) (s : ℕ) → MayTake v t q s → (next_signal v t ≡ s) × (next_queue v t (next_signal v t) ≡ q)
      → Chosen v t q s
  unfolding next_signal next_queue
  chosen q s m e =
      record {
        allowed = m;
        lowest =
            sym e.0
            ∙ lowest_of-cong (can_take_signal v t) (is_offered v t) (λ n _. same-offer m.running n);
        own_first =
            sym e.1
            ∙ ap (λ (n : ℕ). cond (pending_in v (thread_queue t) n) (thread_queue t) (process_queue t.process)) e.0;
      }

-- ---- a take by a thread

module _ (k : Ledger) (t : ℕ) (l : live_thread (ledger_view k) t ≡ true) where
  abbrev v : View
  v = ledger_view k

  abbrev it : Thread
  it = the_thread v t

  send-right : (q : Queue) (s : ℕ) (r : Siginfo) → next v it ≡ next_record q s r → TookSend k t q s r
  unfolding ledger_view play
  send-right q s r e =
      record {
        live = l;
        chosen = chosen v it q s (next-record v it q s r e).0 (subst (At v it) e (at_next v it));
        oldest = headed (k.lines q s).sends r (next-record v it q s r e).1;
        gone =
            ap (λ (x : Line). x.sends) (cond-true (take_send (k.lines q s)) (k.lines q s) (at-itself q s));
      }

  -- pending without a record is marked
  mark-there : (q : Queue) (s : ℕ) → pending_in v q s ≡ true → v.oldest q s ≡ none → v.marks q s ≡ true
  unfolding pending_in
  mark-there q s p e = sym (ap (λ (o : Option Siginfo). is_some o || v.marks q s) e) ∙ p

  mark-right : (q : Queue) (s : ℕ) → next v it ≡ next_mark q s → TookMark k t q s
  unfolding ledger_view play
  mark-right q s e =
      let n = next-mark v it q s e in
      record {
        live = l;
        chosen = chosen v it q s n.0 (subst (At v it) e (at_next v it));
        no_send = headless (k.lines q s).sends n.1;
        there = mark-there q s n.0.pending n.1;
        gone =
            ap (λ (x : Line). x.mark) (cond-true (with_mark false (k.lines q s)) (k.lines q s) (at-itself q s));
      }

  sets-off : (s : ℕ) (x : Ledger) → RightActs (sets_off it (thread_action v it s) s) x
  sets-off s = all_right (sets_off it (thread_action v it s) s) (off-quiet it (thread_action v it s) s)

  nobody : (s : ℕ) → All (TakenBy t) (sets_off it (thread_action v it s) s)
  nobody s =
      All-imp Quiet (TakenBy t) (quiet-taken t) (sets_off it (thread_action v it s) s)
      (off-quiet it (thread_action v it s) s)

  module _ (i : it.id ≡ t) where
    take-right : (n : Next) → next v it ≡ n → RightActs (take_acts v it n) k
    unfolding take_acts
    take-right no_next e = tt
    take-right (next_mark q s) e =
        (subst (λ (m : ℕ). TookMark k m q s) (sym i) (mark-right q s e), sets-off s (play (took_mark it.id q s) k))
    take-right (next_record q s r) e = (
      subst (λ (m : ℕ). TookSend k m q s r) (sym i) (send-right q s r e),
      sets-off s (play (took_send it.id q s r) k),
    )

    -- each take of the call is by that thread
    take-itself : (n : Next) → All (TakenBy t) (take_acts v it n)
    unfolding take_acts
    take-itself no_next = tt
    take-itself (next_mark q s) = (i, nobody s)
    take-itself (next_record q s r) = (i, nobody s)

    quiet-off : (s : ℕ) (x : Answer) → All (AnswersBy v x) (sets_off it (thread_action v it s) s)
    quiet-off s x =
        All-imp Quiet (AnswersBy v x) (quiet-answers v x) (sets_off it (thread_action v it s) s)
        (off-quiet it (thread_action v it s) s)

    -- the answer is by the thread that the act names
    answers-for : (s : ℕ) (r : Siginfo) → r.signal ≡ s
        → AnswersFor v (Accepted (reply.Taken (Some (delivered it (thread_action v it s) r)))) it.id s r
    answers-for s r e =
        subst
        (λ (x : Thread). AnswersTaken x (thread_action v x s) s r
        (Accepted (reply.Taken (Some (delivered it (thread_action v it s) r)))))
        (sym (ap (the_thread v) i))
        (record {
          taken = delivered it (thread_action v it s) r;
          given = refl;
          says = delivered-says it (thread_action v it s) s r e;
        })

    take-answers : (n : Next) → next v it ≡ n
        → ((q : Queue) (s : ℕ) (r : Siginfo) → n ≡ next_record q s r → r.signal ≡ s)
        → All (AnswersBy v (Accepted (reply.Taken (take_answer v it n)))) (take_acts v it n)
    unfolding take_acts take_answer
    take-answers no_next e g = tt
    take-answers (next_mark q s) e g =
        let r : Siginfo = mark_info q s in (
          answers-for s r (unfold mark_info in refl),
          quiet-off s (Accepted (reply.Taken (Some (delivered it (thread_action v it s) r)))),
        )
    take-answers (next_record q s r) e g = (
      answers-for s r (g q s r refl),
      quiet-off s
          (Accepted (reply.Taken (Some (delivered it (thread_action v it s) r)))),
    )

-- ---- every call

-- a thread that takes is live, and found by its id
pub record Taker (k : Ledger) (t : ℕ) : Type 0 where
  pub live : live_thread (ledger_view k) t ≡ true
  pub named : (the_thread (ledger_view k) t).id ≡ t

-- a list has sends of its signal
abbrev pub Sorted : Ledger → Type 0
Sorted k = (q : Queue) (s : ℕ) (r : Siginfo) → (k.lines q s).sends ≡ r ∷ tail (k.lines q s).sends → r.signal ≡ s

module _ (k : Ledger) (c : Call) (h : (t : ℕ) → c ≡ take t → Taker k t) where
  abbrev seen : View
  seen = ledger_view k

  pub judged : RightActs (acts seen c) k
  judged = go (shape seen c)
    where
      go : Shape seen c → RightActs (acts seen c) k
      go (quiet q) = all_right (acts seen c) q k
      go (taking t e) =
          subst (λ (x : Call). RightActs (acts seen x) k) (sym e)
          (unfold acts in take-right k t (h t e).live (h t e).named (next seen (the_thread seen t)) refl)

  pub answered-by : Sorted k → All (AnswersBy seen (Accepted (reply seen c))) (acts seen c)
  answered-by o = go (shape seen c)
    where
      go : Shape seen c → All (AnswersBy seen (Accepted (reply seen c))) (acts seen c)
      go (quiet q) =
          All-imp Quiet (AnswersBy seen (Accepted (reply seen c)))
          (quiet-answers seen (Accepted (reply seen c))) (acts seen c) q
      go (taking t e) =
          subst (λ (x : Call). All (AnswersBy seen (Accepted (reply seen x))) (acts seen x)) (sym e)
          (unfold acts reply in
          take-answers k t (h t e).live (h t e).named (next seen (the_thread seen t)) refl
          (λ q s r n. o q s r (send-right k t (h t e).live q s r n).oldest))

pub itself : (k : Ledger) (t : ℕ) → Taker k t → All (TakenBy t) (acts (ledger_view k) (take t))
unfolding acts
itself k t h = take-itself k t h.live h.named (next (ledger_view k) (the_thread (ledger_view k) t))
