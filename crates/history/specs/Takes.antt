-- Takes: when an act that takes is right on the ledger at its turn, and how a call answers by it.
use Rattle.std.specs.Prelude.{Some}
use Rattle.std.specs.Prelude.{ℕ, ◌≡◌, ◌⊎◌, Bool, true, false, not, cond, eqb, get_or}
use mathlib.Core.List.{List, [], ◌∷◌, tail}
use Rattle.limits.specs.Limits.{sig_dfl, answer_nothing}
use Rattle.sigset.specs.Set.{lowest_of}
use Rattle.types.specs.declared.Action.{Action}
use Rattle.types.specs.declared.Siginfo.{Siginfo}
use Rattle.types.specs.declared.Taken.{Taken}
use Rattle.types.specs.declared.Taken.TheVariants.{Handler, End, Stop, NoAction}
use Rattle.types.specs.declared.Reply.TheVariants as reply
use Rattle.types.specs.Answers.{Answer}
use Rattle.types.specs.Answers.{Accepted}
use Rattle.rules.specs.Types.{Thread, Queue}
use Rattle.rules.specs.Signals.{ignores, stops, continues, ends, outcome}
use Rattle.rules.specs.View.{View, process_queue, thread_queue, live_thread, the_thread, thread_action, pending_in}
use Rattle.rules.specs.Taking.{mark_info}
use Rattle.rules.specs.Asking.{MayTake, is_offered}
use Rattle.history.specs.Ledger.{Ledger, ledger_view}
use Rattle.history.specs.Acts.{Act, kept, marked, took_send, took_mark, emptied, play, Turn, take_turn}

-- ---- what a take is, on the ledger at its turn

-- the queue and signal that a thread takes from
pub record Chosen (v : View) (t : Thread) (q : Queue) (s : ℕ) : Type 0 where
  -- "to one thread of that process that did not block it, while the process was not stopped"
  pub allowed : MayTake v t q s
  -- 01: "The lowest number wins; at equal numbers the thread's queue goes first"
  pub lowest : s ≡ lowest_of (is_offered v t)
  pub own_first : q ≡ cond (pending_in v (thread_queue t) s) (thread_queue t) (process_queue t.process)

module _ (k : Ledger) where
  -- thread t takes the send r of the signal s in the queue q
  pub record TookSend (t : ℕ) (q : Queue) (s : ℕ) (r : Siginfo) : Type 0 where
    pub live : live_thread (ledger_view k) t ≡ true
    pub chosen : Chosen (ledger_view k) (the_thread (ledger_view k) t) q s
    -- 01: "A take removes the oldest send .. of the queue and signal chosen there"
    pub oldest : (k.lines q s).sends ≡ r ∷ tail (k.lines q s).sends
    -- "Each taken record went once": it is gone from its list
    pub gone : ((play (took_send t q s r) k).lines q s).sends ≡ tail (k.lines q s).sends

  -- and its mark
  pub record TookMark (t : ℕ) (q : Queue) (s : ℕ) : Type 0 where
    pub live : live_thread (ledger_view k) t ≡ true
    pub chosen : Chosen (ledger_view k) (the_thread (ledger_view k) t) q s
    -- 01: "or, with none, the mark"
    pub no_send : (k.lines q s).sends ≡ []
    pub there : (k.lines q s).mark ≡ true
    pub gone : ((play (took_mark t q s) k).lines q s).mark ≡ false

  abbrev pub Right : Act → Type 0
  Right (kept r) = Unit {0}
  Right (marked q s) = Unit {0}
  Right (took_send t q s r) = TookSend t q s r
  Right (took_mark t q s) = TookMark t q s
  Right (emptied e) = Unit {0}

-- each act on the ledger that those before it left
abbrev pub RightActs : List Act → Ledger → Type 0
RightActs [] k = Unit {0}
RightActs (a ∷ xs) k = Right k a × RightActs xs (play a k)

abbrev pub RightTurns : List Turn → Ledger → Type 0
RightTurns [] k = Unit {0}
RightTurns (x ∷ xs) k = RightActs (x.does (ledger_view k)) k × RightTurns xs (take_turn x k)

-- the thread of a take
abbrev pub TakenBy : ℕ → Act → Type 0
TakenBy t (kept r) = Unit {0}
TakenBy t (marked q s) = Unit {0}
TakenBy t (took_send m q s r) = m ≡ t
TakenBy t (took_mark m q s) = m ≡ t
TakenBy t (emptied e) = Unit {0}

-- 01: "and answers by it": a handler "answers handler, signal, record .., flags, saved mask", a default
-- "answers the signal and "end" .., "stop" .. or, for CONT, "no action""
module _ (t : Thread) (a : Action) (s : ℕ) (r : Siginfo) where
  abbrev pub Says : Taken → Type 0
  Says (Handler n m x flags saved) =
      (eqb a.handler sig_dfl ≡ false)
      × ((n ≡ a.handler) × ((m ≡ s) × ((x ≡ r) × ((flags ≡ a.flags) × (saved ≡ t.mask)))))
  Says (End m) = (eqb a.handler sig_dfl ≡ true) × ((outcome s ≡ ends) × (m ≡ s))
  Says (Stop m) = (eqb a.handler sig_dfl ≡ true) × ((outcome s ≡ stops) × (m ≡ s))
  Says (NoAction m) =
      (eqb a.handler sig_dfl ≡ true) × (((outcome s ≡ continues) ⊎ (outcome s ≡ ignores)) × (m ≡ s))

  pub record AnswersTaken (x : Answer) : Type 0 where
    pub taken : Taken
    pub given : x ≡ Accepted (reply.Taken (Some taken))
    pub says : Says taken

module _ (v : View) (x : Answer) where
  -- by thread t, which took the signal s as the record r says
  abbrev pub AnswersFor : (t s : ℕ) → Siginfo → Type 0
  AnswersFor t s r = AnswersTaken (the_thread v t) (thread_action v (the_thread v t) s) s r x

  abbrev pub AnswersBy : Act → Type 0
  AnswersBy (kept r) = Unit {0}
  AnswersBy (marked q s) = Unit {0}
  AnswersBy (took_send t q s r) = AnswersFor t s r
  AnswersBy (took_mark t q s) = AnswersFor t s (mark_info q s)
  AnswersBy (emptied e) = Unit {0}

-- a take's words say that it yields a signal
abbrev pub yields : List ℕ → Bool
yields words = not (eqb (get_or words 0 answer_nothing) answer_nothing)
