-- Demand 3's words for asking a thread for a signal, and for what a take may take.
use Rattle.std.specs.Prelude.{ℕ, ◌≡◌, Bool, true, false, not, ◌&&◌, ◌||◌, eqb, Some, None, Option as Maybe}
use Rattle.limits.specs.Limits.{signals}
use Rattle.lists.specs.Lists.{any, range}
use Rattle.sigset.specs.Set.{has}
use Rattle.types.specs.declared.Taken.{Taken}
use Rattle.rules.specs.Types.{Thread, Queue}
use Rattle.rules.specs.View.{View, the_process, pending_in, pending_for}

-- what a thread accepts: "a signal that it does not block". It is demand 3's one test of it; the rule that picks a
-- signal (`can_take_signal`) has words of its own.
unfoldable pub accepts : Thread → ℕ → Bool
accepts t s = not (has t.mask s)

module _ (v : View) (t : Thread) where
  -- "its process is not stopped"
  unfoldable pub runs : Bool
  runs = eqb (the_process v t.process).stopped 0

  -- "a signal that it does not block is pending for it or for its process"
  unfoldable pub is_offered : ℕ → Bool
  is_offered s = accepts t s && pending_for v t s

  -- "its process is not stopped and a signal that it does not block is pending for it or for its process"
  unfoldable pub has_offer : Bool
  has_offer = runs && any is_offered (range 1 signals)

  -- what is pending in the queue of that signal may go to the thread
  pub record MayTake (q : Queue) (s : ℕ) : Type 0 where
    -- "to one thread of that process": the queue is its own or its process's
    pub process : q.process ≡ t.process
    pub queue : (eqb q.thread t.id || eqb q.thread 0) ≡ true
    -- "that did not block it"
    pub accepted : accepts t s ≡ true
    -- "while the process was not stopped"
    pub running : runs ≡ true
    pub pending : pending_in v q s ≡ true

-- a signal is taken
unfoldable pub is_taken : Maybe Taken → Bool
is_taken None = false
is_taken (Some x) = true
