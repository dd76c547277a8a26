-- What is next in one queue.
use Rattle.std.specs.Prelude.{ℕ, ◌≡◌, List}
use Rattle.lists.specs.Lists.{first}
use Rattle.types.specs.declared.Siginfo.{Siginfo}
use Rattle.rules.specs.Types.{Queue}
use Rattle.rules.specs.View.{View, in_queue}
use Rattle.rules.specs.Taking.{next_in}
use Rattle.types.specs.declared.Pending.{Pending}
use Rattle.answers.specs.Answers.{next_from}

-- the oldest of these records of the queue and the signal, or else the mark; whatever else is in view
abbrev pub is_next_in : Queue → ℕ → List Siginfo → Pending → Type 0
is_next_in q s rs r = (v : View) → next_from r ≡ next_in v q s (first (in_queue q s) rs)
