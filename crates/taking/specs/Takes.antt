-- What the steps of a take do.
use Rattle.std.specs.Prelude.{ℕ, ◌≡◌, Bool, true, false, List, [], ◌∷◌, Some}
use Rattle.types.specs.declared.Action.{Action}
use Rattle.types.specs.declared.Siginfo.{Siginfo}
use Rattle.types.specs.declared.Taken.{Taken}
use Rattle.rules.specs.Types.{Thread, Next, no_next, next_mark, next_record}
use Rattle.rules.specs.Signals.{Outcome, ignores, stops, continues, ends}
use Rattle.rules.specs.View.{Change, set_mask, clear_mark, drop_oldest, target_queue, live_thread, the_thread}
use Rattle.rules.specs.Taking.{mark_info, handler_mask, reset_changes, take_changes, take_answer}
use Rattle.rules.specs.Taking.{next as next_for}
use Rattle.sound.specs.Lent.{Lent, view_of, sound_tables}
use Rattle.effects.specs.Changes.{Changed}
use Rattle.taking.specs.declared.Outcome as declared
use Rattle.taking.specs.declared.Outcome.TheVariants as cases

-- the rules' outcome for each case of the enum
unfoldable pub outcome_of : declared.Outcome → Outcome
outcome_of cases.Ignores = ignores
outcome_of cases.Stops = stops
outcome_of cases.Continues = continues
outcome_of cases.Ends = ends

unfoldable pub is_nothing : Next → Bool
is_nothing no_next = true
is_nothing (next_mark q s) = false
is_nothing (next_record q s r) = false

-- the record that a take answers with
unfoldable pub info_in : Next → Siginfo
info_in no_next = mark_info (target_queue 0 0) 0
info_in (next_mark q s) = mark_info q s
info_in (next_record q s r) = r

-- the first change of a take
unfoldable pub dequeue_changes : Next → List Change
dequeue_changes no_next = []
dequeue_changes (next_mark q s) = clear_mark q s ∷ []
dequeue_changes (next_record q s r) = drop_oldest q s ∷ []

-- what a handler's start changes
unfoldable pub handler_changes : Thread → Action → (signal : ℕ) → List Change
handler_changes t a s = set_mask t.id (handler_mask t.mask a s) ∷ reset_changes t.process s a

-- ---- one take, of what is next for a live thread

-- what `take_next` asks: the tables are sound, the thread is live, and this is next for it
pub record Takeable (t : ℕ) (n : Next) (l : Lent) : Type 0 where
  pub sound : sound_tables l ≡ true
  pub live : live_thread (view_of l) t ≡ true
  pub next : n ≡ next_for (view_of l) (the_thread (view_of l) t)

-- and what it promises: the answer, and the tables after it
pub record Took (t : ℕ) (n : Next) (a : Taken) (l l' : Lent) : Type 0 where
  pub answer : Some a ≡ take_answer (view_of l) (the_thread (view_of l) t) n
  pub tables : Changed (take_changes (view_of l) (the_thread (view_of l) t) n) l l'
