-- Adding and ending processes and threads.
use Rattle.std.specs.Prelude.{ℕ, Bool, not, ◌&&◌, cond, List, [], ◌∷◌, eqb, replicate}
use Rattle.limits.specs.Limits.{signals}
use Rattle.lists.specs.Lists.{any}
use Rattle.sigset.specs.Set.{maskable}
use Rattle.types.specs.declared.NewProcess.{NewProcess}
use Rattle.types.specs.Values.{default_action}
use Rattle.rules.specs.Types.{Process, Thread}
use Rattle.rules.specs.View.{View, Change, new_process, new_thread, remove_process, remove_thread, belongs_to}
use Rattle.rules.specs.View.{the_thread}

-- "A process is added running";
-- "A freshly added process has the type's named default action (all zero) for every signal."
unfoldable pub added_process : NewProcess → Process
added_process new =
    record {
      id = new.id;
      real = new.real;
      effective = new.effective;
      saved = new.saved;
      session = new.session;
      stopped = 0;
      actions = replicate signals default_action;
    }

-- "with its first thread and a given mask less 9 and 19"
unfoldable pub add_process_changes : NewProcess → List Change
add_process_changes new =
    new_process (added_process new)
    ∷ new_thread (record { id = new.thread; process = new.id; mask = maskable new.mask })
    ∷ []

module _ (v : View) where
  -- "A new thread has its creator's mask and nothing pending."
  unfoldable pub add_thread_changes : (creator id : ℕ) → List Change
  add_thread_changes creator id =
      new_thread (record { id = id; process = (the_thread v creator).process; mask = (the_thread v creator).mask }) ∷ []

  unfoldable pub other_thread : Thread → Thread → Bool
  other_thread t u = belongs_to t.process u && not (eqb u.id t.id)

  -- "A thread's end discards its queue; the last thread's end ends the process."
  unfoldable pub end_thread_changes : Thread → List Change
  end_thread_changes t = cond (any (other_thread t) v.threads) (remove_thread t.id) (remove_process t.process) ∷ []
