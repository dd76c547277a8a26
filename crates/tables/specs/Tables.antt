-- What the words of the process table and of the thread table say, place by place, and the words of a list of places.
use Rattle.std.specs.Prelude.{◌≡◌, ℕ, length, List, [], ◌∷◌, ◌++◌, map, Bool, true, not, ◌&&◌, eqb}
use Rattle.std.specs.Prelude.{get_or, take, drop, set}
use Rattle.limits.specs.Limits.{process_places, thread_places, signals, process_id, process_real, process_effective}
use Rattle.limits.specs.Limits.{process_saved, process_session, process_stopped, process_marks, head_words}
use Rattle.limits.specs.Limits.{action_handler}
use Rattle.limits.specs.Limits.{action_flags, action_mask, action_words, thread_id, thread_process, thread_mask}
use Rattle.limits.specs.Limits.{thread_marks}
use Rattle.limits.specs.Limits.{thread_words, process_words, process_table, thread_table}
use Rattle.lists.specs.Lists.{any}
use Rattle.lists.specs.Rows.{rows, flat}
use Rattle.sigset.specs.declared.SigSet.{SigSet}
use Rattle.sigset.specs.Set.{bits, empty}
use Rattle.types.specs.declared.Action.{Action}
use Rattle.rules.specs.Types.{Process, Thread}
use Rattle.rules.specs.View.{is_process, is_thread}
use Rattle.rules.specs.Store.{Place, held, free_process, free_thread, with_action}

-- ---- the words of one place

-- an action is "a 64-bit handler number .., flags, and a mask"
unfoldable pub action_from : List ℕ → Action
action_from l =
    record {
      handler = get_or l action_handler 0;
      flags = get_or l action_flags 0;
      mask =
          bits (get_or l action_mask 0);
    }

unfoldable pub action_to : Action → List ℕ
action_to a = a.handler ∷ a.flags ∷ a.mask.0 ∷ []

-- a process place is "id, real, effective and saved user ids, session id, stopped or not, marks",
-- its head, and then "64 actions"
unfoldable pub head_to : Place Process → List ℕ
head_to x =
    x.holds.id ∷ x.holds.real ∷ x.holds.effective ∷ x.holds.saved ∷ x.holds.session ∷ x.holds.stopped
    ∷ x.marks.0 ∷ []

unfoldable pub headed : List ℕ → List Action → Place Process
headed l actions =
    record {
      holds =
          record {
            id = get_or l process_id 0;
            real = get_or l process_real 0;
            effective = get_or l process_effective 0;
            saved = get_or l process_saved 0;
            session = get_or l process_session 0;
            stopped = get_or l process_stopped 0;
            actions = actions;
          };
      marks = bits (get_or l process_marks 0);
    }

unfoldable pub process_from : List ℕ → Place Process
process_from l = headed (take head_words l) (rows action_from action_words signals (drop head_words l))

unfoldable pub process_to : Place Process → List ℕ
process_to x = head_to x ++ flat action_to x.holds.actions

-- a thread place is "id, process id, mask, marks"
unfoldable pub thread_from : List ℕ → Place Thread
thread_from l =
    record {
      holds = record {
        id = get_or l thread_id 0;
        process = get_or l thread_process 0;
        mask =
            bits (get_or l thread_mask 0);
      };
      marks = bits (get_or l thread_marks 0);
    }

unfoldable pub thread_to : Place Thread → List ℕ
thread_to x = x.holds.id ∷ x.holds.process ∷ x.holds.mask.0 ∷ x.marks.0 ∷ []

-- ---- the tables

unfoldable pub processes_of : List ℕ → List (Place Process)
processes_of ws = rows process_from process_words process_places ws

unfoldable pub process_words_of : List (Place Process) → List ℕ
process_words_of xs = flat process_to xs

unfoldable pub threads_of : List ℕ → List (Place Thread)
threads_of ws = rows thread_from thread_words thread_places ws

unfoldable pub thread_words_of : List (Place Thread) → List ℕ
thread_words_of xs = flat thread_to xs

-- what is in the places, without the marks
abbrev pub held_processes : List ℕ → List Process
held_processes ws = map held (processes_of ws)

abbrev pub held_threads : List ℕ → List Thread
held_threads ws = map held (threads_of ws)

-- one place
abbrev pub process_at : List ℕ → ℕ → Place Process
process_at ws place = get_or (processes_of ws) place free_process

abbrev pub thread_at : List ℕ → ℕ → Place Thread
thread_at ws place = get_or (threads_of ws) place free_thread

-- the ids of a table, the first words of its places
abbrev pub ids_of : (width places : ℕ) → List ℕ → List ℕ
ids_of width places ws = rows (λ l. get_or l 0 0) width places ws

-- the process is in the table, and has a place there
abbrev pub LiveProcess : ℕ → List ℕ → Type 0
LiveProcess process ws = (length ws ≡ process_table) × (any (is_process process) (held_processes ws) ≡ true)

abbrev pub LiveThread : ℕ → List ℕ → Type 0
LiveThread thread ws = (length ws ≡ thread_table) × (any (is_thread thread) (held_threads ws) ≡ true)

-- ---- one word of a place changed: at a named offset this computes to the record with that field changed

unfoldable pub with_field : ℕ → ℕ → Place Process → Place Process
with_field k v x = headed (set (head_to x) k v) x.holds.actions

unfoldable pub with_thread_field : ℕ → ℕ → Place Thread → Place Thread
with_thread_field k v x = thread_from (set (thread_to x) k v)

-- ---- what is searched for

-- the id is n; a free place has 0
abbrev pub has_id : ℕ → ℕ → Bool
has_id n id = eqb id n

-- the id is n, and 0 is no id
abbrev pub has_live_id : ℕ → ℕ → Bool
has_live_id n id = not (eqb n 0) && eqb id n

unfoldable pub has_thread_id : ℕ → Thread → Bool
has_thread_id n t = eqb t.id n

-- ---- what is put into a place

-- the action of a signal changed
abbrev pub acted : ℕ → Action → Place Process → Place Process
acted s a x = record { holds = with_action s a x.holds; marks = x.marks }

-- with nothing pending
abbrev pub placed : {A : Type 0} → A → Place A
placed a = record { holds = a; marks = empty }

abbrev pub thread_placed : (id process : ℕ) → SigSet → Place Thread
thread_placed id process mask = placed (record { id = id; process = process; mask = mask })
