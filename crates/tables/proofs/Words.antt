-- The words of the two tables: lengths, the words of a place, and the round trips. Assumes nothing.
use mathlib.Core.Path.{◌≡◌, refl, sym, ap, ap₂, ◌∙◌}
use mathlib.Core.Bool.{true}
use mathlib.Core.List.{List, ◌++◌}
use Prim.Native.Nat.{ℕ, ◌*◌, ◌<◌}
use native.Mathlib.Omega.{arith}
use borrow.Author.Tests.{eq-eqb}
use lib.ListN.{length, take, drop, replicate, take-append-drop, length-drop, length-replicate, length-map}
use lib.ListN.{replicate-append-replicate}
use lib.Seq.{length-take-le}
use Rattle.limits.specs.Limits.{process_places, process_words, process_table, head_words, signals, action_words}
use Rattle.limits.specs.Limits.{thread_places, thread_words, thread_table}
use Rattle.lists.specs.Lists.{all, All}
use Rattle.lists.specs.Rows.{row, rows, flat}
use Rattle.lists.proofs.Lists.{Pass, All-imp, All-every, All-at, All-all}
use Rattle.lists.proofs.Rows.{length-row, length-rows, get_d_rows, length-flat, flat_rows, rows-flat, spelled, All-rows}
use Rattle.lists.proofs.Rows.{flat-replicate}
use Rattle.types.specs.declared.Action.{Action}
use Rattle.types.specs.Values.{default_action}
use Rattle.rules.specs.Types.{Process, Thread}
use Rattle.rules.specs.Store.{Place, held, free_process, free_thread}
use Rattle.rules.specs.Sound.{actions_long}
use Rattle.tables.specs.Tables.{action_from, action_to, head_to, headed, process_from, process_to, thread_from}
use Rattle.tables.specs.Tables.{thread_to, processes_of, process_words_of, threads_of, thread_words_of, process_at}
use Rattle.tables.specs.Tables.{thread_at, held_processes, held_threads}

-- as many actions as there are signals
abbrev pub ActionsLong : Place Process → Type 0
ActionsLong x = length x.holds.actions ≡ signals

-- ---- lengths, whatever the words are

pub length-processes_of : (ws : List ℕ) → length (processes_of ws) ≡ process_places
unfolding processes_of
length-processes_of ws = length-rows process_from process_words process_places ws

pub length-threads_of : (ws : List ℕ) → length (threads_of ws) ≡ thread_places
unfolding threads_of
length-threads_of ws = length-rows thread_from thread_words thread_places ws

pub length-held_processes : (ws : List ℕ) → length (held_processes ws) ≡ process_places
length-held_processes ws = length-map (processes_of ws) held ∙ length-processes_of ws

pub length-held_threads : (ws : List ℕ) → length (held_threads ws) ≡ thread_places
length-held_threads ws = length-map (threads_of ws) held ∙ length-threads_of ws

pub actions-long : (ws : List ℕ) → All ActionsLong (processes_of ws)
unfolding processes_of process_from headed
actions-long ws =
    All-rows process_from process_words ActionsLong
    (λ l. length-rows action_from action_words signals (drop head_words l)) process_places ws

pub all-actions_long : (ws : List ℕ) → all actions_long (processes_of ws) ≡ true
unfolding actions_long
all-actions_long ws =
    All-all actions_long (processes_of ws)
    (All-imp ActionsLong (Pass actions_long) (λ x e. eq-eqb (length x.holds.actions) signals e) (processes_of ws)
    (actions-long ws))

pub length-actions : (ws : List ℕ) (place : ℕ) → place < process_places
    → length (process_at ws place).holds.actions ≡ signals
length-actions ws place h =
    All-at ActionsLong (processes_of ws) place free_process (rw length-processes_of h) (actions-long ws)

-- ---- one place

pub process-from : (ws : List ℕ) (place : ℕ) → place < process_places
    → process_at ws place ≡ process_from (row process_words ws place)
unfolding processes_of
process-from ws place h = get_d_rows process_from process_words process_places ws place free_process h

pub thread-from : (ws : List ℕ) (place : ℕ) → place < thread_places
    → thread_at ws place ≡ thread_from (row thread_words ws place)
unfolding threads_of
thread-from ws place h = get_d_rows thread_from thread_words thread_places ws place free_thread h

-- a row of words to its value and back
action-back : (l : List ℕ) → length l ≡ action_words → action_to (action_from l) ≡ l
unfolding action_to action_from
action-back l h = spelled action_words l h

head-back : (l : List ℕ) (actions : List Action) → length l ≡ head_words → head_to (headed l actions) ≡ l
unfolding head_to headed
head-back l actions h = spelled head_words l h

pub thread-back : (l : List ℕ) → length l ≡ thread_words → thread_to (thread_from l) ≡ l
unfolding thread_to thread_from
thread-back l h = spelled thread_words l h

pub head-from : (l : List ℕ) → length l ≡ process_words → head_to (process_from l) ≡ take head_words l
unfolding process_from
head-from l h =
    head-back (take head_words l) (rows action_from action_words signals (drop head_words l))
    (length-take-le head_words l (omega arith))

actions-back : (l : List ℕ) → length l ≡ process_words → flat action_to (process_from l).holds.actions
    ≡ drop head_words l
unfolding process_from headed
actions-back l h =
    flat_rows action_from action_to action_words action-back signals (drop head_words l) (rw length-drop (omega arith))

process-back : (l : List ℕ) → length l ≡ process_words → process_to (process_from l) ≡ l
unfolding process_to
process-back l h = ap₂ (λ x y. x ++ y) (head-from l h) (actions-back l h) ∙ take-append-drop head_words l

-- a value to its row of words and back
pub action-forth : (a : Action) → action_from (action_to a) ≡ a
unfolding action_from action_to
action-forth a = refl

pub length-action_to : (a : Action) → length (action_to a) ≡ action_words
unfolding action_to
length-action_to a = refl

pub process-forth : (x : Place Process) → ActionsLong x → process_from (process_to x) ≡ x
unfolding process_from process_to headed head_to
process-forth x h =
    let e : rows action_from action_words (length x.holds.actions) (flat action_to x.holds.actions)
    ≡ x.holds.actions =
    rows-flat action_from action_to action_words x.holds.actions
    (All-every (λ a. (length (action_to a) ≡ action_words) × (action_from (action_to a) ≡ a))
    (λ a. (length-action_to a, action-forth a)) x.holds.actions) in
    ap (headed (head_to x)) (ap (λ k. rows action_from action_words k (flat action_to x.holds.actions)) (sym h) ∙ e)

thread-forth : (x : Place Thread) → thread_from (thread_to x) ≡ x
unfolding thread_from thread_to
thread-forth x = refl

pub length-process_to : (x : Place Process) → ActionsLong x → length (process_to x) ≡ process_words
unfolding process_to head_to
length-process_to x h =
    let e : length (flat action_to x.holds.actions) ≡ length x.holds.actions * action_words =
    length-flat action_to action_words x.holds.actions
    (All-every (λ a. length (action_to a) ≡ action_words) length-action_to x.holds.actions) in
    omega arith

length-thread_to : (x : Place Thread) → length (thread_to x) ≡ thread_words
unfolding thread_to
length-thread_to x = refl

-- the words of a place in the table, for a test of every word of it
module _ (ws : List ℕ) (long : length ws ≡ process_table) (place : ℕ) (h : place < process_places) where
  pub length-process-row : length (row process_words ws place) ≡ process_words
  length-process-row = length-row process_words ws place (omega arith)

  pub process-row : process_to (process_at ws place) ≡ row process_words ws place
  process-row = ap process_to (process-from ws place h) ∙ process-back (row process_words ws place) length-process-row

module _ (ws : List ℕ) (long : length ws ≡ thread_table) (place : ℕ) (h : place < thread_places) where
  pub length-thread-row : length (row thread_words ws place) ≡ thread_words
  length-thread-row = length-row thread_words ws place (omega arith)

  pub thread-row : thread_to (thread_at ws place) ≡ row thread_words ws place
  thread-row = ap thread_to (thread-from ws place h) ∙ thread-back (row thread_words ws place) length-thread-row

-- a free place is all zero
pub free-process-words : process_to free_process ≡ replicate process_words 0
unfolding process_to head_to action_to
free-process-words =
    ap (λ l. head_to free_process ++ l) (flat-replicate action_to default_action action_words 0 refl signals)
    ∙ replicate-append-replicate head_words (signals * action_words) 0

pub free-thread-words : thread_to free_thread ≡ replicate thread_words 0
unfolding thread_to
free-thread-words = refl

pub zero-process : process_from (replicate process_words 0) ≡ free_process
zero-process =
    ap process_from (sym free-process-words) ∙ process-forth free_process (length-replicate signals default_action)

pub zero-thread : thread_from (replicate thread_words 0) ≡ free_thread
zero-thread = ap thread_from (sym free-thread-words) ∙ thread-forth free_thread

-- ---- the tables: words to places and back, and places to words and back

pub words_back : (ws : List ℕ) → length ws ≡ process_table → process_words_of (processes_of ws) ≡ ws
unfolding process_words_of processes_of
words_back ws long = flat_rows process_from process_to process_words process-back process_places ws long

pub thread-words-back : (ws : List ℕ) → length ws ≡ thread_table → thread_words_of (threads_of ws) ≡ ws
unfolding thread_words_of threads_of
thread-words-back ws long = flat_rows thread_from thread_to thread_words thread-back thread_places ws long

module _ (xs : List (Place Process)) (many : length xs ≡ process_places) (whole : All ActionsLong xs) where
  pub words-forth : processes_of (process_words_of xs) ≡ xs
  unfolding processes_of process_words_of
  words-forth =
      ap (λ k. rows process_from process_words k (flat process_to xs)) (sym many)
      ∙ rows-flat process_from process_to process_words xs
      (All-imp ActionsLong (λ x. (length (process_to x) ≡ process_words) × (process_from (process_to x) ≡ x))
      (λ x e. (length-process_to x e, process-forth x e)) xs whole)

  pub length-process_words_of : length (process_words_of xs) ≡ process_table
  unfolding process_words_of
  length-process_words_of =
      length-flat process_to process_words xs
      (All-imp ActionsLong (λ x. length (process_to x) ≡ process_words) length-process_to xs whole)
      ∙ ap (λ k. k * process_words) many

module _ (xs : List (Place Thread)) (many : length xs ≡ thread_places) where
  pub thread-words-forth : threads_of (thread_words_of xs) ≡ xs
  unfolding threads_of thread_words_of
  thread-words-forth =
      ap (λ k. rows thread_from thread_words k (flat thread_to xs)) (sym many)
      ∙ rows-flat thread_from thread_to thread_words xs
      (All-every (λ x. (length (thread_to x) ≡ thread_words) × (thread_from (thread_to x) ≡ x))
      (λ x. (length-thread_to x, thread-forth x)) xs)

  pub length-thread_words_of : length (thread_words_of xs) ≡ thread_table
  unfolding thread_words_of
  length-thread_words_of =
      length-flat thread_to thread_words xs (All-every (λ x. length (thread_to x) ≡ thread_words) length-thread_to xs)
      ∙ ap (λ k. k * thread_words) many
