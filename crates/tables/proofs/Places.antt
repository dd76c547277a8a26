-- What a read of a place says, what a store says, and where a search ends. Assumes nothing.
use mathlib.Core.Path.{◌≡◌, refl, sym, ap, ap₂, ◌∙◌}
use mathlib.Core.Bool.{Bool, true, not, ◌&&◌}
use mathlib.Core.List.{List, [], ◌∷◌, map}
use Prim.Native.Nat.{ℕ, zero, suc, ◌+◌, ◌-◌, ◌*◌, ◌≤◌, ◌<◌}
use native.Mathlib.Nat.{add-zero, zero-mul, add_assoc}
use native.Mathlib.Omega.{arith}
use lib.Dec.{eqb}
use lib.ListN.{length, get_or, take, drop, set, replicate, length-drop, length-replicate, get_or-map}
use lib.Seq.{sets, get_or-take, take-set-lt, drop-set-lt, drop-drop}
use Rattle.limits.specs.Limits.{process_id, process_real, process_effective, process_saved, process_session, thread_id}
use Rattle.limits.specs.Limits.{thread_process, thread_mask, process_places, process_words, process_table, head_words}
use Rattle.limits.specs.Limits.{signals, action_words, thread_places, thread_words, thread_table}
use Rattle.lists.specs.Lists.{find}
use Rattle.lists.specs.Rows.{row, rows, flat}
use Rattle.lists.proofs.Lists.{Fail, All-any, All-every, All-replicate}
use Rattle.lists.proofs.Rows.{rows-map, get_d-row, get_d_rows, rows-sets, rows-put, take-sets-le}
use Rattle.lists.proofs.Rows.{drop-sets-add, take-drop-take}
use Rattle.lists.proofs.Rows.{spell_from, take-spell_from, sets_from, sets-at, set-again, flat-replicate}
use Rattle.lists.proofs.Finds.{find-alike, position-map, position-alike, position-absent}
use Rattle.std.specs.Prelude.{None, position}
use Rattle.std.specs.List.{range_with_len}
use Rattle.sigset.specs.declared.SigSet.{SigSet}
use Rattle.types.specs.declared.Action.{Action}
use Rattle.types.specs.declared.NewProcess.{NewProcess}
use Rattle.types.specs.Values.{default_action}
use Rattle.rules.specs.Types.{Process, Thread}
use Rattle.rules.specs.View.{is_thread, action_of}
use Rattle.rules.specs.Adding.{added_process}
use Rattle.rules.specs.Store.{Place, held, free_process, free_thread}
use Rattle.tables.specs.Tables.{action_from, action_to, head_to, headed, process_from, process_to, thread_from}
use Rattle.tables.specs.Tables.{thread_to, processes_of, process_words_of, threads_of, thread_words_of, process_at}
use Rattle.tables.specs.Tables.{thread_at, held_processes, held_threads, with_field, with_thread_field}
use Rattle.tables.specs.Tables.{has_thread_id, ids_of, has_id, has_live_id, acted, placed, thread_placed}
use Rattle.tables.proofs.Words.{ActionsLong, free-process-words, free-thread-words, words-forth}
use Rattle.tables.proofs.Words.{thread-words-forth, process-from, thread-from, head-from, length-process-row}
use Rattle.tables.proofs.Words.{length-thread-row, thread-row, zero-process, zero-thread, thread-back}
use Rattle.tables.proofs.Words.{action-forth, length-action_to}

-- where the action of a signal begins
abbrev pub action_base : ℕ → ℕ → ℕ
action_base place signal = place * process_words + head_words + (signal - 1) * action_words

-- ---- reads

module _ (ws : List ℕ) (long : length ws ≡ process_table) (place : ℕ) (h : place < process_places) where
  head-words : head_to (process_at ws place) ≡ take head_words (row process_words ws place)
  head-words =
      ap head_to (process-from ws place h) ∙ head-from (row process_words ws place) (length-process-row ws long place h)

  pub field-word : (field : ℕ) → field < head_words
      → get_or (head_to (process_at ws place)) field 0 ≡ get_or ws (place * process_words + field) 0
  field-word field hf =
      ap (λ l. get_or l field 0) head-words
      ∙ get_or-take head_words (row process_words ws place) field 0 hf
      ∙ get_d-row process_words ws place field (omega arith)

  action-row : (signal : ℕ) → 1 ≤ signal → signal ≤ signals
      → row action_words (drop head_words (row process_words ws place)) (signal - 1)
      ≡ take action_words (drop (action_base place signal) ws)
  action-row signal low high =
      let o : ℕ = (signal - 1) * action_words in
      ap (take action_words) (drop-drop o head_words (row process_words ws place))
      ∙ take-drop-take action_words (head_words + o) process_words (drop (place * process_words) ws) (omega arith)
      ∙ ap (take action_words) (drop-drop (head_words + o) (place * process_words) ws)
      ∙ ap (λ k. take action_words (drop k ws)) (sym (add_assoc (place * process_words) head_words o))

  pub action-words : (signal b : ℕ) → 1 ≤ signal → signal ≤ signals → b ≡ action_base place signal
      → action_of (process_at ws place).holds signal ≡ action_from (spell_from action_words b 0 ws)
  unfolding action_of process_from headed
  action-words signal b low high e =
      ap (λ (x : Place Process). get_or x.holds.actions (signal - 1) default_action) (process-from ws place h)
      ∙ get_d_rows action_from action_words signals (drop head_words (row process_words ws place)) (signal - 1)
      default_action
      (omega arith)
      ∙ ap action_from
      (action-row signal low high ∙ ap (λ k. take action_words (drop k ws)) (sym e)
      ∙ take-spell_from action_words b ws (omega arith))

pub thread-field-word : (ws : List ℕ) → length ws ≡ thread_table → (place : ℕ) → place < thread_places → (field : ℕ)
    → field < thread_words
    → get_or (thread_to (thread_at ws place)) field 0 ≡ get_or ws (place * thread_words + field) 0
thread-field-word ws long place h field hf =
    ap (λ l. get_or l field 0) (thread-row ws long place h) ∙ get_d-row thread_words ws place field hf

-- what a place holds, with the marks forgotten
pub held_at : {A : Type 0} (xs : List (Place A)) (i : ℕ) (d : Place A)
    → get_or (map held xs) i (held d) ≡ (get_or xs i d).holds
held_at xs i d = get_or-map held xs i d

-- ---- stores into the words of one place

module _ (l : List ℕ) (long : length l ≡ process_words) where
  field-set : (k v : ℕ) → k < head_words → process_from (set l k v) ≡ with_field k v (process_from l)
  unfolding with_field process_from headed
  field-set k v hk =
      ap₂ (λ x y. headed x (rows action_from action_words signals y)) (take-set-lt head_words l k v hk)
      (drop-set-lt head_words l k v hk)
      ∙ ap (λ x. headed (set x k v) (rows action_from action_words signals (drop head_words l)))
      (sym (head-from l long))

  action-set : (signal : ℕ) (a : Action) → 1 ≤ signal → signal ≤ signals
      → process_from (sets l (head_words + (signal - 1) * action_words) (action_to a)) ≡ acted signal a (process_from l)
  unfolding process_from headed
  action-set signal a low high =
      let i : ℕ = signal - 1 in
      let o : ℕ = head_words + i * action_words in
      let acts : List ℕ = drop head_words l in
      let e : rows action_from action_words signals (drop head_words (sets l o (action_to a)))
      ≡ set (rows action_from action_words signals acts) i a =
      ap (rows action_from action_words signals) (drop-sets-add head_words l (i * action_words) (action_to a))
      ∙ rows-put action_from action_words signals acts i (action_to a) (omega arith) (rw length-drop (omega arith))
      (length-action_to a)
      ∙ ap (set (rows action_from action_words signals acts) i) (action-forth a) in
      ap₂ headed (take-sets-le head_words l o (action_to a) (omega arith)) e

thread-field-set : (l : List ℕ) → length l ≡ thread_words → (k v : ℕ)
    → thread_from (set l k v) ≡ with_thread_field k v (thread_from l)
unfolding with_thread_field
thread-field-set l long k v = ap (λ x. thread_from (set x k v)) (sym (thread-back l long))

-- ---- stores into a table

module _ (ws : List ℕ) (long : length ws ≡ process_table) (place : ℕ) (h : place < process_places) where
  -- a run of stores inside a place
  process-sets : (o : ℕ) (vs : List ℕ) → o + length vs ≤ process_words
      → processes_of (sets ws (place * process_words + o) vs)
      ≡ set (processes_of ws) place (process_from (sets (row process_words ws place) o vs))
  unfolding processes_of
  process-sets o vs fits = rows-sets process_from process_words process_places ws place o vs h fits

  pub field_put : (field v : ℕ) → field < head_words
      → processes_of (set ws (place * process_words + field) v)
      ≡ set (processes_of ws) place (with_field field v (process_at ws place))
  field_put field v hf =
      process-sets field (v ∷ []) (omega arith)
      ∙ ap (set (processes_of ws) place)
      (field-set (row process_words ws place) (length-process-row ws long place h) field v hf
      ∙ ap (with_field field v) (sym (process-from ws place h)))

  pub action-put : (signal b : ℕ) (a : Action) → 1 ≤ signal → signal ≤ signals → b ≡ action_base place signal
      → processes_of (sets_from ws b 0 (action_to a))
      ≡ set (processes_of ws) place (acted signal a (process_at ws place))
  action-put signal b a low high e =
      let o : ℕ = (signal - 1) * action_words in
      ap processes_of (sets-at ws b (action_to a))
      ∙ ap (λ k. processes_of (sets ws k (action_to a))) (e ∙ add_assoc (place * process_words) head_words o)
      ∙ process-sets (head_words + o) (action_to a) (rw length-action_to (omega arith))
      ∙ ap (set (processes_of ws) place)
      (action-set (row process_words ws place) (length-process-row ws long place h) signal a low high
      ∙ ap (acted signal a) (sym (process-from ws place h)))

  pub process-cleared : (after : List ℕ) → after ≡ sets ws (place * process_words) (replicate process_words 0)
      → processes_of after ≡ set (processes_of ws) place free_process
  unfolding processes_of
  process-cleared after e =
      ap processes_of e
      ∙ rows-put process_from process_words process_places ws place (replicate process_words 0) h (omega arith)
      (length-replicate {A = ℕ} process_words 0)
      ∙ ap (set (processes_of ws) place) zero-process

module _ (ws : List ℕ) (long : length ws ≡ thread_table) (place : ℕ) (h : place < thread_places) where
  pub thread-field-put : (field v : ℕ) → field < thread_words
      → threads_of (set ws (place * thread_words + field) v)
      ≡ set (threads_of ws) place (with_thread_field field v (thread_at ws place))
  unfolding threads_of
  thread-field-put field v hf =
      rows-sets thread_from thread_words thread_places ws place field (v ∷ []) h (omega arith)
      ∙ ap (set (threads_of ws) place)
      (thread-field-set (row thread_words ws place) (length-thread-row ws long place h) field v
      ∙ ap (with_thread_field field v) (sym (thread-from ws place h)))

  pub thread-cleared : (after : List ℕ) → after ≡ sets ws (place * thread_words) (replicate thread_words 0)
      → threads_of after ≡ set (threads_of ws) place free_thread
  unfolding threads_of
  thread-cleared after e =
      ap threads_of e
      ∙ rows-put thread_from thread_words thread_places ws place (replicate thread_words 0) h (omega arith)
      (length-replicate {A = ℕ} thread_words 0)
      ∙ ap (set (threads_of ws) place) zero-thread

-- ---- every place cleared

pub processes-cleared : (ws after : List ℕ) → length ws ≡ process_table → after ≡ replicate (length ws) 0
    → processes_of after ≡ replicate process_places free_process
unfolding process_words_of
processes-cleared ws after long e =
    let xs : List (Place Process) = replicate process_places free_process in
    let z : flat process_to xs ≡ replicate process_table 0 =
    flat-replicate process_to free_process process_words 0 free-process-words process_places in
    ap processes_of
    (e ∙ ap (λ n. replicate n 0) long ∙ sym z)
    ∙ words-forth xs (length-replicate process_places free_process)
    (All-replicate ActionsLong free_process (length-replicate signals default_action) process_places)

pub threads-cleared : (ws after : List ℕ) → length ws ≡ thread_table → after ≡ replicate (length ws) 0
    → threads_of after ≡ replicate thread_places free_thread
unfolding thread_words_of
threads-cleared ws after long e =
    let xs : List (Place Thread) = replicate thread_places free_thread in
    let z : flat thread_to xs ≡ replicate thread_table 0 =
    flat-replicate thread_to free_thread thread_words 0 free-thread-words thread_places in
    ap threads_of
    (e ∙ ap (λ n. replicate n 0) long ∙ sym z)
    ∙ thread-words-forth xs (length-replicate thread_places free_thread)

-- ---- a free place filled, one field after the other

abbrev with_fields : NewProcess → Place Process
with_fields new =
    with_field process_session new.session
    (with_field process_saved new.saved
    (with_field process_effective new.effective
    (with_field process_real new.real (with_field process_id new.id free_process))))

added-fields : (new : NewProcess) → with_fields new ≡ placed (added_process new)
unfolding with_field headed head_to added_process
added-fields new = refl

abbrev with_thread_fields : (id process mask : ℕ) → Place Thread
with_thread_fields id process mask =
    with_thread_field thread_mask mask
    (with_thread_field thread_process process (with_thread_field thread_id id free_thread))

thread-fields : (id process : ℕ) (mask : SigSet) → with_thread_fields id process mask.0 ≡ thread_placed id process mask
unfolding with_thread_field thread_from thread_to
thread-fields id process mask = refl

-- the table after a field of a place is put
abbrev put_field : List (Place Process) → (place field v : ℕ) → List (Place Process)
put_field xs place field v = set xs place (with_field field v (get_or xs place free_process))

abbrev put_thread_field : List (Place Thread) → (place field v : ℕ) → List (Place Thread)
put_thread_field xs place field v = set xs place (with_thread_field field v (get_or xs place free_thread))

pub process-filled : (xs x₀ x₁ x₂ x₃ x₄ x₅ : List (Place Process)) (place : ℕ) (new : NewProcess) → place < length xs
    → x₀ ≡ set xs place free_process → x₁ ≡ put_field x₀ place process_id new.id → x₂
    ≡ put_field x₁ place process_real new.real
    → x₃ ≡ put_field x₂ place process_effective new.effective → x₄ ≡ put_field x₃ place process_saved new.saved
    → x₅ ≡ put_field x₄ place process_session new.session → x₅ ≡ set xs place (placed (added_process new))
process-filled xs x₀ x₁ x₂ x₃ x₄ x₅ place new h e₀ e₁ e₂ e₃ e₄ e₅ =
    set-again free_process (with_field process_session new.session) xs x₄ x₅ place _ h
    (set-again free_process (with_field process_saved new.saved) xs x₃ x₄ place _ h
    (set-again free_process (with_field process_effective new.effective) xs x₂ x₃ place _ h
    (set-again free_process (with_field process_real new.real) xs x₁ x₂ place _ h
    (set-again free_process (with_field process_id new.id) xs x₀ x₁ place _ h e₀ e₁) e₂) e₃) e₄) e₅
    ∙ ap (set xs place) (added-fields new)

pub thread-filled : (xs x₀ x₁ x₂ x₃ : List (Place Thread)) (place : ℕ) (id process : ℕ) (mask : SigSet)
    → place < length xs
    → x₀ ≡ set xs place free_thread → x₁ ≡ put_thread_field x₀ place thread_id id
    → x₂ ≡ put_thread_field x₁ place thread_process process
    → x₃ ≡ put_thread_field x₂ place thread_mask mask.0
    → x₃ ≡ set xs place (thread_placed id process mask)
thread-filled xs x₀ x₁ x₂ x₃ place id process mask h e₀ e₁ e₂ e₃ =
    set-again free_thread (with_thread_field thread_mask mask.0) xs x₂ x₃ place _ h
    (set-again free_thread (with_thread_field thread_process process) xs x₁ x₂ place _ h
    (set-again free_thread (with_thread_field thread_id id) xs x₀ x₁ place _ h e₀ e₁) e₂) e₃
    ∙ ap (set xs place) (thread-fields id process mask)

-- ---- a search by id

module _ (width : ℕ) (ws : List ℕ) (wide : 1 ≤ width) where
  ids-from : (k n : ℕ) → rows (λ l. get_or l 0 0) width n (drop (k * width) ws)
      ≡ map (λ i. get_or ws (i * width) 0) (range_with_len k n)
  unfolding rows
  ids-from k zero = refl
  ids-from k (suc n) =
      ap₂ (λ x l. x ∷ l) (get_d-row width ws k 0 wide ∙ ap (λ i. get_or ws i 0) (add-zero (k * width)))
      (ap (rows (λ l. get_or l 0 0) width n) (drop-drop width (k * width) ws ∙ ap (λ i. drop i ws) (omega arith))
      ∙ ids-from (k + 1) n)

  -- the search through the places is that through their ids
  pub position-ids : (places id : ℕ)
      → position (λ i. eqb (get_or ws (i * width) 0) id) (range_with_len 0 places)
      ≡ position (has_id id) (ids_of width places ws)
  position-ids places id =
      sym (position-map (has_id id) (λ i. get_or ws (i * width) 0) (range_with_len 0 places))
      ∙ sym (ap (position (has_id id))
      (ap (λ i. rows (λ l. get_or l 0 0) width places (drop i ws)) (sym (zero-mul width)) ∙ ids-from 0 places))

module _ (p : Process → Bool) (q : ℕ → Bool) (same : (x : Process) → p x ≡ q x.id) where
  -- a search through the ids finds what a search through the processes finds
  pub process-ids : (ws : List ℕ) → position q (ids_of process_words process_places ws) ≡ position p (held_processes ws)
  unfolding processes_of process_from headed
  process-ids ws =
      ap (position q)
      (rows-map process_from (λ x. x.holds.id) (λ l. get_or l 0 0)
      (λ l. sym (get_or-take head_words l 0 0 (omega arith))) process_words process_places ws)
      ∙ position-map q (λ x. x.holds.id) (processes_of ws)
      ∙ position-alike (λ x. q x.holds.id) (λ x. p (held x)) (processes_of ws) (λ x. sym (same x.holds))
      ∙ sym (position-map p held (processes_of ws))

module _ (p : Thread → Bool) (q : ℕ → Bool) (same : (t : Thread) → p t ≡ q t.id) where
  pub thread-ids : (ws : List ℕ) → position q (ids_of thread_words thread_places ws) ≡ position p (held_threads ws)
  unfolding threads_of thread_from
  thread-ids ws =
      ap (position q)
      (rows-map thread_from (λ x. x.holds.id) (λ l. get_or l 0 0) (λ l. refl) thread_words thread_places ws)
      ∙ position-map q (λ x. x.holds.id) (threads_of ws)
      ∙ position-alike (λ x. q x.holds.id) (λ x. p (held x)) (threads_of ws) (λ x. sym (same x.holds))
      ∙ sym (position-map p held (threads_of ws))

-- 0 is no id
module _ (ids : List ℕ) where
  pub live-id : (n : ℕ) → not (eqb n 0) ≡ true → position (has_live_id n) ids ≡ position (has_id n) ids
  live-id n e = position-alike (has_live_id n) (has_id n) ids (λ x. ap (λ b. b && eqb x n) e)

  pub no-id : position (has_live_id 0) ids ≡ None
  no-id =
      position-absent (has_live_id 0) ids
      (All-any (has_live_id 0) ids (All-every (Fail (has_live_id 0)) (λ _. refl) ids))

pub find-live-thread : (xs : List Thread) (n : ℕ) → not (eqb n 0) ≡ true
    → find (is_thread n) xs ≡ find (has_thread_id n) xs
unfolding is_thread has_thread_id
find-live-thread xs n e = find-alike (is_thread n) (has_thread_id n) xs (λ t. ap (λ b. b && eqb t.id n) e)
