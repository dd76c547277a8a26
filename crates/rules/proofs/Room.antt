-- A process below its limit finds a free slot in either buffer:
-- the processes' limits together are no more than a buffer holds. Assumes nothing.
use Prim.Native.Nat.{ℕ, ◌+◌, ◌*◌, ◌≤◌, ◌<◌}
use mathlib.Core.Path.{◌≡◌, sym, ap, ◌∙◌}
use mathlib.Core.Bool.{Bool, true, not}
use mathlib.Core.List.{List, ◌∷◌, ◌++◌, map}
use native.Mathlib.Omega.{arith}
use lib.Dec.{eqb}
use lib.ListN.{length, length-map, length-append}
use borrow.Author.Tests.{eqb-true, eq-eqb}
use Rattle.limits.specs.Limits.{process_places, buffer_records, record_limit}
use Rattle.lists.specs.Lists.{count, All}
use Rattle.lists.proofs.Bools.{split, and-snd}
use Rattle.lists.proofs.Lists.{Pass, All-imp, All-every, All-append, All-map, any-map, any-imp, any-count, count_yes}
use Rattle.lists.proofs.Lists.{count_no, count_map, count-append}
use Rattle.lists.proofs.Sums.{pigeonhole}
use Rattle.types.specs.declared.Siginfo.{Siginfo}
use Rattle.rules.specs.Types.{Process}
use Rattle.rules.specs.View.{is_process, live_process}
use Rattle.rules.specs.Store.{Place, Store, held, used, of_process, queued_in, view}
use Rattle.rules.specs.Sound.{aimed_at_thread, aimed_at_process, sound}
use Rattle.rules.proofs.Aimed.{thread-process-live, process-live}
use Rattle.rules.proofs.Facts.{processes-length, thread-aimed, process-aimed, within-limit}

-- the name is that of the place
abbrev is_of : Place Process → ℕ → Bool
is_of x n = eqb n x.holds.id

abbrev named : Siginfo → ℕ
named r = r.process

module _ (st : Store) where
  -- the processes that the records name
  abbrev names : List ℕ
  names = map named (used st.thread_buffer ++ used st.process_buffer)

  names-length : length names ≡ length (used st.thread_buffer) + length (used st.process_buffer)
  names-length =
      length-map (used st.thread_buffer ++ used st.process_buffer) named
      ∙ length-append (used st.thread_buffer) (used st.process_buffer)

  names-count : (x : Place Process) → count (is_of x) names ≡ queued_in st x.holds.id
  unfolding queued_in
  names-count x =
      count_map (is_of x) named (used st.thread_buffer ++ used st.process_buffer)
      ∙ count-append (of_process x.holds.id) (used st.thread_buffer) (used st.process_buffer)

  -- a live process has a place
  placed : (n : ℕ) → live_process (view st) n ≡ true → 1 ≤ count (λ x. is_of x n) st.processes
  unfolding live_process view is_process
  placed n l =
      any-count (λ x. is_of x n) st.processes
      (any-imp (λ (x : Place Process). is_process n x.holds) (λ x. is_of x n)
      (λ x k.
      eq-eqb n x.holds.id (sym (eqb-true x.holds.id n (and-snd (not (eqb n 0)) (eqb x.holds.id n) k))))
      st.processes (sym (any-map (is_process n) held st.processes) ∙ l))

  module _ (e : sound st ≡ true) where
    names-placed : All (λ n. 1 ≤ count (λ x. is_of x n) st.processes) names
    names-placed =
        let P : Siginfo → Type 0 = λ r. 1 ≤ count (λ x. is_of x r.process) st.processes in
        All-map (λ n. 1 ≤ count (λ x. is_of x n) st.processes) named
        (used st.thread_buffer ++ used st.process_buffer)
        (All-append P (used st.thread_buffer) (used st.process_buffer)
        (All-imp (Pass (aimed_at_thread (view st))) P (λ r a. placed r.process (thread-process-live st r a))
        (used st.thread_buffer) (thread-aimed st e))
        (All-imp (Pass (aimed_at_process (view st))) P (λ r a. placed r.process (process-live st r a))
        (used st.process_buffer) (process-aimed st e)))

    -- with one record more of a process below its limit, no place has too many
    names-fit : (p : ℕ) → queued_in st p < record_limit → (x : Place Process)
        → count (is_of x) (p ∷ names) ≤ record_limit
    names-fit p h x =
        split (is_of x p)
        (λ k.
        let q : queued_in st p ≡ queued_in st x.holds.id = ap (queued_in st) (eqb-true p x.holds.id k) in
        omega (arith, count_yes (is_of x) p names k, names-count x))
        (λ k. omega (arith, count_no (is_of x) p names k, names-count x, within-limit st e x.holds.id))

    pub room : (p : ℕ) → live_process (view st) p ≡ true → queued_in st p < record_limit
        → (length (used st.thread_buffer) < buffer_records) × (length (used st.process_buffer) < buffer_records)
    room p l h =
        let n : length (p ∷ names) ≤ length st.processes * record_limit =
        pigeonhole is_of record_limit st.processes (p ∷ names) (placed p l, names-placed)
        (All-every (λ x. count (is_of x) (p ∷ names) ≤ record_limit) (names-fit p h) st.processes) in
        let k : length st.processes * record_limit ≡ process_places * record_limit =
        ap (λ (m : ℕ). m * record_limit) (processes-length st e) in
        (omega (arith, names-length), omega (arith, names-length))
