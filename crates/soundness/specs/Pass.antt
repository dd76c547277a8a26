-- The pass over the records of a buffer, oldest first: what each is held against, and what they add up to.
-- Crate records makes it, once for both buffers.
use Rattle.std.specs.Prelude.{ℕ, ◌≡◌, ◌≤◌, ◌<◌, ◌+◌, Bool, true, false, ◌&&◌, List, [], map, length, get_or, take}
use Rattle.limits.specs.Limits.{process_places, thread_places}
use Rattle.types.specs.declared.Siginfo.{Siginfo}
use Rattle.types.specs.Values.{no_siginfo}
use Rattle.rules.specs.Types.{Process, Thread}
use Rattle.rules.specs.View.{thread_queue}
use Rattle.rules.specs.Store.{Place, held}
use Rattle.soundness.specs.Check.{tallies, seen_sets, own_queue, is_fresh, bumped, noted, process_place, thread_place}
use Rattle.soundness.specs.Check.{thread_record_ok, process_record_ok, thread_records_ok, process_records_ok}

-- whose records are counted; whether a record is well aimed and not ignored, and then where its process and its
-- queue are; of some records, the signals seen in each queue and whether all are as they must be
pub record Pass : Type 0 where
  pub processes : List Process
  pub aimed : Siginfo → Bool
  pub process : Siginfo → ℕ
  pub queue : Siginfo → ℕ
  pub seen : List Siginfo → List ℕ
  pub ok : List Siginfo → Bool

abbrev pub thread_pass : List (Place Process) → List (Place Thread) → Pass
thread_pass xs ys =
    record {
      processes = map held xs;
      aimed = thread_record_ok xs ys;
      process = process_place xs;
      queue = thread_place ys;
      seen = seen_sets thread_queue ys;
      ok = thread_records_ok xs ys;
    }

abbrev pub process_pass : List (Place Process) → Pass
process_pass xs =
    record {
      processes = map held xs;
      aimed = process_record_ok xs;
      process = process_place xs;
      queue = process_place xs;
      seen = seen_sets own_queue xs;
      ok = process_records_ok xs;
    }

-- a record r that comes after i others
abbrev pub Next : List Siginfo → (i : ℕ) → Siginfo → Type 0
Next rs i r = (i < length rs) × (r ≡ get_or rs i no_siginfo)

-- one record after the other, over n queues
pub record AddsUp (n : ℕ) (p : Pass) : Type 0 where
  pub few : n ≤ thread_places
  pub many : length p.processes ≡ process_places
  pub long : (rs : List Siginfo) → length (p.seen rs) ≡ n
  pub none : p.ok [] ≡ true
  pub fails : (rs : List Siginfo) (i : ℕ) (r : Siginfo) → Next rs i r
      → (p.aimed r && is_fresh (p.seen (take i rs)) (p.queue r) r.signal) ≡ false
      → p.ok rs ≡ false
  pub more : (rs : List Siginfo) (i : ℕ) (r : Siginfo) → Next rs i r → p.aimed r ≡ true
      → is_fresh (p.seen (take i rs)) (p.queue r) r.signal ≡ true
      → p.ok (take i rs) ≡ true
      → p.ok (take (i + 1) rs) ≡ true
  pub counted : (rs : List Siginfo) (i : ℕ) (r : Siginfo) → Next rs i r → p.aimed r ≡ true
      → bumped (tallies p.processes (take i rs)) (p.process r) ≡ tallies p.processes (take (i + 1) rs)
  pub noticed : (rs : List Siginfo) (i : ℕ) (r : Siginfo) → Next rs i r → p.aimed r ≡ true
      → noted (p.seen (take i rs)) (p.queue r) r.signal ≡ p.seen (take (i + 1) rs)
