-- The records of both buffers: how the two passes and the counts end, over plain variables. Assumes nothing.
use mathlib.Core.Path.{◌≡◌, sym, ap₂, ◌∙◌}
use mathlib.Core.Bool.{true, false}
use mathlib.Core.List.{List}
use Prim.Native.Nat.{ℕ}
use Rattle.lists.proofs.Bools.{and_left, and_right}
use Rattle.types.specs.declared.Siginfo.{Siginfo}
use Rattle.tables.specs.Tables.{processes_of, threads_of, held_processes}
use Rattle.soundness.specs.Check.{tallies, thread_records_ok, process_records_ok, all_within, records_ok}

-- ---- the records of both buffers

module _ (ws vs : List ℕ) (rs qs : List Siginfo) where
  pub threads-fail : thread_records_ok (processes_of ws) (threads_of vs) rs ≡ false
      → false ≡ records_ok (processes_of ws) (threads_of vs) rs qs
  unfolding records_ok
  threads-fail e = sym (and_left _ e)

  pub processes-fail : process_records_ok (processes_of ws) qs ≡ false
      → false ≡ records_ok (processes_of ws) (threads_of vs) rs qs
  unfolding records_ok
  processes-fail e =
      sym (and_right (thread_records_ok (processes_of ws) (threads_of vs) rs)
      (and_left (all_within (tallies (held_processes ws) rs) (tallies (held_processes ws) qs)) e))

  pub both-counted : (cs ds : List ℕ) → thread_records_ok (processes_of ws) (threads_of vs) rs ≡ true
      → process_records_ok (processes_of ws) qs ≡ true
      → cs ≡ tallies (held_processes ws) rs → ds ≡ tallies (held_processes ws) qs
      → all_within cs ds ≡ records_ok (processes_of ws) (threads_of vs) rs qs
  unfolding records_ok
  both-counted cs ds t p ec ed = ap₂ all_within ec ed ∙ rw (t, p)
