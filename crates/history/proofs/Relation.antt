-- The tables and the ledger say the same.
use Prim.Native.Nat.{ℕ}
use mathlib.Core.Path.{◌≡◌}
use mathlib.Core.List.{map}
use Rattle.lists.specs.Lists.{keep}
use Rattle.rules.specs.Types.{Queue}
use Rattle.rules.specs.View.{in_queue}
use Rattle.rules.specs.Store.{Store, held, records_for, mark_in}
use Rattle.history.specs.Ledger.{Ledger}

pub record Agrees (st : Store) (k : Ledger) : Type 0 where
  pub processes : map held st.processes ≡ k.processes
  pub threads : map held st.threads ≡ k.threads
  -- the records of each queue and signal are the ledger's sends, in order
  pub records : (q : Queue) (s : ℕ) → keep (in_queue q s) (records_for q st) ≡ (k.lines q s).sends
  pub marks : (q : Queue) (s : ℕ) → mark_in st q s ≡ (k.lines q s).mark
