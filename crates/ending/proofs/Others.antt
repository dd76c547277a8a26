-- Another thread of a process, as code reads it and as the rules name it. Assumes nothing.
use Prim.Native.Nat.{ℕ}
use mathlib.Core.Path.{◌≡◌, sym, ap, ◌∙◌}
use mathlib.Core.Bool.{not, ◌&&◌}
use mathlib.Core.List.{List}
use lib.Dec.{eqb}
use lib.ListN.{get_or}
use Rattle.limits.specs.Limits.{thread_id, thread_process}
use Rattle.lists.specs.Lists.{any}
use Rattle.rules.specs.Types.{Thread, no_thread}
use Rattle.rules.specs.View.{View, belongs_to}
use Rattle.rules.specs.Store.{free_thread}
use Rattle.rules.specs.Adding.{other_thread}
use Rattle.tables.specs.Tables.{threads_of, held_threads, thread_at, thread_to}
use Rattle.tables.proofs.Places.{held_at}
use Rattle.ending.specs.Others.{is_other}

pub other_test : (ts : List ℕ) (place process thread owner id : ℕ)
    → owner ≡ get_or (thread_to (thread_at ts place)) thread_process 0
    → id ≡ get_or (thread_to (thread_at ts place)) thread_id 0
    → ((not (eqb process 0) && eqb owner process) && not (eqb id thread))
    ≡ is_other process thread (get_or (held_threads ts) place no_thread)
unfolding is_other belongs_to thread_to
other_test ts place process thread owner id e f =
    rw (e, f) (sym (ap (is_other process thread) (held_at (threads_of ts) place free_thread)))

pub others-are : (v : View) (t : Thread) (p n : ℕ) → p ≡ t.process → n ≡ t.id → (xs : List Thread)
    → any (is_other p n) xs ≡ any (other_thread v t) xs
unfolding is_other other_thread
others-are v t p n e f xs = ap (λ (k : ℕ). any (is_other k n) xs) e ∙ ap (λ (k : ℕ). any (is_other t.process k) xs) f
