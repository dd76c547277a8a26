-- The ledger changed as the rules change the tables, one change after the other: what the acts of a call come to
-- (Played). Assumes nothing.
use Prim.Native.Nat.{ℕ, ◌+◌}
use mathlib.Core.Path.{◌≡◌, refl}
use mathlib.Core.Bool.{Bool, true, false, ◌&&◌}
use mathlib.Core.List.{List, [], ◌∷◌, ◌++◌}
use lib.Dec.{eqb}
use Rattle.sigset.specs.declared.SigSet.{SigSet}
use Rattle.sigset.specs.Set.{has}
use Rattle.rules.specs.Types.{Queue}
use Rattle.rules.specs.View.{Change, forget, new_process, new_thread, remove_process, remove_thread, set_stopped}
use Rattle.rules.specs.View.{set_action}
use Rattle.rules.specs.View.{set_mask, set_mark, clear_mark, append, drop_oldest, discard, in_queue}
use Rattle.history.specs.Ledger.{Ledger, of_process, on_lines, with_total, with_mark, is_at, place}
use Rattle.history.specs.Acts.{keep_send, take_send, emptying}

-- all queues and signals; those of a thread; those of a process's signals in a set
abbrev pub everywhere : Queue → ℕ → Bool
everywhere q s = true

abbrev pub of_thread : ℕ → Queue → ℕ → Bool
of_thread n q s = eqb q.thread n

abbrev pub of_signals : ℕ → SigSet → Queue → ℕ → Bool
of_signals n set q s = eqb q.process n && has set s

unfoldable pub note : Change → Ledger → Ledger
note forget l = place forget (emptying everywhere l)
note (new_process p) l = place (new_process p) l
note (new_thread t) l = place (new_thread t) l
note (remove_process n) l = place (remove_process n) (emptying (of_process n) l)
note (remove_thread n) l = place (remove_thread n) (emptying (of_thread n) l)
note (set_stopped n b) l = place (set_stopped n b) l
note (set_action n s a) l = place (set_action n s a) l
note (set_mask n m) l = place (set_mask n m) l
note (set_mark q s) l = on_lines (is_at q s) (with_mark true) l
note (clear_mark q s) l = on_lines (is_at q s) (with_mark false) l
note (append r) l =
    with_total (record { kept = l.total.kept + 1; taken = l.total.taken; discarded = l.total.discarded })
    (on_lines (λ q s. in_queue q s r) (keep_send r) l)
note (drop_oldest q s) l =
    with_total (record { kept = l.total.kept; taken = l.total.taken + 1; discarded = l.total.discarded })
    (on_lines (is_at q s) take_send l)
note (discard n set) l = emptying (of_signals n set) l

unfoldable pub note_all : List Change → Ledger → Ledger
note_all [] l = l
note_all (c ∷ cs) l = note_all cs (note c l)

pub note_all-append : (xs ys : List Change) (l : Ledger) → note_all (xs ++ ys) l ≡ note_all ys (note_all xs l)
unfolding note_all
note_all-append [] ys l = refl
note_all-append (c ∷ xs) ys l = note_all-append xs ys (note c l)
