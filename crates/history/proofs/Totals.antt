-- The ledger's totals: what was kept is what was taken, what was discarded, and what the buffers hold;
-- each change keeps it so. Assumes nothing.
use Prim.Native.Nat.{ℕ, ◌+◌}
use mathlib.Core.Path.{◌≡◌, sym, ap, ap₂, ◌∙◌}
use mathlib.Core.Bool.{Bool, true, not, cond}
use mathlib.Core.List.{List, [], ◌∷◌, ◌++◌}
use native.Mathlib.Omega.{arith}
use lib.Dec.{eqb}
use lib.ListN.{length, length-append}
use Rattle.limits.specs.Limits.{buffer_records}
use Rattle.lists.specs.Lists.{all, any, count, keep, drop_first}
use Rattle.lists.proofs.Bools.{split}
use Rattle.lists.proofs.Lists.{all_end, count-keep, count-not, is_some-first, leading-replicate, length-drop_first}
use Rattle.lists.proofs.Sublists.{keep-within, drop_first-within, all-within}
use Rattle.types.specs.declared.Siginfo.{Siginfo}
use Rattle.types.specs.Values.{no_siginfo}
use Rattle.rules.specs.Types.{Process, Thread, Queue}
use Rattle.rules.specs.View.{Change, forget, new_process, new_thread, remove_process, remove_thread, set_stopped}
use Rattle.rules.specs.View.{set_action}
use Rattle.rules.specs.View.{set_mask, set_mark, clear_mark, append, drop_oldest, discard, queue_of, in_queue}
use Rattle.rules.specs.Store.{Store, in_use, used, records_for, on_slots, on_buffer, on_buffers, cleared, view, apply}
use Rattle.rules.specs.Sound.{sound}
use Rattle.rules.specs.Fitting.{fits}
use Rattle.rules.proofs.Slots.{zero-free, used-in_use, used-after, used-within}
use Rattle.history.specs.Ledger.{Ledger, empty_ledger, of_process, place}
use Rattle.history.specs.Acts.{emptying}
use Rattle.history.proofs.Notes.{of_thread, of_signals, note}
use Rattle.history.proofs.Records.{fitting-used}
use Rattle.history.proofs.Relation.{Agrees}
use Rattle.history.proofs.Counted.{counted, all-pending}

-- ---- the records of both buffers

abbrev pub in_buffers : Store → ℕ
in_buffers st = length (used st.thread_buffer) + length (used st.process_buffer)

none-cleared : in_buffers cleared ≡ 0
unfolding cleared used
none-cleared = let z = ap length (leading-replicate in_use no_siginfo zero-free buffer_records) in ap₂ (λ m n. m + n) z
    z

-- those that pass leave a buffer
kept-slots : (p : Siginfo → Bool) (slots : List Siginfo)
    → length (used (on_slots (keep (λ r. not (p r))) slots)) + count p (used slots) ≡ length (used slots)
kept-slots p slots =
    omega (
      arith,
      ap length (used-within (keep (λ r. not (p r))) (keep-within (λ r. not (p r))) slots),
      count-keep (λ r. not (p r)) (used slots),
      count-not p (used slots),
    )

records-in_use : (q : Queue) (st : Store) → all in_use (records_for q st) ≡ true
unfolding records_for
records-in_use q st = used-in_use (cond (eqb q.thread 0) st.process_buffer st.thread_buffer)

-- the buffer that has the queue changes, the other does not
one-changed : (st : Store) (q : Queue) (g : List Siginfo → List Siginfo) → all in_use (g (records_for q st)) ≡ true
    → in_buffers (on_buffer q g st) + length (records_for q st) ≡ in_buffers st + length (g (records_for q st))
unfolding records_for
one-changed st q g u =
    split (eqb q.thread 0)
    (λ e. rw e (omega (arith, ap length (used-after g st.process_buffer (rw e at u)))))
    (λ e. rw e (omega (arith, ap length (used-after g st.thread_buffer (rw e at u)))))

-- ---- the totals

abbrev pub Total : Store → Ledger → Type 0
Total st k = k.total.kept ≡ k.total.taken + k.total.discarded + in_buffers st

pub total-start : Total cleared empty_ledger
unfolding empty_ledger
total-start = omega (arith, none-cleared)

pub total-new_process : (p : Process) (st : Store) (k : Ledger) → Total st k
    → Total (apply (new_process p) st) (note (new_process p) k)
unfolding apply note place
total-new_process p st k h = h

pub total-new_thread : (t : Thread) (st : Store) (k : Ledger) → Total st k
    → Total (apply (new_thread t) st) (note (new_thread t) k)
unfolding apply note place
total-new_thread t st k h = h

-- the records that pass go, and are discarded
total-emptied : (p : Queue → ℕ → Bool) (st : Store) (k : Ledger) → sound st ≡ true → Agrees st k → Total st k
    → Total (on_buffers (keep (λ (r : Siginfo). not (p (queue_of r) r.signal))) st) (emptying p k)
total-emptied p st k e a h =
    let n : Siginfo → Bool = λ (r : Siginfo). p (queue_of r) r.signal in
    omega (arith, kept-slots n st.thread_buffer, kept-slots n st.process_buffer, counted st k e a p)

total-append : (r : Siginfo) (st : Store) (k : Ledger) → fits (view st) (append r) ≡ true → Total st k
    → Total (apply (append r) st) (note (append r) k)
unfolding apply note place
total-append r st k f h =
    let rs : List Siginfo = records_for (queue_of r) st in
    omega (
      arith,
      one-changed st (queue_of r) (λ l. l ++ (r ∷ []))
          (all_end in_use rs r (records-in_use (queue_of r) st) (fitting-used st r f)),
      length-append rs (r ∷ []),
    )

total-drop_oldest : (q : Queue) (s : ℕ) (st : Store) (k : Ledger) → fits (view st) (drop_oldest q s) ≡ true → Total st k
    → Total (apply (drop_oldest q s) st) (note (drop_oldest q s) k)
unfolding apply note place fits view
total-drop_oldest q s st k f h =
    let rs : List Siginfo = records_for q st in
    let y : any (in_queue q s) rs ≡ true = sym (is_some-first (in_queue q s) rs) ∙ f in
    omega (
      arith,
      one-changed st q (drop_first (in_queue q s))
          (all-within in_use (drop_first-within (in_queue q s) rs) (records-in_use q st)),
      length-drop_first (in_queue q s) rs y,
    )

pub total-change : (ch : Change) (st : Store) (k : Ledger) → sound st ≡ true → fits (view st) ch ≡ true → Agrees st k
    → Total st k
    → Total (apply ch st) (note ch k)
unfolding apply note place
total-change forget st k e f a h = omega (arith, none-cleared, all-pending st k e a)
total-change (new_process p) st k e f a h = total-new_process p st k h
total-change (new_thread t) st k e f a h = total-new_thread t st k h
total-change (remove_process n) st k e f a h = total-emptied (of_process n) st k e a h
total-change (remove_thread n) st k e f a h = total-emptied (of_thread n) st k e a h
total-change (set_stopped n b) st k e f a h = h
total-change (set_action n s x) st k e f a h = h
total-change (set_mask n m) st k e f a h = h
total-change (set_mark q s) st k e f a h = h
total-change (clear_mark q s) st k e f a h = h
total-change (append r) st k e f a h = total-append r st k f h
total-change (drop_oldest q s) st k e f a h = total-drop_oldest q s st k f h
total-change (discard n set) st k e f a h = total-emptied (of_signals n set) st k e a h
