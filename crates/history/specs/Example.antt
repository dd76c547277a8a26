-- A short history by computation: what the ledger has after it, from the calls alone.
use Rattle.std.specs.Prelude.{ℕ, ◌≡◌, refl, true, false, List, [], ◌∷◌, ◌++◌, map}
use Rattle.std.proofs.Math.Option.{some}
use Rattle.limits.specs.Limits.{sig_ign, si_queue}
use Rattle.sigset.specs.Set.{empty}
use Rattle.types.specs.declared.Siginfo.{Siginfo}
use Rattle.types.specs.Values.{new_of}
use Rattle.rules.specs.Types.{Call, clear, add_process, sigqueue, sigaction, take, sigreturn}
use Rattle.rules.specs.View.{process_queue}
use Rattle.rules.specs.Computing.{computing}
use Rattle.history.specs.Ledger.{Line, queues, pending_where, ledger_view, place, place_all, empty_ledger}
use Rattle.history.specs.Acts.{empties, play, play_all, sent, is_dropped, is_absorbed, said, arrival, job_events}
use Rattle.history.specs.Acts.{send_acts, store_acts, end_acts, ends_process, reset_to_ignore, sets_off, take_acts}
use Rattle.history.specs.Acts.{acts}
use Rattle.history.specs.Acts.{turns, take_turn, take_turns, kept, took_send, emptied, all_cleared, now_ignored}
use Rattle.history.specs.Acts.{acts_of}
use Rattle.history.specs.History.{Entry, Book, empty_book, onto, entered, enter}

enter_all : List Entry → Book → Book
enter_all [] b = b
enter_all (e ∷ es) b = enter_all es (enter e b)

accepted : Call → Entry
accepted c = record { call = c; refused = false }

refused : Call → Entry
refused c = record { call = c; refused = true }

-- three sends of 40 with the values 1, 2 and 3, and one that was refused; the oldest is taken
sends : List Entry
sends =
    accepted clear
    ∷ accepted (add_process (new_of 100 1000 1000 1000 7 200 empty))
    ∷ accepted (sigaction 100 40 (some (record { handler = 5000; flags = 0; mask = empty })))
    ∷ accepted (sigqueue 100 100 0 40 1)
    ∷ accepted (sigqueue 100 100 0 40 2)
    ∷ refused (sigqueue 100 999 0 40 9)
    ∷ accepted (sigqueue 100 100 0 40 3)
    ∷ accepted (take 200)
    ∷ accepted (sigreturn 200 empty)
    ∷ []

-- then 40 is ignored
ignored : List Entry
ignored = sends ++ (accepted (sigaction 100 40 (some (record { handler = sig_ign; flags = 0; mask = empty }))) ∷ [])

line_after : List Entry → Line
line_after es = (enter_all es empty_book).ledger.lines (process_queue 100) 40

-- the values of the sends that are pending
pending_after : List Entry → List ℕ
pending_after es = map (λ (r : Siginfo). r.value) (line_after es).sends

-- the record of the send with this value
valued : ℕ → Siginfo
valued n = record { process = 100; thread = 0; signal = 40; code = si_queue; sender = 100; uid = 1000; value = n }

-- two are pending after the take; both are discarded when 40 is ignored
example : (pending_after sends ≡ 2 ∷ 3 ∷ [])
    × (((line_after sends).counts ≡ record { kept = 3; taken = 1; discarded = 0 })
    × ((pending_after ignored ≡ [])
    × (((enter_all ignored empty_book).ledger.total ≡ record { kept = 3; taken = 1; discarded = 2 })
    × ((enter_all ignored empty_book).acts
    ≡ emptied (now_ignored 100 40) ∷ took_send 200 (process_queue 100) 40 (valued 1) ∷ kept (valued 3) ∷ kept (valued 2)
    ∷ kept (valued 1) ∷ emptied all_cleared ∷ []))))
unfolding computing queues pending_where ledger_view place place_all empty_ledger empties play play_all sent is_dropped
    is_absorbed said arrival job_events send_acts store_acts end_acts ends_process reset_to_ignore sets_off take_acts
    acts turns
    take_turn take_turns acts_of onto entered enter enter_all accepted refused sends ignored line_after pending_after
    valued
example = (refl, (refl, (refl, (refl, refl))))
