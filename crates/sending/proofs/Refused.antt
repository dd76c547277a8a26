-- The refusals of the two sends, row by row, and what a send has where none applies. Assumes nothing.
use Prim.Native.Nat.{ℕ, ◌≤◌, ◌<◌}
use mathlib.Core.Path.{◌≡◌, refl, sym, ap, ap₂, ◌∙◌}
use mathlib.Core.Bool.{Bool, true, false, not, ◌&&◌, ◌||◌}
use mathlib.Core.List.{[], ◌∷◌}
use lib.Dec.{leb}
use borrow.Author.Tests.{lt-ltb, le-ltb, ltb-false, not-false}
use Rattle.limits.specs.Limits.{signals, record_limit, EPERM, ESRCH, EAGAIN, EFAULT, EINVAL}
use Rattle.lists.specs.Lists.{any, All}
use Rattle.lists.proofs.Bools.{clash, and_left, or-fst-false, or-snd-false}
use Rattle.types.specs.declared.Siginfo.{Siginfo}
use Rattle.rules.specs.Types.{kill, sigqueue}
use Rattle.rules.specs.View.{View, is_process, target_queue, live_process, the_process}
use Rattle.rules.specs.Store.{view}
use Rattle.rules.specs.Sending.{may_signal, Generation, generation, info_of, send_changes, needs_record}
use Rattle.rules.specs.Refusals.{over_last, einval, esrch, eperm, eagain, no_process_live, bad_target, may_not, no_room}
use Rattle.rules.specs.Refusals.{rows}
use Rattle.rules.specs.Refusals.{is_clear}
use Rattle.rules.specs.Calls.{send}
use Rattle.rules.proofs.RefusalTable.{Off}
use Rattle.rules.proofs.SendFits.{send-fits}
use Rattle.tables.specs.Tables.{held_processes}
use Rattle.sound.specs.Lent.{Lent, decoded, view_of, sound_tables}
use Rattle.sound.proofs.Facts.{store-sound}
use Rattle.answers.specs.Step.{refusal_on, rows_on}
use Rattle.answers.proofs.Endings.{rows-given, accepted-tables-sound, accepted-rows}
use Rattle.answers.proofs.Rows.{rows_before, refuses-fault, refuses-at, refuses-none}
use Rattle.view.specs.Named.{process_named}
use Rattle.effects.specs.Changes.{Ready}
use Rattle.effects.proofs.Makes.{ready-as}
use Rattle.sending.specs.Decisions.{send_call}
use Rattle.sending.proofs.Decided.{plain-no-record}

-- ---- a plain send

module _ (l : Lent) (by to t s : ℕ) where
  abbrev seen : View
  seen = view_of l

  abbrev nobody : Bool
  nobody = no_process_live seen by || bad_target seen to t

  abbrev plain : ℕ
  plain = refusal_on (kill by to t s) l

  pub nobody-read : (live bad : Bool) → live ≡ any (is_process by) (held_processes l.processes)
      → bad ≡ bad_target seen to t → (not live || bad) ≡ nobody
  unfolding no_process_live live_process view decoded
  nobody-read live bad e f = rw (e, f)

  pub may_read : (may : Bool) → may ≡ may_signal (process_named l.processes by) (process_named l.processes to) s
      → not may ≡ may_not seen by to s
  unfolding may_not the_process view decoded
  may_read may e = ap not e

  pub kill-fault : sound_tables l ≡ false → EFAULT ≡ plain
  unfolding is_clear
  kill-fault = refuses-fault (kill by to t s) l refl

  module _ (e : sound_tables l ≡ true) where
    pub kill-over : signals < s → EINVAL ≡ plain
    unfolding rows is_clear over_last
    kill-over h = refuses-at (kill by to t s) l refl e [] (einval (over_last s)) _ refl tt (lt-ltb signals s h)

    module _ (o : s ≤ signals) where
      low : over_last s ≡ false
      unfolding over_last
      low = le-ltb signals s o

      pub kill-nobody : nobody ≡ true → ESRCH ≡ plain
      unfolding rows is_clear
      kill-nobody h = refuses-at (kill by to t s) l refl e (einval (over_last s) ∷ []) (esrch nobody) _ refl (low, tt) h

      module _ (k : nobody ≡ false) where
        pub kill-barred : may_not seen by to s ≡ true → EPERM ≡ plain
        unfolding rows is_clear
        kill-barred h =
            refuses-at (kill by to t s) l refl e (einval (over_last s) ∷ esrch nobody ∷ [])
            (eperm (may_not seen by to s)) [] refl (low, (k, tt)) h

        pub kill-passes : may_not seen by to s ≡ false → 0 ≡ plain
        unfolding rows is_clear
        kill-passes h = refuses-none (kill by to t s) l refl e (low, (k, (h, tt)))

-- ---- what a send has that is not refused

pub record Allowed (l : Lent) (by to t s : ℕ) : Type 0 where
  pub sound : sound_tables l ≡ true
  pub signal : s ≤ signals
  pub sender : live_process (view_of l) by ≡ true
  pub target : bad_target (view_of l) to t ≡ false

module _ (l : Lent) (by to t s : ℕ) where
  allowed-by : sound_tables l ≡ true → over_last s ≡ false
      → (no_process_live (view_of l) by || bad_target (view_of l) to t) ≡ false → Allowed l by to t s
  unfolding over_last no_process_live
  allowed-by e o k =
      let v : View = view_of l in
      record {
        sound = e;
        signal = ltb-false signals s o;
        sender = not-false (live_process v by) (or-fst-false (not (live_process v by)) (bad_target v to t) k);
        target = or-snd-false (no_process_live v by) (bad_target v to t) k;
      }

  pub kill-allowed : refusal_on (kill by to t s) l ≡ 0 → Allowed l by to t s
  unfolding rows is_clear
  kill-allowed e =
      let k = accepted-rows (kill by to t s) l e in
      allowed-by (accepted-tables-sound (kill by to t s) l refl e) k.0 k.1.0

-- ---- a send with a value: the rows of a plain one, and one more

module _ (l : Lent) (by to t s value : ℕ) where
  queue-refused : (n : ℕ) → n ≡ refusal_on (kill by to t s) l → (n ≡ 0 → ⊥) → n
      ≡ refusal_on (sigqueue by to t s value) l
  unfolding rows is_clear
  queue-refused n e z =
      let v : View = view_of l in
      let k : n ≡ rows_on (rows v (kill by to t s)) l = e ∙ rows-given (kill by to t s) l refl in
      k ∙ rows_before (rows v (kill by to t s)) (eagain (no_room v to t s) ∷ []) l (λ y. z (k ∙ y))
      ∙ sym (rows-given (sigqueue by to t s value) l refl)

  module _ (e : refusal_on (kill by to t s) l ≡ 0) where
    plain-off : All Off (rows (view_of l) (kill by to t s))
    plain-off = accepted-rows (kill by to t s) l e

    plain-sound : sound_tables l ≡ true
    unfolding is_clear
    plain-sound = accepted-tables-sound (kill by to t s) l refl e

    queue-full : no_room (view_of l) to t s ≡ true → EAGAIN ≡ refusal_on (sigqueue by to t s value) l
    unfolding rows is_clear
    queue-full h =
        refuses-at (sigqueue by to t s value) l refl plain-sound (rows (view_of l) (kill by to t s))
        (eagain (no_room (view_of l) to t s)) [] refl plain-off h

    queue-passes : no_room (view_of l) to t s ≡ false → 0 ≡ refusal_on (sigqueue by to t s value) l
    unfolding rows is_clear
    queue-passes h =
        refuses-none (sigqueue by to t s value) l refl plain-sound
        (plain-off.0, (plain-off.1.0, (plain-off.1.1.0, (h, tt))))

  module _ (e : refusal_on (sigqueue by to t s value) l ≡ 0) where
    queue-allowed : Allowed l by to t s
    unfolding rows is_clear
    queue-allowed =
        let k = accepted-rows (sigqueue by to t s value) l e in
        allowed-by l by to t s (accepted-tables-sound (sigqueue by to t s value) l refl e) k.0 k.1.0

    queue-room : no_room (view_of l) to t s ≡ false
    unfolding rows
    queue-room = (accepted-rows (sigqueue by to t s value) l e).1.1.1.0

-- ---- either send

module _ (l : Lent) (by to t s value : ℕ) where
  pub send-refused : (queued : Bool) (n : ℕ) → n ≡ refusal_on (kill by to t s) l → (n ≡ 0 → ⊥)
      → n ≡ refusal_on (send_call queued by to t s value) l
  send-refused true n e z = queue-refused l by to t s value n e z
  send-refused false n e z = e

  abbrev is_full : Generation → Bool
  is_full f = needs_record f && leb record_limit ((view_of l).queued to)

  -- by the generation and the test that code has
  module _ (e : refusal_on (kill by to t s) l ≡ 0) (f : Generation) (b : Bool) (i : b ≡ is_full f) where
    pub send-full : (queued : Bool) → f ≡ generation (view_of l) queued (target_queue to t) s → b ≡ true
        → EAGAIN ≡ refusal_on (send_call queued by to t s value) l
    unfolding no_room
    send-full true h k = queue-full l by to t s value e (ap is_full (sym h) ∙ sym i ∙ k)
    send-full false h k =
        clash (ap is_full (sym h) ∙ sym i ∙ k) (and_left _ (plain-no-record (view_of l) (target_queue to t) s))

    pub send-passes : (queued : Bool) → f ≡ generation (view_of l) queued (target_queue to t) s → b ≡ false
        → refusal_on (send_call queued by to t s value) l ≡ 0
    unfolding no_room
    send-passes true h k = sym (queue-passes l by to t s value e (ap is_full (sym h) ∙ sym i ∙ k))
    send-passes false h k = e

  send-allowed : (queued : Bool) → refusal_on (send_call queued by to t s value) l ≡ 0 → Allowed l by to t s
  send-allowed true e = queue-allowed l by to t s value e
  send-allowed false e = kill-allowed l by to t s e

  send-room : (queued : Bool) → refusal_on (send_call queued by to t s value) l ≡ 0 → queued ≡ true
      → no_room (view_of l) to t s ≡ false
  send-room true e k = queue-room l by to t s value e
  send-room false e k = clash k refl

  -- what `generate` asks for, of the generation and the record that code has
  pub allowed-ready : (queued : Bool) → refusal_on (send_call queued by to t s value) l ≡ 0
      → (f : Generation) (r : Siginfo)
      → f ≡ generation (view_of l) queued (target_queue to t) s → r ≡ info_of (view_of l) by to t s value
      → Ready (send_changes f r) l
  unfolding over_last send
  allowed-ready queued e f r h k =
      let a = send-allowed queued e in
      ready-as
      (record {
        sound = a.sound;
        fit = send-fits (decoded l) (store-sound l a.sound) queued by to t s value
            (le-ltb signals s a.signal) a.target (send-room queued e);
      })
      (sym (ap₂ send_changes h k))
