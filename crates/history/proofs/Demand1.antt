-- Demand 1, proved: every field of specs/Demand1. Assumes nothing.
use Prim.Native.Nat.{ℕ}
use mathlib.Core.Path.{◌≡◌, ap}
use mathlib.Core.Bool.{true}
use Rattle.sigset.specs.Set.{is_unmaskable}
use Rattle.rules.specs.View.{action_of, the_process, the_thread}
use Rattle.rules.proofs.Facts.{mask-unmasked, marks-unmasked, action-unmasked}
use Rattle.rules.proofs.Unmaskable.{unmasked-has}
use Rattle.sound.specs.Lent.{Lent, decoded, view_of, sound_tables}
use Rattle.sound.proofs.Facts.{store-sound}
use Rattle.history.specs.Demand1.{NowhereMasked, Demand1}
use Rattle.history.proofs.Returns.{call-listed, call-exactly, call-answered, call-refused, call-asking}
use Rattle.history.proofs.Returns.{call-clears}
use Rattle.history.proofs.KillStop.{call-acts, call-kills, call-stops}

-- a sound store has neither of the pair in a mask, a mark or an action's mask
nowhere-masked : (l : Lent) → sound_tables l ≡ true → (s : ℕ) → is_unmaskable s ≡ true → NowhereMasked l s
nowhere-masked l e s u =
    let st = decoded l in
    let good = store-sound l e in
    record {
      masks = λ t. unmasked-has (the_thread (view_of l) t).mask (mask-unmasked st good t) s u;
      marks = λ q. marks-unmasked st good q s u;
      actions = λ p n. unmasked-has (action_of (the_process (view_of l) p) n).mask (action-unmasked st good p n) s u;
    }

pub demand1 : Demand1
demand1 =
    record {
      listed = call-listed;
      exactly = call-exactly;
      answered = call-answered;
      refused = call-refused;
      only_asked = λ h n g w e. call-asking h n g w.thread_buffer w.process_buffer e;
      clears = call-clears;
      acted = call-acts;
      killed = λ h n g w e k m. call-kills h n g e (ap is_unmaskable k) m w k;
      stopped = λ h n g w e k m. call-stops h n g e (ap is_unmaskable k) m w k;
      unmaskable = nowhere-masked;
    }
