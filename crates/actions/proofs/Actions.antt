-- How sigaction ends: its refusal by rows, what acceptance gives the work, and the tables and answer after it.
-- Assumes nothing.
use Prim.Native.Nat.{ℕ, ◌≤◌}
use mathlib.Core.Path.{◌≡◌, refl, sym, ap, ◌∙◌}
use mathlib.Core.Bool.{true, false}
use mathlib.Core.List.{[], ◌∷◌}
use mathlib.Core.Option.{Option, some, none}
use native.Mathlib.Omega.{arith}
use lib.Dec.{eqb, ltb}
use borrow.Author.Tests.{eqb-false, ltb-false, not-false}
use Rattle.limits.specs.Limits.{signals, EFAULT, EINVAL, ESRCH}
use Rattle.lists.proofs.Bools.{or-fst-false, or-snd-false}
use Rattle.siginfo.specs.Bytes.{Bytes}
use Rattle.types.specs.declared.Action.{Action}
use Rattle.types.specs.declared.Reply.TheVariants.{OldAction}
use Rattle.types.specs.Answers as answers
use Rattle.rules.specs.Types.{sigaction}
use Rattle.rules.specs.View.{live_process, action_of}
use Rattle.rules.specs.Refusals.{over_last, bad_action, no_process_live, rows, is_clear, einval, esrch}
use Rattle.rules.specs.Actions.{stored, store_changes, action_changes}
use Rattle.rules.specs.Calls.{changes, reply}
use Rattle.rules.proofs.SendFits.{action-fits}
use Rattle.sound.proofs.Facts.{AsLong, store-sound}
use Rattle.sound.specs.Lent.{Lent, decoded, view_of, sound_tables}
use Rattle.answers.specs.Step.{refusal_on, step_on}
use Rattle.answers.proofs.Endings.{accepted-tables-sound, accepted-rows, same_ends, accepted-ends}
use Rattle.answers.proofs.Rows.{refuses-fault, refuses-at, refuses-none}
use Rattle.effects.specs.Changes.{Ready, Changed}
use Rattle.effects.proofs.Makes.{ready-as, made_as}
use Rattle.view.specs.Named.{process_named}
use Rattle.view.proofs.Live.{process-named}

-- the range of a signal whose action is asked
pub asked-signal : (s : ℕ) (new : Option Action) → bad_action s new ≡ false → (1 ≤ s) × (s ≤ signals)
unfolding bad_action over_last
asked-signal s new b =
    let o = ltb-false signals s (or-fst-false (ltb signals s) _ b) in
    let z = eqb-false s 0 (or-fst-false (eqb s 0) _ (or-snd-false (ltb signals s) _ b)) in
    (omega arith, o)

module _ (l : Lent) (p s : ℕ) (new : Option Action) where
  -- ---- the refusal, as code tries the rows

  pub action-fault : sound_tables l ≡ false → EFAULT ≡ refusal_on (sigaction p s new) l
  unfolding is_clear
  action-fault = refuses-fault (sigaction p s new) l refl

  module _ (e : sound_tables l ≡ true) where
    pub action-bad : bad_action s new ≡ true → EINVAL ≡ refusal_on (sigaction p s new) l
    unfolding rows is_clear
    action-bad b = refuses-at (sigaction p s new) l refl e [] (einval (bad_action s new)) _ refl tt b

    module _ (b : bad_action s new ≡ false) where
      pub action-gone : no_process_live (view_of l) p ≡ true → ESRCH ≡ refusal_on (sigaction p s new) l
      unfolding rows is_clear
      action-gone g =
          refuses-at (sigaction p s new) l refl e (einval (bad_action s new) ∷ [])
          (esrch (no_process_live (view_of l) p)) [] refl (b, tt) g

      pub action-none : no_process_live (view_of l) p ≡ false → 0 ≡ refusal_on (sigaction p s new) l
      unfolding rows is_clear
      action-none g = refuses-none (sigaction p s new) l refl e (b, (g, tt))

  -- ---- accepted

  pub record Accepted : Type 0 where
    pub sound : sound_tables l ≡ true
    pub fine : bad_action s new ≡ false
    pub live : live_process (view_of l) p ≡ true

  module _ (e : refusal_on (sigaction p s new) l ≡ 0) where
    pub action-accepted : Accepted
    unfolding rows is_clear no_process_live
    action-accepted =
        let h = accepted-rows (sigaction p s new) l e in
        record {
          sound = accepted-tables-sound (sigaction p s new) l refl e;
          fine = h.0;
          live = not-false (live_process (view_of l) p) h.1.0;
        }

    -- by the action that was read
    module _ (old : Action) (o : old ≡ action_of (process_named l.processes p) s) where
      answered : OldAction old ≡ reply (view_of l) (sigaction p s new)
      unfolding reply
      answered = ap OldAction (o ∙ ap (λ x. action_of x s) (process-named l p))

      -- without a new action
      pub action-kept : new ≡ none → Bytes l.thread_buffer → Bytes l.process_buffer
          → (l, answers.Accepted (OldAction old)) ≡ step_on (sigaction p s new) l
      unfolding changes action_changes
      action-kept n bt bp = same_ends (sigaction p s new) l e (OldAction old) answered bt bp (ap (action_changes p s) n)

    -- with one, as the code makes it ready
    module _ (a g : Action) (n : new ≡ some a) (h : g ≡ stored a) where
      these : action_changes p s new ≡ store_changes p s g
      unfolding action_changes
      these = ap (action_changes p s) n ∙ sym (ap (store_changes p s) h)

      pub action-ready : Ready (store_changes p s g) l
      action-ready =
          let d = action-accepted in
          ready-as
          (record {
            sound = d.sound;
            fit = action-fits (decoded l) (store-sound l d.sound) p s new d.fine d.live;
          })
          these

      pub action-stored : (old : Action) → old ≡ action_of (process_named l.processes p) s
          → (m : Lent) → AsLong l m → Bytes m.thread_buffer → Bytes m.process_buffer
          → Changed (store_changes p s g) l m
          → (m, answers.Accepted (OldAction old)) ≡ step_on (sigaction p s new) l
      unfolding changes
      action-stored old o m k bt bp d =
          accepted-ends (sigaction p s new) l e (OldAction old) (answered old o) m k bt bp (made_as d these).store
