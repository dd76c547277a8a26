-- How sigmask ends: the new mask by its way, the refusal by rows, what acceptance gives the work,
-- and the tables and answer after it; and that a return is such a call. Assumes nothing.
use Prim.Native.Nat.{ℕ, zero, suc}
use mathlib.Core.Path.{◌≡◌, refl, sym, ap, ◌∙◌}
use mathlib.Core.Bool.{true, false, cond}
use mathlib.Core.List.{[], ◌∷◌}
use mathlib.Core.Option.{Option, some, none}
use borrow.Author.Tests.{eq-eqb, ne_eqb, not-false}
use Rattle.limits.specs.Limits.{sig_block, sig_unblock, sig_setmask, EFAULT, EINVAL, ESRCH}
use Rattle.sigset.specs.declared.SigSet.{SigSet}
use Rattle.sigset.specs.Set.{union, without, maskable}
use Rattle.siginfo.specs.Bytes.{Bytes}
use Rattle.types.specs.declared.Reply.TheVariants.{OldMask}
use Rattle.types.specs.Answers.{Refused, Accepted}
use Rattle.rules.specs.Types.{Thread, sigmask, sigreturn}
use Rattle.rules.specs.View.{set_mask, live_thread, the_thread}
use Rattle.rules.specs.Store.{Store}
use Rattle.rules.specs.Actions.{new_mask, mask_changes}
use Rattle.rules.specs.Refusals.{bad_way, no_thread_live, refusal, rows, is_clear, fault, table, refusal_of, einval}
use Rattle.rules.specs.Refusals.{esrch}
use Rattle.rules.specs.Calls.{changes, reply, stages, run_stages, finish, step}
use Rattle.rules.proofs.SendFits.{mask_fits}
use Rattle.sound.specs.Lent.{Lent, decoded, view_of, lengths_are, sound_tables}
use Rattle.sound.proofs.Facts.{AsLong}
use Rattle.answers.specs.Step.{refusal_on, committed, step_on}
use Rattle.answers.proofs.Endings.{accepted-tables-sound, accepted-rows, same_ends, accepted-ends}
use Rattle.answers.proofs.Rows.{refuses-fault, refuses-at, refuses-none}
use Rattle.effects.specs.Changes.{Ready, Changed}
use Rattle.effects.proofs.Makes.{ready-as, made_as}
use Rattle.view.specs.Named.{thread_named}
use Rattle.view.proofs.Live.{thread-named}

-- ---- the new mask

module _ (old set : SigSet) (way : ℕ) where
  pub mask-added : way ≡ sig_block → (m : SigSet) → m ≡ union old set → maskable m ≡ new_mask old way set
  unfolding new_mask
  mask-added w m h = ap maskable h ∙ rw (eq-eqb way sig_block w)

  pub mask-removed : way ≡ sig_unblock → (m : SigSet) → m ≡ without old set → maskable m ≡ new_mask old way set
  unfolding new_mask
  mask-removed w m h = ap maskable h ∙ rw w

  pub mask-replaced : (way ≡ sig_block → ⊥) → (way ≡ sig_unblock → ⊥) → maskable set ≡ new_mask old way set
  unfolding new_mask
  mask-replaced a b = rw (ne_eqb way sig_block a, ne_eqb way sig_unblock b)

-- ---- the call

module _ (l : Lent) (t way : ℕ) (set : Option SigSet) where
  -- the refusal, as code tries the rows

  pub mask-fault : sound_tables l ≡ false → EFAULT ≡ refusal_on (sigmask t way set) l
  unfolding is_clear
  mask-fault = refuses-fault (sigmask t way set) l refl

  module _ (e : sound_tables l ≡ true) where
    pub mask-bad : bad_way way set ≡ true → EINVAL ≡ refusal_on (sigmask t way set) l
    unfolding rows is_clear
    mask-bad b = refuses-at (sigmask t way set) l refl e [] (einval (bad_way way set)) _ refl tt b

    module _ (b : bad_way way set ≡ false) where
      pub mask-gone : no_thread_live (view_of l) t ≡ true → ESRCH ≡ refusal_on (sigmask t way set) l
      unfolding rows is_clear
      mask-gone g =
          refuses-at (sigmask t way set) l refl e (einval (bad_way way set) ∷ [])
          (esrch (no_thread_live (view_of l) t)) [] refl (b, tt) g

      pub mask-none : no_thread_live (view_of l) t ≡ false → 0 ≡ refusal_on (sigmask t way set) l
      unfolding rows is_clear
      mask-none g = refuses-none (sigmask t way set) l refl e (b, (g, tt))

  -- accepted

  module _ (e : refusal_on (sigmask t way set) l ≡ 0) where
    pub mask-sound : sound_tables l ≡ true
    unfolding is_clear
    mask-sound = accepted-tables-sound (sigmask t way set) l refl e

    pub mask-live : live_thread (view_of l) t ≡ true
    unfolding rows no_thread_live
    mask-live = not-false (live_thread (view_of l) t) (accepted-rows (sigmask t way set) l e).1.0

    -- by the mask that was read
    module _ (old : SigSet) (o : old ≡ (thread_named l.threads t).mask) where
      its-mask : old ≡ (the_thread (view_of l) t).mask
      its-mask = o ∙ ap (λ (x : Thread). x.mask) (thread-named l t)

      answered : OldMask old ≡ reply (view_of l) (sigmask t way set)
      unfolding reply
      answered = ap OldMask its-mask

      -- without a set
      pub mask-kept : set ≡ none → Bytes l.thread_buffer → Bytes l.process_buffer
          → (l, Accepted (OldMask old)) ≡ step_on (sigmask t way set) l
      unfolding changes mask_changes
      mask-kept n bt bp =
          same_ends (sigmask t way set) l e (OldMask old) answered bt bp (ap (mask_changes (view_of l) t way) n)

      -- with a set, the new mask as code makes it
      module _ (given m : SigSet) (n : set ≡ some given) (h : m ≡ new_mask old way given) where
        these : mask_changes (view_of l) t way set ≡ set_mask t m ∷ []
        unfolding mask_changes
        these =
            ap (mask_changes (view_of l) t way) n
            ∙ ap (λ (x : SigSet). set_mask t x ∷ []) (sym (h ∙ ap (λ (x : SigSet). new_mask x way given) its-mask))

        pub mask-ready : Ready (set_mask t m ∷ []) l
        mask-ready = ready-as (record { sound = mask-sound; fit = mask_fits (decoded l) t way set mask-live }) these

        pub mask-stored : (r : Lent) → AsLong l r → Bytes r.thread_buffer → Bytes r.process_buffer
            → Changed (set_mask t m ∷ []) l r
            → (r, Accepted (OldMask old)) ≡ step_on (sigmask t way set) l
        unfolding changes
        mask-stored r k bt bp d =
            accepted-ends (sigmask t way set) l e (OldMask old) answered r k bt bp
            (made_as d these).store

-- ---- "Return from a handler is way 2 with the saved mask."

finish-is : (n : ℕ) (st : Store) (t : ℕ) (m : SigSet)
    → finish n (sigmask t sig_setmask (some m)) st ≡ finish n (sigreturn t m) st
unfolding finish stages run_stages changes reply
finish-is zero st t m = refl
finish-is (suc n) st t m = refl

refusal_is : (st : Store) (t : ℕ) (m : SigSet)
    → refusal_of st (sigmask t sig_setmask (some m)) ≡ refusal_of st (sigreturn t m)
unfolding refusal_of table fault is_clear refusal rows bad_way
refusal_is st t m = refl

pub return-is : (l : Lent) (t : ℕ) (m : SigSet) → step_on (sigmask t sig_setmask (some m)) l ≡ step_on (sigreturn t m) l
unfolding step_on step
return-is l t m =
    ap (λ r. cond (lengths_are l) (committed l r) (l, Refused EFAULT))
    (ap (λ (n : ℕ). finish n (sigmask t sig_setmask (some m)) (decoded l)) (refusal_is (decoded l) t m)
    ∙ finish-is (refusal_of (decoded l) (sigreturn t m)) (decoded l) t m)
