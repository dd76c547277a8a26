-- What `check_add_thread` finds, test after test, is the rows of its call in order. Assumes nothing.
use Prim.Native.Nat.{ℕ}
use mathlib.Core.Path.{◌≡◌, refl, sym, ap, ◌∙◌}
use mathlib.Core.Bool.{Bool, true, false, not}
use mathlib.Core.List.{[], ◌∷◌}
use borrow.Author.Tests.{not-true, not-false}
use Rattle.limits.specs.Limits.{EFAULT, EINVAL, ESRCH, EEXIST, EAGAIN}
use Rattle.lists.specs.Lists.{any}
use Rattle.rules.specs.Types.{add_thread}
use Rattle.rules.specs.View.{View, is_thread, live_thread}
use Rattle.rules.specs.Store.{is_free_thread, view}
use Rattle.rules.specs.Sound.{good_id}
use Rattle.rules.specs.Refusals.{Row, rows, is_clear, bad_id, no_thread_live, no_thread_place, einval, esrch, eexist}
use Rattle.rules.specs.Refusals.{eagain}
use Rattle.tables.specs.Tables.{held_threads}
use Rattle.sound.specs.Lent.{Lent, decoded, view_of, sound_tables}
use Rattle.answers.specs.Step.{refusal_on}
use Rattle.answers.proofs.Rows.{refuses-fault, refuses-at, refuses-none}
use Rattle.view.proofs.Live.{no-thread}

module _ (l : Lent) (creator id : ℕ) where
  abbrev v : View
  v = view_of l

  abbrev bad : Row
  bad = einval (bad_id id)

  abbrev gone : Row
  gone = esrch (no_thread_live v creator)

  abbrev there : Row
  there = eexist (live_thread v id)

  abbrev full : Row
  full = eagain (no_thread_place v)

  abbrev answered : ℕ → Type 0
  answered n = n ≡ refusal_on (add_thread creator id) l

  module _ (s : Bool) (e : s ≡ sound_tables l) where
    pub thread-fault : not s ≡ true → answered EFAULT
    unfolding is_clear
    thread-fault k = refuses-fault (add_thread creator id) l refl (sym e ∙ not-true s k)

    module _ (k : not s ≡ false) (g : Bool) (eg : g ≡ good_id id) where
      sound-so : sound_tables l ≡ true
      sound-so = sym e ∙ not-false s k

      bad-is : (b : Bool) → not g ≡ b → bad.applies ≡ b
      unfolding bad_id
      bad-is b q = ap not (sym eg) ∙ q

      pub thread-bad : not g ≡ true → answered EINVAL
      unfolding rows is_clear
      thread-bad q =
          refuses-at (add_thread creator id) l refl sound-so [] bad (gone ∷ there ∷ full ∷ []) refl tt (bad-is true q)

      module _ (q : not g ≡ false) (p : Bool) (ep : p ≡ any (is_thread creator) (held_threads l.threads)) where
        gone-is : (b : Bool) → not p ≡ b → gone.applies ≡ b
        gone-is b w = no-thread l creator p ep ∙ w

        pub thread-gone : not p ≡ true → answered ESRCH
        unfolding rows is_clear
        thread-gone w =
            refuses-at (add_thread creator id) l refl sound-so (bad ∷ []) gone (there ∷ full ∷ []) refl
            (bad-is false q, tt) (gone-is true w)

        module _ (w : not p ≡ false) (t : Bool) (et : t ≡ any (is_thread id) (held_threads l.threads)) where
          there-is : (b : Bool) → t ≡ b → there.applies ≡ b
          unfolding live_thread view decoded
          there-is b f = sym et ∙ f

          pub thread-there : t ≡ true → answered EEXIST
          unfolding rows is_clear
          thread-there f =
              refuses-at (add_thread creator id) l refl sound-so (bad ∷ gone ∷ []) there (full ∷ []) refl
              (bad-is false q, (gone-is false w, tt)) (there-is true f)

          module _ (f : t ≡ false) (a : Bool) (ea : a ≡ any is_free_thread (held_threads l.threads)) where
            full_is : (b : Bool) → not a ≡ b → full.applies ≡ b
            unfolding no_thread_place view decoded
            full_is b h = ap not (sym ea) ∙ h

            pub thread-full : not a ≡ true → answered EAGAIN
            unfolding rows is_clear
            thread-full h =
                refuses-at (add_thread creator id) l refl sound-so (bad ∷ gone ∷ there ∷ []) full [] refl
                (bad-is false q, (gone-is false w, (there-is false f, tt))) (full_is true h)

            pub thread-accepted : not a ≡ false → answered 0
            unfolding rows is_clear
            thread-accepted h =
                refuses-none (add_thread creator id) l refl sound-so
                (bad-is false q, (gone-is false w, (there-is false f, (full_is false h, tt))))
