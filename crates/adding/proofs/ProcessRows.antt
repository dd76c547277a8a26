-- What `check_add_process` finds, test after test, is the rows of its call in order. Assumes nothing.
use Prim.Native.Nat.{ℕ}
use mathlib.Core.Path.{◌≡◌, refl, sym, ap₂, ◌∙◌}
use mathlib.Core.Bool.{Bool, true, false, not, ◌||◌}
use mathlib.Core.List.{[], ◌∷◌}
use borrow.Author.Tests.{not-true, not-false}
use Rattle.limits.specs.Limits.{EFAULT, EINVAL, EEXIST, EAGAIN}
use Rattle.lists.specs.Lists.{any}
use Rattle.types.specs.declared.NewProcess.{NewProcess}
use Rattle.rules.specs.Types.{Call, add_process}
use Rattle.rules.specs.View.{View, is_process, is_thread, live_process, live_thread}
use Rattle.rules.specs.Store.{is_free_process, is_free_thread, view}
use Rattle.rules.specs.Sound.{good_id}
use Rattle.rules.specs.Refusals.{Row, rows, is_clear, bad_id, no_process_place, no_thread_place, einval, eexist, eagain}
use Rattle.tables.specs.Tables.{held_processes, held_threads}
use Rattle.sound.specs.Lent.{Lent, decoded, view_of, sound_tables}
use Rattle.answers.specs.Step.{refusal_on}
use Rattle.answers.proofs.Rows.{refuses-fault, refuses-at, refuses-none}

module _ (l : Lent) (new : NewProcess) where
  abbrev v : View
  v = view_of l

  abbrev bad : Row
  bad = einval (bad_id new.id || bad_id new.thread)

  abbrev there : Row
  there = eexist (live_process v new.id || live_thread v new.thread)

  abbrev full : Row
  full = eagain (no_process_place v || no_thread_place v)

  abbrev call : Call
  call = add_process new

  abbrev answered : ℕ → Type 0
  answered n = n ≡ refusal_on call l

  module _ (s : Bool) (e : s ≡ sound_tables l) where
    pub process-fault : not s ≡ true → answered EFAULT
    unfolding is_clear
    process-fault k = refuses-fault call l refl (sym e ∙ not-true s k)

    module _ (k : not s ≡ false) (g h : Bool) (eg : g ≡ good_id new.id) (eh : h ≡ good_id new.thread) where
      sound-so : sound_tables l ≡ true
      sound-so = sym e ∙ not-false s k

      bad-is : (b : Bool) → (not g || not h) ≡ b → bad.applies ≡ b
      unfolding bad_id
      bad-is b q = ap₂ (λ (x y : Bool). not x || not y) (sym eg) (sym eh) ∙ q

      pub process-bad : (not g || not h) ≡ true → answered EINVAL
      unfolding rows is_clear
      process-bad q = refuses-at call l refl sound-so [] bad (there ∷ full ∷ []) refl tt (bad-is true q)

      module _ (q : (not g || not h) ≡ false) (p t : Bool)
          (ep : p ≡ any (is_process new.id) (held_processes l.processes))
          (et : t ≡ any (is_thread new.thread) (held_threads l.threads)) where
        there-is : (b : Bool) → (p || t) ≡ b → there.applies ≡ b
        unfolding live_process live_thread view decoded
        there-is b w = ap₂ (λ (x y : Bool). x || y) (sym ep) (sym et) ∙ w

        pub process-there : (p || t) ≡ true → answered EEXIST
        unfolding rows is_clear
        process-there w =
            refuses-at call l refl sound-so (bad ∷ []) there (full ∷ []) refl (bad-is false q, tt) (there-is true w)

        module _ (w : (p || t) ≡ false) (a b : Bool) (ea : a ≡ any is_free_process (held_processes l.processes))
            (eb : b ≡ any is_free_thread (held_threads l.threads)) where
          full_is : (x : Bool) → (not a || not b) ≡ x → full.applies ≡ x
          unfolding no_process_place no_thread_place view decoded
          full_is x f = ap₂ (λ (y z : Bool). not y || not z) (sym ea) (sym eb) ∙ f

          pub process-full : (not a || not b) ≡ true → answered EAGAIN
          unfolding rows is_clear
          process-full f =
              refuses-at call l refl sound-so (bad ∷ there ∷ []) full [] refl (bad-is false q, (there-is false w, tt))
              (full_is true f)

          pub process-accepted : (not a || not b) ≡ false → answered 0
          unfolding rows is_clear
          process-accepted f =
              refuses-none call l refl sound-so (bad-is false q, (there-is false w, (full_is false f, tt)))
