-- The take as a call: refused, with nothing to take, or taken. Assumes nothing.
use Prim.Native.Nat.{ℕ}
use mathlib.Core.Path.{◌≡◌, refl, sym, ap, ◌∙◌}
use mathlib.Core.Bool.{true}
use mathlib.Core.List.{[], ◌∷◌}
use Rattle.rules.specs.Types.{Thread, take}
use Rattle.rules.specs.View.{View, live_thread, the_thread}
use Rattle.rules.specs.Store.{apply_all}
use Rattle.rules.specs.Taking.{next, take_changes, take_answer}
use Rattle.rules.specs.Refusals.{esrch, no_thread_live, rows, is_clear}
use Rattle.rules.specs.Calls.{changes, reply}
use Rattle.std.specs.Prelude.{None, Option as Maybe}
use Rattle.types.specs.declared.Pending as declared
use Rattle.types.specs.declared.Taken as taken
use Rattle.types.specs.declared.Reply.TheVariants.{Taken}
use Rattle.types.specs.Answers.{Accepted}
use Rattle.sound.proofs.Facts.{AsLong}
use Rattle.answers.specs.Answers.{next_of}
use Rattle.sound.specs.Lent.{Lent, decoded, view_of, sound_tables}
use Rattle.answers.specs.Step.{refusal_on, rows_on, step_on}
use Rattle.siginfo.specs.Bytes.{Bytes}
use Rattle.answers.proofs.Endings.{rows-given, accepted-ends}
use Rattle.answers.proofs.Rows.{live-thread}

module _ (l : Lent) (t n : ℕ) (r : n ≡ rows_on (esrch (no_thread_live (view_of l) t) ∷ []) l) where
  abbrev v : View
  v = view_of l

  abbrev it : Thread
  it = the_thread v t

  pub refusal_is : n ≡ refusal_on (take t) l
  unfolding rows is_clear
  refusal_is = r ∙ sym (rows-given (take t) l refl)

  module _ (z : n ≡ 0) where
    accepted : refusal_on (take t) l ≡ 0
    accepted = sym refusal_is ∙ z

    pub taker-sound : sound_tables l ≡ true
    taker-sound = (live-thread l t n r z).sound

    pub taker-live : live_thread v t ≡ true
    taker-live = (live-thread l t n r z).live

    module _ (x : Maybe declared.Pending) (k : next_of x ≡ next v it) where
      pub take-made : (m : Lent) → AsLong l m → Bytes m.thread_buffer → Bytes m.process_buffer
          → (a : Maybe taken.Taken) → a ≡ take_answer v it (next_of x)
          → decoded m ≡ apply_all (take_changes v it (next_of x)) (decoded l)
          → (m, Accepted (Taken a)) ≡ step_on (take t) l
      unfolding changes reply
      take-made m s bt bp a h d =
          accepted-ends (take t) l accepted (Taken a) (ap Taken (h ∙ ap (take_answer v it) k)) m s bt bp
          (d ∙ ap (λ y. apply_all (take_changes v it y) (decoded l)) k)

      pub take-nothing : x ≡ None → Bytes l.thread_buffer → Bytes l.process_buffer
          → (l, Accepted (Taken None)) ≡ step_on (take t) l
      unfolding next_of take_answer take_changes apply_all
      take-nothing e bt bp =
          take-made l (record { processes = refl; threads = refl; thread_buffer = refl; process_buffer = refl })
          bt bp None
          (ap (λ y. take_answer v it (next_of y)) (sym e))
          (ap (λ y. apply_all (take_changes v it (next_of y)) (decoded l)) (sym e))
