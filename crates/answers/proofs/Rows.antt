-- The rows of a refusal as code tries them: the first that applies is the one given;
-- and what the row of who is not live tells. Assumes nothing.
use Prim.Native.Nat.{ℕ}
use mathlib.Core.Path.{◌≡◌, refl, sym, ap, ◌∙◌}
use mathlib.Core.Bool.{Bool, true, false, cond}
use mathlib.Core.List.{List, [], ◌∷◌, ◌++◌}
use borrow.Author.Tests.{not-false}
use Rattle.limits.specs.Limits.{EFAULT}
use Rattle.lists.specs.Lists.{All}
use Rattle.lists.proofs.Bools.{split}
use Rattle.rules.specs.Types.{Call, end_process, end_thread}
use Rattle.rules.specs.View.{live_process, live_thread}
use Rattle.rules.specs.Refusals.{Row, refusal, rows, is_clear, esrch, no_process_live, no_thread_live}
use Rattle.rules.proofs.RefusalTable.{Off, first-given, none-given}
use Rattle.sound.specs.Lent.{Lent, view_of, sound_tables, WithThread, WithProcess}
use Rattle.answers.specs.Step.{refusal_on, rows_on}
use Rattle.answers.proofs.Endings.{rows-fault, rows-sound, rows-given, accepted-tables-sound, accepted-rows}

-- ---- any rows

module _ (l : Lent) (s : sound_tables l ≡ true) where
  pub rows_at : (before : List Row) (r : Row) (after : List Row) → All Off before → r.applies ≡ true
      → r.errno ≡ rows_on (before ++ (r ∷ after)) l
  rows_at before r after off on =
      rows-sound (before ++ (r ∷ after)) l s r.errno (sym (first-given before r after off on))

  pub rows_none : (rs : List Row) → All Off rs → 0 ≡ rows_on rs l
  rows_none rs off = rows-sound rs l s 0 (sym (none-given rs off))

-- more rows at the end change nothing where one before them applies
refused-before : (rs more : List Row) → (refusal rs ≡ 0 → ⊥) → refusal rs ≡ refusal (rs ++ more)
unfolding refusal
refused-before [] more n = absurd (n refl)
refused-before (r ∷ rs) more n =
    split r.applies
    (λ e. rw e)
    (λ e. rw e (refused-before rs more (λ z. n (ap (λ (b : Bool). cond b r.errno (refusal rs)) e ∙ z))))

pub rows_before : (rs more : List Row) (l : Lent) → (rows_on rs l ≡ 0 → ⊥) → rows_on rs l ≡ rows_on (rs ++ more) l
unfolding rows_on
rows_before rs more l n =
    split (sound_tables l)
    (λ e. rw e (refused-before rs more (λ z. n (ap (λ (b : Bool). cond b (refusal rs) EFAULT) e ∙ z))))
    (λ e. rw e)

-- ---- the rows of a call, other than clearing

module _ (c : Call) (l : Lent) (k : is_clear c ≡ false) where
  pub refuses-fault : sound_tables l ≡ false → EFAULT ≡ refusal_on c l
  refuses-fault s = rows-fault (rows (view_of l) c) l s ∙ sym (rows-given c l k)

  module _ (s : sound_tables l ≡ true) where
    pub refuses-at : (before : List Row) (r : Row) (after : List Row) → rows (view_of l) c ≡ before ++ (r ∷ after)
        → All Off before
        → r.applies ≡ true → r.errno ≡ refusal_on c l
    refuses-at before r after e off on =
        rows_at l s before r after off on ∙ ap (λ (rs : List Row). rows_on rs l) (sym e) ∙ sym (rows-given c l k)

    pub refuses-none : All Off (rows (view_of l) c) → 0 ≡ refusal_on c l
    refuses-none off = rows_none l s (rows (view_of l) c) off ∙ sym (rows-given c l k)

-- ---- the one row of many calls, from the number that another function found

module _ (l : Lent) (id n : ℕ) where
  pub live-process : n ≡ rows_on (esrch (no_process_live (view_of l) id) ∷ []) l → n ≡ 0
      → WithProcess id l
  unfolding rows is_clear no_process_live
  live-process e z =
      let k : refusal_on (end_process id) l ≡ 0 = rows-given (end_process id) l refl ∙ sym e ∙ z in
      record {
        sound = accepted-tables-sound (end_process id) l refl k;
        live = not-false (live_process (view_of l) id) (accepted-rows (end_process id) l k).0;
      }

  pub live-thread : n ≡ rows_on (esrch (no_thread_live (view_of l) id) ∷ []) l → n ≡ 0
      → WithThread id l
  unfolding rows is_clear no_thread_live
  live-thread e z =
      let k : refusal_on (end_thread id) l ≡ 0 = rows-given (end_thread id) l refl ∙ sym e ∙ z in
      record {
        sound = accepted-tables-sound (end_thread id) l refl k;
        live = not-false (live_thread (view_of l) id) (accepted-rows (end_thread id) l k).0;
      }
