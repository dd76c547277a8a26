-- The tables and the ledger hold side by side after the turns of a call, and its acts are right. Assumes nothing.
use Prim.Native.Nat.{ℕ}
use mathlib.Core.Path.{◌≡◌, sym, ap, ◌∙◌, subst}
use mathlib.Core.Bool.{true}
use mathlib.Core.List.{List, append-nil}
use native.Mathlib.Omega.{arith}
use lib.Dec.{eqb}
use borrow.Author.Tests.{eqb-false, ltb-false, not-false}
use Rattle.limits.specs.Limits.{signals}
use Rattle.lists.specs.Lists.{all, All}
use Rattle.lists.proofs.Lists.{all-kept}
use Rattle.lists.proofs.Bools.{and-fst, or-fst-false, or-snd-false}
use Rattle.types.specs.declared.Siginfo.{Siginfo}
use Rattle.types.specs.Answers.{Accepted}
use Rattle.rules.specs.Types.{Call, sigaction, take}
use Rattle.rules.specs.View.{in_queue, View, live_thread, the_thread}
use Rattle.rules.specs.Store.{records_for, Store, view, apply_all}
use Rattle.rules.specs.Refusals.{over_last, bad_action, no_thread_live, rows, table, refusal_of}
use Rattle.rules.specs.Machine.{machine}
use Rattle.rules.specs.Calls.{changes, reply}
use Rattle.rules.proofs.Marks.{the-thread-id}
use Rattle.rules.proofs.RefusalTable.{accepted-off}
use Rattle.history.specs.Ledger.{Ledger, ledger_view}
use Rattle.history.specs.Acts.{acts, turns, take_turn, take_turns, acts_of}
use Rattle.history.specs.Takes.{RightTurns, AnswersBy}
use Rattle.history.proofs.Notes.{note_all}
use Rattle.history.proofs.Holds.{Holds, same_view, holds-accepted}
use Rattle.history.proofs.Played.{Storable, played}
use Rattle.history.proofs.Relation.{Agrees}
use Rattle.history.proofs.Records.{of-signal}
use Rattle.history.proofs.Judged.{Taker, Sorted, judged, answered-by}

-- the sends of a list are those of the tables' records that are of its signal
sorted : (st : Store) (k : Ledger) → Agrees st k → Sorted k
unfolding all
sorted st k a q s r e =
    of-signal q s r
    (and-fst (in_queue q s r) _
    (subst (λ (rs : List Siginfo). all (in_queue q s) rs ≡ true) (a.records q s ∙ e)
    (all-kept (in_queue q s) (records_for q st))))

module _ (c : Call) (st : Store) (k : Ledger) (e : refusal_of st c ≡ 0) (h : Holds st k) where
  -- an action is stored for a signal
  storable : Storable c
  unfolding table rows bad_action over_last
  storable p s new i =
      let o = (accepted-off st (sigaction p s new) (ap (refusal_of st) (sym i) ∙ e)).1.0 in
      let z = or-fst-false (eqb s 0) _ (or-snd-false (over_last s) _ o) in
      record { low = omega (arith, eqb-false s 0 z); high = ltb-false signals s (or-fst-false (over_last s) _ o) }

  -- a thread that takes is live, and found by its id
  pub taker : (t : ℕ) → c ≡ take t → Taker k t
  unfolding table rows no_thread_live
  taker t i =
      let v : view st ≡ ledger_view k = same_view st k h in
      let live : live_thread (view st) t ≡ true =
      not-false (live_thread (view st) t) (accepted-off st (take t) (ap (refusal_of st) (sym i) ∙ e)).1.0 in
      record {
        live = ap (λ (x : View). live_thread x t) (sym v) ∙ live;
        named = ap (λ (x : View). (the_thread x t).id) (sym v) ∙ the-thread-id st t live;
      }

  pub holds-turns : machine c ≡ true
      → Holds (apply_all (changes (view st) c) st) (take_turns (turns (ledger_view k) c) k)
  unfolding turns take_turns take_turn
  holds-turns u =
      subst (Holds (apply_all (changes (view st) c) st))
      (ap (λ (v : View). note_all (changes v c) k) (same_view st k h) ∙ sym (played (ledger_view k) k c storable))
      (holds-accepted c st k u e h)

  pub right-turns : RightTurns (turns (ledger_view k) c) k
  unfolding turns
  right-turns = (judged k c taker, tt)

  pub answers-turns : All (AnswersBy (ledger_view k) (Accepted (reply (ledger_view k) c)))
      (acts_of (turns (ledger_view k) c) k)
  unfolding turns acts_of
  answers-turns =
      subst (All (AnswersBy (ledger_view k) (Accepted (reply (ledger_view k) c))))
      (sym (append-nil (acts (ledger_view k) c)))
      (answered-by k c taker (sorted st k h.beside.agrees))
