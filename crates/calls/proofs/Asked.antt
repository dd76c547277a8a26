-- A call by its value ends as the call itself; one that changes nothing leaves every table as it was, refused or not.
-- Assumes nothing.
use mathlib.Core.Path.{◌≡◌, refl, sym, ap, ◌∙◌}
use mathlib.Core.List.{[]}
use lib.Dec.{eqb}
use borrow.Author.Tests.{eqb-true, eqb-false}
use Rattle.lists.proofs.Bools.{split}
use Rattle.siginfo.specs.Bytes.{Bytes}
use Rattle.std.specs.Prelude.{Result}
use Rattle.types.specs.declared.Reply.{Reply}
use Rattle.types.specs.declared.Errno.{Errno}
use Rattle.types.specs.Answers.{Answer, answer_of}
use Rattle.rules.specs.Types.{Call}
use Rattle.rules.specs.View.{View}
use Rattle.rules.specs.Calls.{changes}
use Rattle.calls.specs.declared.Asking.{Asking}
use Rattle.calls.specs.declared.Asking.TheVariants.{Sigpending, Look, Who}
use Rattle.calls.specs.Calls.{asking_of}
use Rattle.sound.specs.Lent.{Lent, view_of}
use Rattle.answers.specs.Step.{refusal_on, step_on}
use Rattle.answers.proofs.Endings.{refused-tables, tables-same}

-- by the answer that it gave
pub asked : (c : Call) (l : Lent) (r : Answer) → r ≡ (step_on c l).1 → Bytes l.thread_buffer → Bytes l.process_buffer
    → changes (view_of l) c ≡ [] → (l, r) ≡ step_on c l
asked c l r a bt bp h = λ i. (same i, a i)
  where
    same : l ≡ (step_on c l).0
    same =
        split (eqb (refusal_on c l) 0)
        (λ e. tables-same c l (eqb-true (refusal_on c l) 0 e) bt bp h)
        (λ e. refused-tables c l (eqb-false (refusal_on c l) 0 e))

-- a call of the family that asks changes nothing
pub nothing-changed : (v : View) (c : Asking) → changes v (asking_of c) ≡ []
unfolding asking_of changes
nothing-changed v (Sigpending t) = refl
nothing-changed v (Look t) = refl
nothing-changed v (Who p) = refl

-- the value is this case of its enum, whose rules' call is of c
module _ {A : Type 0} (of : A → Call) (c k : A) (e : c ≡ k) (l : Lent) (r : Result Reply Errno) where
  pub answer-case : answer_of r ≡ (step_on (of k) l).1 → answer_of r ≡ (step_on (of c) l).1
  answer-case a = a ∙ ap (λ (x : A). (step_on (of x) l).1) (sym e)

  pub by-case : (m : Lent) → (m, answer_of r) ≡ step_on (of k) l → (m, answer_of r) ≡ step_on (of c) l
  by-case m h = h ∙ ap (λ (x : A). step_on (of x) l) (sym e)
