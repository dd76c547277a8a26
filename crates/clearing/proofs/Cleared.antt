-- How clearing ends: refused by the lengths, or done. Assumes nothing.
use Prim.Native.Nat.{ℕ}
use mathlib.Core.Path.{◌≡◌, refl, sym, ap, ◌∙◌}
use mathlib.Core.Bool.{Bool, true, false, not, cond}
use lib.Dec.{eqb}
use borrow.Author.Tests.{not-true, not-false}
use Rattle.limits.specs.Limits.{EFAULT}
use Rattle.lists.proofs.Bools.{clash}
use Rattle.siginfo.specs.Bytes.{Bytes}
use Rattle.rules.specs.Types.{clear}
use Rattle.rules.specs.View.{forget}
use Rattle.rules.specs.Store.{apply, apply_all}
use Rattle.rules.specs.Refusals.{refusal, rows, is_clear, fault, table, refusal_of}
use Rattle.rules.specs.Calls.{changes, reply}
use Rattle.types.specs.declared.Reply.TheVariants.{Done}
use Rattle.types.specs.Answers.{Refused, Accepted}
use Rattle.sound.specs.Lent.{Lent, decoded, lengths_are}
use Rattle.sound.proofs.Facts.{AsLong}
use Rattle.answers.specs.Step.{refusal_on, step_on}
use Rattle.answers.proofs.Endings.{places-right, refused-ends, accepted-ends}

-- "clearing checks lengths only"
clear-refusal : (l : Lent) → cond (lengths_are l) 0 EFAULT ≡ refusal_on clear l
unfolding refusal_on refusal_of table refusal fault rows is_clear
clear-refusal l = rw (places-right l)

module _ (l : Lent) (b : Bool) (e : b ≡ lengths_are l) where
  pub clear-refused : not b ≡ true → (l, Refused EFAULT) ≡ step_on clear l
  clear-refused f =
      refused-ends clear l EFAULT (sym (ap (λ (x : Bool). cond x 0 EFAULT) (sym e ∙ not-true b f)) ∙ clear-refusal l)
      (λ z. clash (ap (λ (n : ℕ). eqb n 0) z) refl)

  pub clear-long : not b ≡ false → lengths_are l ≡ true
  clear-long f = sym e ∙ not-false b f

  pub clear-done : not b ≡ false → (m : Lent) → AsLong l m → Bytes m.thread_buffer → Bytes m.process_buffer
      → decoded m ≡ apply forget (decoded l)
      → (m, Accepted Done) ≡ step_on clear l
  unfolding reply changes apply_all
  clear-done f m s bt bp h =
      accepted-ends clear l (sym (clear-refusal l) ∙ ap (λ (x : Bool). cond x 0 EFAULT) (clear-long f)) Done refl m s
      bt bp h
