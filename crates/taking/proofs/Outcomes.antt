-- The default outcome of a signal, and a delivery: its changes and its answer, by default or by a handler.
-- Assumes nothing.
use Prim.Native.Nat.{ℕ}
use mathlib.Core.Path.{◌≡◌, sym, ap, ◌∙◌}
use mathlib.Core.Bool.{true, false, ◌||◌}
use lib.Dec.{eqb}
use Rattle.limits.specs.Limits.{SIGCONT, SIGSTOP, SIGTSTP, SIGTTIN, SIGTTOU, sig_dfl}
use Rattle.lists.proofs.Bools.{cond-true, cond-false}
use Rattle.types.specs.declared.Action.{Action}
use Rattle.types.specs.declared.Siginfo.{Siginfo}
use Rattle.types.specs.declared.Taken.{Taken}
use Rattle.types.specs.declared.Taken.TheVariants.{Handler}
use Rattle.rules.specs.Types.{Thread}
use Rattle.rules.specs.Signals.{Outcome, ignores, stops, continues, ends, outcome, ignoring, stop_signal}
use Rattle.rules.specs.Taking.{outcome_changes, outcome_answer, deliver, delivered}
use Rattle.taking.specs.Takes.{handler_changes}

-- ---- the outcome of a signal, test by test

module _ (s : ℕ) where
  pub is-ignores : ignoring s ≡ true → ignores ≡ outcome s
  unfolding outcome
  is-ignores i = rw i

  module _ (i : ignoring s ≡ false) where
    pub is-stops : (eqb s SIGSTOP || (eqb s SIGTSTP || (eqb s SIGTTIN || eqb s SIGTTOU))) ≡ true → stops ≡ outcome s
    unfolding outcome stop_signal
    is-stops t = rw (i, t)

    module _ (n : (eqb s SIGSTOP || (eqb s SIGTSTP || (eqb s SIGTTIN || eqb s SIGTTOU))) ≡ false) where
      pub is-continues : eqb s SIGCONT ≡ true → continues ≡ outcome s
      unfolding outcome stop_signal
      is-continues c = rw (i, n, c)

      pub is-ends : eqb s SIGCONT ≡ false → ends ≡ outcome s
      unfolding outcome stop_signal
      is-ends c = rw (i, n, c)

-- ---- a delivery

module _ (t : Thread) (a : Action) where
  module _ (s : ℕ) where
    pub by_default : eqb a.handler sig_dfl ≡ true → (o : Outcome) → o ≡ outcome s
        → deliver t a s ≡ outcome_changes o t.process
    unfolding deliver
    by_default d o h = cond-true _ _ d ∙ ap (λ (x : Outcome). outcome_changes x t.process) (sym h)

    pub by-handler : eqb a.handler sig_dfl ≡ false → deliver t a s ≡ handler_changes t a s
    unfolding deliver handler_changes
    by-handler d = cond-false _ _ d

  module _ (r : Siginfo) where
    pub answers-default : eqb a.handler sig_dfl ≡ true → (o : Outcome) → o ≡ outcome r.signal → (x : Taken)
        → x ≡ outcome_answer o r.signal
        → x ≡ delivered t a r
    unfolding delivered
    answers-default d o h x k = k ∙ ap (λ (y : Outcome). outcome_answer y r.signal) h ∙ sym (cond-true _ _ d)

    pub answers-handler : eqb a.handler sig_dfl ≡ false
        → Handler a.handler r.signal r a.flags t.mask ≡ delivered t a r
    unfolding delivered
    answers-handler d = sym (cond-false _ _ d)
