-- `delivered` meets its contract: by default, or by a handler. Assumes nothing.
use borrow.Author.Tests.{eq-eqb, ne_eqb}
use Rattle.limits.specs.Limits.{sig_dfl}
use Rattle.effects.specs.Effects.{thread_of}
use Rattle.taking.proofs.Outcomes.{answers-default, answers-handler}
use Rattle.taking.specs.Takes.{outcome_of}
use Rattle.taking.proofs.delivered.Goals as goal

pub returns-then-a-eq-SIG_DFL : goal.returns-then-a-eq-SIG_DFL
returns-then-a-eq-SIG_DFL c =
    let a = c.args in
    let o = c.outcome_of in
    answers-default (thread_of 0 0 a.mask) a.a a.r
    (eq-eqb a.a.handler sig_dfl c.if-a-eq-SIG_DFL.true) (outcome_of o.result) o.ensures
    c.default_answer.result c.default_answer.ensures

pub returns : goal.returns
returns c =
    let a = c.args in
    answers-handler (thread_of 0 0 a.mask) a.a a.r (ne_eqb a.a.handler sig_dfl c.if-a-eq-SIG_DFL.false)
