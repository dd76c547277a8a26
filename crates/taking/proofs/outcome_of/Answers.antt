-- `outcome_of` meets its contract, test by test. Assumes nothing.
use mathlib.Core.Path.{◌∙◌, sym}
use borrow.Author.Tests.{eq-eqb, ne_eqb}
use Rattle.limits.specs.Limits.{SIGCONT}
use Rattle.taking.proofs.Outcomes.{is-continues, is-ends, is-ignores, is-stops}
use Rattle.taking.specs.Takes.{outcome_of}
use Rattle.taking.proofs.outcome_of.Goals as goal

pub returns-then-is_ignoring : goal.returns-then-is_ignoring
unfolding outcome_of
returns-then-is_ignoring c = is-ignores c.args.s (sym c.is_ignoring.ensures ∙ c.if-is_ignoring.true)

pub returns-then-s : goal.returns-then-s
unfolding outcome_of
returns-then-s c =
    is-stops c.args.s (sym c.is_ignoring.ensures ∙ c.if-is_ignoring.false)
    c.if-s.true

pub returns-then-s-eq-SIGCONT : goal.returns-then-s-eq-SIGCONT
unfolding outcome_of
returns-then-s-eq-SIGCONT c =
    let s = c.args.s in
    is-continues s (sym c.is_ignoring.ensures ∙ c.if-is_ignoring.false)
    c.if-s.false (eq-eqb s SIGCONT c.if-s-eq-SIGCONT.true)

pub returns : goal.returns
unfolding outcome_of
returns c =
    let s = c.args.s in
    is-ends s (sym c.is_ignoring.ensures ∙ c.if-is_ignoring.false)
    c.if-s.false (ne_eqb s SIGCONT c.if-s-eq-SIGCONT.false)
