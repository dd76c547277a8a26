-- `deliver` meets its contract: by default, or by a handler. Assumes nothing.
use borrow.Author.Tests.{eq-eqb, ne_eqb}
use Rattle.limits.specs.Limits.{sig_dfl}
use Rattle.effects.specs.Effects.{thread_of}
use Rattle.effects.proofs.Makes.{ready-as, made_as}
use Rattle.taking.proofs.Outcomes.{by_default, by-handler}
use Rattle.taking.specs.Takes.{outcome_of}
use Rattle.taking.proofs.deliver.Goals as goal

pub act_by_default-requires : goal.act_by_default-requires
act_by_default-requires c =
    let t = thread_of c.args.thread c.args.process c.args.mask in
    let s = c.args.signal in
    let o = c.outcome_of in
    let e =
    by_default t c.args.a s
    (eq-eqb c.args.a.handler sig_dfl c.if-a-eq-SIG_DFL.true)
    (outcome_of o.result) o.ensures in
    ready-as c.requires e

pub start_handler-requires : goal.start_handler-requires
start_handler-requires c =
    let t = thread_of c.args.thread c.args.process c.args.mask in
    let s = c.args.signal in
    let e =
    by-handler t c.args.a s (ne_eqb c.args.a.handler sig_dfl c.if-a-eq-SIG_DFL.false) in
    ready-as c.requires e

pub returns-then-a-eq-SIG_DFL : goal.returns-then-a-eq-SIG_DFL
returns-then-a-eq-SIG_DFL c =
    let t = thread_of c.args.thread c.args.process c.args.mask in
    let s = c.args.signal in
    let o = c.outcome_of in
    let e =
    by_default t c.args.a s (eq-eqb c.args.a.handler sig_dfl c.if-a-eq-SIG_DFL.true)
    (outcome_of o.result) o.ensures in
    let w = c.act_by_default in
    made_as w.ensures e

pub returns-else-a-eq-SIG_DFL : goal.returns-else-a-eq-SIG_DFL
returns-else-a-eq-SIG_DFL c =
    let t = thread_of c.args.thread c.args.process c.args.mask in
    let s = c.args.signal in
    let e =
    by-handler t c.args.a s (ne_eqb c.args.a.handler sig_dfl c.if-a-eq-SIG_DFL.false) in
    let w = c.start_handler in
    made_as w.ensures e
