-- `act_by_default` meets its contract, a case for each outcome. Assumes nothing.
use mathlib.Core.Path.{ap}
use Rattle.rules.specs.Taking.{outcome_changes}
use Rattle.effects.proofs.Makes.{ready-as, made_as, made_none}
use Rattle.taking.specs.Takes.{outcome_of}
use Rattle.taking.proofs.act_by_default.Goals as goal

pub set_stopped-requires : goal.set_stopped-requires
unfolding outcome_of outcome_changes
set_stopped-requires c =
    let p = c.args.process in
    let e = ap (λ o. outcome_changes (outcome_of o) p) c.in-Stops.is in
    ready-as c.requires e

pub remove_process-requires : goal.remove_process-requires
unfolding outcome_of outcome_changes
remove_process-requires c =
    let p = c.args.process in
    let e = ap (λ o. outcome_changes (outcome_of o) p) c.in-Ends.is in
    ready-as c.requires e

pub returns-in-Ignores : goal.returns-in-Ignores
unfolding outcome_of outcome_changes
returns-in-Ignores c =
    let p = c.args.process in
    let e = ap (λ o. outcome_changes (outcome_of o) p) c.in-Ignores.is in
    made_none c.requires e

pub returns-in-Stops : goal.returns-in-Stops
unfolding outcome_of outcome_changes
returns-in-Stops c =
    let p = c.args.process in
    let e =
    ap (λ o. outcome_changes (outcome_of o) p)
    c.in-Stops.is in
    let w = c.set_stopped in
    made_as w.ensures e

pub returns-in-Continues : goal.returns-in-Continues
unfolding outcome_of outcome_changes
returns-in-Continues c =
    let p = c.args.process in
    let e = ap (λ o. outcome_changes (outcome_of o) p) c.in-Continues.is in
    made_none c.requires e

pub returns-in-Ends : goal.returns-in-Ends
unfolding outcome_of outcome_changes
returns-in-Ends c =
    let p = c.args.process in
    let e =
    ap (λ o. outcome_changes (outcome_of o) p)
    c.in-Ends.is in
    let w = c.remove_process in
    made_as w.ensures e
