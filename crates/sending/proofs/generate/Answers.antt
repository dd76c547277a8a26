-- `generate` meets its contract: nothing, a removal, or job control and then what becomes pending. Assumes nothing.
use mathlib.Core.Path.{◌∙◌}
use Rattle.effects.proofs.Makes.{ready-as, made_as, made_none, ready-last, made-last}
use Rattle.sending.proofs.Carried.{of-testing, of-killing, of-marking, of-keeping, control-ready, of-control}
use Rattle.sending.proofs.generate.Goals as goal

pub returns-in-Testing : goal.returns-in-Testing
returns-in-Testing c =
    let f = c.args.f in
    let r = c.args.r in
    made_none c.requires (of-testing f r c.in-Testing.is)

-- ---- a removal
pub remove_process-requires : goal.remove_process-requires
remove_process-requires c =
    let f = c.args.f in
    let r = c.args.r in
    ready-as c.requires (of-killing f r c.in-Killing.is)

pub shape_of-ps-in-Killing : goal.shape_of-ps-in-Killing
shape_of-ps-in-Killing c = c.remove_process.auto.ps

pub shape_of-ts-in-Killing : goal.shape_of-ts-in-Killing
shape_of-ts-in-Killing c = c.remove_process.auto.ts

pub shape_of-tb-in-Killing : goal.shape_of-tb-in-Killing
shape_of-tb-in-Killing c = c.remove_process.auto.tb

pub shape_of-pb-in-Killing : goal.shape_of-pb-in-Killing
shape_of-pb-in-Killing c = c.remove_process.auto.pb

pub returns-in-Killing : goal.returns-in-Killing
returns-in-Killing c =
    let f = c.args.f in
    let r = c.args.r in
    let k = c.remove_process in
    made_as k.ensures (of-killing f r c.in-Killing.is)

-- ---- job control, and a mark after it
pub job_control-requires : goal.job_control-requires
job_control-requires c =
    control-ready c.args.f c.args.r c.in_default.not-Testing c.in_default.not-Killing c.requires

pub set_mark-requires : goal.set_mark-requires
set_mark-requires c =
    let f = c.args.f in
    let r = c.args.r in
    let k = c.job_control in
    let e = of-marking f r c.in-Marking.is in
    ready-last c.requires k.ensures e

-- ---- a record after it
pub append-requires : goal.append-requires
append-requires c =
    let f = c.args.f in
    let r = c.args.r in
    let k = c.job_control in
    let e = of-keeping f r c.in-Keeping.is in
    ready-last c.requires k.ensures e

pub shape_of-ps-in-Marking : goal.shape_of-ps-in-Marking
shape_of-ps-in-Marking c = c.set_mark.auto.ps ∙ c.job_control.auto.ps

pub shape_of-ts-in-Marking : goal.shape_of-ts-in-Marking
shape_of-ts-in-Marking c = c.set_mark.auto.ts ∙ c.job_control.auto.ts

pub shape_of-tb-in-Marking : goal.shape_of-tb-in-Marking
shape_of-tb-in-Marking c = c.job_control.auto.tb

pub shape_of-pb-in-Marking : goal.shape_of-pb-in-Marking
shape_of-pb-in-Marking c = c.job_control.auto.pb

pub returns-in-Marking : goal.returns-in-Marking
returns-in-Marking c =
    let f = c.args.f in
    let r = c.args.r in
    let k = c.job_control in
    let e = of-marking f r c.in-Marking.is in
    made-last k.ensures c.set_mark.ensures e

pub shape_of-ps-in-Keeping : goal.shape_of-ps-in-Keeping
shape_of-ps-in-Keeping c = c.job_control.auto.ps

pub shape_of-ts-in-Keeping : goal.shape_of-ts-in-Keeping
shape_of-ts-in-Keeping c = c.job_control.auto.ts

pub shape_of-tb-in-Keeping : goal.shape_of-tb-in-Keeping
shape_of-tb-in-Keeping c = c.append.auto.tb ∙ c.job_control.auto.tb

pub shape_of-pb-in-Keeping : goal.shape_of-pb-in-Keeping
shape_of-pb-in-Keeping c = c.append.auto.pb ∙ c.job_control.auto.pb

pub returns-in-Keeping : goal.returns-in-Keeping
returns-in-Keeping c =
    let f = c.args.f in
    let r = c.args.r in
    let k = c.job_control in
    let e = of-keeping f r c.in-Keeping.is in
    made-last k.ensures c.append.ensures e

pub shape_of-ps-in_default-f : goal.shape_of-ps-in_default-f
shape_of-ps-in_default-f c = c.job_control.auto.ps

pub shape_of-ts-in_default-f : goal.shape_of-ts-in_default-f
shape_of-ts-in_default-f c = c.job_control.auto.ts

pub shape_of-tb-in_default-f : goal.shape_of-tb-in_default-f
shape_of-tb-in_default-f c = c.job_control.auto.tb

pub shape_of-pb-in_default-f : goal.shape_of-pb-in_default-f
shape_of-pb-in_default-f c = c.job_control.auto.pb

pub returns-in_default-f : goal.returns-in_default-f
returns-in_default-f c =
    let f = c.args.f in
    let r = c.args.r in
    let k = c.job_control in
    made_as k.ensures (of-control f r c.in_default.not-Testing c.in_default.not-Killing
    c.in_default-f.not-Marking c.in_default-f.not-Keeping)
