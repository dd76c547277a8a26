-- `job_control` meets its contract: nothing, a discard, or a discard and then the state. Assumes nothing.
use mathlib.Core.Path.{sym, ◌∙◌}
use Rattle.effects.proofs.Makes.{made_as, made_none, ready-first, ready-last, made-last}
use Rattle.sending.proofs.Carried.{leaves, discards-first, discards-then-sets, discards-only}
use Rattle.sending.proofs.job_control.Goals as goal

pub returns-then-not-is_job_control : goal.returns-then-not-is_job_control
returns-then-not-is_job_control c =
    let p = c.args.process in
    let s = c.args.signal in
    let i = c.is_job_control in
    made_none c.requires (leaves p s (sym i.ensures ∙ c.if-not-is_job_control.true))

pub discard-requires : goal.discard-requires
discard-requires r =
    let p = r.args.process in
    let s = r.args.signal in
    let k = sym r.is_job_control.ensures ∙ r.if-not-is_job_control.false in
    let x = r.discarded_by.result in
    ready-first r.requires (discards-first p s k x r.discarded_by.ensures)

-- ---- the state comes after the discard
pub set_stopped-requires : goal.set_stopped-requires
set_stopped-requires c =
    let p = c.args.process in
    let s = c.args.signal in
    let k = sym c.is_job_control.ensures ∙ c.if-not-is_job_control.false in
    let x = c.discarded_by.result in
    let d = c.discard in
    ready-last c.requires d.ensures
    (discards-then-sets p s k x c.discarded_by.ensures c.if-signal.true)

pub shape_of-ps-then-signal : goal.shape_of-ps-then-signal
shape_of-ps-then-signal c = c.set_stopped.auto.ps ∙ c.discard.auto.ps

pub shape_of-ts-then-signal : goal.shape_of-ts-then-signal
shape_of-ts-then-signal c = c.discard.auto.ts

pub shape_of-tb-then-signal : goal.shape_of-tb-then-signal
shape_of-tb-then-signal c = c.discard.auto.tb

pub shape_of-pb-then-signal : goal.shape_of-pb-then-signal
shape_of-pb-then-signal c = c.discard.auto.pb

pub returns-then-signal : goal.returns-then-signal
returns-then-signal c =
    let p = c.args.process in
    let s = c.args.signal in
    let k = sym c.is_job_control.ensures ∙ c.if-not-is_job_control.false in
    let x = c.discarded_by.result in
    let d = c.discard in
    made-last d.ensures c.set_stopped.ensures
    (discards-then-sets p s k x c.discarded_by.ensures c.if-signal.true)

pub shape_of-ps-else-signal : goal.shape_of-ps-else-signal
shape_of-ps-else-signal c = c.discard.auto.ps

pub shape_of-ts-else-signal : goal.shape_of-ts-else-signal
shape_of-ts-else-signal c = c.discard.auto.ts

pub shape_of-tb-else-signal : goal.shape_of-tb-else-signal
shape_of-tb-else-signal c = c.discard.auto.tb

pub shape_of-pb-else-signal : goal.shape_of-pb-else-signal
shape_of-pb-else-signal c = c.discard.auto.pb

pub returns-else-signal : goal.returns-else-signal
returns-else-signal c =
    let p = c.args.process in
    let s = c.args.signal in
    let k = sym c.is_job_control.ensures ∙ c.if-not-is_job_control.false in
    let x = c.discarded_by.result in
    let d = c.discard in
    made_as d.ensures (discards-only p s k x c.discarded_by.ensures c.if-signal.false)
